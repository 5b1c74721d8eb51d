-- A copy of the variables of a block, and the state and the algorithm of an action.
use Rattle.fb_types.proofs.Common.{◌≡◌, ◌∙◌, ◌∷◌, ◌++◌, [], ℕ, Bool, true, false, cond, List, Option, Some, None, map, refl, sym, ap, slice_get, option_and_then, option_map, unwrap_or, find, fun_ext, map-append, slice_get-map, named, variable_names, variables_of, actions_of, algorithm_of, zero_value, Name, same_name, Stmts, no_stmt, body_of}
use Rattle.fb_types.specs.declared.library.Action.{Action}
use Rattle.fb_types.specs.declared.library.Algorithm.{Algorithm}
use Rattle.fb_types.specs.declared.library.BasicType.{BasicType}
use Rattle.fb_types.specs.declared.library.Variable.{Variable}
use Rattle.fb_types.specs.declared.value.Value.{Value}
use Rattle.fb_types.specs.declared.library.State.{State}
use Rattle.fb_types.proofs.lemmas.names.NameLaws.{same_from_same_name}
use Rattle.fb_st.specs.Frames.{Declared, declared_in, names_of, values_of}
use Rattle.fb_st.specs.declared.frame.Slot.{Slot}
use Rattle.fb_st.proofs.lemmas.Indexes.{named_at_index}
use Rattle.fb_ecc.specs.Indexes.{state_at}
use Rattle.fb_ecc.specs.Sound.{IsSound, declared_as}
use Rattle.fb_stop.specs.Sites.{slot_in}

pub names_copied : (f : List Slot) (vs : List Variable) → names_of (map (slot_in f) vs) ≡ variable_names vs
names_copied f [] = refl
names_copied f (v ∷ vs) = ap (λ ns. v.name ∷ ns) (names_copied f vs)

pub declared_copied : (f : List Slot) (vs : List Variable) → declared_in (map (slot_in f) vs) ≡ map declared_as vs
declared_copied f [] = refl
declared_copied f (v ∷ vs) = ap (λ ds. declared_as v ∷ ds) (declared_copied f vs)

-- the inputs, the outputs and the other variables, put one after the other
pub all_copied :
    (f : List Slot) (t : BasicType) (none first second third : List Slot) (ins outs internals : List Variable) → none ≡ []
    → ins ≡ t.ports.inputs → outs ≡ t.ports.outputs → internals ≡ t.internals
    → first ≡ none ++ map (slot_in f) ins → second ≡ first ++ map (slot_in f) outs → third ≡ second ++ map (slot_in f) internals
    → third ≡ map (slot_in f) (variables_of t)
all_copied f t none first second third ins outs internals begun is_ins is_outs is_internals one two three =
    let a : first ≡ map (slot_in f) t.ports.inputs =
    one ∙ ap (λ (l : List Slot). l ++ map (slot_in f) ins) begun ∙ ap (map (slot_in f)) is_ins in
    let b : second ≡ map (slot_in f) (t.ports.inputs ++ t.ports.outputs) =
    two ∙ ap (λ (l : List Slot). l ++ map (slot_in f) outs) a
    ∙ ap (λ (l : List Variable). map (slot_in f) t.ports.inputs ++ map (slot_in f) l) is_outs ∙ sym (map-append (slot_in f) t.ports.inputs t.ports.outputs) in
    three ∙ ap (λ (l : List Slot). l ++ map (slot_in f) internals) b
    ∙ ap (λ (l : List Variable). map (slot_in f) (t.ports.inputs ++ t.ports.outputs) ++ map (slot_in f) l) is_internals
    ∙ sym (map-append (slot_in f) (t.ports.inputs ++ t.ports.outputs) t.internals)

-- ---- The values of a copy

abbrev value_or : Option Slot → Value
value_or o = elim o [ None ↦ zero_value | Some s ↦ s.value ]

abbrev found_or : List Slot → Name → Option Variable → Value
found_or f n o = elim o [ None ↦ zero_value | Some v ↦ values_of f n ]

one_copied : (f : List Slot) (v : Variable) (n : Name) (o : Option Slot) (u : Option Variable) (b : Bool) → same_name v.name n ≡ b → value_or o ≡ found_or f n u
    → value_or (cond b (Some (slot_in f v)) o) ≡ found_or f n (cond b (Some v) u)
one_copied f v n o u true is rest = ap (values_of f) (same_from_same_name v.name n is)
one_copied f v n o u false is rest = rest

copied_value : (f : List Slot) (vs : List Variable) (n : Name) → value_or (named (λ s. s.name) n (map (slot_in f) vs)) ≡ found_or f n (named (λ v. v.name) n vs)
copied_value f [] n = refl
copied_value f (v ∷ vs) n =
    one_copied f v n (named (λ s. s.name) n (map (slot_in f) vs)) (named (λ w. w.name) n vs) (same_name v.name n) refl (copied_value f vs n)

in_tail : (b : Bool) (s : Slot) (v : Variable) (o : Option Slot) (u : Option Variable) → (u ≡ None → o ≡ None) → cond b (Some v) u ≡ None → cond b (Some s) o ≡ None
in_tail true s v o u f none = absurd (cc)
in_tail false s v o u f none = f none

-- a name that no variable has is none of the frame
not_named : (f : List Slot) (vs : List Variable) (n : Name) → declared_in f ≡ map declared_as vs → named (λ v. v.name) n vs ≡ None → named (λ s. s.name) n f ≡ None
not_named [] vs n same none = refl
not_named (s ∷ f) [] n same none = absurd (cc)
not_named (s ∷ f) (v ∷ vs) n same none =
    let head : (s.name, s.ty) ≡ (v.name, v.ty) = cc in
    let rest : declared_in f ≡ map declared_as vs = cc in
    let name : s.name ≡ v.name = ap (λ (d : Declared). d.0) head in
    ap (λ (x : Name). cond (same_name x n) (Some s) (named (λ z. z.name) n f)) name
    ∙ in_tail (same_name v.name n) s v (named (λ z. z.name) n f) (named (λ w. w.name) n vs) (not_named f vs n rest) none

pub values_copied : (f : List Slot) (vs : List Variable) → declared_in f ≡ map declared_as vs → values_of (map (slot_in f) vs) ≡ values_of f
values_copied f vs same = fun_ext (λ n. copied_value f vs n ∙ at n (named (λ v. v.name) n vs) refl)
  where
    at : (n : Name) (o : Option Variable) → named (λ v. v.name) n vs ≡ o → found_or f n o ≡ values_of f n
    at n None is = sym (ap value_or (not_named f vs n same is))
    at n (Some v) is = refl

-- ---- What an action is, and its algorithm

abbrev actions_or : Option State → List Action
actions_or o = elim o [ None ↦ [] | Some x ↦ x.actions ]

-- the actions of the state at an index
pub actions_there : (t : BasicType) (i : ℕ) (s : State) → IsSound t → slice_get t.states i ≡ Some s → actions_of t (state_at t i) ≡ s.actions
actions_there t i s sound at =
    let name : state_at t i ≡ s.name =
    ap (λ (o : Option Name). unwrap_or o []) (slice_get-map (λ (x : State). x.name) t.states i ∙ ap (option_map (λ (x : State). x.name)) at) in
    let there : named (λ x. x.name) s.name t.states ≡ Some s =
    named_at_index (λ x. x.name) s.name t.states ∙ ap (option_and_then (slice_get t.states)) (sound.states i s at) ∙ at in
    ap (actions_of t) name ∙ ap actions_or there

named_found : (n : Name) (xs : List Algorithm) → named (λ a. a.name) n xs ≡ find (λ a. same_name a.name n) xs
named_found n [] = refl
named_found n (x ∷ xs) = ap (λ (o : Option Algorithm). cond (same_name x.name n) (Some x) o) (named_found n xs)

abbrev body_or : Option Algorithm → Stmts
body_or o = elim o [ None ↦ no_stmt | Some x ↦ body_of x.body ]

-- the statements of the algorithm that was found
pub body_there : (t : BasicType) (n : Name) (a : Algorithm) → Some a ≡ find (λ x. same_name x.name n) t.algorithms → algorithm_of t n ≡ body_of a.body
body_there t n a is = ap body_or (named_found n t.algorithms ∙ sym is)
