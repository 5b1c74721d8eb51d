-- The variables of a basic block get the values that they begin with.
use Rattle.fb_types.proofs.Common.{◌≡◌, ℕ, ◌<◌, ◌+◌, zero, suc, Bool, List, [], ◌∷◌, map, length, drop, get_or, true, false, cond, Option, Some, None, Contains, refl, sym, ◌∙◌, ap, subst, arith, ◌||◌, if◌then◌else◌, option_and_then, option_map, slice_get, true≢false, slice_get-get_or, slice_get-map, Name, Path, same_name, with_value, Values, Kind, Basic, among, initial_of, named, variable_names, variables_of, instance_at, kind_at, zero_value}
use Rattle.fb_types.specs.declared.library.BasicType.{BasicType}
use Rattle.fb_types.specs.declared.library.Instance.{Instance}
use Rattle.fb_types.specs.declared.library.Library.{Library}
use Rattle.fb_types.specs.declared.library.Parameter.{Parameter}
use Rattle.fb_types.specs.declared.library.Variable.{Variable}
use Rattle.fb_types.specs.declared.value.Value.{Value}
use Rattle.fb_types.specs.Flat.{declared_initial, initial_at}
use Rattle.fb_st.specs.Frames.{Declared, is_declared, values_of}
use Rattle.fb_ecc.specs.Opened.{slot_of}
use Rattle.fb_types.proofs.lemmas.names.NameLaws.{same_from_same_name}
use Rattle.fb_types.proofs.lemmas.lists.Elements.{Contains-here, Contains-there}
use Rattle.fb_net.specs.Opening.{AreDeclared, begun_all}

-- ---- Values in turn

step : (ns : List Name) (vs : List Value) (k : ℕ) (n : Name) (v : Value) (m : Values) → slice_get ns k ≡ Some n → slice_get vs k ≡ Some v →
    begun_all (drop k ns) (drop k vs) m ≡ begun_all (drop (suc k) ns) (drop (suc k) vs) (with_value n v m)
step [] vs k n v m h g = absurd (cc)
step (x ∷ ns) [] k n v m h g = absurd (cc)
step (x ∷ ns) (y ∷ vs) zero n v m h g =
    let e : x ≡ n = cc in
    let f : y ≡ v = cc in
    ap (λ (z : Name). begun_all ns vs (with_value z y m)) e ∙ ap (λ (z : Value). begun_all ns vs (with_value n z m)) f
step (x ∷ ns) (y ∷ vs) (suc k) n v m h g = step ns vs k n v m h g

pub begun_step :
    (inputs : List Variable) (values : List Value) (k : ℕ) (x : Variable) (v : Value) (m : Values) → slice_get inputs k ≡ Some x → slice_get values k ≡ Some v →
    begun_all (drop k (variable_names inputs)) (drop k values) m ≡ begun_all (drop (k + 1) (variable_names inputs)) (drop (k + 1) values) (with_value x.name v m)
begun_step inputs values k x v m h g =
    let e : k + 1 ≡ suc k = omega arith in
    rw e
    (step (variable_names inputs) values k x.name v m (slice_get-map (λ (v : Variable). v.name) inputs k ∙ ap (λ (o : Option Variable). elim o [ None ↦ None | Some v ↦ Some v.name ]) h) g)

-- ---- What a name has then

pub begun_at : (f : Values) (ns : List Name) (m : Values) (n : Name) → begun_all ns (map f ns) m n ≡ (if among ns n then f n else m n)
begun_at f [] m n = refl
begun_at f (x ∷ ns) m n =
    begun_at f ns (with_value x (f x) m) n
    ∙ (elim (same_name n x) as
    (λ b. same_name n x ≡ b → (if among ns n then f n else (if b then f x else m n)) ≡ (if (b || among ns n) then f n else m n)) [
      | true ↦ λ e.
          let same : n ≡ x = same_from_same_name n x e in
          ap (λ (z : Name). if among ns n then f n else f z) (sym same) ∙ both (among ns n) (f n)
      | false ↦ λ e. refl
    ] refl)
  where
    both : (b : Bool) (v : Value) → (if b then v else v) ≡ v
    both true v = refl
    both false v = refl

-- ---- A variable without a parameter

pub slots_hold : (vs : List Variable) (n : Name) → values_of (map slot_of vs) n ≡ (elim (named (λ (x : Variable). x.name) n vs) [ None ↦ zero_value | Some x ↦ initial_of x ])
slots_hold [] n = refl
slots_hold (v ∷ vs) n =
    elim (same_name v.name n) as
    (λ b. (elim (cond b (Some (slot_of v)) (named (λ s. s.name) n (map slot_of vs))) [ None ↦ zero_value | Some s ↦ s.value ])
    ≡ (elim (cond b (Some v) (named (λ (x : Variable). x.name) n vs)) [ None ↦ zero_value | Some x ↦ initial_of x ])) [
      | true ↦ refl
      | false ↦ slots_hold vs n
    ]

named_among : {A : Type 0} (f : A → Name) (n : Name) (xs : List A) (x : A) → named f n xs ≡ Some x → Contains (map f xs) n
named_among f n [] x h = absurd (cc)
named_among f n (y ∷ ys) x h =
    elim (same_name (f y) n) as (λ b. same_name (f y) n ≡ b → cond b (Some y) (named f n ys) ≡ Some x → Contains (f y ∷ map f ys) n) [
      | true ↦ λ e g. subst (λ (m : Name). Contains (f y ∷ map f ys) m) (same_from_same_name (f y) n e) (Contains-here (f y) (map f ys))
      | false ↦ λ e g. Contains-there (f y) (map f ys) n (named_among f n ys x g)
    ] refl h

unset : (lib : Library) (q : Path) (i : Instance) (n : Name) → instance_at lib q ≡ Some i → ((x : Parameter) → ¬ (named (λ (x : Parameter). x.name) n i.parameters ≡ Some x)) →
    initial_at lib (record { at = q; name = n }) ≡ declared_initial (kind_at lib q) n
unset lib q i n h none =
    ap (λ (o : Option Instance). elim (option_and_then (λ (i : Instance). named (λ (x : Parameter). x.name) n i.parameters) o) [ Some x ↦ x.value | None ↦ declared_initial (kind_at lib q) n ]) h
    ∙ nothing (named (λ (x : Parameter). x.name) n i.parameters) none (declared_initial (kind_at lib q) n)
  where
    nothing : (o : Option Parameter) → ((x : Parameter) → ¬ (o ≡ Some x)) → (v : Value) → (elim o [ Some x ↦ x.value | None ↦ v ]) ≡ v
    nothing None h v = refl
    nothing (Some x) h v = absurd (h x refl)

pub other_begins :
    (lib : Library) (q : Path) (i : Instance) (t : BasicType) (n : Name) → instance_at lib q ≡ Some i → kind_at lib q ≡ Some (Basic t)
    → (Contains (map (λ (x : Parameter). x.name) i.parameters) n → among (variable_names t.ports.inputs) n ≡ true)
    → among (variable_names t.ports.inputs) n ≡ false
    → initial_at lib (record { at = q; name = n }) ≡ values_of (map slot_of (variables_of t)) n
other_begins lib q i t n h is set absent =
    unset lib q i n h (λ x e. true≢false (sym (set (named_among (λ (x : Parameter). x.name) n i.parameters x e)) ∙ absent))
    ∙ ap (λ (o : Option Kind). declared_initial o n) is
    ∙ sym (slots_hold (variables_of t) n)

-- ---- The steps of the loop

pub at_index : {A : Type 0} (xs : List A) (k : ℕ) (x : A) → k < length xs → x ≡ get_or xs k x → slice_get xs k ≡ Some x
at_index xs k x h e = slice_get-get_or xs k x h ∙ ap (λ y. Some y) (sym e)

name_at : (inputs : List Variable) (k : ℕ) (x : Variable) → slice_get inputs k ≡ Some x → slice_get (variable_names inputs) k ≡ Some x.name
name_at inputs k x h = slice_get-map (λ (v : Variable). v.name) inputs k ∙ ap (option_map (λ (v : Variable). v.name)) h

pub declared_step :
    (ds es : List Declared) (inputs : List Variable) (k : ℕ) (x : Variable) (n : Name) → ds ≡ es → AreDeclared es (variable_names inputs) → slice_get inputs k ≡ Some x
    → n ≡ x.name → is_declared ds n ≡ true
declared_step ds es inputs k x n same declared at e =
    ap (λ (z : List Declared). is_declared z n) same ∙ ap (is_declared es) e ∙ declared k x.name (name_at inputs k x at)

pub values_step :
    (inputs : List Variable) (values : List Value) (k : ℕ) (x : Variable) (n : Name) (v : Value) (old new first : Values) → slice_get inputs k ≡ Some x → n ≡ x.name
    → slice_get values k ≡ Some v → new ≡ with_value n v old → begun_all (drop k (variable_names inputs)) (drop k values) old ≡ first
    → begun_all (drop (k + 1) (variable_names inputs)) (drop (k + 1) values) new ≡ first
values_step inputs values k x n v old new first at e given put before =
    ap (begun_all (drop (k + 1) (variable_names inputs)) (drop (k + 1) values)) (put ∙ ap (λ (m : Name). with_value m v old) e)
    ∙ sym (begun_step inputs values k x v old at given)
    ∙ before
