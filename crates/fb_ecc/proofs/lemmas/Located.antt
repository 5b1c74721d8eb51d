-- The slots of the variables WITH an event: how they are made, and what is at them.
use Rattle.fb_types.proofs.Common.{◌≡◌, ℕ, zero, suc, ◌+◌, ◌<◌, ◌≤◌, ◌^◌, ◌-◌, min, Bool, true, false, cond, List, [], ◌∷◌, ◌++◌, length, get_or, take, map, Option, Some, None, Bor, refl, sym, ◌∙◌, ap, subst, arith, option_map, slice_get, MatchOption, filter, list_any, length-map, map-append, slice_get-get_or, slice_get-map, Name, with_value, variable_names, inputs_with, outputs_with, zero_value, Values}
use Rattle.fb_types.specs.declared.library.BasicType.{BasicType}
use Rattle.fb_types.specs.declared.library.Variable.{Variable}
use Rattle.fb_types.specs.declared.value.Value.{Value}
use Rattle.fb_types.specs.Blocks.{goes_with}
use Rattle.fb_st.specs.Frames.{Declared}
use Rattle.fb_ecc.specs.Indexed.{entry_of, picked}
use Rattle.fb_ecc.specs.Located.{AreAt, name_there, slots_among, slots_with}
use Rattle.fb_ecc.specs.Sound.{declared_as, declared_by}

-- ---- Made

-- a sum as it is made, which no accepted type limits
abbrev pub limited : (first index : ℕ) → ℕ
limited first index = min (first + index) (2 ^ 64 - 1)

numbers_read : (f : ℕ → ℕ) (es : List (ℕ × Bor Name)) → map (λ e. f e.0) es ≡ map (λ e. f e.0) (map entry_of es)
numbers_read f [] = refl
numbers_read f (e ∷ es) = ap (λ (l : List ℕ). f e.0 ∷ l) (numbers_read f es)

slots_of_picked :
    (p : Name → Bool) (ns : List Name) (first k j top : ℕ) → j ≡ first + k → k + length ns ≤ top → first + top < 2 ^ 64
    → map (λ e. limited first e.0) (picked p ns k) ≡ slots_among p ns j
slots_of_picked p [] first k j top is below few = refl
slots_of_picked p (n ∷ ns) first k j top is below few =
    let rest = slots_of_picked p ns first (suc k) (suc j) top (omega (arith, is)) (omega (arith, below)) few in
    let here : limited first k ≡ j = omega (arith, is, below, few) in
    elim (p n) as (λ b. map (λ e. limited first e.0) (cond b ((k, n) ∷ picked p ns (suc k)) (picked p ns (suc k))) ≡ cond b (j ∷ slots_among p ns (suc j)) (slots_among p ns (suc j))) [
      | true ↦ ap (λ (l : List ℕ). limited first k ∷ l) rest ∙ ap (λ i. i ∷ slots_among p ns (suc j)) here
      | false ↦ rest
    ]

pub slots_made :
    (p : Name → Bool) (all : List Name) (es : List (ℕ × Bor Name)) (first : ℕ) → map entry_of es ≡ picked p all 0 → first + length all < 2 ^ 64
    → map (λ e. limited first e.0) es ≡ slots_among p all first
slots_made p all es first are few =
    numbers_read (limited first) es ∙ ap (map (λ e. limited first e.0)) are ∙ slots_of_picked p all first 0 first (length all) (omega arith) (omega arith) few

pub slots_same : (f g : Name → Bool) (ns : List Name) (slot : ℕ) → ((n : Name) → f n ≡ g n) → slots_among f ns slot ≡ slots_among g ns slot
slots_same f g [] slot same = refl
slots_same f g (n ∷ ns) slot same =
    ap (λ (l : List ℕ). cond (f n) (slot ∷ l) l) (slots_same f g ns (suc slot) same)
    ∙ ap (λ b. cond b (slot ∷ slots_among g ns (suc slot)) (slots_among g ns (suc slot))) (same n)

-- ---- What is at them

after_pre : (pre : List Declared) (d : Declared) (post : List Declared) → slice_get (pre ++ d ∷ post) (length pre) ≡ Some d
after_pre [] d post = refl
after_pre (c ∷ pre) d post = after_pre pre d post

move_on : (pre : List Declared) (d : Declared) (post : List Declared) → (pre ++ d ∷ []) ++ post ≡ pre ++ d ∷ post
move_on [] d post = refl
move_on (c ∷ pre) d post = ap (λ (l : List Declared). c ∷ l) (move_on pre d post)

one_more : (pre : List Declared) (d : Declared) → length (pre ++ d ∷ []) ≡ suc (length pre)
one_more [] d = refl
one_more (c ∷ pre) d = ap (λ n. suc n) (one_more pre d)

-- the variables that pass are at their slots, whatever is before and after them
at_slots :
    (p : Name → Bool) (vs : List Variable) (pre post : List Declared) (slot : ℕ) → slot ≡ length pre
    → AreAt (pre ++ (map declared_as vs ++ post)) (filter p (variable_names vs)) (slots_among p (variable_names vs) slot)
at_slots p [] pre post slot is = refl
at_slots p (v ∷ vs) pre post slot is =
    let d : Declared = declared_as v in
    let tail : List Declared = map declared_as vs ++ post in
    let ds : List Declared = pre ++ d ∷ tail in
    let here : name_there ds slot ≡ Some v.name = ap (name_there ds) is ∙ ap (option_map (λ (x : Declared). x.0)) (after_pre pre d tail) in
    let names : List Name = filter p (variable_names vs) in
    let slots : List ℕ = slots_among p (variable_names vs) (suc slot) in
    let rest : AreAt ds names slots =
    subst (λ (l : List Declared). AreAt l names slots) (move_on pre d tail) (at_slots p vs (pre ++ d ∷ []) post (suc slot) (ap (λ n. suc n) is ∙ sym (one_more pre d))) in
    elim (p v.name) as (λ b. map (name_there ds) (cond b (slot ∷ slots) slots) ≡ map Some (cond b (v.name ∷ names) names)) [
      | true ↦ ap (λ (l : List (Option Name)). name_there ds slot ∷ l) rest ∙ ap (λ (o : Option Name). o ∷ map Some names) here
      | false ↦ rest
    ]

regroup : (a b c : List Declared) → (a ++ b) ++ c ≡ a ++ (b ++ c)
regroup [] b c = refl
regroup (x ∷ a) b c = ap (λ (l : List Declared). x ∷ l) (regroup a b c)

parts_of : (a b c : List Variable) → map declared_as (a ++ b ++ c) ≡ map declared_as a ++ (map declared_as b ++ map declared_as c)
parts_of a b c =
    map-append declared_as (a ++ b) c ∙ ap (λ (l : List Declared). l ++ map declared_as c) (map-append declared_as a b)
    ∙ regroup (map declared_as a) (map declared_as b) (map declared_as c)

pub inputs_at : (t : BasicType) (e : Name) → AreAt (declared_by t) (inputs_with t.ports e) (slots_with t.ports.event_inputs t.ports.inputs 0 e)
inputs_at t e =
    let names : List Name = inputs_with t.ports e in
    let slots : List ℕ = slots_with t.ports.event_inputs t.ports.inputs 0 e in
    subst (λ (l : List Declared). AreAt l names slots) (sym (parts_of t.ports.inputs t.ports.outputs t.internals))
    (at_slots (λ v. list_any (goes_with e v) t.ports.event_inputs) t.ports.inputs [] (map declared_as t.ports.outputs ++ map declared_as t.internals) 0 refl)

pub outputs_at : (t : BasicType) (e : Name) → AreAt (declared_by t) (outputs_with t.ports e) (slots_with t.ports.event_outputs t.ports.outputs (length t.ports.inputs) e)
outputs_at t e =
    let names : List Name = outputs_with t.ports e in
    let first : ℕ = length t.ports.inputs in
    let slots : List ℕ = slots_with t.ports.event_outputs t.ports.outputs first e in
    subst (λ (l : List Declared). AreAt l names slots) (sym (parts_of t.ports.inputs t.ports.outputs t.internals))
    (at_slots (λ v. list_any (goes_with e v) t.ports.event_outputs) t.ports.outputs (map declared_as t.ports.inputs) (map declared_as t.internals) first (sym (length-map t.ports.inputs declared_as)))

-- ---- Read and written

named_at : (o : Option Declared) (p : Option Name) → Some (option_map (λ (d : Declared). d.0) o) ≡ option_map Some p → (d : Declared) × (o ≡ Some d) × (p ≡ Some d.0)
named_at None None e = absurd (cc)
named_at None (Some n) e = absurd (cc)
named_at (Some d) None e = absurd (cc)
named_at (Some d) (Some n) e = let same : d.0 ≡ n = cc in (d, refl, ap (λ (m : Name). Some m) (sym same))

-- the variable of the slot at an index has the name at this index
pub at_here :
    (ds : List Declared) (names : List Name) (slots : List ℕ) (i k : ℕ) → AreAt ds names slots → slice_get slots i ≡ Some k
    → (d : Declared) × (slice_get ds k ≡ Some d) × (slice_get names i ≡ Some d.0)
at_here ds names slots i k are at =
    named_at (slice_get ds k) (slice_get names i)
    (sym (slice_get-map (name_there ds) slots i ∙ ap (option_map (name_there ds)) at)
    ∙ ap (λ (l : List (Option Name)). slice_get l i) are ∙ slice_get-map (λ (n : Name). Some n) names i)

pub same_count : (ds : List Declared) (names : List Name) (slots : List ℕ) → AreAt ds names slots → length names ≡ length slots
same_count ds names slots are =
    sym (length-map names (λ (n : Name). Some n)) ∙ ap (λ (l : List (Option Name)). length l) (sym are) ∙ length-map slots (name_there ds)

pub read_there : (o : Option Declared) (d : Declared) (r : Value) (vars : Values) → MatchOption o (r ≡ zero_value) (λ x. r ≡ vars x.0) → o ≡ Some d → r ≡ vars d.0
read_there o d r vars read is = subst (λ (x : Option Declared). MatchOption x (r ≡ zero_value) (λ y. r ≡ vars y.0)) is read

pub written_there :
    {A : Type 0} (o : Option Declared) (d : Declared) (v : Value) (vars after : Values) (old new : A)
    → MatchOption o (new ≡ old) (λ x. after ≡ with_value x.0 v vars) → o ≡ Some d → after ≡ with_value d.0 v vars
written_there o d v vars after old new wrote is = subst (λ (x : Option Declared). MatchOption x (new ≡ old) (λ y. after ≡ with_value y.0 v vars)) is wrote

-- the same, for the slot as it is read
pub at_index :
    (ds : List Declared) (names : List Name) (slots : List ℕ) (i : ℕ) → AreAt ds names slots → i < length slots
    → (d : Declared) × (slice_get ds (get_or slots i 0) ≡ Some d) × (slice_get names i ≡ Some d.0)
at_index ds names slots i are within = at_here ds names slots i (get_or slots i 0) are (slice_get-get_or slots i 0 within)

-- one slot alone
pub alone :
    (ds : List Declared) (names : List Name) (slots : List ℕ) → AreAt ds names slots → length slots ≡ 1
    → (d : Declared) × (slice_get ds (get_or slots 0 0) ≡ Some d) × (names ≡ d.0 ∷ [])
alone ds names [] are one = absurd (omega arith)
alone ds [] (j ∷ []) are one = absurd (cc)
alone ds (n ∷ []) (j ∷ []) are one =
    let at = at_here ds (n ∷ []) (j ∷ []) 0 j are refl in
    let same : n ≡ at.0.0 = let e = at.2 in cc in
    (at.0, at.1, ap (λ (m : Name). m ∷ []) same)
alone ds (n ∷ m ∷ ns) (j ∷ []) are one = absurd (cc)
alone ds names (j ∷ l ∷ slots) are one = absurd (omega arith)

-- the values of one name more
pub values_more :
    (vars : Values) (names : List Name) (i : ℕ) (n : Name) (v : Value) → slice_get names i ≡ Some n → v ≡ vars n
    → map vars (take i names) ++ v ∷ [] ≡ map vars (take (i + 1) names)
values_more vars [] i n v at is = absurd (cc)
values_more vars (m ∷ names) zero n v at is = let same : m ≡ n = cc in ap (λ (x : Value). x ∷ []) (is ∙ ap vars (sym same))
values_more vars (m ∷ names) (suc i) n v at is =
    let next : suc (i + 1) ≡ suc i + 1 = omega arith in
    ap (λ (l : List Value). vars m ∷ l) (values_more vars names i n v at is) ∙ ap (λ k. map vars (take k (m ∷ names))) next
