-- What the variables hold, by the index of a name, and after a write there.
use Rattle.fb_types.proofs.Common.{◌≡◌, ℕ, zero, suc, ◌<◌, length, ◌||◌, Bool, true, false, cond, List, [], ◌∷◌, set, map, Option, Some, None, refl, sym, ◌∙◌, ap, subst, arith, fun_ext, slice_get, option_map, option_and_then, MatchOption, true≢false, slice_get-map, Name, same_name, with_value, named, Twice, zero_value}
use Rattle.fb_types.specs.declared.value.Value.{Value}
use Rattle.fb_types.specs.declared.value.Ty.{Ty}
use Rattle.std.proofs.lemmas.List.Quantifiers.{position-Some}
use Rattle.fb_types.specs.declared.value.Ty.TheVariants.{Bool as Boolean}
use Rattle.fb_types.proofs.lemmas.names.NameLaws.{same_from_same_name, same_name-flip, same_name-itself}
use Rattle.fb_st.specs.declared.frame.Slot.{Slot}
use Rattle.fb_types.proofs.lemmas.lists.Positions.{position-first}
use Rattle.fb_st.specs.Frames.{values_of, names_of, index_of, Declared, declared_in, types_in, is_declared}
use Rattle.fb_st.proofs.lemmas.Indexes.{position-later, named_at_index, index_of_once}

abbrev held : Option Slot → Value
held o = elim o [ None ↦ zero_value | Some s ↦ s.value ]

-- ---- Reading

-- the variable at the index of a name is the one with the name
pub named_here : (slots : List Slot) (n : Name) (i : ℕ) (s : Slot) → index_of n slots ≡ Some i → slice_get slots i ≡ Some s → named (λ t. t.name) n slots ≡ Some s
named_here slots n i s at is = named_at_index (λ t. t.name) n slots ∙ ap (option_and_then (slice_get slots)) at ∙ is

pub value_here : (slots : List Slot) (n : Name) (i : ℕ) (s : Slot) → index_of n slots ≡ Some i → slice_get slots i ≡ Some s → s.value ≡ values_of slots n
value_here slots n i s at is = sym (ap held (named_here slots n i s at is))

pub value_nowhere : (slots : List Slot) (n : Name) → index_of n slots ≡ None → zero_value ≡ values_of slots n
value_nowhere slots n at = sym (ap held (named_at_index (λ t. t.name) n slots ∙ ap (option_and_then (slice_get slots)) at))

-- ---- Types

abbrev type_or : Option Declared → Ty
type_or o = elim o [ None ↦ Boolean | Some d ↦ d.1 ]

named_declared : (slots : List Slot) (n : Name) → named (λ d. d.0) n (declared_in slots) ≡ option_map (λ s. (s.name, s.ty)) (named (λ s. s.name) n slots)
named_declared [] n = refl
named_declared (s ∷ slots) n =
    elim (same_name s.name n) as (λ b. cond b (Some (s.name, s.ty)) (named (λ d. d.0) n (declared_in slots)) ≡ option_map (λ t. (t.name, t.ty)) (cond b (Some s) (named (λ t. t.name) n slots))) [
      | true ↦ refl
      | false ↦ named_declared slots n
    ]

pub type_here : (slots : List Slot) (n : Name) (i : ℕ) (s : Slot) → index_of n slots ≡ Some i → slice_get slots i ≡ Some s → types_in (declared_in slots) n ≡ s.ty
type_here slots n i s at is =
    ap type_or (named_declared slots n ∙ ap (option_map (λ t. (t.name, t.ty))) (named_here slots n i s at is))

-- a variable that is declared has an index
pub declared_somewhere : (slots : List Slot) (n : Name) → is_declared (declared_in slots) n ≡ true → index_of n slots ≡ None → ⊥
declared_somewhere [] n h at = true≢false (sym h)
declared_somewhere (s ∷ slots) n h at =
    elim (same_name n s.name) as (λ b. same_name n s.name ≡ b → (b || is_declared (declared_in slots) n) ≡ true → ⊥) [
      | true ↦ λ e g. absurd (let f = sym (position-first (λ t. same_name n t.name) s slots e) ∙ at in cc)
      | false ↦ λ e g. declared_somewhere slots n g
          (let f = sym (position-later (λ t. same_name n t.name) s slots e) ∙ at in
          elim (index_of n slots) as (λ o. option_map (λ i. suc i) o ≡ None → o ≡ None) [ None ↦ λ q. refl | Some i ↦ λ q. absurd (cc) ] f)
    ] refl h

-- ---- Writing

with_first : (v : Value) (s : Slot) (slots : List Slot) (n m : Name) → same_name n s.name ≡ true
    → values_of ((record s { value = v }) ∷ slots) m ≡ with_value n v (values_of (s ∷ slots)) m
with_first v s slots n m e =
    let same : n ≡ s.name = same_from_same_name n s.name e in
    let flipped : same_name s.name m ≡ same_name m n = ap (λ k. same_name k m) (sym same) ∙ same_name-flip n m in
    let P : Bool → Type 0 = λ b. held (cond b (Some (record s { value = v })) (named (λ t. t.name) m slots)) ≡ cond (same_name m n) v (held (cond b (Some s) (named (λ t. t.name) m slots))) in
    subst P (sym flipped)
    (elim (same_name m n) as (λ b. held (cond b (Some (record s { value = v })) (named (λ t. t.name) m slots)) ≡ cond b v (held (cond b (Some s) (named (λ t. t.name) m slots)))) [
      | true ↦ refl
      | false ↦ refl
    ])

with_later : (v : Value) (s : Slot) (slots others : List Slot) (n m : Name) → same_name n s.name ≡ false
    → values_of others m ≡ with_value n v (values_of slots) m
    → values_of (s ∷ others) m ≡ with_value n v (values_of (s ∷ slots)) m
with_later v s slots others n m e rest =
    elim (same_name s.name m) as (λ b. same_name s.name m ≡ b → held (cond b (Some s) (named (λ t. t.name) m others)) ≡ cond (same_name m n) v (held (cond b (Some s) (named (λ t. t.name) m slots)))) [
      | true ↦ λ f.
          let other : same_name m n ≡ false = same_name-flip m n ∙ ap (same_name n) (sym (same_from_same_name s.name m f)) ∙ e in
          rw other refl
      | false ↦ λ f. rest
    ] refl

later_not_first : (o : Option ℕ) → option_map (λ k. suc k) o ≡ Some 0 → ⊥
later_not_first None p = absurd (cc)
later_not_first (Some k) p = absurd (let e : suc k ≡ 0 = cc in omega arith)

later_is : (o : Option ℕ) (j : ℕ) → option_map (λ k. suc k) o ≡ Some (suc j) → o ≡ Some j
later_is None j p = absurd (cc)
later_is (Some k) j p = let e : suc k ≡ suc j = cc in let f : k ≡ j = omega arith in ap (λ m. Some m) f

set_at : (slots : List Slot) (n m : Name) (i : ℕ) (s : Slot) (v : Value) → index_of n slots ≡ Some i → slice_get slots i ≡ Some s
    → values_of (set slots i (record s { value = v })) m ≡ with_value n v (values_of slots) m
set_at [] n m i s v at is = absurd (cc)
set_at (t ∷ slots) n m i s v at is =
    elim (same_name n t.name) as (λ b. same_name n t.name ≡ b → values_of (set (t ∷ slots) i (record s { value = v })) m ≡ with_value n v (values_of (t ∷ slots)) m) [
      | true ↦ λ e. elim i as (λ j. Some 0 ≡ Some j → slice_get (t ∷ slots) j ≡ Some s → values_of (set (t ∷ slots) j (record s { value = v })) m ≡ with_value n v (values_of (t ∷ slots)) m) [
        | zero ↦ λ p q. let same : t ≡ s = cc in
            subst (λ (u : Slot). values_of ((record u { value = v }) ∷ slots) m ≡ with_value n v (values_of (t ∷ slots)) m) same (with_first v t slots n m e)
        | suc j ↦ λ p q. absurd (cc)
      ] (sym (position-first (λ u. same_name n u.name) t slots e) ∙ at) is
      | false ↦ λ e. elim i as (λ j. option_map (λ k. suc k) (index_of n slots) ≡ Some j → slice_get (t ∷ slots) j ≡ Some s → values_of (set (t ∷ slots) j (record s { value = v })) m ≡ with_value n v (values_of (t ∷ slots)) m) [
        | zero ↦ λ p q. absurd (later_not_first (index_of n slots) p)
        | suc j ↦ λ p q. with_later v t slots (set slots j (record s { value = v })) n m e (set_at slots n m j s v (later_is (index_of n slots) j p) q)
      ] (sym (position-later (λ u. same_name n u.name) t slots e) ∙ at) is
    ] refl

-- a write at the index of a name changes the value of that name alone
pub written : (slots : List Slot) (n : Name) (i : ℕ) (s : Slot) (v : Value) → index_of n slots ≡ Some i → slice_get slots i ≡ Some s
    → values_of (set slots i (record s { value = v })) ≡ with_value n v (values_of slots)
written slots n i s v at is = fun_ext (λ m. set_at slots n m i s v at is)

-- ---- A write, as the fields of a frame see it

pub index_within : (slots : List Slot) (n : Name) (i : ℕ) → index_of n slots ≡ Some i → i < length slots
index_within [] n i at = absurd (cc)
index_within (s ∷ slots) n i at = (position-Some (λ t. same_name n t.name) (s ∷ slots) i s at).0

-- ---- The same, where the variable at the index is known

pub slot_there : (slots : List Slot) (i : ℕ) → i < length slots → (s : Slot) × (slice_get slots i ≡ Some s)
slot_there [] i within = absurd (omega (arith, within))
slot_there (s ∷ slots) zero within = (s, refl)
slot_there (s ∷ slots) (suc i) within = slot_there slots i (omega arith)

pub set_declared : (slots : List Slot) (i : ℕ) (s : Slot) (v : Value) → slice_get slots i ≡ Some s → declared_in (set slots i (record s { value = v })) ≡ declared_in slots
set_declared [] i s v at = absurd (cc)
set_declared (t ∷ slots) zero s v at = let same : t ≡ s = cc in ap (λ (u : Slot). (u.name, u.ty) ∷ declared_in slots) (sym same)
set_declared (t ∷ slots) (suc i) s v at = ap (λ ds. (t.name, t.ty) ∷ ds) (set_declared slots i s v at)

pub set_names : (slots : List Slot) (i : ℕ) (s : Slot) (v : Value) → slice_get slots i ≡ Some s → names_of (set slots i (record s { value = v })) ≡ names_of slots
set_names [] i s v at = absurd (cc)
set_names (t ∷ slots) zero s v at = let same : t ≡ s = cc in ap (λ (u : Slot). u.name ∷ names_of slots) (sym same)
set_names (t ∷ slots) (suc i) s v at = ap (λ ns. t.name ∷ ns) (set_names slots i s v at)

-- the names of the variables are those of their layout
pub names_declared : (slots : List Slot) → map (λ d. d.0) (declared_in slots) ≡ names_of slots
names_declared [] = refl
names_declared (s ∷ slots) = ap (λ ns. s.name ∷ ns) (names_declared slots)

-- ---- By a slot

own_index : (slots : List Slot) (i : ℕ) (s : Slot) → ¬ (Twice (names_of slots)) → slice_get slots i ≡ Some s → index_of s.name slots ≡ Some i
own_index slots i s once at = index_of_once (λ (t : Slot). t.name) s.name slots i s once at (same_name-itself s.name)

declared_at : (slots : List Slot) (i : ℕ) (s : Slot) → slice_get slots i ≡ Some s → slice_get (declared_in slots) i ≡ Some (s.name, s.ty)
declared_at slots i s at = slice_get-map (λ (t : Slot). (t.name, t.ty)) slots i ∙ ap (option_map (λ (t : Slot). (t.name, t.ty))) at

undeclared_at : (slots : List Slot) (i : ℕ) → slice_get slots i ≡ None → slice_get (declared_in slots) i ≡ None
undeclared_at slots i past = slice_get-map (λ (t : Slot). (t.name, t.ty)) slots i ∙ ap (option_map (λ (t : Slot). (t.name, t.ty))) past

pub read_at :
    (slots : List Slot) (i : ℕ) (r : Value) → ¬ (Twice (names_of slots)) → ((s : Slot) → slice_get slots i ≡ Some s → r ≡ s.value) → (slice_get slots i ≡ None → r ≡ zero_value)
    → MatchOption (slice_get (declared_in slots) i) (r ≡ zero_value) (λ d. r ≡ values_of slots d.0)
read_at slots i r once there past =
    let P : Option Declared → Type 0 = λ o. MatchOption o (r ≡ zero_value) (λ d. r ≡ values_of slots d.0) in
    elim (slice_get slots i) as (λ o. slice_get slots i ≡ o → P (slice_get (declared_in slots) i)) [
      | None ↦ λ at. subst P (sym (undeclared_at slots i at)) (past at)
      | Some s ↦ λ at. subst P (sym (declared_at slots i s at)) (there s at ∙ value_here slots s.name i s (own_index slots i s once at) at)
    ] refl

-- What a write at a slot makes of variables, if there is one at the slot.
pub record IsWrite (slots new : List Slot) (i : ℕ) (v : Value) : Type 0 where
  pub there : (s : Slot) → slice_get slots i ≡ Some s → new ≡ set slots i (record s { value = v })
  pub past : slice_get slots i ≡ None → new ≡ slots

module _ (slots new : List Slot) (i : ℕ) (v : Value) (writes : IsWrite slots new i v) where
  pub write_at : ¬ (Twice (names_of slots)) → MatchOption (slice_get (declared_in slots) i) (new ≡ slots) (λ d. values_of new ≡ with_value d.0 v (values_of slots))
  write_at once =
      let P : Option Declared → Type 0 = λ o. MatchOption o (new ≡ slots) (λ d. values_of new ≡ with_value d.0 v (values_of slots)) in
      elim (slice_get slots i) as (λ o. slice_get slots i ≡ o → P (slice_get (declared_in slots) i)) [
        | None ↦ λ at. subst P (sym (undeclared_at slots i at)) (writes.past at)
        | Some s ↦ λ at. subst P (sym (declared_at slots i s at)) (ap values_of (writes.there s at) ∙ written slots s.name i s v (own_index slots i s once at) at)
      ] refl

  pub write_declared : declared_in new ≡ declared_in slots
  write_declared =
      elim (slice_get slots i) as (λ o. slice_get slots i ≡ o → declared_in new ≡ declared_in slots) [
        | None ↦ λ at. ap declared_in (writes.past at)
        | Some s ↦ λ at. ap declared_in (writes.there s at) ∙ set_declared slots i s v at
      ] refl

  pub write_names : names_of new ≡ names_of slots
  write_names =
      elim (slice_get slots i) as (λ o. slice_get slots i ≡ o → names_of new ≡ names_of slots) [
        | None ↦ λ at. ap names_of (writes.past at)
        | Some s ↦ λ at. ap names_of (writes.there s at) ∙ set_names slots i s v at
      ] refl
