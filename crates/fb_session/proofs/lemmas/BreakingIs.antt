-- Changes of the breaks alone, and the lines that breaks are for.
use Rattle.fb_types.proofs.Common.{◌≡◌, ◌⊎◌, ◌+◌, ◌<◌, ◌^◌, ◌∙◌, ℕ, Bool, true, false, nat_eq, List, [], ◌∷◌, length, Option, Some, None, Contains, Each, IfSome, IsErrAnd, Result, Ok, Err, inl, inr, refl, sym, subst, option_map, position, slice_get, both_ways, Decides-eqb}
use Rattle.fb_types.proofs.lemmas.lists.Positions.{position-first, position-later}
use Rattle.fb_check.proofs.lemmas.networks.SearchLoops.{position_at}
use Rattle.fb_types.specs.declared.run.Line.{Line}
use Rattle.std.specs.List.{remove}
use Rattle.std.specs.Option.{SomeIff}
use Rattle.fb_session.specs.Breaking.{OnlyBreaks, SetsBreak}
use Rattle.fb_session.specs.Pasts.{Talk}
use Rattle.fb_session.specs.declared.breaks.Break.{Break}
use Rattle.fb_session.specs.declared.breaks.BreakFault.{BreakFault}
use Rattle.fb_session.specs.declared.breaks.TheConstants.{MOST_BREAKS}
use Rattle.fb_session.specs.declared.stage.Stage.TheVariants as stage
use Rattle.fb_session.specs.declared.breaks.BreakFault.TheVariants as fault

-- the session is one that has other breaks than the middle one, which is the old one
pub only_from : (old mid v new : Talk) → mid ≡ old → new ≡ v → v ≡ record mid { breaks = v.breaks; set = v.set } → OnlyBreaks old new
only_from old mid v new was is only =
    subst (λ (m : Talk). new ≡ record m { breaks = new.breaks; set = new.set }) was
    (subst (λ (z : Talk). z ≡ record mid { breaks = z.breaks; set = z.set }) (sym is) only)

-- the tick is that of one of the lines
abbrev pub IsHit : List Line → ℕ × ℕ → Type 0
IsHit lines h = (x : Line) × Contains lines x × (x.key.tick ≡ h.1)

-- the lesser of what was found before and of what a line gives
pub hit_on : (lines : List Line) (l : Line) (least r : Option (ℕ × ℕ)) → Contains lines l → IfSome least (IsHit lines) → IfSome r (λ h. (h.1 ≡ l.key.tick) ⊎ (least ≡ Some h))
    → IfSome r (IsHit lines)
hit_on lines l least None here was is = is
hit_on lines l least (Some h) here was (inl e) = (l, here, sym e)
hit_on lines l least (Some h) here was (inr e) = subst (λ (o : Option (ℕ × ℕ)). IfSome o (IsHit lines)) e was

-- ---- A break by its number

unmapped : (o : Option ℕ) → option_map (λ i. i + 1) o ≡ None → o ≡ None
unmapped None is = refl
unmapped (Some i) is = absurd (cc)

none_found : (number : ℕ) (bs : List Break) → position (λ b. nat_eq b.number number) bs ≡ None → Each (λ b. b.number ≡ number → ⊥) bs
none_found number [] is = tt
none_found number (b ∷ bs) is =
    let p : Break → Bool = λ b. nat_eq b.number number in
    elim (nat_eq b.number number) as (λ t. nat_eq b.number number ≡ t → Each (λ b. b.number ≡ number → ⊥) (b ∷ bs)) [
      | true ↦ λ t. absurd (let none : None ≡ Some 0 = sym is ∙ position-first p b bs t in cc)
      | false ↦ λ t. (
        (λ same. both_ways _ t ((Decides-eqb b.number number).1 same)),
        none_found number bs (unmapped (position p bs) (sym (position-later p b bs t) ∙ is)),
      )
    ] refl

-- none has the number
pub not_found : (number : ℕ) (bs cs : List Break) (o : Option ℕ) → o ≡ position (λ b. nat_eq b.number number) bs → bs ≡ cs → o ≡ None → Each (λ b. b.number ≡ number → ⊥) cs
not_found number bs cs o is same none = subst (λ (xs : List Break). Each (λ b. b.number ≡ number → ⊥) xs) same (none_found number bs (sym is ∙ none))

-- the one with the number is removed
pub is_removed : (number : ℕ) (bs cs ds : List Break) (o : Option ℕ) (k : ℕ) → o ≡ position (λ b. nat_eq b.number number) bs → bs ≡ cs → o ≡ Some k → ds ≡ remove bs k
    → (j : ℕ) × (b : Break) × (slice_get cs j ≡ Some b) × (b.number ≡ number) × (ds ≡ remove cs j)
is_removed number bs cs ds o k is same some removed =
    let at = position_at (λ (b : Break). nat_eq b.number number) bs k (sym is ∙ some) in
    subst (λ (xs : List Break). (j : ℕ) × (b : Break) × (slice_get xs j ≡ Some b) × (b.number ≡ number) × (ds ≡ remove xs j)) same
    (k, at.0, at.1, (Decides-eqb at.0.number number).0 at.2, removed)

-- ---- A break more

value_is : {A : Type 0} (P : Type 0) (o : Option A) (v : A) → SomeIff o P v → IfSome o (λ x. x ≡ v)
value_is P None v h = tt
value_is P (Some x) v h = h.1

pub next_counts : (P : Type 0) (o : Option ℕ) (v x : ℕ) → SomeIff o P v → o ≡ Some x → P
next_counts P None v x h e = absurd (cc)
next_counts P (Some y) v x h e = h.0

pub next_is : {A : Type 0} (P : Type 0) (o : Option A) (v x : A) → SomeIff o P v → o ≡ Some x → x ≡ v
next_is {A} P o v x h e = subst (λ (z : Option A). IfSome z (λ y. y ≡ v)) e (value_is P o v h)

-- without memory nothing changes, and there is room for a break and a number for it
pub unset_for_memory : (text : List ℕ) (old new : Talk) (r : Result ℕ BreakFault) → IsErrAnd r (λ e. e ≡ fault.Memory) → old.stage ≡ stage.Running → length old.breaks < MOST_BREAKS
    → old.set + 1 < 2 ^ 64 → new ≡ old → SetsBreak text old new r
unset_for_memory text old new (Ok n) bad running few counted is = absurd bad
unset_for_memory text old new (Err e) memory running few counted is = subst (λ (f : BreakFault). SetsBreak text old new (Err f)) (sym memory) (running, few, counted, is)
