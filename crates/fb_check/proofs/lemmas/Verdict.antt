-- The numbers of the refusals, one after another.
use Rattle.fb_types.proofs.Common.{◌≡◌, ◌≢◌, ℕ, ◌+◌, ◌<◌, ◌≤◌, Bool, true, false, nat_eq, List, [], ◌∷◌, Result, Ok, Err, map, refl, sym, ap, ◌∙◌, subst, inl, inr, ⊎_elim, arith, ◌↔◌, IfErr, IfOk, IsTrue, cases_lt, true≢false, BadStimulus, NameTwice, NameUnknown, KindWrong, OutOfRange, TooHigh, NoLink, Inputs}
use Rattle.fb_types.specs.declared.library.Library.{Library}
use Rattle.fb_types.specs.declared.deploy.Plan.{Plan}
use Rattle.fb_types.specs.declared.deploy.Stimulus.{Stimulus}
use Rattle.std.proofs.Common.{Vec, Global}
use Rattle.fb_types.specs.Accepted.{Applies, IsLeastFault, IsAccepted, OverLimit}
use Rattle.fb_types.specs.Joined.{TwoSources}
use Rattle.fb_types.specs.Mapped.{NotMapped, NoEvent}
use Rattle.fb_check_names.proofs.lemmas.twice.Repeating.{none_mapped}
use Rattle.fb_check.specs.Faults.{number_of}
use Rattle.fb_check.specs.Refusals.{AreAll, IsCheckEnd, IsRefusal}
use Rattle.fb_check.specs.declared.fault.Fault.{Fault}
use Rattle.fb_check.specs.Verdicts.{Passes}
use Rattle.fb_check.specs.declared.location.Location.{Location}
use Rattle.fb_check.specs.declared.refusal.Refusal.{Refusal}
use Rattle.fb_check.specs.declared.refusal.CheckEnd.{CheckEnd}
use Rattle.fb_check.specs.declared.refusal.CheckEnd.TheVariants.{Refused}

-- one of the conditions holds, under its number
applies_cases :
    {R : Type 0} (n : ℕ) (lib : Library) (plan : Plan) (stimuli : List Stimulus) → Applies n lib plan stimuli
    → (n ≡ 20 → NameTwice lib plan → R)
    → (n ≡ 21 → NameUnknown lib plan → R)
    → (n ≡ 22 → KindWrong lib → R)
    → (n ≡ 23 → OutOfRange lib → R)
    → (n ≡ 24 → TwoSources lib → R)
    → (n ≡ 25 → TooHigh lib → R)
    → (n ≡ 26 → NotMapped lib plan → R)
    → (n ≡ 27 → NoLink lib plan → R)
    → (n ≡ 28 → NoEvent lib plan → R)
    → (n ≡ 29 → BadStimulus lib stimuli → R)
    → (n ≡ 30 → OverLimit lib stimuli → R) → R
applies_cases n lib plan stimuli a f20 f21 f22 f23 f24 f25 f26 f27 f28 f29 f30 =
    elim a [ inl x ↦ f20 x.0 x.1 | inr a ↦ elim a [ inl x ↦ f21 x.0 x.1 | inr a ↦ elim a [ inl x ↦ f22 x.0 x.1 | inr a ↦ elim a [ inl x ↦ f23 x.0 x.1 | inr a ↦ elim a [ inl x ↦ f24 x.0 x.1 | inr a ↦ elim a [ inl x ↦ f25 x.0 x.1 | inr a ↦ elim a [ inl x ↦ f26 x.0 x.1 | inr a ↦ elim a [ inl x ↦ f27 x.0 x.1 | inr a ↦ elim a [ inl x ↦ f28 x.0 x.1 | inr a ↦ elim a [ inl x ↦ f29 x.0 x.1 | inr x ↦ f30 x.0 x.1 ] ] ] ] ] ] ] ] ] ]

-- two numbers that a test distinguishes are not the same
unlike : {P : Type 0} (m n : ℕ) → nat_eq m m ≡ true → nat_eq m n ≡ false → m ≡ n → P → ⊥
unlike m n same other e _ = true≢false (sym same ∙ ap (nat_eq m) e ∙ other)

-- what a test that fails says
pub not_so : (b : Bool) (P : Type 0) → IsTrue b ↔ P → b ≡ false → ¬ P
not_so b P says f p = true≢false (sym (says.1 p) ∙ f)

-- what a check made, if it found nothing
pub made_so :
    {T L : Type 0} (P : T → Type 0) (r : Result T CheckEnd) (x : T) (at : L → Location) (found : List L) (locations : List Location) → locations ≡ map at found → (found ≡ [] → P x)
    → IfOk r (λ y. (y ≡ x) × (locations ≡ [])) → IfOk r P
made_so P (Ok y) x at found locations same says h = subst P (sym h.0) (says (none_mapped at found (sym same ∙ h.1)))
made_so P (Err e) x at found locations same says h = tt

-- why it ends, if it found locations of a fault
pub refused_so :
    {T L : Type 0} (r : Result T CheckEnd) (i : Inputs) (f : Fault) (at : L → Location) (found : List L) (locations : Vec Location Global) → locations.items ≡ map at found
    → (found ≢ [] → IsLeastFault (number_of f) i.library i.plan i.stimuli) → (found ≢ [] → AreAll i.library i.plan i.stimuli f (map at found))
    → IfErr r (λ e. (e ≡ Refused (record { fault = f; locations = locations })) × (locations.items ≢ [])) → IfErr r (IsCheckEnd i)
refused_so (Ok x) i f at found locations same least all h = tt
refused_so (Err e) i f at found locations same least all h =
    let some : found ≢ [] = λ none. h.1 (same ∙ ap (map at) none) in
    subst (λ (e : CheckEnd). IsCheckEnd i e) (sym h.0)
    (record { least = least some; all = subst (λ (ls : List Location). AreAll i.library i.plan i.stimuli f ls) (sym same) (all some) })

-- a refusal at one location
pub alone_so :
    (i : Inputs) (f : Fault) (l : Location) (r : Refusal) → (r.fault ≡ f) × (r.locations.items ≡ l ∷ []) → IsLeastFault (number_of f) i.library i.plan i.stimuli
    → AreAll i.library i.plan i.stimuli f (l ∷ []) → IsRefusal i r
alone_so i f l r is least all = record {
  least = subst (λ (g : Fault). IsLeastFault (number_of g) i.library i.plan i.stimuli) (sym is.0) least;
  all = subst (λ (g : Fault). AreAll i.library i.plan i.stimuli g r.locations.items) (sym is.0) (subst (λ (ls : List Location). AreAll i.library i.plan i.stimuli f ls) (sym is.1) all);
}

pub first : (lib : Library) (plan : Plan) (stimuli : List Stimulus) → Passes 20 lib plan stimuli
first lib plan stimuli n h a = applies_cases n lib plan stimuli a
    (λ e _. omega (arith, e, h)) (λ e _. omega (arith, e, h)) (λ e _. omega (arith, e, h)) (λ e _. omega (arith, e, h)) (λ e _. omega (arith, e, h)) (λ e _. omega (arith, e, h)) (λ e _. omega (arith, e, h)) (λ e _. omega (arith, e, h)) (λ e _. omega (arith, e, h)) (λ e _. omega (arith, e, h)) (λ e _. omega (arith, e, h))

pub next : (m : ℕ) (lib : Library) (plan : Plan) (stimuli : List Stimulus) → Passes m lib plan stimuli → ¬ (Applies m lib plan stimuli) → Passes (m + 1) lib plan stimuli
next m lib plan stimuli so_far here n h a =
    ⊎_elim (λ (l : n < m). so_far n l a)
    (λ (l : m ≤ n). let e : n ≡ m = omega arith in here (subst (λ (k : ℕ). Applies k lib plan stimuli) e a))
    (cases_lt n m)

-- no number is left
pub last : (lib : Library) (plan : Plan) (stimuli : List Stimulus) → Passes 31 lib plan stimuli → IsAccepted lib plan stimuli
last lib plan stimuli all n a =
    ⊎_elim (λ (l : n < 31). all n l a)
    (λ (h : 31 ≤ n). applies_cases n lib plan stimuli a
    (λ e _. omega (arith, e, h)) (λ e _. omega (arith, e, h)) (λ e _. omega (arith, e, h)) (λ e _. omega (arith, e, h)) (λ e _. omega (arith, e, h)) (λ e _. omega (arith, e, h)) (λ e _. omega (arith, e, h)) (λ e _. omega (arith, e, h)) (λ e _. omega (arith, e, h)) (λ e _. omega (arith, e, h)) (λ e _. omega (arith, e, h)))
    (cases_lt n 31)

pub is_least : (m : ℕ) (lib : Library) (plan : Plan) (stimuli : List Stimulus) → Passes m lib plan stimuli → Applies m lib plan stimuli → IsLeastFault m lib plan stimuli
is_least m lib plan stimuli so_far here = record { applies = here; least = so_far }

-- ---- The numbers one by one

pub least_20 : (lib : Library) (plan : Plan) (stimuli : List Stimulus) → Passes 20 lib plan stimuli → NameTwice lib plan → IsLeastFault 20 lib plan stimuli
least_20 lib plan stimuli so_far t = is_least 20 lib plan stimuli so_far (inl (refl, t))

pub passes_20 : (lib : Library) (plan : Plan) (stimuli : List Stimulus) → Passes 20 lib plan stimuli → ¬ (NameTwice lib plan) → Passes 21 lib plan stimuli
passes_20 lib plan stimuli so_far fails = next 20 lib plan stimuli so_far (λ a. applies_cases 20 lib plan stimuli a
    (λ _ t. fails t) (unlike 20 21 refl refl) (unlike 20 22 refl refl) (unlike 20 23 refl refl) (unlike 20 24 refl refl) (unlike 20 25 refl refl) (unlike 20 26 refl refl) (unlike 20 27 refl refl) (unlike 20 28 refl refl) (unlike 20 29 refl refl) (unlike 20 30 refl refl))

pub least_21 : (lib : Library) (plan : Plan) (stimuli : List Stimulus) → Passes 21 lib plan stimuli → NameUnknown lib plan → IsLeastFault 21 lib plan stimuli
least_21 lib plan stimuli so_far t = is_least 21 lib plan stimuli so_far (inr (inl (refl, t)))

pub passes_21 : (lib : Library) (plan : Plan) (stimuli : List Stimulus) → Passes 21 lib plan stimuli → ¬ (NameUnknown lib plan) → Passes 22 lib plan stimuli
passes_21 lib plan stimuli so_far fails = next 21 lib plan stimuli so_far (λ a. applies_cases 21 lib plan stimuli a
    (unlike 21 20 refl refl) (λ _ t. fails t) (unlike 21 22 refl refl) (unlike 21 23 refl refl) (unlike 21 24 refl refl) (unlike 21 25 refl refl) (unlike 21 26 refl refl) (unlike 21 27 refl refl) (unlike 21 28 refl refl) (unlike 21 29 refl refl) (unlike 21 30 refl refl))

pub least_22 : (lib : Library) (plan : Plan) (stimuli : List Stimulus) → Passes 22 lib plan stimuli → KindWrong lib → IsLeastFault 22 lib plan stimuli
least_22 lib plan stimuli so_far t = is_least 22 lib plan stimuli so_far (inr (inr (inl (refl, t))))

pub passes_22 : (lib : Library) (plan : Plan) (stimuli : List Stimulus) → Passes 22 lib plan stimuli → ¬ (KindWrong lib) → Passes 23 lib plan stimuli
passes_22 lib plan stimuli so_far fails = next 22 lib plan stimuli so_far (λ a. applies_cases 22 lib plan stimuli a
    (unlike 22 20 refl refl) (unlike 22 21 refl refl) (λ _ t. fails t) (unlike 22 23 refl refl) (unlike 22 24 refl refl) (unlike 22 25 refl refl) (unlike 22 26 refl refl) (unlike 22 27 refl refl) (unlike 22 28 refl refl) (unlike 22 29 refl refl) (unlike 22 30 refl refl))

pub least_23 : (lib : Library) (plan : Plan) (stimuli : List Stimulus) → Passes 23 lib plan stimuli → OutOfRange lib → IsLeastFault 23 lib plan stimuli
least_23 lib plan stimuli so_far t = is_least 23 lib plan stimuli so_far (inr (inr (inr (inl (refl, t)))))

pub passes_23 : (lib : Library) (plan : Plan) (stimuli : List Stimulus) → Passes 23 lib plan stimuli → ¬ (OutOfRange lib) → Passes 24 lib plan stimuli
passes_23 lib plan stimuli so_far fails = next 23 lib plan stimuli so_far (λ a. applies_cases 23 lib plan stimuli a
    (unlike 23 20 refl refl) (unlike 23 21 refl refl) (unlike 23 22 refl refl) (λ _ t. fails t) (unlike 23 24 refl refl) (unlike 23 25 refl refl) (unlike 23 26 refl refl) (unlike 23 27 refl refl) (unlike 23 28 refl refl) (unlike 23 29 refl refl) (unlike 23 30 refl refl))

pub least_24 : (lib : Library) (plan : Plan) (stimuli : List Stimulus) → Passes 24 lib plan stimuli → TwoSources lib → IsLeastFault 24 lib plan stimuli
least_24 lib plan stimuli so_far t = is_least 24 lib plan stimuli so_far (inr (inr (inr (inr (inl (refl, t))))))

pub passes_24 : (lib : Library) (plan : Plan) (stimuli : List Stimulus) → Passes 24 lib plan stimuli → ¬ (TwoSources lib) → Passes 25 lib plan stimuli
passes_24 lib plan stimuli so_far fails = next 24 lib plan stimuli so_far (λ a. applies_cases 24 lib plan stimuli a
    (unlike 24 20 refl refl) (unlike 24 21 refl refl) (unlike 24 22 refl refl) (unlike 24 23 refl refl) (λ _ t. fails t) (unlike 24 25 refl refl) (unlike 24 26 refl refl) (unlike 24 27 refl refl) (unlike 24 28 refl refl) (unlike 24 29 refl refl) (unlike 24 30 refl refl))

pub least_25 : (lib : Library) (plan : Plan) (stimuli : List Stimulus) → Passes 25 lib plan stimuli → TooHigh lib → IsLeastFault 25 lib plan stimuli
least_25 lib plan stimuli so_far t = is_least 25 lib plan stimuli so_far (inr (inr (inr (inr (inr (inl (refl, t)))))))

pub passes_25 : (lib : Library) (plan : Plan) (stimuli : List Stimulus) → Passes 25 lib plan stimuli → ¬ (TooHigh lib) → Passes 26 lib plan stimuli
passes_25 lib plan stimuli so_far fails = next 25 lib plan stimuli so_far (λ a. applies_cases 25 lib plan stimuli a
    (unlike 25 20 refl refl) (unlike 25 21 refl refl) (unlike 25 22 refl refl) (unlike 25 23 refl refl) (unlike 25 24 refl refl) (λ _ t. fails t) (unlike 25 26 refl refl) (unlike 25 27 refl refl) (unlike 25 28 refl refl) (unlike 25 29 refl refl) (unlike 25 30 refl refl))

pub least_26 : (lib : Library) (plan : Plan) (stimuli : List Stimulus) → Passes 26 lib plan stimuli → NotMapped lib plan → IsLeastFault 26 lib plan stimuli
least_26 lib plan stimuli so_far t = is_least 26 lib plan stimuli so_far (inr (inr (inr (inr (inr (inr (inl (refl, t))))))))

pub passes_26 : (lib : Library) (plan : Plan) (stimuli : List Stimulus) → Passes 26 lib plan stimuli → ¬ (NotMapped lib plan) → Passes 27 lib plan stimuli
passes_26 lib plan stimuli so_far fails = next 26 lib plan stimuli so_far (λ a. applies_cases 26 lib plan stimuli a
    (unlike 26 20 refl refl) (unlike 26 21 refl refl) (unlike 26 22 refl refl) (unlike 26 23 refl refl) (unlike 26 24 refl refl) (unlike 26 25 refl refl) (λ _ t. fails t) (unlike 26 27 refl refl) (unlike 26 28 refl refl) (unlike 26 29 refl refl) (unlike 26 30 refl refl))

pub least_27 : (lib : Library) (plan : Plan) (stimuli : List Stimulus) → Passes 27 lib plan stimuli → NoLink lib plan → IsLeastFault 27 lib plan stimuli
least_27 lib plan stimuli so_far t = is_least 27 lib plan stimuli so_far (inr (inr (inr (inr (inr (inr (inr (inl (refl, t)))))))))

pub passes_27 : (lib : Library) (plan : Plan) (stimuli : List Stimulus) → Passes 27 lib plan stimuli → ¬ (NoLink lib plan) → Passes 28 lib plan stimuli
passes_27 lib plan stimuli so_far fails = next 27 lib plan stimuli so_far (λ a. applies_cases 27 lib plan stimuli a
    (unlike 27 20 refl refl) (unlike 27 21 refl refl) (unlike 27 22 refl refl) (unlike 27 23 refl refl) (unlike 27 24 refl refl) (unlike 27 25 refl refl) (unlike 27 26 refl refl) (λ _ t. fails t) (unlike 27 28 refl refl) (unlike 27 29 refl refl) (unlike 27 30 refl refl))

pub least_28 : (lib : Library) (plan : Plan) (stimuli : List Stimulus) → Passes 28 lib plan stimuli → NoEvent lib plan → IsLeastFault 28 lib plan stimuli
least_28 lib plan stimuli so_far t = is_least 28 lib plan stimuli so_far (inr (inr (inr (inr (inr (inr (inr (inr (inl (refl, t))))))))))

pub passes_28 : (lib : Library) (plan : Plan) (stimuli : List Stimulus) → Passes 28 lib plan stimuli → ¬ (NoEvent lib plan) → Passes 29 lib plan stimuli
passes_28 lib plan stimuli so_far fails = next 28 lib plan stimuli so_far (λ a. applies_cases 28 lib plan stimuli a
    (unlike 28 20 refl refl) (unlike 28 21 refl refl) (unlike 28 22 refl refl) (unlike 28 23 refl refl) (unlike 28 24 refl refl) (unlike 28 25 refl refl) (unlike 28 26 refl refl) (unlike 28 27 refl refl) (λ _ t. fails t) (unlike 28 29 refl refl) (unlike 28 30 refl refl))

pub least_29 : (lib : Library) (plan : Plan) (stimuli : List Stimulus) → Passes 29 lib plan stimuli → BadStimulus lib stimuli → IsLeastFault 29 lib plan stimuli
least_29 lib plan stimuli so_far t = is_least 29 lib plan stimuli so_far (inr (inr (inr (inr (inr (inr (inr (inr (inr (inl (refl, t)))))))))))

pub passes_29 : (lib : Library) (plan : Plan) (stimuli : List Stimulus) → Passes 29 lib plan stimuli → ¬ (BadStimulus lib stimuli) → Passes 30 lib plan stimuli
passes_29 lib plan stimuli so_far fails = next 29 lib plan stimuli so_far (λ a. applies_cases 29 lib plan stimuli a
    (unlike 29 20 refl refl) (unlike 29 21 refl refl) (unlike 29 22 refl refl) (unlike 29 23 refl refl) (unlike 29 24 refl refl) (unlike 29 25 refl refl) (unlike 29 26 refl refl) (unlike 29 27 refl refl) (unlike 29 28 refl refl) (λ _ t. fails t) (unlike 29 30 refl refl))

pub least_30 : (lib : Library) (plan : Plan) (stimuli : List Stimulus) → Passes 30 lib plan stimuli → OverLimit lib stimuli → IsLeastFault 30 lib plan stimuli
least_30 lib plan stimuli so_far t = is_least 30 lib plan stimuli so_far (inr (inr (inr (inr (inr (inr (inr (inr (inr (inr ((refl, t))))))))))))

pub passes_30 : (lib : Library) (plan : Plan) (stimuli : List Stimulus) → Passes 30 lib plan stimuli → ¬ (OverLimit lib stimuli) → Passes 31 lib plan stimuli
passes_30 lib plan stimuli so_far fails = next 30 lib plan stimuli so_far (λ a. applies_cases 30 lib plan stimuli a
    (unlike 30 20 refl refl) (unlike 30 21 refl refl) (unlike 30 22 refl refl) (unlike 30 23 refl refl) (unlike 30 24 refl refl) (unlike 30 25 refl refl) (unlike 30 26 refl refl) (unlike 30 27 refl refl) (unlike 30 28 refl refl) (unlike 30 29 refl refl) (λ _ t. fails t))

pub once : (m : ℕ) (lib : Library) (plan : Plan) (stimuli : List Stimulus) → 20 < m → Passes m lib plan stimuli → ¬ (NameTwice lib plan)
once m lib plan stimuli h so_far t = so_far 20 h (inl (refl, t))

pub known : (m : ℕ) (lib : Library) (plan : Plan) (stimuli : List Stimulus) → 21 < m → Passes m lib plan stimuli → ¬ (NameUnknown lib plan)
known m lib plan stimuli h so_far t = so_far 21 h (inr (inl (refl, t)))
