-- Whether the stimuli so far have one that is refused.
use Rattle.fb_types.proofs.Common.{◌≡◌, ℕ, ◌<◌, ◌≤◌, ◌+◌, List, [], ◌∷◌, ◌++◌, length, take, get_or, Contains, sym, ◌∙◌, ap, subst, inl, inr, take_more, take_all, Contains-push_cases}
use Rattle.fb_types.specs.declared.library.Library.{Library}
use Rattle.fb_types.specs.declared.deploy.Stimulus.{Stimulus}
use Rattle.fb_types.proofs.lemmas.lists.Elements.{Contains-nil}
use Rattle.fb_check.specs.Directory.{CanTake}

abbrev pub HasRefused : Library → List Stimulus → Type 0
HasRefused lib stimuli = (s : Stimulus) × Contains stimuli s × ¬ (CanTake lib s)

pub refused_none : (lib : Library) → ¬ (HasRefused lib [])
refused_none lib r = Contains-nil r.0 r.1

pub refused_more :
    (lib : Library) (ss : List Stimulus) (i : ℕ) (s : Stimulus) → i < length ss → s ≡ get_or ss i s → ¬ (HasRefused lib (take i ss)) → CanTake lib s
    → ¬ (HasRefused lib (take (i + 1) ss))
refused_more lib ss i s h e none can r =
    let grown : take (i + 1) ss ≡ take i ss ++ s ∷ [] = take_more ss i s h ∙ ap (λ (t : Stimulus). take i ss ++ t ∷ []) (sym e) in
    elim (Contains-push_cases (take i ss) s r.0 (subst (λ (ts : List Stimulus). Contains ts r.0) grown r.1)) [
      | inl old ↦ none (r.0, old, r.2)
      | inr same ↦ r.2 (subst (λ (t : Stimulus). CanTake lib t) same can)
    ]

pub refused_all : (lib : Library) (ss : List Stimulus) (i : ℕ) → length ss ≤ i → ¬ (HasRefused lib (take i ss)) → ¬ (HasRefused lib ss)
refused_all lib ss i h none = subst (λ (ts : List Stimulus). ¬ (HasRefused lib ts)) (take_all i ss h) none
