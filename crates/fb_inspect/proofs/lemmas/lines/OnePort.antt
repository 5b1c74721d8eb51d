-- The ports of a system that was accepted are written in different ways.
use Rattle.fb_inspect.proofs.lemmas.Common.{◌≡◌, ◌⊎◌, ℕ, Bool, true, false, [], ◌∷◌, Option, None, All, Contains, inl, inr, refl, sym, ap, subst, ◌∙◌, flat_map, unwrap_or, cases_eq, All-cons, All-nil, AreAccepted, Inputs, system_of, Name, Path, Twice, System, HasNames, Port}
use Rattle.fb_types.proofs.Common.{networks_in}
use Rattle.fb_types.proofs.lemmas.lists.Elements.{Contains-cons_cases, Contains-here, Contains-nil}
use Rattle.fb_laws.proofs.lemmas.lists.Indexes.{has_at}
use Rattle.fb_system.proofs.lemmas.networks.Distinct.{paths_once, position_of_path}
use Rattle.fb_system.proofs.lemmas.networks.Sites.{all_once}
use Rattle.fb_wave.specs.Nested.{AreNumbered}
use Rattle.fb_wave.specs.Ports.{IsPortOf, port_text}
use Rattle.fb_wave.proofs.lemmas.Alike.{texts_differ}

-- ports with the same parts are one
port_parts : (p q : Port) → p.instance ≡ q.instance → p.event ≡ q.event → p.taken ≡ q.taken → p ≡ q
port_parts p q instance event taken = λ i. record { instance = instance i; event = event i; taken = taken i }

bool_cases : (a b : Bool) → (a ≡ b) ⊎ (a ≡ b → ⊥)
bool_cases true true = inl refl
bool_cases false false = inl refl
bool_cases true false = inr (λ e. cc)
bool_cases false true = inr (λ e. cc)

one_or_not : (p q : Port) → (p ≡ q) ⊎ (p ≡ q → ⊥)
one_or_not p q = by (cases_eq p.instance q.instance) (cases_eq p.event q.event) (bool_cases p.taken q.taken)
  where
    by : (p.instance ≡ q.instance) ⊎ (p.instance ≡ q.instance → ⊥) → (p.event ≡ q.event) ⊎ (p.event ≡ q.event → ⊥) → (p.taken ≡ q.taken) ⊎ (p.taken ≡ q.taken → ⊥) → (p ≡ q) ⊎ (p ≡ q → ⊥)
    by (inl a) (inl b) (inl c) = inl (port_parts p q a b c)
    by (inr a) b c = inr (λ e. a (ap (λ (x : Port). x.instance) e))
    by (inl a) (inr b) c = inr (λ e. b (ap (λ (x : Port). x.event) e))
    by (inl a) (inl b) (inr c) = inr (λ e. c (ap (λ (x : Port). x.taken) e))

module _ (i : Inputs) (accepted : AreAccepted i) (names : HasNames (system_of i)) where
  abbrev sys : System
  sys = system_of i

  -- each path is at its number
  numbered : AreNumbered sys
  numbered k small =
      let at = has_at sys.paths k small in
      let once : Twice sys.paths → ⊥ =
      paths_once 17 i.library [] (None, i.library.application.network) (all_once i.library i.plan (λ twice. accepted 20 (inl (refl, twice)))) (Contains-here (None, i.library.application.network) (flat_map networks_in i.library.blocks))
      in
      let found = position_of_path sys.paths k at.0 once at.1 in
      ap (λ (o : Option Path). sys.number (unwrap_or o [])) at.1 ∙ ap (λ (o : Option ℕ). unwrap_or o 0) found

  -- Two ports that are written alike are one.
  pub one_port : (p q : Port) → IsPortOf sys p → IsPortOf sys q → port_text sys p ≡ port_text sys q → p ≡ q
  one_port p q is other e = by (one_or_not p q)
    where
      apart : (p ≡ q → ⊥) → Twice (p ∷ q ∷ []) → ⊥
      apart differ (inl c) = pair (Contains-cons_cases q [] p c)
        where
          pair : (q ≡ p) ⊎ Contains [] p → ⊥
          pair (inl same) = differ (sym same)
          pair (inr none) = Contains-nil p none
      apart differ (inr (inl none)) = Contains-nil q none
      apart differ (inr (inr none)) = none

      by : (p ≡ q) ⊎ (p ≡ q → ⊥) → p ≡ q
      by (inl same) = same
      by (inr differ) =
          let all : All (IsPortOf sys) (p ∷ q ∷ []) = All-cons (IsPortOf sys) p (q ∷ []) is (All-cons (IsPortOf sys) q [] other (All-nil (IsPortOf sys))) in
          let twice : Contains (port_text sys q ∷ []) (port_text sys p) = subst (λ (n : Name). Contains (port_text sys q ∷ []) n) (sym e) (Contains-here (port_text sys q) []) in
          absurd (texts_differ i accepted numbered names (p ∷ q ∷ []) all (apart differ) (inl twice))
