-- Series of turns: turns of one resource each, one after another.
use Rattle.fb_window.proofs.lemmas.Common.{◌≡◌, ℕ, ◌++◌, List, [], ◌∷◌, sym, ap, ◌∙◌, subst, append_assoc, append-nil, Inputs, system_of, stimuli_of, CoreStep, IsFloor, opening_core, Machine, machine, count_of, IsSchedule, core_after, HasKept, core_of, lists_of, IsAt, Leads, Single, CoreState}
use Rattle.fb_types.proofs.Common.{flat_map-append}
use Rattle.fb_types.specs.Cores as model_cores
use Rattle.fb_window.specs.ManyTurns.{AreSingle, after_series, single_steps, series_steps}
use Rattle.fb_laws.proofs.lemmas.schedules.Phasing.{after_append}

module _ (M : Machine) where
  -- turns, and then others from where these lead
  pub singles_append : (count : ℕ) (c : model_cores.Core M) (ts us : List (Single M)) → AreSingle M count c ts → AreSingle M count (core_after M c (series_steps M ts)) us → AreSingle M count c (ts ++ us)
  singles_append count c [] us a b = b
  singles_append count c (t ∷ ts) us a b = (a.0, singles_append count (core_after M c (single_steps M t)) ts us a.1 b)

  pub series_append : (es : List (CoreStep M)) (ts us : List (Single M)) → es ++ series_steps M ts ++ series_steps M us ≡ es ++ series_steps M (ts ++ us)
  series_append es ts us = append_assoc es (series_steps M ts) (series_steps M us) ∙ ap (λ z. es ++ z) (sym (flat_map-append (single_steps M) ts us))

module _ (i : Inputs) (limit horizon : ℕ) (es : List (CoreStep (machine (system_of i) limit))) where
  abbrev M : Machine
  M = machine (system_of i) limit

  -- no turn at all
  pub leads_none : (a : CoreState) → IsSchedule (machine (system_of i) limit) horizon (opening_core (system_of i) (stimuli_of i) limit) es → IsAt i limit (core_of i limit es) a.resources.items
      → Leads i limit horizon es a a []
  leads_none a sc at =
      let same : es ≡ es ++ [] = sym (append-nil es) in
      record {
        singles = tt;
        schedule = subst (λ (z : List (CoreStep M)). IsSchedule M horizon (opening_core (system_of i) (stimuli_of i) limit) z) same sc;
        at = subst (λ (z : List (CoreStep M)). IsAt i limit (core_of i limit z) a.resources.items) same at;
        left = λ ls h. subst (λ (z : List (CoreStep M)). HasKept i limit horizon (core_of i limit z) (lists_of a.pending.items) ls) same h;
        floors = λ m f. subst (λ (z : List (CoreStep M)). IsFloor M (core_of i limit z) m) same f;
      }

  -- one series of turns after another
  pub leads_more : (a b c : CoreState) (ts us : List (Single (machine (system_of i) limit))) → Leads i limit horizon es a b ts → Leads i limit horizon (after_series i limit es ts) b c us
      → Leads i limit horizon es a c (ts ++ us)
  leads_more a b c ts us f g =
      let same : after_series i limit (after_series i limit es ts) us ≡ after_series i limit es (ts ++ us) = series_append M es ts us in
      record {
        singles = singles_append M (count_of (system_of i)) (core_of i limit es) ts us f.singles
            (subst (λ (z : model_cores.Core M). AreSingle M (count_of (system_of i)) z us) (after_append M es (series_steps M ts) (opening_core (system_of i) (stimuli_of i) limit)) g.singles);
        schedule = subst (λ (z : List (CoreStep M)). IsSchedule M horizon (opening_core (system_of i) (stimuli_of i) limit) z) same g.schedule;
        at = subst (λ (z : List (CoreStep M)). IsAt i limit (core_of i limit z) c.resources.items) same g.at;
        left = λ ls h. subst (λ (z : List (CoreStep M)). HasKept i limit horizon (core_of i limit z) (lists_of c.pending.items) ls) same (g.left ls (f.left ls h));
        floors = λ m h. subst (λ (z : List (CoreStep M)). IsFloor M (core_of i limit z) m) same (g.floors m (f.floors m h));
      }
