-- The least tick of all events rises while a run goes on.
use Rattle.fb_laws.proofs.lemmas.Common.{◌≡◌, ℕ, ◌+◌, ◌<◌, ◌≤◌, Option, Some, None, List, [], ◌∷◌, ◌++◌, sym, ap, ◌∙◌, subst, ⊎_elim, arith, Key, Machine, waiting, Member, Core, CoreStep, Exchange, IsFloor, exchanged, core_after, IsLeastStop, IsLawful, World, IsOpening, Loan, IsLegalLoan, after_loan}
use Rattle.fb_types.proofs.lemmas.lists.Lookups.{none_some, option_cases}
use Rattle.fb_laws.proofs.lemmas.schedules.Start.{opening}
use Rattle.fb_laws.proofs.lemmas.schedules.Keeps.{Inv}
use Rattle.fb_laws.proofs.lemmas.schedules.Reached.{inv_after, runs_after}
use Rattle.fb_laws.proofs.lemmas.schedules.AtHome.{has_returned, exchanged_floor, rises_or_stops}
use Rattle.fb_laws.proofs.lemmas.schedules.Phasing.{IsRound, after_loans}

module _ (M : Machine) where
  -- Each of the first resources that has not stopped has its loan to a bound past the tick, and no other resource has a
  -- loan or anything to do.
  pub record AreOver (count m : ℕ) (c : Core M) (loans : ℕ → Option (Loan M)) : Type 0 where
    pub over : (r : ℕ) → r < count → (c r).state.stop ≡ None → (t : Loan M) × (loans r ≡ Some t) × (m < t.bound)
    pub stopped : (r : ℕ) (reason : M.Reason) → (c r).state.stop ≡ Some reason → loans r ≡ None
    pub others : (r : ℕ) → count ≤ r → loans r ≡ None
    pub live : (r : ℕ) → count ≤ r → (c r).state.stop ≡ None
    pub quiet : (r : ℕ) → count ≤ r → (k : Key) → k.resource ≡ r → waiting M (c r).state k ≡ None

  stop_exchanged : (count : ℕ) (c : Core M) (s : ℕ) (reason : M.Reason) → IsLeastStop M count c s reason → IsLeastStop M count (exchanged M c) s reason
  stop_exchanged count c s reason x = record { counted = x.counted; stopped = x.stopped; least = x.least; passed = x.passed }

  pub rises : IsLawful M → (horizon count : ℕ) (w : World M) (es fs : List (CoreStep M)) (loans : ℕ → Option (Loan M)) → IsOpening M w
      → ((k : Key) (sent : ℕ) → M.Arrives k sent → k.resource < count)
      → (v : Inv M horizon w (core_after M (opening M w) es) (runs_after M es)) → IsRound M horizon (opening M w) es fs loans
      → ((r : ℕ) (t : Loan M) → loans r ≡ Some t → IsLegalLoan M horizon (core_after M (opening M w) es) r t)
      → (m : ℕ) → IsFloor M (core_after M (opening M w) es) m → AreOver count m (core_after M (opening M w) es) loans
      → ((s : ℕ) (reason : M.Reason) → IsLeastStop M count (core_after M (opening M w) (es ++ fs ++ Exchange ∷ [])) s reason → ⊥)
      → IsFloor M (core_after M (opening M w) (es ++ fs ++ Exchange ∷ [])) (m + 1)
  rises law horizon count w es fs loans opens counted v round may m floor over goes =
      subst (λ (z : Core M). IsFloor M z (m + 1)) (sym round.comes_to)
      (⊎_elim
      (λ clocks. exchanged_floor M law horizon w d (runs_after M (es ++ fs)) back count (m + 1) counted round.home
      (λ r b k e. ap (λ (s : Member M). waiting M s.state k) (rest r (over.others r b)) ∙ over.quiet r b k e) clocks)
      (λ s. absurd (goes s.0 s.1 (subst (λ (z : Core M). IsLeastStop M count z s.0 s.1) (sym round.comes_to) (stop_exchanged count d s.0 s.1 s.2))))
      (rises_or_stops M count (m + 1) d past (λ r b. ap (λ (s : Member M). s.state.stop) (rest r (over.others r b)) ∙ over.live r b)))
    where
      c : Core M
      c = core_after M (opening M w) es

      d : Core M
      d = after_loans M (core_after M (opening M w) es) loans

      back : Inv M horizon w d (runs_after M (es ++ fs))
      back = subst (λ (z : Core M). Inv M horizon w z (runs_after M (es ++ fs))) round.back_is (inv_after M law w horizon (es ++ fs) opens round.back)

      rest : (r : ℕ) → loans r ≡ None → d r ≡ c r
      rest r e = ap (λ o. after_loan M (c r) o) e

      past : (r : ℕ) → r < count → (d r).state.stop ≡ None → m + 1 ≤ (d r).clock
      past r b e =
          ⊎_elim
          (λ n. let t = over.over r b n in
          let same : d r ≡ after_loan M (c r) (Some t.0) = ap (λ o. after_loan M (c r) o) t.1 in
          let h = has_returned M law horizon w c (runs_after M es) v m r t.0 floor (may r t.0 t.1) in
          let at : (after_loan M (c r) (Some t.0)).clock ≡ t.0.bound = h.live (sym (ap (λ (s : Member M). s.state.stop) same) ∙ e) in
          let clock : (d r).clock ≡ (after_loan M (c r) (Some t.0)).clock = ap (λ (s : Member M). s.clock) same in
          let g : m < t.0.bound = t.2 in
          omega arith)
          (λ q. absurd (none_some _ _ e (ap (λ (s : Member M). s.state.stop) (rest r (over.stopped r q.0 q.1)) ∙ q.1)))
          (option_cases (c r).state.stop)
