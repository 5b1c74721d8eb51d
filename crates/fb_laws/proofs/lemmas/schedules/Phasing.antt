-- A phase and the exchange after it, after the steps before.
use Rattle.fb_laws.proofs.lemmas.Common.{◌≡◌, ℕ, zero, suc, ◌<◌, ◌≤◌, Option, Some, None, List, [], ◌∷◌, ◌++◌, refl, sym, ap, ◌∙◌, subst, ⊎_elim, arith, cases_lt, eq-eqb, ne_eqb, Machine, Item, Member, Core, CoreStep, Lend, Give, Exchange, exchanged, done, IsSchedule, core_after, IsLawful, World, Loan, IsLegalLoan, after_loan}
use Rattle.fb_laws.proofs.lemmas.schedules.Lines.{filter_joined, filter_in, filter_out}
use Rattle.fb_laws.specs.Phases.{is_step_of, steps_of, loan_steps, IsPhase, IsOrderFree}
use Rattle.fb_laws.proofs.lemmas.schedules.Keeps.{Inv}
use Rattle.fb_laws.proofs.lemmas.schedules.Orders.{order_free}

-- ---- Lists of steps

module _ (M : Machine) where
  pub schedule_append : (horizon : ℕ) (es fs : List (CoreStep M)) (c : Core M) → IsSchedule M horizon c es → IsSchedule M horizon (core_after M c es) fs → IsSchedule M horizon c (es ++ fs)
  schedule_append horizon [] fs c x y = y
  schedule_append horizon (e ∷ es) fs c x y = (x.0, schedule_append horizon es fs (done M c e) x.1 y)

  pub after_append : (es fs : List (CoreStep M)) (c : Core M) → core_after M c (es ++ fs) ≡ core_after M (core_after M c es) fs
  after_append [] fs c = refl
  after_append (e ∷ es) fs c = after_append es fs (done M c e)

  -- ---- There is a phase

  -- the loans of the numbers below this one, one after another
  abbrev pub phase_of : (ℕ → Option (Loan M)) → (count : ℕ) → List (CoreStep M)
  phase_of loans zero = []
  phase_of loans (suc n) = phase_of loans n ++ loan_steps M n (loans n)

  pub own_steps : (r : ℕ) (o : Option (Loan M)) → steps_of M r (loan_steps M r o) ≡ loan_steps M r o
  own_steps r None = refl
  own_steps r (Some t) =
      let e = eq-eqb r r refl in
      filter_in (is_step_of M r) (Lend t.worker r t.bound) (Give t.worker r t.run ∷ []) e
      ∙ ap (λ z. Lend t.worker r t.bound ∷ z) (filter_in (is_step_of M r) (Give t.worker r t.run) [] e)

  pub other_steps : (q r : ℕ) (o : Option (Loan M)) → (q ≡ r → ⊥) → steps_of M r (loan_steps M q o) ≡ []
  other_steps q r None n = refl
  other_steps q r (Some t) n =
      let e = ne_eqb q r n in
      filter_out (is_step_of M r) (Lend t.worker q t.bound) (Give t.worker q t.run ∷ []) e ∙ filter_out (is_step_of M r) (Give t.worker q t.run) [] e

  append_nil : {A : Type 0} (xs : List A) → xs ++ [] ≡ xs
  append_nil [] = refl
  append_nil (x ∷ xs) = ap (λ z. x ∷ z) (append_nil xs)

  steps_past : (loans : ℕ → Option (Loan M)) (n r : ℕ) → n ≤ r → steps_of M r (phase_of loans n) ≡ []
  steps_past loans zero r b = refl
  steps_past loans (suc n) r b =
      filter_joined (is_step_of M r) (phase_of loans n) (loan_steps M n (loans n))
      ∙ ap (λ z. z ++ steps_of M r (loan_steps M n (loans n))) (steps_past loans n r (omega arith))
      ∙ other_steps n r (loans n) (λ e. absurd (omega arith))

  steps_below : (loans : ℕ → Option (Loan M)) (n r : ℕ) → r < n → steps_of M r (phase_of loans n) ≡ loan_steps M r (loans r)
  steps_below loans zero r b = absurd (omega arith)
  steps_below loans (suc n) r b =
      filter_joined (is_step_of M r) (phase_of loans n) (loan_steps M n (loans n))
      ∙ ⊎_elim
      (λ l. ap (λ z. z ++ steps_of M r (loan_steps M n (loans n))) (steps_below loans n r l)
      ∙ ap (λ z. loan_steps M r (loans r) ++ z) (other_steps n r (loans n) (λ e. absurd (omega arith))) ∙ append_nil (loan_steps M r (loans r)))
      (λ l. let e : n ≡ r = omega arith in
      ap (λ z. z ++ steps_of M r (loan_steps M n (loans n))) (steps_past loans n r l)
      ∙ subst (λ (z : ℕ). steps_of M z (loan_steps M n (loans n)) ≡ loan_steps M z (loans z)) e (own_steps n (loans n)))
      (cases_lt r n)

  -- The loans one after another are a phase, if there are none past these numbers.
  pub is_phase : (loans : ℕ → Option (Loan M)) (count : ℕ) → ((r : ℕ) → count ≤ r → loans r ≡ None) → IsPhase M loans (phase_of loans count)
  is_phase loans count none r =
      ⊎_elim
      (λ b. steps_below loans count r b)
      (λ b. steps_past loans count r b ∙ sym (ap (λ z. loan_steps M r z) (none r b)))
      (cases_lt r count)

  -- ---- The core after it

  home_after_loan : (s : Member M) (o : Option (Loan M)) → s.out ≡ None → (after_loan M s o).out ≡ None
  home_after_loan s None e = e
  home_after_loan s (Some t) e = refl

  -- each resource after its loan
  abbrev pub after_loans : Core M → (ℕ → Option (Loan M)) → Core M
  after_loans c loans = λ r. after_loan M (c r) (loans r)

  -- After the steps `es` come those of the phase, and then the exchange.
  pub record IsRound (horizon : ℕ) (first : Core M) (es fs : List (CoreStep M)) (loans : ℕ → Option (Loan M)) : Type 0 where
    -- the resources back from their loans
    pub back : IsSchedule M horizon first (es ++ fs)
    pub back_is : core_after M first (es ++ fs) ≡ after_loans (core_after M first es) loans
    pub home : (r : ℕ) → (after_loans (core_after M first es) loans r).out ≡ None
    -- and their messages exchanged
    pub schedule : IsSchedule M horizon first (es ++ fs ++ Exchange ∷ [])
    pub comes_to : core_after M first (es ++ fs ++ Exchange ∷ []) ≡ exchanged M (after_loans (core_after M first es) loans)

  pub is_round : IsLawful M → (horizon : ℕ) (w : World M) (first : Core M) (es fs : List (CoreStep M)) (runs : ℕ → List (Item M)) (loans : ℕ → Option (Loan M))
      → IsSchedule M horizon first es → Inv M horizon w (core_after M first es) runs → ((r : ℕ) → (core_after M first es r).out ≡ None)
      → ((r : ℕ) (t : Loan M) → loans r ≡ Some t → IsLegalLoan M horizon (core_after M first es) r t) → IsPhase M loans fs → IsRound horizon first es fs loans
  is_round law horizon w first es fs runs loans sc v home may phase = record {
    back = back;
    back_is = back_is;
    home = all_home;
    schedule = schedule_append horizon (es ++ fs) (Exchange ∷ []) first back (subst (λ (d : Core M). (r : ℕ) → (d r).out ≡ None) (sym back_is) all_home, tt);
    comes_to = after_append (es ++ fs) (Exchange ∷ []) first ∙ ap (λ d. exchanged M d) back_is;
  }
    where
      c : Core M
      c = core_after M first es

      free : IsOrderFree M horizon (core_after M first es) loans fs
      free = order_free M horizon law w (core_after M first es) runs v loans fs may phase

      back : IsSchedule M horizon first (es ++ fs)
      back = schedule_append horizon es fs first sc free.schedule

      back_is : core_after M first (es ++ fs) ≡ after_loans (core_after M first es) loans
      back_is = after_append es fs first ∙ (λ i r. free.comes_to r i)

      all_home : (r : ℕ) → (after_loans (core_after M first es) loans r).out ≡ None
      all_home r = home_after_loan (core_after M first es r) (loans r) (home r)
