-- The steps of a phase may come in every order, and all orders lead to one core.
use Rattle.fb_laws.proofs.lemmas.Common.{◌≡◌, ℕ, ◌≤◌, refl, sym, ap, ◌∙◌, subst, ⊎_elim, List, [], ◌∷◌, Option, Some, None, cases_eq, eq-eqb, ne_eqb, with_at, Machine, Item, Run, Member, Core, CoreStep, Lend, Give, Exchange, returned, IsSchedule, core_after, IsLawful, World, Loan, IsLegalLoan, after_loan}
use Rattle.fb_types.proofs.Common.{IsLegal}
use Rattle.fb_types.specs.Cores.{MayLend, MayGive}
use Rattle.fb_types.specs.Schedules.{taken_by}
use Rattle.fb_laws.proofs.lemmas.resources.Global.{with_at_same, with_at_other}
use Rattle.fb_laws.proofs.lemmas.schedules.Lines.{filter_in, filter_out}
use Rattle.fb_laws.specs.Phases.{is_step_of, steps_of, loan_steps, IsPhase, IsOrderFree}
use Rattle.fb_laws.proofs.lemmas.schedules.Keeps.{Inv, inv_step}
use Rattle.fb_laws.proofs.lemmas.schedules.Phase.{legal_lend, legal_give}

module _ (M : Machine) (horizon : ℕ) where
  -- the steps that a resource still has to do may be done
  abbrev Waits : Core M → ℕ → List (CoreStep M) → Type 0
  Waits d r [] = Unit {0}
  Waits d r (Lend worker q bound ∷ ss) = (q ≡ r) × MayLend M horizon d r bound × ((run : List (Item M)) × (ss ≡ Give worker r run ∷ []) × Run M r (d r).state bound run)
  Waits d r (Give worker q run ∷ ss) = (q ≡ r) × MayGive M d worker r run × (ss ≡ [])
  Waits d r (Exchange ∷ ss) = ⊥

  -- what a member is after its steps
  abbrev after_steps : Member M → List (CoreStep M) → Member M
  after_steps s [] = s
  after_steps s (Lend worker q bound ∷ ss) = after_steps (record s { out = Some (worker, bound) }) ss
  after_steps s (Give worker q run ∷ ss) = after_steps (returned M s run) ss
  after_steps s (Exchange ∷ ss) = after_steps s ss

  lend_kept : (d e : Core M) (r bound : ℕ) → e r ≡ d r → (IsLegal M d r bound → IsLegal M e r bound) → MayLend M horizon d r bound → MayLend M horizon e r bound
  lend_kept d e r bound same legal x = record {
    home = ap (λ s. s.out) same ∙ x.home;
    live = ap (λ s. s.state.stop) same ∙ x.live;
    legal = legal x.legal;
    not_back = subst (λ (s : Member M). s.clock ≤ bound) (sym same) x.not_back;
    in_range = x.in_range;
  }

  run_kept : (d e : Core M) (r bound : ℕ) (run : List (Item M)) → e r ≡ d r → Run M r (d r).state bound run → Run M r (e r).state bound run
  run_kept d e r bound run same x = subst (λ (s : Member M). Run M r s.state bound run) (sym same) x

  give_kept : (d e : Core M) (worker r : ℕ) (run : List (Item M)) → e r ≡ d r → MayGive M d worker r run → MayGive M e worker r run
  give_kept d e worker r run same x = record { bound = x.bound; is_out = ap (λ s. s.out) same ∙ x.is_out; run = run_kept d e r x.bound run same x.run }

  waits_kept : (d e : Core M) (r : ℕ) (ss : List (CoreStep M)) → e r ≡ d r → ((bound : ℕ) → IsLegal M d r bound → IsLegal M e r bound) → Waits d r ss → Waits e r ss
  waits_kept d e r [] same legal x = tt
  waits_kept d e r (Lend worker q bound ∷ ss) same legal x =
      (x.0, lend_kept d e r bound same (legal bound) x.1, (x.2.0, x.2.1, run_kept d e r bound x.2.0 same x.2.2))
  waits_kept d e r (Give worker q run ∷ ss) same legal x = (x.0, give_kept d e worker r run same x.1, x.2)
  waits_kept d e r (Exchange ∷ ss) same legal x = x

  lend_here : (worker q bound r : ℕ) (es : List (CoreStep M)) → q ≡ r → steps_of M r (Lend worker q bound ∷ es) ≡ Lend worker q bound ∷ steps_of M r es
  lend_here worker q bound r es e = filter_in (is_step_of M r) (Lend worker q bound) es (eq-eqb q r e)

  lend_away : (worker q bound r : ℕ) (es : List (CoreStep M)) → (q ≡ r → ⊥) → steps_of M r (Lend worker q bound ∷ es) ≡ steps_of M r es
  lend_away worker q bound r es n = filter_out (is_step_of M r) (Lend worker q bound) es (ne_eqb q r n)

  give_here : (worker q r : ℕ) (run : List (Item M)) (es : List (CoreStep M)) → q ≡ r → steps_of M r (Give worker q run ∷ es) ≡ Give worker q run ∷ steps_of M r es
  give_here worker q r run es e = filter_in (is_step_of M r) (Give worker q run) es (eq-eqb q r e)

  give_away : (worker q r : ℕ) (run : List (Item M)) (es : List (CoreStep M)) → (q ≡ r → ⊥) → steps_of M r (Give worker q run ∷ es) ≡ steps_of M r es
  give_away worker q r run es n = filter_out (is_step_of M r) (Give worker q run) es (ne_eqb q r n)

  record Ordered (d : Core M) (es : List (CoreStep M)) : Type 0 where
    schedule : IsSchedule M horizon d es
    comes_to : (r : ℕ) → core_after M d es r ≡ after_steps (d r) (steps_of M r es)

  -- a step at q, if the rest is in order
  module _ (d : Core M) (q : ℕ) (s : Member M) (es : List (CoreStep M)) where
    abbrev new : Core M
    new = with_at q s d

    comes : (e : CoreStep M) → (core : (r : ℕ) → core_after M new es r ≡ after_steps (new r) (steps_of M r es))
        → (here : steps_of M q (e ∷ es) ≡ e ∷ steps_of M q es) → (after_steps (d q) (e ∷ steps_of M q es) ≡ after_steps s (steps_of M q es))
        → ((r : ℕ) → (q ≡ r → ⊥) → steps_of M r (e ∷ es) ≡ steps_of M r es)
        → (r : ℕ) → core_after M new es r ≡ after_steps (d r) (steps_of M r (e ∷ es))
    comes e core here same away r =
        ⊎_elim
        (λ (f : q ≡ r). subst (λ (z : ℕ). core_after M new es z ≡ after_steps (d z) (steps_of M z (e ∷ es))) f
        (core q ∙ ap (λ z. after_steps z (steps_of M q es)) (with_at_same q s d q refl) ∙ sym same ∙ sym (ap (λ z. after_steps (d q) z) here)))
        (λ (n : q ≡ r → ⊥). core r ∙ ap (λ z. after_steps z (steps_of M r es)) (with_at_other q s d r (λ f. n (sym f))) ∙ sym (ap (λ z. after_steps (d r) z) (away r n)))
        (cases_eq q r)

    stay : (e : CoreStep M) → ((r : ℕ) → Waits d r (steps_of M r (e ∷ es))) → Waits new q (steps_of M q es)
        → ((r : ℕ) → (q ≡ r → ⊥) → steps_of M r (e ∷ es) ≡ steps_of M r es)
        → ((r bound : ℕ) → IsLegal M d r bound → IsLegal M new r bound)
        → (r : ℕ) → Waits new r (steps_of M r es)
    stay e waits mine away legal r =
        ⊎_elim
        (λ (f : q ≡ r). subst (λ (z : ℕ). Waits new z (steps_of M z es)) f mine)
        (λ (n : q ≡ r → ⊥). waits_kept d new r (steps_of M r es) (with_at_other q s d r (λ f. n (sym f))) (legal r) (subst (λ (ss : List (CoreStep M)). Waits d r ss) (away r n) (waits r)))
        (cases_eq q r)

  module _ (law : IsLawful M) (w : World M) where
    ordered : (es : List (CoreStep M)) (d : Core M) (runs : ℕ → List (Item M)) → Inv M horizon w d runs → ((r : ℕ) → Waits d r (steps_of M r es)) → Ordered d es
    ordered [] d runs v waits = record { schedule = tt; comes_to = λ r. refl }
    ordered (Lend worker q bound ∷ es) d runs v waits =
        let e : CoreStep M = Lend worker q bound in
        let s : Member M = record (d q) { out = Some (worker, bound) } in
        let mine : Waits d q (Lend worker q bound ∷ steps_of M q es) = subst (λ (ss : List (CoreStep M)). Waits d q ss) (lend_here worker q bound q es refl) (waits q) in
        let may : MayLend M horizon d q bound = mine.1 in
        let back : MayGive M (with_at q s d) worker q mine.2.0 = record {
          bound = bound;
          is_out = ap (λ z. z.out) (with_at_same q s d q refl);
          run = subst (λ (z : Member M). Run M q z.state bound mine.2.0) (sym (with_at_same q s d q refl)) mine.2.2;
        } in
        let next : Waits (with_at q s d) q (steps_of M q es) = subst (λ (ss : List (CoreStep M)). Waits (with_at q s d) q ss) (sym mine.2.1) (refl, back, refl) in
        let y : Ordered (with_at q s d) es = ordered es (with_at q s d) (taken_by M runs e) (inv_step M law w horizon d runs e v may)
        (stay d q s es e waits next (λ r n. lend_away worker q bound r es n) (λ r b x. legal_lend M d r b worker q bound x)) in
        record {
          schedule = (may, y.schedule);
          comes_to = comes d q s es e y.comes_to (lend_here worker q bound q es refl) refl (λ r n. lend_away worker q bound r es n);
        }
    ordered (Give worker q run ∷ es) d runs v waits =
        let e : CoreStep M = Give worker q run in
        let s : Member M = returned M (d q) run in
        let mine : Waits d q (Give worker q run ∷ steps_of M q es) = subst (λ (ss : List (CoreStep M)). Waits d q ss) (give_here worker q q run es refl) (waits q) in
        let may : MayGive M d worker q run = mine.1 in
        let next : Waits (with_at q s d) q (steps_of M q es) = subst (λ (ss : List (CoreStep M)). Waits (with_at q s d) q ss) (sym mine.2) tt in
        let y : Ordered (with_at q s d) es = ordered es (with_at q s d) (taken_by M runs e) (inv_step M law w horizon d runs e v may)
        (stay d q s es e waits next (λ r n. give_away worker q r run es n) (λ r b x. legal_give M law horizon w d runs r b worker q run v may x)) in
        record {
          schedule = (may, y.schedule);
          comes_to = comes d q s es e y.comes_to (give_here worker q q run es refl) refl (λ r n. give_away worker q r run es n);
        }
    ordered (Exchange ∷ es) d runs v waits = absurd (waits 0)

    loans_wait : (d : Core M) (r : ℕ) (o : Option (Loan M)) → ((t : Loan M) → o ≡ Some t → IsLegalLoan M horizon d r t) → Waits d r (loan_steps M r o)
    loans_wait d r None may = tt
    loans_wait d r (Some t) may = let x = may t refl in (refl, x.lend, (t.run, refl, x.run))

    after_loan_is : (s : Member M) (r : ℕ) (o : Option (Loan M)) → after_steps s (loan_steps M r o) ≡ after_loan M s o
    after_loan_is s r None = refl
    after_loan_is s r (Some t) = refl

    pub order_free : (d : Core M) (runs : ℕ → List (Item M)) → Inv M horizon w d runs → (loans : ℕ → Option (Loan M)) (es : List (CoreStep M))
        → ((r : ℕ) (t : Loan M) → loans r ≡ Some t → IsLegalLoan M horizon d r t) → IsPhase M loans es → IsOrderFree M horizon d loans es
    order_free d runs v loans es may phase =
        let y = ordered es d runs v (λ r. subst (λ (ss : List (CoreStep M)). Waits d r ss) (sym (phase r)) (loans_wait d r (loans r) (may r))) in
        record {
          schedule = y.schedule;
          comes_to = λ r. y.comes_to r ∙ ap (λ z. after_steps (d r) z) (phase r) ∙ after_loan_is (d r) r (loans r);
        }
