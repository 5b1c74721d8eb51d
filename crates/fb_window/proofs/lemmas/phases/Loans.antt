-- The loans of a phase, as they are found when all have come home.
use Rattle.fb_window.proofs.lemmas.Common.{◌≡◌, ℕ, ◌<◌, ◌≤◌, ◌⊎◌, Option, Some, None, List, [], ◌++◌, map, refl, sym, ap, ◌∙◌, subst, inl, inr, ⊎_elim, arith, All, append-nil, Vec, slice_index_or, cases_lt, All-nil, Inputs, system_of, Core, Machine, Item, line_of, machine, count_of, Line, Message, Reason, IsMessage, arriving, IsOf, Resource, AreHome, Loan, after_loan, AreLegal, IsAt, Sits, Home}
use Rattle.fb_types.proofs.Common.{IsLegal, Run, sent_by}
use Rattle.fb_types.proofs.lemmas.lists.Lookups.{none_some, option_cases}
use Rattle.fb_resource.specs.Resources.{Represents, RanTo}
use Rattle.fb_window.specs.Homes.{HasCome, IsHomeAt}
use Rattle.fb_laws.specs.Phases.{IsLegalLoan}
use Rattle.fb_window.specs.Settling.{AreLoans}

module _ (i : Inputs) (limit horizon : ℕ) (c : Core (machine (system_of i) limit)) where
  abbrev M : Machine
  M = machine (system_of i) limit

  -- What came home is what the member is after its loan, if it had one.
  pub record IsBack (r bound worker : ℕ) (x : Resource) (kept : List Line) (y : Resource) (lines : List Line) (sent : List Message) (loan : Option (Loan (machine (system_of i) limit))) : Type 0 where
    pub live : x.stopped ≡ None → (run : List (Item (machine (system_of i) limit))) × (loan ≡ Some (record { worker = worker; bound = bound; run = run }))
    pub stopped : (reason : Reason) → x.stopped ≡ Some reason → loan ≡ None
    pub may : (t : Loan (machine (system_of i) limit)) → loan ≡ Some t → IsLegalLoan (machine (system_of i) limit) horizon c r t
    pub number : y.tree.resource ≡ r
    pub of : IsOf i y
    pub state : Represents i limit (after_loan (machine (system_of i) limit) (c r) loan).state y
    pub clock : (after_loan (machine (system_of i) limit) (c r) loan).clock ≡ y.clock
    pub home : (after_loan (machine (system_of i) limit) (c r) loan).out ≡ None
    pub posted : (after_loan (machine (system_of i) limit) (c r) loan).outbox ≡ map (arriving i) sent
    pub messages : All (IsMessage i) sent
    pub more : List Line
    pub said : lines ≡ kept ++ more
    pub named : (after_loan (machine (system_of i) limit) (c r) loan).lines ≡ (c r).lines ++ map (line_of (system_of i)) more

  -- a bound with which it may leave
  pub record MayLeaveWith (r bound : ℕ) : Type 0 where
    pub legal : IsLegal (machine (system_of i) limit) c r bound
    pub not_back : (c r).clock ≤ bound
    pub in_range : bound ≤ horizon

  record Came (r bound worker : ℕ) (x : Resource) (kept : List Line) (y : Resource) (lines : List Line) (sent : List Message) : Type 0 where
    loan : Option (Loan (machine (system_of i) limit))
    is_back : IsBack r bound worker x kept y lines sent loan

  came_back : (r bound worker : ℕ) (x : Resource) (kept : List Line) (y : Resource) (lines : List Line) (sent : Vec Message)
      → Sits i limit (c r) r x → (x.stopped ≡ None → MayLeaveWith r bound) → HasCome i limit bound x kept y lines sent → Came r bound worker x kept y lines sent.items
  came_back r bound worker x kept y lines sent sits may come = ⊎_elim ran rested (option_cases x.stopped)
    where
      ran : x.stopped ≡ None → Came r bound worker x kept y lines sent.items
      ran e =
          let h = come.ran e in
          let done = h.2 in
          let it : RanTo i limit (c r).state bound y h.0.items sent.items = done.5 (c r).state sits.state in
          let leave = may e in
          let number : y.tree.resource ≡ r = done.1 ∙ sits.number in
          let run : Run M r (c r).state bound it.items = subst (λ (n : ℕ). Run M n (c r).state bound it.items) number it.run in
          let t : Loan M = record { worker = worker; bound = bound; run = it.items } in
          let is_legal : IsLegalLoan M horizon c r t = record {
            lend = record { home = sits.home; live = sits.state.stop ∙ e; legal = leave.legal; not_back = leave.not_back; in_range = leave.in_range };
            run = run;
          } in
          record {
            loan = Some t;
            is_back = record {
              live = λ q. (it.items, refl);
              stopped = λ reason q. absurd (none_some _ _ e q);
              may = λ u q. let f : t ≡ u = cc in subst (λ (v : Loan M). IsLegalLoan M horizon c r v) f is_legal;
              number = number;
              of = done.0;
              state = it.represents;
              clock = sym it.clock;
              home = refl;
              posted = ap (λ z. z ++ sent_by M it.items) sits.posted ∙ sym it.sent;
              messages = done.3;
              more = h.0.items;
              said = h.3;
              named = ap (λ z. (c r).lines ++ z) (sym it.lines);
            };
          }

      rested : (reason : Reason) × (x.stopped ≡ Some reason) → Came r bound worker x kept y lines sent.items
      rested q =
          let h = come.rested q.0 q.1 in
          let same : x ≡ y = sym h.0 in
          record {
            loan = None;
            is_back = record {
              live = λ e. absurd (none_some _ _ e q.1);
              stopped = λ reason e. refl;
              may = λ u e. absurd (let f : None ≡ Some u = e in cc);
              number = ap (λ (z : Resource). z.tree.resource) h.0 ∙ sits.number;
              of = subst (λ (z : Resource). IsOf i z) same sits.of;
              state = subst (λ (z : Resource). Represents i limit (c r).state z) same sits.state;
              clock = sits.clock ∙ ap (λ (z : Resource). z.clock) same;
              home = sits.home;
              posted = sits.posted ∙ ap (λ z. map (arriving i) z) (sym h.2);
              messages = subst (λ (z : List Message). All (IsMessage i) z) (sym h.2) (All-nil (IsMessage i));
              more = [];
              said = h.1 ∙ sym (append-nil kept);
              named = sym (append-nil (c r).lines);
            };
          }

  -- What came home at an index.
  pub record IsBackAt (bounds : List ℕ) (workers : ℕ → ℕ) (xs : List Resource) (lists : List (Vec Line)) (h : Home) (r : ℕ) (loan : Option (Loan (machine (system_of i) limit))) : Type 0 where
    pub at : IsHomeAt i limit bounds xs lists r h
    pub back : IsBack r (slice_index_or bounds r 0) (workers r) at.old at.kept.items at.new at.lines.items at.sent.items loan

  -- All of it, with the loans.
  pub record AreBack (bounds : List ℕ) (workers : ℕ → ℕ) (xs : List Resource) (lists : List (Vec Line)) (h : Home) : Type 0 where
    pub loans : ℕ → Option (Loan (machine (system_of i) limit))
    pub each : (r : ℕ) → r < count_of (system_of i) → IsBackAt bounds workers xs lists h r (loans r)
    pub others : (r : ℕ) → count_of (system_of i) ≤ r → loans r ≡ None

  pub are_back : (bounds : List ℕ) (workers : ℕ → ℕ) (xs : List Resource) (lists : List (Vec Line)) (h : Home)
      → IsAt i limit c xs → AreLegal i limit horizon c bounds → AreHome i limit bounds xs lists h → AreBack bounds workers xs lists h
  are_back bounds workers xs lists h at legal home = record {
    loans = λ r. loan_of r (cases_lt r (count_of (system_of i)));
    each = λ r b. here r b (cases_lt r (count_of (system_of i)));
    others = λ r b. none r b (cases_lt r (count_of (system_of i)));
  }
    where
      it : (r : ℕ) → r < count_of (system_of i) → IsHomeAt i limit bounds xs lists r h
      it r b = let n = at.counted in home.each r (omega arith)

      came : (r : ℕ) (b : r < count_of (system_of i)) → Came r (slice_index_or bounds r 0) (workers r) (it r b).old (it r b).kept.items (it r b).new (it r b).lines.items (it r b).sent.items
      came r b =
          let a = it r b in
          let sits = at.each r a.old a.old_at in
          came_back r (slice_index_or bounds r 0) (workers r) a.old a.kept.items a.new a.lines.items a.sent sits
          (λ e. let live = sits.state.stop ∙ e in record { legal = legal.legal r b live; not_back = legal.not_back r b live; in_range = legal.in_range r b live }) a.come

      loan_of : (r : ℕ) → (r < count_of (system_of i)) ⊎ (count_of (system_of i) ≤ r) → Option (Loan M)
      loan_of r (inl b) = (came r b).loan
      loan_of r (inr b) = None

      here : (r : ℕ) → r < count_of (system_of i) → (s : (r < count_of (system_of i)) ⊎ (count_of (system_of i) ≤ r)) → IsBackAt bounds workers xs lists h r (loan_of r s)
      here r b (inl l) = record { at = it r l; back = (came r l).is_back }
      here r b (inr l) = absurd (omega arith)

      none : (r : ℕ) → count_of (system_of i) ≤ r → (s : (r < count_of (system_of i)) ⊎ (count_of (system_of i) ≤ r)) → loan_of r s ≡ None
      none r b (inl l) = absurd (omega arith)
      none r b (inr l) = refl

  -- These are the loans of the phase.
  pub back_loans : (bounds : List ℕ) (workers : ℕ → ℕ) (xs : List Resource) (lists : List (Vec Line)) (h : Home)
      → IsAt i limit c xs → (b : AreBack bounds workers xs lists h) → AreLoans i limit horizon c bounds workers b.loans
  back_loans bounds workers xs lists h at b = record {
    live = λ r l e. let it = b.each r l in it.back.live (sym (at.each r it.at.old it.at.old_at).state.stop ∙ e);
    stopped = λ r reason e. ⊎_elim (λ l. let it = b.each r l in it.back.stopped reason (sym (at.each r it.at.old it.at.old_at).state.stop ∙ e)) (λ l. b.others r l) (cases_lt r (count_of (system_of i)));
    others = b.others;
    may = λ r t e. ⊎_elim (λ l. (b.each r l).back.may t e) (λ l. absurd (none_some _ _ (b.others r l) e)) (cases_lt r (count_of (system_of i)));
  }
