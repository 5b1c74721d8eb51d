-- Facts of a core after a schedule: where its clocks are, what waits and what is on its way.
use Rattle.fb_laws.proofs.lemmas.Common.{◌≡◌, ℕ, zero, suc, ◌+◌, ◌<◌, ◌≤◌, ◌⊎◌, max, Option, Some, None, List, [], ◌∷◌, refl, sym, ap, ◌∙◌, subst, inl, inr, ⊎_elim, arith, cases_lt, Key, found, or_else, Machine, Item, Local, waiting, end, sent_by, Member, Core, IsFloor, clock_after, exchanged, floor_of, IsLeastStop, after, Chain, IsLawful, World, view, Loan, IsLegalLoan, after_loan}
use Rattle.fb_types.proofs.Common.{IsLegal}
use Rattle.fb_types.proofs.lemmas.lists.Lookups.{none_some, none_since, option_cases, or_else_some, or_else_parts, or_else_nones, found-append}
use Rattle.fb_laws.proofs.lemmas.resources.Chains.{agree_waiting}
use Rattle.fb_laws.proofs.lemmas.resources.Families.{start}
use Rattle.fb_laws.proofs.lemmas.takings.NoLesserTick.{Late, takes_fair, takes_late, late_after, end_late}
use Rattle.fb_laws.proofs.lemmas.resources.Stops.{HasStop}
use Rattle.fb_laws.proofs.lemmas.resources.RunSteps.{Stopped, run_ends}
use Rattle.fb_laws.proofs.lemmas.schedules.Keeps.{done_of, limit_of, passed, limit, mail, seat_floor, Inv, Moved, moved, floor_live}

floor_at_stop : {R : Type 0} (stop : Option R) (reason : R) (clock m : ℕ) → stop ≡ Some reason → floor_of stop clock m ≡ clock
floor_at_stop stop reason clock m e = ap (λ z. floor_of z clock m) e

clock_done : {R : Type 0} (stop : Option R) (clock : ℕ) → clock ≤ done_of stop clock
clock_done None clock = omega arith
clock_done (Some reason) clock = omega arith

module _ (M : Machine) where
  -- nothing waits before the stop of a chain
  stop_late : IsLawful M → (r : ℕ) (is : List (Item M)) (l : Local M) (j : Key) (q : M.Reason) → Chain M r l is → HasStop M is j q → Late M r j.tick (end M l is)
  stop_late law r [] l j q c h = absurd h
  stop_late law r (i ∷ is) l j q c h =
      ⊎_elim
      (λ s. let late : Late M r i.key.tick (end M (after M l i) is) =
      end_late M law r i.key.tick is (after M l i) (late_after M r i.key.tick l i (takes_fair M law r l i c.0) (omega arith) (takes_late M r l i c.0)) c.1 in
      subst (λ (z : Key). Late M r z.tick (end M (after M l i) is)) s.0 late)
      (λ s. stop_late law r is (after M l i) j q c.1 s)
      h

  -- A message under a key is from this resource, and arrives as its link says.
  pub record IsSentBy (r : ℕ) (k : Key) : Type 0 where
    pub sent : ℕ
    pub arrives : M.Arrives k sent
    pub sender : M.sender k ≡ r

  -- what a chain sends
  pub chain_sends : IsLawful M → (r : ℕ) (is : List (Item M)) (l : Local M) → Chain M r l is → (k : Key) (e : M.Event) → found k (sent_by M is) ≡ Some e → IsSentBy r k
  chain_sends law r [] l c k e h = absurd (none_some _ _ refl h)
  chain_sends law r (i ∷ is) l c k e h =
      let f = takes_fair M law r l i c.0 in
      ⊎_elim
      (λ s. chain_sends law r is (after M l i) c.1 k e s)
      (λ s. record { sent = i.key.tick; arrives = f.sent_arrives k e s; sender = f.sent_own k e s })
      (or_else_some (found k (sent_by M is)) (found k i.out.sent) e (sym (found-append k i.out.sent (sent_by M is)) ∙ h))

  module _ (law : IsLawful M) (horizon : ℕ) (w : World M) (c : Core M) (runs : ℕ → List (Item M)) (v : Inv M horizon w c runs) where
    -- ---- Clocks

    pub clock_limit : (r : ℕ) → (c r).out ≡ None → (c r).clock ≤ limit M (c r)
    clock_limit r home =
        let e : limit M (c r) ≡ passed M (c r) = ap (λ z. limit_of z (passed M (c r))) home in
        let b : (c r).clock ≤ passed M (c r) = clock_done (c r).state.stop (c r).clock in
        omega arith

    pub clock_in_range : (r : ℕ) → (c r).out ≡ None → (c r).clock ≤ horizon
    clock_in_range r home = let b = clock_limit r home in let d = v.range r in omega arith

    -- the clock of a resource that has stopped is below the horizon
    pub stop_in_range : (r : ℕ) (reason : M.Reason) → (c r).out ≡ None → (c r).state.stop ≡ Some reason → (c r).clock < horizon
    stop_in_range r reason home stop =
        let e : limit M (c r) ≡ passed M (c r) = ap (λ z. limit_of z (passed M (c r))) home in
        let f : passed M (c r) ≡ (c r).clock + 1 = ap (λ z. done_of z (c r).clock) stop in
        let d = v.range r in
        omega arith

    -- A resource that is at home may stay at its clock.
    pub clock_legal : (r : ℕ) → (c r).out ≡ None → IsLegal M c r (c r).clock
    clock_legal r home =
        let b = clock_limit r home in
        record {
          m = v.m;
          is_floor = v.is_floor;
          outboxes = λ s k e h. v.posted s k (subst (λ (z : ℕ). k.tick < limit M (c z)) (sym e) (omega arith));
          links = λ k u a e h.
              let g : limit M (c k.resource) ≤ k.tick = v.links k u a h in
              let f : limit M (c k.resource) ≡ limit M (c r) = ap (λ z. limit M (c z)) e in
              omega arith;
        }

    -- ---- What waits

    -- nothing waits for a resource below its clock
    pub rests_below : (r : ℕ) (k : Key) → k.resource ≡ r → k.tick < (c r).clock → waiting M (c r).state k ≡ None
    rests_below r k e b =
        let a = v.each r in
        ⊎_elim
        (λ n. a.rests n k e b)
        (λ q. let s = a.stopped q.0 q.1 in
        let late = stop_late law r (runs r) (start M (view M w r) (mail M v.sent)) s.key q.0 a.chain s.has in
        let at : s.key.tick ≡ (c r).clock = s.tick_is in
        agree_waiting M r (k.tick + 1) (c r).state (end M (start M (view M w r) (mail M v.sent)) (runs r)) (a.state (k.tick + 1)) k e (omega arith) ∙ late k e (omega arith))
        (option_cases (c r).state.stop)

    -- ---- What is on its way

    -- What is in an outbox is from that resource,
    pub outbox_sends : (s : ℕ) (k : Key) (e : M.Event) → found k (c s).outbox ≡ Some e → IsSentBy s k
    outbox_sends s k e h =
        let a = v.each s in
        let whole : found k (sent_by M (runs s)) ≡ Some e =
        ap (λ z. found k z) a.split ∙ found-append k (v.sent s) (c s).outbox ∙ ap (λ o. or_else o (found k (v.sent s))) h in
        chain_sends law s (runs s) (start M (view M w s) (mail M v.sent)) a.chain k e whole

    -- and arrives at the clock of its receiver or later, or after its stop.
    pub arrives_late : (s : ℕ) (k : Key) (e : M.Event) → (c k.resource).out ≡ None → found k (c s).outbox ≡ Some e → done_of (c k.resource).state.stop (c k.resource).clock ≤ k.tick
    arrives_late s k e home h =
        let f : limit M (c k.resource) ≡ passed M (c k.resource) = ap (λ z. limit_of z (passed M (c k.resource))) home in
        ⊎_elim (λ b. absurd (none_some _ _ (v.posted s k b) h)) (λ b. omega arith) (cases_lt k.tick (limit M (c k.resource)))

    pub arrives_at_clock : (s : ℕ) (k : Key) (e : M.Event) → (c k.resource).out ≡ None → found k (c s).outbox ≡ Some e → (c k.resource).clock ≤ k.tick
    arrives_at_clock s k e home h =
        let a = arrives_late s k e home h in
        let b = clock_done (c k.resource).state.stop (c k.resource).clock in
        omega arith

    -- Once the messages are exchanged, nothing comes before the least clock.
    pub exchanged_floor : (count tick : ℕ) → ((k : Key) (sent : ℕ) → M.Arrives k sent → k.resource < count) → ((r : ℕ) → (c r).out ≡ None)
        → ((r : ℕ) → count ≤ r → (k : Key) → k.resource ≡ r → waiting M (c r).state k ≡ None)
        → ((r : ℕ) → r < count → tick ≤ (c r).clock) → IsFloor M (exchanged M c) tick
    exchanged_floor count tick counted home quiet clocks s k b =
        (λ e. let p = or_else_parts ((c s).state.own k) ((c s).state.inbox k) (waits e) in or_else_nones _ _ p.0 (or_else_nones _ _ (comes e) p.1), refl)
      where
        waits : k.resource ≡ s → waiting M (c s).state k ≡ None
        waits e = ⊎_elim (λ h. let d = clocks s h in rests_below s k e (omega arith)) (λ h. quiet s h k e) (cases_lt s count)

        comes : k.resource ≡ s → found k (c (M.sender k)).outbox ≡ None
        comes e = none_since _ (λ x h.
            let sent = outbox_sends (M.sender k) k x h in
            let d : k.resource < count = counted k sent.sent sent.arrives in
            let f : tick ≤ (c k.resource).clock = clocks k.resource d in
            let g = arrives_at_clock (M.sender k) k x (home k.resource) h in
            omega arith)

    -- ---- Loans

    -- What a loan to a bound does to the clock, where no event comes before m.
    pub record HasReturned (m bound : ℕ) (s : Member M) : Type 0 where
      pub home : s.out ≡ None
      pub live : s.state.stop ≡ None → s.clock ≡ bound
      pub stopped : (reason : M.Reason) → s.state.stop ≡ Some reason → (m ≤ s.clock) × (s.clock < bound)

    pub has_returned : (m r : ℕ) (t : Loan M) → IsFloor M c m → IsLegalLoan M horizon c r t → HasReturned m t.bound (after_loan M (c r) (Some t))
    has_returned m r t floor may = record {
      home = refl;
      live = λ n. ⊎_elim (λ h. h.1) (λ h. absurd (none_some _ _ n h.stop)) ends;
      stopped = λ q e.
          let a : seat_floor M m (c r) ≡ max (c r).clock m = floor_live M (c r).state.stop (c r).clock m may.lend.live in
          let b : seat_floor M m s ≡ s.clock = floor_at_stop s.state.stop q s.clock m e in
          let f = mv.floor_more in
          (omega arith, ⊎_elim (λ h. absurd (none_some _ _ h.0 e)) (λ h. let u : h.tick < t.bound = h.under t.bound may.run.below in let k : s.clock ≡ h.tick = h.clock t.bound in omega arith) ends);
    }
      where
        out : Member M
        out = record (c r) { out = Some (t.worker, t.bound) }

        s : Member M
        s = after_loan M (c r) (Some t)

        ends : ((end M (c r).state t.run).stop ≡ None × (clock_after M t.bound t.run ≡ t.bound)) ⊎ Stopped M (c r).state t.run
        ends = run_ends M law r t.bound t.run (c r).state may.run.chain may.lend.live

        mv : Moved M m r t.bound out t.run s
        mv = moved M law m r t.bound t.worker out t.run may.lend.live may.lend.not_back refl (v.each r).rests (λ k b e. (floor r k b).0 e) may.run

-- ---- The least stop

module _ (M : Machine) where
  -- of the first n resources the first with the least clock, which is before the tick
  record IsLow (tick : ℕ) (c : Core M) (n : ℕ) : Type 0 where
    number : ℕ
    below : number < n
    low : (c number).clock < tick
    least : (q : ℕ) → q < n → ((c number).clock < (c q).clock) ⊎ (((c number).clock ≡ (c q).clock) × (number ≤ q))

  -- If the clock of each that has not stopped is at the tick: either all clocks are, or there is the least stop.
  pub rises_or_stops : (count tick : ℕ) (c : Core M) → ((r : ℕ) → r < count → (c r).state.stop ≡ None → tick ≤ (c r).clock)
      → ((r : ℕ) → count ≤ r → (c r).state.stop ≡ None)
      → ((r : ℕ) → r < count → tick ≤ (c r).clock) ⊎ ((s : ℕ) × (reason : M.Reason) × IsLeastStop M count c s reason)
  rises_or_stops count tick c live others =
      ⊎_elim (λ h. inl h) (λ f. inr (stops f)) (look count)
    where
      alone : (n : ℕ) → ((r : ℕ) → r < n → tick ≤ (c r).clock) → (c n).clock < tick → IsLow tick c (suc n)
      alone n high low = record {
        number = n;
        below = omega arith;
        low = low;
        least = λ q b. ⊎_elim (λ l. inl (let h : tick ≤ (c q).clock = high q l in omega arith)) (λ l. let e : n ≡ q = omega arith in inr (ap (λ z. (c z).clock) e, omega arith)) (cases_lt q n);
      }

      lower : (n : ℕ) (f : IsLow tick c n) → (c n).clock < (c f.number).clock → IsLow tick c (suc n)
      lower n f b = record {
        number = n;
        below = omega arith;
        low = let h = f.low in omega arith;
        least = λ q d. ⊎_elim
            (λ l. inl (⊎_elim (λ h. omega arith) (λ h. let e = h.0 in omega arith) (f.least q l)))
            (λ l. let e : n ≡ q = omega arith in inr (ap (λ z. (c z).clock) e, omega arith)) (cases_lt q n);
      }

      same : (n : ℕ) (f : IsLow tick c n) → (c f.number).clock ≤ (c n).clock → IsLow tick c (suc n)
      same n f b = record {
        number = f.number;
        below = let h = f.below in omega arith;
        low = f.low;
        least = λ q d. ⊎_elim (λ l. f.least q l)
            (λ l. let e : n ≡ q = omega arith in let g : (c n).clock ≡ (c q).clock = ap (λ z. (c z).clock) e in let h = f.below in
            ⊎_elim (λ (k : (c f.number).clock < (c n).clock). inl (omega arith)) (λ (k : (c n).clock ≤ (c f.number).clock). inr (omega arith, omega arith)) (cases_lt (c f.number).clock (c n).clock))
            (cases_lt q n);
      }

      look : (n : ℕ) → ((r : ℕ) → r < n → tick ≤ (c r).clock) ⊎ IsLow tick c n
      look zero = inl (λ r h. absurd (omega arith))
      look (suc n) =
          ⊎_elim
          (λ high. ⊎_elim
          (λ (low : (c n).clock < tick). inr (alone n high low))
          (λ (h : tick ≤ (c n).clock). inl (λ r b. ⊎_elim (λ l. high r l) (λ l. let e : n ≡ r = omega arith in subst (λ (z : ℕ). tick ≤ (c z).clock) e h) (cases_lt r n)))
          (cases_lt (c n).clock tick))
          (λ f. inr (⊎_elim (λ b. lower n f b) (λ b. same n f b) (cases_lt (c n).clock (c f.number).clock)))
          (look n)

      stops : IsLow tick c count → (s : ℕ) × (reason : M.Reason) × IsLeastStop M count c s reason
      stops f =
          let low = f.low in
          ⊎_elim
          (λ e. absurd (let d : tick ≤ (c f.number).clock = live f.number f.below e in omega arith))
          (λ q. (
            f.number,
            q.0,
            record {
              counted = f.below;
              stopped = q.1;
              least = λ p other e. ⊎_elim (λ b. f.least p b) (λ b. absurd (none_some _ _ (others p b) e)) (cases_lt p count);
              passed = λ p b e. let d : tick ≤ (c p).clock = live p b e in omega arith;
            },
          ))
          (option_cases (c f.number).state.stop)
