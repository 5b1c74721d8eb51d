-- What every schedule keeps.
use Rattle.fb_laws.proofs.lemmas.Common.{◌≡◌, ℕ, ◌+◌, ◌<◌, ◌≤◌, max, Bool, true, false, Option, Some, None, List, [], ◌∷◌, ◌++◌, refl, sym, ap, ◌∙◌, subst, ⊎_elim, arith, if◌then◌else◌, ◌==◌, cases_lt, Key, same_key, or_else, found, Machine, Item, Local, Each, waiting, end, Run, sent_by, with_at, floor_of, clock_after, Member, CoreStep, Lend, Give, Exchange, Core, returned, exchanged, done, IsSchedule, core_after, taken_after, Chain, lines_of, IsLawful, World, IsOpening, view}
use Rattle.fb_types.proofs.Common.{append_assoc}
use Rattle.fb_types.specs.Machines.{Rests}
use Rattle.fb_types.specs.Cores.{bound_of, MayLend, MayGive, MayDo}
use Rattle.fb_types.specs.Schedules.{taken_by}
use Rattle.fb_laws.proofs.lemmas.schedules.Start.{opening}
use Rattle.fb_types.proofs.lemmas.lists.Lookups.{none_some, none_since, option_cases, or_else_nones, or_else_parts, same_apart, found-append}
use Rattle.fb_laws.proofs.lemmas.resources.Chains.{Agree, agree_chain, agree_end, agree_waiting, chain_append, end_append, sent_append, lines_append}
use Rattle.fb_types.proofs.lemmas.lists.EachLaws.{each_map, each_both, each_append}
use Rattle.fb_laws.proofs.lemmas.takings.NoLesserTick.{Fair, chain_fair, found_none, chain_late, end_late}
use Rattle.fb_laws.proofs.lemmas.resources.Families.{Family, start}
use Rattle.fb_laws.proofs.lemmas.resources.Stops.{HasStop, has_append}
use Rattle.fb_laws.proofs.lemmas.resources.RunSteps.{put_ind, put_ind2, Stopped, run_ends, end_more}
use Rattle.fb_laws.proofs.lemmas.resources.ResourceAlone.{end_own}

-- one more than the tick of a stop, else the clock: all that was taken is below
abbrev pub done_of : {R : Type 0} → Option R → ℕ → ℕ
done_of None clock = clock
done_of (Some reason) clock = clock + 1

abbrev pub limit_of : Option (ℕ × ℕ) → ℕ → ℕ
limit_of None done = done
limit_of (Some wb) done = wb.1

module _ (M : Machine) where
  abbrev pub passed : Member M → ℕ
  passed s = done_of s.state.stop s.clock

  -- where the resource will be when it is at home
  abbrev pub limit : Member M → ℕ
  limit s = limit_of s.out (passed s)

  abbrev pub seat_floor : ℕ → Member M → ℕ
  seat_floor m s = floor_of s.state.stop s.clock m

  -- the messages that were delivered
  abbrev pub mail : (ℕ → List (Key × M.Event)) → Key → Option M.Event
  mail sent k = found k (sent (M.sender k))

  -- these items stop for this reason at this tick
  pub record StopIn (tick : ℕ) (runs : List (Item M)) (q : M.Reason) : Type 0 where
    pub key : Key
    pub has : HasStop M runs key q
    pub tick_is : key.tick ≡ tick

  -- one resource: all that it took, and what of its messages was delivered
  pub record At (w : World M) (heard : Key → Option M.Event) (sent : List (Key × M.Event)) (r : ℕ) (s : Member M) (runs : List (Item M)) : Type 0 where
    pub chain : Chain M r (start M (view M w r) heard) runs
    pub state : (t : ℕ) → Agree M r t s.state (end M (start M (view M w r) heard) runs)
    pub below : Each (λ (i : Item M). i.key.tick < passed s) runs
    pub rests : Rests M r s.clock s.state
    pub split : sent_by M runs ≡ sent ++ s.outbox
    pub out : (wb : ℕ × ℕ) → s.out ≡ Some wb → (s.state.stop ≡ None) × (s.clock ≤ wb.1)
    pub said : s.lines ≡ lines_of M runs
    pub stopped : (q : M.Reason) → s.state.stop ≡ Some q → StopIn s.clock runs q

  pub record Inv (horizon : ℕ) (w : World M) (c : Core M) (runs : ℕ → List (Item M)) : Type 0 where
    pub sent : ℕ → List (Key × M.Event)
    pub m : ℕ
    pub each : (r : ℕ) → At w (mail sent) (sent r) r (c r) (runs r)
    pub is_floor : (s : ℕ) (k : Key) → k.tick < m → (k.resource ≡ s → waiting M (c s).state k ≡ None) × (found k (c s).outbox ≡ None)
    pub posted : (s : ℕ) (k : Key) → k.tick < limit (c k.resource) → found k (c s).outbox ≡ None
    pub links : (k : Key) (u : ℕ) → M.Arrives k u → seat_floor m (c (M.sender k)) ≤ u → limit (c k.resource) ≤ k.tick
    pub range : (r : ℕ) → limit (c r) ≤ horizon

  pub inv_opening : (horizon : ℕ) (w : World M) → IsOpening M w → Inv horizon w (opening M w) (λ r. [])
  inv_opening horizon w o = record {
    sent = λ r. [];
    m = 0;
    each = λ r. record {
      chain = tt;
      state = λ t. record { part = refl; stop = refl; own = λ k e b. refl; inbox = λ k e b. quiet k };
      below = tt;
      rests = λ s k e b. absurd (omega arith);
      split = refl;
      out = λ wb h. absurd (none_some None wb refl h);
      said = refl;
      stopped = λ q h. absurd (none_some _ _ (o.live r) h);
    };
    is_floor = λ s k b. absurd (omega arith);
    posted = λ s k b. refl;
    links = λ k u a b. let e : limit (opening M w k.resource) ≡ 0 = ap (λ z. done_of z 0) (o.live k.resource) in omega arith;
    range = λ r. let e : limit (opening M w r) ≡ 0 = ap (λ z. done_of z 0) (o.live r) in omega arith;
  }
    where
      empty_if : (b : Bool) (a : Option M.Event) → (b ≡ true → a ≡ None) → (if b then a else None) ≡ None
      empty_if true a h = h refl
      empty_if false a h = refl

      quiet : (k : Key) → (if k.class == 2 then w.agenda k else None) ≡ None
      quiet k = empty_if (k.class == 2) (w.agenda k) (o.quiet k)

  -- Lend
  pub floor_max : {R : Type 0} (stop : Option R) (clock m n : ℕ) → floor_of stop clock m ≤ floor_of stop clock (max m n)
  floor_max None clock m n = omega arith
  floor_max (Some reason) clock m n = omega arith

  floor_max' : {R : Type 0} (stop : Option R) (clock m n : ℕ) → floor_of stop clock n ≤ floor_of stop clock (max m n)
  floor_max' None clock m n = omega arith
  floor_max' (Some reason) clock m n = omega arith

  pub inv_lend : (w : World M) (horizon : ℕ) (c : Core M) (runs : ℕ → List (Item M)) (worker r bound : ℕ) → Inv horizon w c runs → MayLend M horizon c r bound → Inv horizon w (done M c (Lend worker r bound)) runs
  inv_lend w horizon c runs worker r bound v x = record {
    sent = v.sent;
    m = mm;
    each = put_ind (λ q s. At w (mail v.sent) (v.sent q) q s (runs q)) r s' c mine v.each;
    is_floor = put_ind (λ q s. (k : Key) → k.tick < mm → (k.resource ≡ q → waiting M s.state k ≡ None) × (found k s.outbox ≡ None)) r s' c (both r) both;
    posted = λ q k b. put_ind (λ q s. found k s.outbox ≡ None) r s' c (old k b r) (old k b) q;
    links = λ k u a b.
        let low : seat_floor mm (c (M.sender k)) ≤ u = put_ind (λ z s. seat_floor mm s ≤ u → seat_floor mm (c z) ≤ u) r s' c (λ h. h) (λ z h. h) (M.sender k) b in
        let p = floor_max (c (M.sender k)).state.stop (c (M.sender k)).clock v.m x.legal.m in
        let q = floor_max' (c (M.sender k)).state.stop (c (M.sender k)).clock v.m x.legal.m in
        put_ind (λ z s. k.resource ≡ z → limit s ≤ k.tick) r s' c
        (λ e. x.legal.links k u a e (omega arith))
        (λ z e. subst (λ (y : ℕ). limit (c y) ≤ k.tick) e (v.links k u a (omega arith)))
        k.resource refl;
    range = put_ind (λ q s. limit s ≤ horizon) r s' c x.in_range v.range;
  }
    where
      mm : ℕ
      mm = max v.m x.legal.m

      s' : Member M
      s' = record (c r) { out = Some (worker, bound) }

      mine : At w (mail v.sent) (v.sent r) r s' (runs r)
      mine = let a = v.each r in record {
        chain = a.chain;
        state = a.state;
        below = a.below;
        rests = a.rests;
        split = a.split;
        said = a.said;
        stopped = a.stopped;
        out = λ wb h. let p : (worker, bound) ≡ wb = cc in let q : bound ≡ wb.1 = ap (λ z. z.1) p in let n : (c r).clock ≤ bound = x.not_back in (x.live, omega arith);
      }

      both : (q : ℕ) (k : Key) → k.tick < mm → (k.resource ≡ q → waiting M (c q).state k ≡ None) × (found k (c q).outbox ≡ None)
      both q k b = ⊎_elim (λ h. v.is_floor q k h) (λ h. x.legal.is_floor q k (omega arith)) (cases_lt k.tick v.m)

      old : (k : Key) → k.tick < limit (with_at r s' c k.resource) → (q : ℕ) → found k (c q).outbox ≡ None
      old k b q =
          put_ind (λ z s. k.resource ≡ z → k.tick < limit s → found k (c q).outbox ≡ None) r s' c
          (λ e h. x.legal.outboxes q k e h) (λ z e h. v.posted q k (rw e h)) k.resource refl b

  -- Give
  pub floor_live : {R : Type 0} (stop : Option R) (clock m : ℕ) → stop ≡ None → floor_of stop clock m ≡ max clock m
  floor_live stop clock m e = ap (λ z. floor_of z clock m) e

  floor_stopped : {R : Type 0} (stop : Option R) (reason : R) (clock m : ℕ) → stop ≡ Some reason → floor_of stop clock m ≡ clock
  floor_stopped stop reason clock m e = ap (λ z. floor_of z clock m) e

  -- what a run does to the numbers of a resource
  pub record Moved (m r bound : ℕ) (s : Member M) (is : List (Item M)) (s' : Member M) : Type 0 where
    pub live : s.state.stop ≡ None
    pub limit_is : limit s ≡ bound
    pub low : Each (λ (i : Item M). max s.clock m ≤ i.key.tick) is
    pub limit_less : limit s' ≤ bound
    pub floor_more : seat_floor m s ≤ seat_floor m s'
    pub passed_more : s.clock ≤ passed s'
    pub below : Each (λ (i : Item M). i.key.tick < passed s') is
    pub rests : Rests M r s'.clock s'.state
    pub stopped : (q : M.Reason) → s'.state.stop ≡ Some q → StopIn s'.clock is q

  pub moved : IsLawful M → (m r bound : ℕ) (worker : ℕ) (s : Member M) (is : List (Item M)) → s.state.stop ≡ None → s.clock ≤ bound → s.out ≡ Some (worker, bound) → Rests M r s.clock s.state →
      ((k : Key) → k.tick < m → k.resource ≡ r → waiting M s.state k ≡ None) → Run M r s.state bound is → Moved m r bound s is (returned M s is)
  moved law m r bound worker s is live le away rests none run = ⊎_elim going stopped (run_ends M law r bound is s.state run.chain live)
    where
      low : Each (λ (i : Item M). max s.clock m ≤ i.key.tick) is
      low = chain_late M law r (max s.clock m) is s.state
          (λ k e b. ⊎_elim (λ h. rests live k e h) (λ h. none k (omega arith) e) (cases_lt k.tick s.clock)) run.chain

      limit_is : limit s ≡ bound
      limit_is = ap (λ z. limit_of z (passed s)) away

      clock_is : (returned M s is).clock ≡ clock_after M bound is
      clock_is = ap (λ z. clock_after M (bound_of z) is) away

      going : ((end M s.state is).stop ≡ None) × (clock_after M bound is ≡ bound) → Moved m r bound s is (returned M s is)
      going h =
          let c : (returned M s is).clock ≡ bound = clock_is ∙ h.1 in
          let p : passed (returned M s is) ≡ bound = ap (λ z. done_of z (returned M s is).clock) h.0 ∙ c in
          let f : seat_floor m s ≡ max s.clock m = floor_live s.state.stop s.clock m live in
          let g : seat_floor m (returned M s is) ≡ max (returned M s is).clock m = floor_live (end M s.state is).stop (returned M s is).clock m h.0 in
          record {
            live = live;
            limit_is = limit_is;
            low = low;
            limit_less = omega arith;
            floor_more = omega arith;
            passed_more = omega arith;
            below = each_map _ _ is (λ (i : Item M) (b : i.key.tick < bound). omega arith) run.below;
            rests = λ q k e b. run.rests q k e (omega arith);
            stopped = λ q e. absurd (none_some _ _ h.0 e);
          }

      stopped : Stopped M s.state is → Moved m r bound s is (returned M s is)
      stopped h =
          let c : (returned M s is).clock ≡ h.tick = clock_is ∙ h.clock bound in
          let p : passed (returned M s is) ≡ (returned M s is).clock + 1 = ap (λ z. done_of z (returned M s is).clock) h.stop in
          let f : seat_floor m s ≡ max s.clock m = floor_live s.state.stop s.clock m live in
          let g : seat_floor m (returned M s is) ≡ (returned M s is).clock = floor_stopped (end M s.state is).stop h.reason (returned M s is).clock m h.stop in
          let a : max s.clock m ≤ h.tick = h.above (max s.clock m) low in
          let u : h.tick < bound = h.under bound run.below in
          record {
            live = live;
            limit_is = limit_is;
            low = low;
            limit_less = omega arith;
            floor_more = omega arith;
            passed_more = omega arith;
            below = each_map _ _ is (λ (i : Item M) (b : i.key.tick ≤ h.tick). omega arith) h.all;
            rests = λ q k e b. absurd (none_some _ _ q h.stop);
            stopped = λ q e.
                let d : Some h.reason ≡ Some q = sym h.stop ∙ e in
                let f : h.reason ≡ q = cc in
                record { key = h.key; has = subst (λ (z : M.Reason). HasStop M is h.key z) f h.has; tick_is = h.key_tick ∙ sym c };
          }

  pub inv_give : IsLawful M → (horizon : ℕ) (w : World M) (c : Core M) (runs : ℕ → List (Item M)) (worker r : ℕ) (is : List (Item M)) → Inv horizon w c runs → MayGive M c worker r is → Inv horizon w (done M c (Give worker r is)) (with_at r (runs r ++ is) runs)
  inv_give law horizon w c runs worker r is v x = record {
    sent = v.sent;
    m = v.m;
    each = put_ind2 (λ q s l. At w (mail v.sent) (v.sent q) q s l) r s' c (runs r ++ is) runs mine v.each;
    is_floor = put_ind (λ q s. (k : Key) → k.tick < v.m → (k.resource ≡ q → waiting M s.state k ≡ None) × (found k s.outbox ≡ None)) r s' c
        (λ k b. (
          λ e. end_late M law r v.m is (c r).state (λ z d h. (v.is_floor r z h).0 d) x.run.chain k e b,
          added k (λ u p n h. let l : u < k.tick = law.arrives_later k u p in omega arith) (v.is_floor r k b).1,
        ))
        v.is_floor;
    posted = λ q k b.
        let l : k.tick < limit (c k.resource) = let e = less k.resource in omega arith in
        put_ind (λ z s. found k s.outbox ≡ None) r s' c
        (added k (λ u p n h. let z : limit (c k.resource) ≤ k.tick = v.links k u p (far k u n h) in omega arith) (v.posted r k l)) (λ z. v.posted z k l) q;
    links = λ k u p b. let f = more (M.sender k) in let g = less k.resource in let z : limit (c k.resource) ≤ k.tick = v.links k u p (omega arith) in omega arith;
    range = λ q. let f = less q in let g : limit (c q) ≤ horizon = v.range q in omega arith;
  }
    where
      a : At w (mail v.sent) (v.sent r) r (c r) (runs r)
      a = v.each r

      s' : Member M
      s' = returned M (c r) is

      mv : Moved v.m r x.bound (c r) is s'
      mv = let o = a.out (worker, x.bound) x.is_out in moved law v.m r x.bound worker (c r) is o.0 o.1 x.is_out a.rests (λ k b e. (v.is_floor r k b).0 e) x.run

      less : (z : ℕ) → limit (with_at r s' c z) ≤ limit (c z)
      less = put_ind (λ z s. limit s ≤ limit (c z)) r s' c (let p = mv.limit_less in let q = mv.limit_is in omega arith) (λ z. omega arith)

      more : (z : ℕ) → seat_floor v.m (c z) ≤ seat_floor v.m (with_at r s' c z)
      more = put_ind (λ z s. seat_floor v.m (c z) ≤ seat_floor v.m s) r s' c mv.floor_more (λ z. omega arith)

      quiet : (k : Key) → ((u : ℕ) → M.Arrives k u → M.sender k ≡ r → max (c r).clock v.m ≤ u → ⊥) → found k (sent_by M is) ≡ None
      quiet k f = found_none M k is (each_both _ _ (λ (i : Item M). found k i.out.sent ≡ None) is
          (λ (i : Item M) (g : Fair M r i) l. none_since _ (λ y q. f i.key.tick (g.sent_arrives k y q) (g.sent_own k y q) l)) (chain_fair M law r is (c r).state x.run.chain) mv.low)

      added : (k : Key) → ((u : ℕ) → M.Arrives k u → M.sender k ≡ r → max (c r).clock v.m ≤ u → ⊥) → found k (c r).outbox ≡ None → found k s'.outbox ≡ None
      added k f n = found-append k (c r).outbox (sent_by M is) ∙ or_else_nones _ _ (quiet k f) n

      far : (k : Key) (u : ℕ) → M.sender k ≡ r → max (c r).clock v.m ≤ u → seat_floor v.m (c (M.sender k)) ≤ u
      far k u n h =
          let f : seat_floor v.m (c r) ≡ max (c r).clock v.m = floor_live (c r).state.stop (c r).clock v.m mv.live in
          let g : seat_floor v.m (c r) ≤ u = omega arith in
          subst (λ (z : ℕ). seat_floor v.m (c z) ≤ u) (sym n) g

      first : Local M
      first = start M (view M w r) (mail v.sent)

      passed_is : passed (c r) ≡ (c r).clock
      passed_is = ap (λ z. done_of z (c r).clock) mv.live

      mine : At w (mail v.sent) (v.sent r) r s' (runs r ++ is)
      mine = record {
        chain = chain_append M r (runs r) is first a.chain (agree_chain M r x.bound is (c r).state (end M first (runs r)) (a.state x.bound) x.run.below x.run.chain);
        state = λ t. rw (end_append M (runs r) is first) (agree_end M r t is (c r).state (end M first (runs r)) (a.state t));
        below = each_append _ (runs r) is (each_map _ _ (runs r) (λ (i : Item M) (b : i.key.tick < passed (c r)). let p = mv.passed_more in let q = passed_is in omega arith) a.below) mv.below;
        rests = mv.rests;
        split = sent_append M (runs r) is ∙ ap (λ z. z ++ sent_by M is) a.split ∙ append_assoc (v.sent r) (c r).outbox (sent_by M is);
        out = λ wb h. absurd (none_some None wb refl h);
        said = ap (λ z. z ++ lines_of M is) a.said ∙ sym (lines_append M (runs r) is);
        stopped = λ q e. let y = mv.stopped q e in record { key = y.key; has = has_append M (runs r) is y.key q y.has; tick_is = y.tick_is };
      }

  -- Exchange
  append_nil : {A : Type 0} (xs : List A) → xs ++ [] ≡ xs
  append_nil [] = refl
  append_nil (x ∷ xs) = ap (λ z. x ∷ z) (append_nil xs)

  clock_passed : (s : Member M) → s.clock ≤ passed s
  clock_passed s = go s.state.stop s.clock
    where
      go : {R : Type 0} (stop : Option R) (clock : ℕ) → clock ≤ done_of stop clock
      go None clock = omega arith
      go (Some reason) clock = omega arith

  pub inv_exchange : (horizon : ℕ) (w : World M) (c : Core M) (runs : ℕ → List (Item M)) → Inv horizon w c runs → ((r : ℕ) → (c r).out ≡ None) → Inv horizon w (done M c Exchange) runs
  inv_exchange horizon w c runs v home = record {
    sent = sent';
    m = v.m;
    each = λ r. mine r;
    is_floor = λ s k b. (λ e. let p = or_else_parts _ _ ((v.is_floor s k b).0 e) in or_else_nones _ _ p.0 (or_else_nones _ _ (v.is_floor (M.sender k) k b).1 p.1), refl);
    posted = λ s k b. refl;
    links = v.links;
    range = v.range;
  }
    where
      sent' : ℕ → List (Key × M.Event)
      sent' s = v.sent s ++ (c s).outbox

      more : (k : Key) → mail sent' k ≡ or_else (found k (c (M.sender k)).outbox) (mail v.sent k)
      more k = found-append k (v.sent (M.sender k)) (c (M.sender k)).outbox

      none : (r : ℕ) (k : Key) → k.resource ≡ r → k.tick < passed (c r) → found k (c (M.sender k)).outbox ≡ None
      none r k e b =
          let l : limit (c r) ≡ passed (c r) = ap (λ z. limit_of z (passed (c r))) (home r) in
          v.posted (M.sender k) k (subst (λ (z : ℕ). k.tick < limit (c z)) (sym e) (rw l b))

      first : ℕ → Local M
      first r = start M (view M w r) (mail v.sent)

      first' : ℕ → Local M
      first' r = start M (view M w r) (mail sent')

      alike : (r : ℕ) → Agree M r (passed (c r)) (first r) (first' r)
      alike r = record {
        part = refl;
        stop = refl;
        own = λ k e b. refl;
        inbox = λ k e b. sym (more k ∙ ap (λ o. or_else o (mail v.sent k)) (none r k e b));
      }

      apart : (r : ℕ) (k : Key) → passed (c r) ≤ k.tick → Each (λ (i : Item M). same_key i.key k ≡ false) (runs r)
      apart r k b = each_map _ _ (runs r) (λ (i : Item M) (h : i.key.tick < passed (c r)). same_apart i.key k (omega arith)) (v.each r).below

      inbox_is : (r : ℕ) (k : Key) → k.resource ≡ r → or_else (found k (c (M.sender k)).outbox) ((c r).state.inbox k) ≡ (end M (first' r) (runs r)).inbox k
      inbox_is r k e =
          let a = v.each r in
          let p : (c r).state.inbox k ≡ (end M (first r) (runs r)).inbox k = (a.state (k.tick + 1)).inbox k e (omega arith) in
          ⊎_elim
          (λ b. ap (λ o. or_else o ((c r).state.inbox k)) (none r k e b) ∙ p ∙ (agree_end M r (passed (c r)) (runs r) (first r) (first' r) (alike r)).inbox k e b)
          (λ b. ap (λ o. or_else (found k (c (M.sender k)).outbox) o) p ∙ sym (end_more M k (found k (c (M.sender k)).outbox) (runs r) (first r) (first' r) (apart r k b) (more k)))
          (cases_lt k.tick (passed (c r)))

      mine : (r : ℕ) → At w (mail sent') (sent' r) r (exchanged M c r) (runs r)
      mine r = let a = v.each r in let ends = agree_end M r (passed (c r)) (runs r) (first r) (first' r) (alike r) in record {
        chain = agree_chain M r (passed (c r)) (runs r) (first r) (first' r) (alike r) a.below a.chain;
        state = λ t. record {
          part = (a.state t).part ∙ ends.part;
          stop = (a.state t).stop ∙ ends.stop;
          own = λ k e b. (a.state t).own k e b ∙ end_own M (runs r) (first r) (first' r) (λ z. refl) k;
          inbox = λ k e b. inbox_is r k e;
        };
        below = a.below;
        rests = λ q k e b.
            let p = or_else_parts _ _ (a.rests q k e b) in
            let n : (c r).clock ≤ passed (c r) = clock_passed (c r) in
            or_else_nones _ _ p.0 (or_else_nones _ _ (none r k e (omega arith)) p.1);
        split = a.split ∙ sym (append_nil (v.sent r ++ (c r).outbox));
        out = a.out;
        said = a.said;
        stopped = a.stopped;
      }

  -- a give and an exchange keep the floor
  pub give_m : (law : IsLawful M) (horizon : ℕ) (w : World M) (c : Core M) (runs : ℕ → List (Item M)) (worker r : ℕ) (is : List (Item M)) (v : Inv horizon w c runs) (x : MayGive M c worker r is) → (inv_give law horizon w c runs worker r is v x).m ≡ v.m
  unfolding inv_give
  give_m law horizon w c runs worker r is v x = refl

  pub exchange_m : (horizon : ℕ) (w : World M) (c : Core M) (runs : ℕ → List (Item M)) (v : Inv horizon w c runs) (home : (r : ℕ) → (c r).out ≡ None) → (inv_exchange horizon w c runs v home).m ≡ v.m
  unfolding inv_exchange
  exchange_m horizon w c runs v home = refl

  pub inv_step : IsLawful M → (w : World M) (horizon : ℕ) (c : Core M) (runs : ℕ → List (Item M)) (e : CoreStep M) → Inv horizon w c runs → MayDo M horizon c e → Inv horizon w (done M c e) (taken_by M runs e)
  inv_step law w horizon c runs (Lend worker r bound) v x = inv_lend w horizon c runs worker r bound v x
  inv_step law w horizon c runs (Give worker r is) v x = inv_give law horizon w c runs worker r is v x
  inv_step law w horizon c runs Exchange v x = inv_exchange horizon w c runs v x

  pub inv_all : IsLawful M → (w : World M) (horizon : ℕ) (es : List (CoreStep M)) (c : Core M) (runs : ℕ → List (Item M)) → Inv horizon w c runs → IsSchedule M horizon c es → Inv horizon w (core_after M c es) (taken_after M runs es)
  inv_all law w horizon [] c runs v x = v
  inv_all law w horizon (e ∷ es) c runs v x = inv_all law w horizon es (done M c e) (taken_by M runs e) (inv_step law w horizon c runs e v x.0) x.1

  pub passed_limit : (w : World M) (heard : Key → Option M.Event) (sent : List (Key × M.Event)) (r : ℕ) (s : Member M) (runs : List (Item M)) → At w heard sent r s runs → passed s ≤ limit s
  passed_limit w heard sent r s runs a =
      ⊎_elim
      (λ n. let e : limit s ≡ passed s = ap (λ z. limit_of z (passed s)) n in omega arith)
      (λ h. let o = a.out h.0 h.1 in
      let e : limit s ≡ h.0.1 = ap (λ z. limit_of z (passed s)) h.1 in
      let f : passed s ≡ s.clock = ap (λ z. done_of z s.clock) o.0 in omega (arith, o.1))
      (option_cases s.out)

  floor_passed : {R : Type 0} (stop : Option R) (clock m : ℕ) → floor_of stop clock m ≤ max (done_of stop clock) m
  floor_passed None clock m = omega arith
  floor_passed (Some reason) clock m = omega arith

  pub unposted : (horizon : ℕ) (w : World M) (c : Core M) (runs : ℕ → List (Item M)) (v : Inv horizon w c runs) (s r : ℕ) (k : Key) → k.resource ≡ r → k.tick < max (passed (c r)) v.m → found k (c s).outbox ≡ None
  unposted horizon w c runs v s r k e b =
      let l : passed (c r) ≤ limit (c r) = passed_limit w _ _ r (c r) (runs r) (v.each r) in
      ⊎_elim
      (λ h. let g : k.tick < limit (c r) = omega arith in v.posted s k (subst (λ (z : ℕ). k.tick < limit (c z)) (sym e) g))
      (λ h. (v.is_floor s k (omega arith)).1)
      (cases_lt k.tick (passed (c r)))

  core_family : IsLawful M → (horizon : ℕ) (w : World M) (c : Core M) (runs : ℕ → List (Item M)) (v : Inv horizon w c runs) → Family M (view M w)
  core_family law horizon w c runs v = record {
    runs = runs;
    bound = λ r. max (passed (c r)) v.m;
    heard = λ r. mail v.sent;
    run = λ r. let a = v.each r in record {
      chain = a.chain;
      below = each_map _ _ (runs r) (λ (i : Item M) (b : i.key.tick < passed (c r)). omega arith) a.below;
      rests = λ q k e b. rests r q k e b;
    };
    arrived = λ r k e b.
        let a = v.each (M.sender k) in
        sym (ap (λ z. found k z) a.split ∙ found-append k (v.sent (M.sender k)) (c (M.sender k)).outbox ∙ ap (λ o. or_else o (found k (v.sent (M.sender k)))) (unposted horizon w c runs v (M.sender k) r k e b));
    closed = λ k u a b.
        let f = floor_passed (c (M.sender k)).state.stop (c (M.sender k)).clock v.m in
        let g : limit (c k.resource) ≤ k.tick = v.links k u a (omega arith) in
        let h : passed (c k.resource) ≤ limit (c k.resource) = passed_limit w _ _ k.resource (c k.resource) (runs k.resource) (v.each k.resource) in
        let l : u < k.tick = law.arrives_later k u a in
        omega arith;
  }
    where
      rests : (r : ℕ) → (end M (start M (view M w r) (mail v.sent)) (runs r)).stop ≡ None → (k : Key) → k.resource ≡ r → k.tick < max (passed (c r)) v.m → waiting M (end M (start M (view M w r) (mail v.sent)) (runs r)) k ≡ None
      rests r q k e b =
          let a = v.each r in
          let n : (c r).state.stop ≡ None = (a.state 0).stop ∙ q in
          let p : passed (c r) ≡ (c r).clock = ap (λ z. done_of z (c r).clock) n in
          let x : waiting M (c r).state k ≡ None = ⊎_elim (λ h. a.rests n k e h) (λ h. (v.is_floor r k (omega arith)).0 e) (cases_lt k.tick (c r).clock) in
          sym (agree_waiting M r (k.tick + 1) (c r).state (end M (start M (view M w r) (mail v.sent)) (runs r)) (a.state (k.tick + 1)) k e (omega arith)) ∙ x

  pub record Known (horizon : ℕ) (w : World M) (c : Core M) (runs : ℕ → List (Item M)) (v : Inv horizon w c runs) : Type 0 where
    pub family : Family M (view M w)
    pub runs_are : (r : ℕ) → family.runs r ≡ runs r
    pub bound_is : (r : ℕ) → family.bound r ≡ max (passed (c r)) v.m

  pub known : IsLawful M → (horizon : ℕ) (w : World M) (c : Core M) (runs : ℕ → List (Item M)) (v : Inv horizon w c runs) → Known horizon w c runs v
  unfolding core_family
  known law horizon w c runs v = record { family = core_family law horizon w c runs v; runs_are = λ r. refl; bound_is = λ r. refl }
