-- The lines of a core during a schedule: they rise, new ones were not final before, and what is final stays so.
use Rattle.fb_laws.proofs.lemmas.Common.{◌≡◌, ℕ, ◌<◌, ◌≤◌, max, Some, None, List, [], ◌∷◌, ◌++◌, refl, sym, ap, ◌∙◌, subst, inl, inr, ⊎_elim, arith, cases_lt, Key, found, Machine, Item, Each, waiting, Member, CoreStep, Lend, Give, Exchange, Core, IsFloor, floor, floor_of, returned, exchanged, done, IsSchedule, core_after, taken_after, lines_of, IsFinal, IsLawful, World}
use Rattle.fb_types.proofs.Common.{append_assoc}
use Rattle.fb_types.specs.Cores.{MayDo}
use Rattle.fb_types.specs.Schedules.{taken_by}
use Rattle.fb_types.proofs.lemmas.lists.EachLaws.{each_map, each_append}
use Rattle.fb_types.proofs.lemmas.lists.Lookups.{none_some, option_cases}
use Rattle.fb_laws.proofs.lemmas.takings.NoLesserTick.{chain_fair}
use Rattle.fb_laws.proofs.lemmas.schedules.Lines.{Here, Rises, chain_here, chain_rises}
use Rattle.fb_laws.specs.Finality.{TicksRise, IsFinalIn}
use Rattle.fb_laws.proofs.lemmas.schedules.Edges.{final_up, append_none, IsLater}
use Rattle.fb_laws.proofs.lemmas.schedules.Final.{raised, raised_more}
use Rattle.fb_laws.proofs.lemmas.schedules.Keeps.{Inv, At, mail, passed, limit, passed_limit, Moved, moved, inv_give, give_m, inv_exchange, exchange_m, inv_step, inv_all}
use Rattle.fb_laws.proofs.lemmas.resources.RunSteps.{put_ind}

same_rest : {A : Type 0} (xs ys zs : List A) → xs ++ ys ≡ xs ++ zs → ys ≡ zs
same_rest [] ys zs e = e
same_rest (x ∷ xs) ys zs e = same_rest xs ys zs (let f : xs ++ ys ≡ xs ++ zs = cc in f)

each_swap : {A Y : Type 0} (P : Y → A → Type 0) (xs : List A) → ((y : Y) → Each (P y) xs) → Each (λ x. (y : Y) → P y x) xs
each_swap P [] h = tt
each_swap P (x ∷ xs) h = (λ y. (h y).0, each_swap P xs (λ y. (h y).1))

module _ (M : Machine) where
  -- ---- The lines of one resource

  -- Their ticks do not fall, they are below the horizon, and they are its own.
  pub record AreLinesOf (horizon r : ℕ) (xs : List M.Line) : Type 0 where
    pub rise : TicksRise M xs
    pub below : Each (λ (x : M.Line). M.line_tick x < horizon) xs
    pub mine : Each (λ (x : M.Line). M.line_resource x ≡ r) xs

  rise_joined : (t : ℕ) (xs ys : List M.Line) → Each (λ (x : M.Line). M.line_tick x ≡ t) xs → Each (λ (y : M.Line). t ≤ M.line_tick y) ys → TicksRise M ys → TicksRise M (xs ++ ys)
  rise_joined t [] ys h l up = up
  rise_joined t (x ∷ xs) ys h l up = (
    let e : M.line_tick x ≡ t = h.0 in
        each_append (λ (y : M.Line). M.line_tick x ≤ M.line_tick y) xs ys
        (each_map _ _ xs (λ y (f : M.line_tick y ≡ t). let w : M.line_tick x ≤ M.line_tick y = omega arith in w) h.1)
        (each_map _ _ ys (λ y (f : t ≤ M.line_tick y). let w : M.line_tick x ≤ M.line_tick y = omega arith in w) l),
    rise_joined t xs ys h.1 l up,
  )

  -- what holds of each item, and so of its tick, holds of each line
  by_items : (P : Item M → Type 0) (Q : M.Line → Type 0) (is : List (Item M)) → Each P is → Each (Here M) is
      → ((i : Item M) (x : M.Line) → P i → (M.line_tick x ≡ i.key.tick) × (M.line_resource x ≡ i.key.resource) → Q x) → Each Q (lines_of M is)
  by_items P Q [] p h f = tt
  by_items P Q (i ∷ is) p h f = each_append Q i.out.lines (lines_of M is) (each_map _ _ i.out.lines (λ x q. f i x p.0 q) h.0) (by_items P Q is p.1 h.1 f)

  rise_of : (is : List (Item M)) → Each (Here M) is → Rises M is → TicksRise M (lines_of M is)
  rise_of [] h up = tt
  rise_of (i ∷ is) h up =
      rise_joined i.key.tick i.out.lines (lines_of M is) (each_map _ _ i.out.lines (λ x q. q.0) h.0)
      (by_items (λ j. i.key.tick ≤ j.key.tick) (λ (x : M.Line). i.key.tick ≤ M.line_tick x) is up.0 h.1 (λ j x (l : i.key.tick ≤ j.key.tick) q. let e : M.line_tick x ≡ j.key.tick = q.0 in let w : i.key.tick ≤ M.line_tick x = omega arith in w))
      (rise_of is h.1 up.1)

  pub core_lines : IsLawful M → (horizon : ℕ) (w : World M) (c : Core M) (runs : ℕ → List (Item M)) → Inv M horizon w c runs → (r : ℕ) → AreLinesOf horizon r (c r).lines
  core_lines law horizon w c runs v r =
      subst (AreLinesOf horizon r) (sym a.said)
      (record {
        rise = rise_of (runs r) here (chain_rises M law r (runs r) _ a.chain);
        below = by_items _ (λ (x : M.Line). M.line_tick x < horizon) (runs r) a.below here
            (λ i x (b : i.key.tick < passed M (c r)) q. let e : M.line_tick x ≡ i.key.tick = q.0 in let z : M.line_tick x < horizon = omega (arith, up, top) in z);
        mine = by_items (λ i. i.key.resource ≡ r) (λ (x : M.Line). M.line_resource x ≡ r) (runs r) (each_map _ _ (runs r) (λ i f. f.mine) (chain_fair M law r (runs r) _ a.chain)) here (λ i x e q. q.1 ∙ e);
      })
    where
      a : At M w (mail M v.sent) (v.sent r) r (c r) (runs r)
      a = v.each r

      here : Each (Here M) (runs r)
      here = chain_here M law r (runs r) _ a.chain

      up : passed M (c r) ≤ limit M (c r)
      up = passed_limit M w _ _ r (c r) (runs r) a

      top : limit M (c r) ≤ horizon
      top = v.range r

  -- ---- Steps

  -- Lines were added, by a resource that had not stopped, and at its floor or later.
  pub record Added (m : ℕ) (s t : Member M) : Type 0 where
    pub more : List M.Line
    pub is : t.lines ≡ s.lines ++ more
    pub late : Each (λ (x : M.Line). (s.state.stop ≡ None) × (floor_of s.state.stop s.clock m ≤ M.line_tick x)) more

  -- No floor fell, and what had stopped stays as it was.
  pub record GoesOn (m : ℕ) (c d : Core M) : Type 0 where
    pub is_floor : IsFloor M d m
    pub floors : (q : ℕ) → floor M c m q ≤ floor M d m q
    pub stopped : (q : ℕ) (reason : M.Reason) → (c q).state.stop ≡ Some reason → ((d q).state.stop ≡ Some reason) × ((d q).clock ≡ (c q).clock)
    pub lines : (q : ℕ) → Added m (c q) (d q)

  nothing_added : (m : ℕ) (s t : Member M) → t.lines ≡ s.lines → Added m s t
  nothing_added m s t e = record { more = []; is = e ∙ sym (append_none s.lines); late = tt }

  stays_on : (m : ℕ) (c : Core M) → IsFloor M c m → GoesOn m c c
  stays_on m c fl = record {
    is_floor = fl;
    floors = λ q. omega arith;
    stopped = λ q reason e. (e, refl);
    lines = λ q. nothing_added m (c q) (c q) refl;
  }

  goes_trans : (m : ℕ) (b c d : Core M) → GoesOn m b c → GoesOn m c d → GoesOn m b d
  goes_trans m b c d x y = record {
    is_floor = y.is_floor;
    floors = λ q. let f = x.floors q in let g = y.floors q in omega arith;
    stopped = λ q reason e. let p = x.stopped q reason e in let z = y.stopped q reason p.0 in (z.0, z.1 ∙ p.1);
    lines = λ q.
        let f = x.lines q in
        let g = y.lines q in
        record {
          more = f.more ++ g.more;
          is = g.is ∙ ap (λ z. z ++ g.more) f.is ∙ append_assoc (b q).lines f.more g.more;
          late = each_append _ f.more g.more f.late (each_map _ _ g.more (λ z h. earlier q z h.0 h.1) g.late);
        };
  }
    where
      earlier : (q : ℕ) (z : M.Line) → (c q).state.stop ≡ None → floor M c m q ≤ M.line_tick z → ((b q).state.stop ≡ None) × (floor M b m q ≤ M.line_tick z)
      earlier q z n l = (
        ⊎_elim (λ e. e) (λ s. absurd (none_some _ _ n (x.stopped q s.0 s.1).0)) (option_cases (b q).state.stop),
        let f = x.floors q in omega arith,
      )

  goes_step : (law : IsLawful M) (w : World M) (horizon : ℕ) (c : Core M) (runs : ℕ → List (Item M)) (e : CoreStep M) (v : Inv M horizon w c runs) (m : ℕ) → m ≤ v.m → MayDo M horizon c e → GoesOn m c (done M c e)
  goes_step law w horizon c runs (Lend worker r bound) v m le x = record {
    is_floor = put_ind (λ q s. (k : Key) → k.tick < m → (k.resource ≡ q → waiting M s.state k ≡ None) × (found k s.outbox ≡ None)) r s' c (λ k b. v.is_floor r k (omega arith)) (λ q k b. v.is_floor q k (omega arith));
    floors = put_ind (λ q s. floor M c m q ≤ floor_of s.state.stop s.clock m) r s' c (omega arith) (λ q. omega arith);
    stopped = put_ind (λ q s. (reason : M.Reason) → (c q).state.stop ≡ Some reason → (s.state.stop ≡ Some reason) × (s.clock ≡ (c q).clock)) r s' c (λ reason e. (e, refl)) (λ q reason e. (e, refl));
    lines = put_ind (λ q s. Added m (c q) s) r s' c (nothing_added m (c r) s' refl) (λ q. nothing_added m (c q) (c q) refl);
  }
    where
      s' : Member M
      s' = record (c r) { out = Some (worker, bound) }
  goes_step law w horizon c runs (Give worker r is) v m le x = record {
    is_floor = λ s k b. let up = give_m M law horizon w c runs worker r is v x in (inv_give M law horizon w c runs worker r is v x).is_floor s k (omega arith);
    floors = put_ind (λ q s. floor M c m q ≤ floor_of s.state.stop s.clock m) r s' c mv.floor_more (λ q. omega arith);
    stopped = put_ind (λ q s. (reason : M.Reason) → (c q).state.stop ≡ Some reason → (s.state.stop ≡ Some reason) × (s.clock ≡ (c q).clock)) r s' c (λ reason e. absurd (none_some _ _ mv.live e)) (λ q reason e. (e, refl));
    lines = put_ind (λ q s. Added m (c q) s) r s' c mine (λ q. nothing_added m (c q) (c q) refl);
  }
    where
      s' : Member M
      s' = returned M (c r) is

      mv : Moved M m r x.bound (c r) is s'
      mv = let a = v.each r in let o = a.out (worker, x.bound) x.is_out in
          moved M law m r x.bound worker (c r) is o.0 o.1 x.is_out a.rests (λ k b e. (v.is_floor r k (omega arith)).0 e) x.run

      mine : Added m (c r) s'
      mine = record {
        more = lines_of M is;
        is = refl;
        late = by_items (λ i. max (c r).clock m ≤ i.key.tick) _ is mv.low (chain_here M law r is (c r).state x.run.chain)
            (λ i z (b : max (c r).clock m ≤ i.key.tick) q.
            let e : M.line_tick z ≡ i.key.tick = q.0 in
            let f : floor_of (c r).state.stop (c r).clock m ≡ max (c r).clock m = ap (λ o. floor_of o (c r).clock m) mv.live in
            (mv.live, omega arith));
      }
  goes_step law w horizon c runs Exchange v m le x = record {
    is_floor = λ s k b. let up = exchange_m M horizon w c runs v x in (inv_exchange M horizon w c runs v x).is_floor s k (omega arith);
    floors = λ q. omega arith;
    stopped = λ q reason e. (e, refl);
    lines = λ q. nothing_added m (c q) (exchanged M c q) refl;
  }

  goes_all : (law : IsLawful M) (w : World M) (horizon : ℕ) (es : List (CoreStep M)) (c : Core M) (runs : ℕ → List (Item M)) (v : Inv M horizon w c runs) (m : ℕ) → m ≤ v.m → IsSchedule M horizon c es → GoesOn m c (core_after M c es)
  goes_all law w horizon [] c runs v m le x = stays_on m c (λ s k b. v.is_floor s k (omega arith))
  goes_all law w horizon (e ∷ es) c runs v m le x =
      let g = goes_step law w horizon c runs e v m le x.0 in
      let u = inv_step M law w horizon c runs e v x.0 in
      goes_trans m c (done M c e) (core_after M (done M c e) es) g
      (goes_all law w horizon es (done M c e) (taken_by M runs e)
      (raised M horizon w (done M c e) (taken_by M runs e) u m g.is_floor) m (raised_more M horizon w (done M c e) (taken_by M runs e) u m g.is_floor) x.1)

  -- by the greater of a floor and that of the invariant
  record Onward (m : ℕ) (c d : Core M) : Type 0 where
    n : ℕ
    more : m ≤ n
    goes : GoesOn n c d

  onward : (law : IsLawful M) (w : World M) (horizon : ℕ) (es : List (CoreStep M)) (c : Core M) (runs : ℕ → List (Item M)) (v : Inv M horizon w c runs) (m : ℕ) → IsFloor M c m → IsSchedule M horizon c es → Onward m c (core_after M c es)
  onward law w horizon es c runs v m fl x =
      let u = raised M horizon w c runs v m fl in
      let up = raised_more M horizon w c runs v m fl in
      record { n = u.m; more = up; goes = goes_all law w horizon es c runs u u.m (omega arith) x }

  -- a tick that no event precedes stays one
  pub floor_stays : (law : IsLawful M) (w : World M) (horizon : ℕ) (es : List (CoreStep M)) (c : Core M) (runs : ℕ → List (Item M)) (v : Inv M horizon w c runs) → IsSchedule M horizon c es
      → (m : ℕ) → IsFloor M c m → IsFloor M (core_after M c es) m
  floor_stays law w horizon es c runs v x m fl s k b = let y = onward law w horizon es c runs v m fl x in let up = y.more in y.goes.is_floor s k (omega arith)

  -- what is final stays final
  pub final_stays : (law : IsLawful M) (w : World M) (horizon : ℕ) (es : List (CoreStep M)) (c : Core M) (runs : ℕ → List (Item M)) (v : Inv M horizon w c runs) (count : ℕ) → IsSchedule M horizon c es
      → (r t : ℕ) → IsFinalIn M count c t r → IsFinalIn M count (core_after M c es) t r
  final_stays law w horizon es c runs v count x r t f =
      let y = onward law w horizon es c runs v f.0 f.1 x in
      (y.n, y.goes.is_floor, after y.n y.goes (final_up M count c f.0 y.n t r y.more f.2))
    where
      after : (n : ℕ) → GoesOn n c (core_after M c es) → IsFinal M count c n t r → IsFinal M count (core_after M c es) n t r
      after n g h q less =
          let up = g.floors q in
          ⊎_elim
          (λ a. ⊎_elim
          (λ (b : t < floor M c n q). inl (inl (omega arith)))
          (λ b. let e : t ≡ floor M c n q = b.0 in
          ⊎_elim (λ l. inl (inl l)) (λ l. inl (inr (omega arith, b.1))) (cases_lt t (floor M (core_after M c es) n q)))
          a)
          (λ a. let s = g.stopped q a.1.0 a.1.1 in inr (a.0, (a.1.0, s.0), s.1 ∙ a.2))
          (h q less)

  -- Lines that were added were not final before.
  pub added_fresh : (law : IsLawful M) (w : World M) (horizon : ℕ) (es : List (CoreStep M)) (c : Core M) (runs : ℕ → List (Item M)) (v : Inv M horizon w c runs) (count : ℕ) → IsSchedule M horizon c es
      → (r : ℕ) (more : List M.Line) → r < count → (core_after M c es r).lines ≡ (c r).lines ++ more → Each (λ (x : M.Line). IsFinalIn M count c (M.line_tick x) r → ⊥) more
  added_fresh law w horizon es c runs v count x r more less is =
      each_map (λ (z : M.Line). (f : (m : ℕ) × IsFloor M c m) → IsFinal M count c f.0 (M.line_tick z) r → ⊥) (λ (z : M.Line). IsFinalIn M count c (M.line_tick z) r → ⊥) more
      (λ z h f. h (f.0, f.1) f.2)
      (each_swap (λ (f : (m : ℕ) × IsFloor M c m) (z : M.Line). IsFinal M count c f.0 (M.line_tick z) r → ⊥) more by_floor)
    where
      by_floor : (f : (m : ℕ) × IsFloor M c m) → Each (λ (z : M.Line). IsFinal M count c f.0 (M.line_tick z) r → ⊥) more
      by_floor f =
          let y = onward law w horizon es c runs v f.0 f.1 x in
          let a = y.goes.lines r in
          let same : a.more ≡ more = same_rest (c r).lines a.more more (sym a.is ∙ is) in
          subst (Each (λ (z : M.Line). IsFinal M count c f.0 (M.line_tick z) r → ⊥)) same
          (each_map _ _ a.more (λ z h g. apart y.n z h.0 h.1 (final_up M count c f.0 y.n (M.line_tick z) r y.more g)) a.late)
        where
          apart : (n : ℕ) (z : M.Line) → (c r).state.stop ≡ None → floor M c n r ≤ M.line_tick z → IsFinal M count c n (M.line_tick z) r → ⊥
          apart n z live low g =
              ⊎_elim
              (λ a. ⊎_elim (λ (b : M.line_tick z < floor M c n r). omega arith) (λ b. let l : r < r = b.1 in omega arith) a)
              (λ a. none_some _ _ live a.1.1)
              (g r less)

  -- the core goes on
  pub is_later : (law : IsLawful M) (w : World M) (horizon : ℕ) (es : List (CoreStep M)) (c : Core M) (runs : ℕ → List (Item M)) (v : Inv M horizon w c runs) (count : ℕ) → IsSchedule M horizon c es
      → (more : ℕ → List M.Line) → ((r : ℕ) → r < count → (core_after M c es r).lines ≡ (c r).lines ++ more r) → IsLater M count horizon c (core_after M c es) more
  is_later law w horizon es c runs v count x more grown =
      let u = inv_all M law w horizon es c runs v x in
      record {
        grown = grown;
        rise = λ r b. (core_lines law horizon w (core_after M c es) (taken_after M runs es) u r).rise;
        below = λ r b. (core_lines law horizon w (core_after M c es) (taken_after M runs es) u r).below;
        stays = λ r t b f. final_stays law w horizon es c runs v count x r t f;
        fresh = λ r b. added_fresh law w horizon es c runs v count x r (more r) b (grown r b);
      }
