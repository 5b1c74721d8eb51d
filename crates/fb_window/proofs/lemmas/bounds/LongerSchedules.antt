-- A schedule to some horizon, within another one that all its clocks keep.
use Rattle.fb_window.proofs.lemmas.Common.{◌≡◌, ℕ, ◌+◌, ◌≤◌, min, Bool, true, false, cond, Some, None, List, [], ◌∷◌, map, refl, sym, ap, ◌∙◌, subst, ⊎_elim, arith, option_map, ◌==◌, Machine, Item, Member, Core, CoreStep, IsSchedule, core_after, IsLawful, World, IsOpening}
use Rattle.fb_types.proofs.Common.{end, Run, with_at, Lend, Give, Exchange, clock_after, done, returned}
use Rattle.fb_types.specs.Cores.{MayDo, bound_of}
use Rattle.fb_types.specs.Schedules.{taken_by}
use Rattle.fb_types.proofs.lemmas.lists.EachLaws.{each_map}
use Rattle.fb_laws.proofs.lemmas.resources.Global.{with_at_same}
use Rattle.fb_laws.proofs.lemmas.schedules.Start.{opening}
use Rattle.fb_laws.proofs.lemmas.schedules.Keeps.{done_of, passed, Inv, Moved, moved, inv_opening, inv_step}
use Rattle.fb_laws.proofs.lemmas.schedules.Reached.{reached_by}
use Rattle.fb_laws.proofs.lemmas.resources.RunSteps.{put_ind, run_ends, Stopped}

-- what is set at an index, seen through a function
map_at : {A B : Type 0} (f : A → B) (r : ℕ) (x : A) (g : ℕ → A) (q : ℕ) → with_at r (f x) (λ n. f (g n)) q ≡ f (with_at r x g q)
map_at {A} {B} f r x g q = go (q == r)
  where
    go : (b : Bool) → cond b (f x) (f (g q)) ≡ f (cond b x (g q))
    go true = refl
    go false = refl

module _ (M : Machine) (h : ℕ) where
  abbrev cap : ℕ × ℕ → ℕ × ℕ
  cap x = (x.0, min x.1 h)

  -- the member, out no further than the horizon
  abbrev capped : Member M → Member M
  capped s = record s { out = option_map cap s.out }

  abbrev all_capped : Core M → Core M
  all_capped c = λ r. capped (c r)

  abbrev step_within : CoreStep M → CoreStep M
  step_within (Lend worker r bound) = Lend worker r (min bound h)
  step_within (Give worker r is) = Give worker r is
  step_within Exchange = Exchange

  -- the same steps, with bounds up to the horizon
  abbrev pub steps_within : List (CoreStep M) → List (CoreStep M)
  steps_within es = map step_within es

  module _ (law : IsLawful M) (w : World M) (range : ℕ) where
    -- what a run makes of a seat that is out
    moves : (c : Core M) (runs : ℕ → List (Item M)) (worker r : ℕ) (is : List (Item M)) (v : Inv M range w c runs) (x : MayDo M range c (Give worker r is))
        → Moved M v.m r x.bound (c r) is (returned M (c r) is)
    moves c runs worker r is v x =
        let a = v.each r in
        let o = a.out (worker, x.bound) x.is_out in
        moved M law v.m r x.bound worker (c r) is o.0 o.1 x.is_out a.rests (λ k b e. (v.is_floor r k b).0 e) x.run

    -- no step takes a seat back
    step_on : (c : Core M) (runs : ℕ → List (Item M)) (e : CoreStep M) → Inv M range w c runs → MayDo M range c e → (q : ℕ) → passed M (c q) ≤ passed M (done M c e q)
    step_on c runs (Lend worker r bound) v x =
        put_ind (λ q s. passed M (c q) ≤ passed M s) r (record (c r) { out = Some (worker, bound) }) c (omega arith) (λ q. omega arith)
    step_on c runs (Give worker r is) v x =
        put_ind (λ q s. passed M (c q) ≤ passed M s) r (returned M (c r) is) c
        (let m = moves c runs worker r is v x in let e : passed M (c r) ≡ (c r).clock = ap (λ z. done_of z (c r).clock) m.live in let p = m.passed_more in omega arith)
        (λ q. omega arith)
    step_on c runs Exchange v x = λ q. omega arith

    steps_on : (es : List (CoreStep M)) (c : Core M) (runs : ℕ → List (Item M)) → Inv M range w c runs → IsSchedule M range c es → (q : ℕ) → passed M (c q) ≤ passed M (core_after M c es q)
    steps_on [] c runs v x q = omega arith
    steps_on (e ∷ es) c runs v x q =
        let one = step_on c runs e v x.0 q in
        let rest = steps_on es (done M c e) (taken_by M runs e) (inv_step M law w range c runs e v x.0) x.1 q in
        omega (arith, one, rest)

    -- What is known of a run below a bound that has kept the horizon.
    record Short (r bound : ℕ) (s : Member M) (is : List (Item M)) : Type 0 where
      run : Run M r s.state (min bound h) is
      clock : clock_after M (min bound h) is ≡ clock_after M bound is

    short : (r bound : ℕ) (s : Member M) (is : List (Item M)) → s.state.stop ≡ None → Run M r s.state bound is → done_of (end M s.state is).stop (clock_after M bound is) ≤ h → Short r bound s is
    short r bound s is live run kept = ⊎_elim going stopped (run_ends M law r bound is s.state run.chain live)
      where
        going : ((end M s.state is).stop ≡ None) × (clock_after M bound is ≡ bound) → Short r bound s is
        going g =
            let e : done_of (end M s.state is).stop (clock_after M bound is) ≡ clock_after M bound is = ap (λ z. done_of z (clock_after M bound is)) g.0 in
            let at = g.1 in
            let same : min bound h ≡ bound = omega arith in
            record { run = subst (λ (n : ℕ). Run M r s.state n is) (sym same) run; clock = ap (λ n. clock_after M n is) same }

        stopped : Stopped M s.state is → Short r bound s is
        stopped g =
            let e : done_of (end M s.state is).stop (clock_after M bound is) ≡ clock_after M bound is + 1 = ap (λ z. done_of z (clock_after M bound is)) g.stop in
            let at = g.clock bound in
            let under = g.under bound run.below in
            record {
              run = record {
                chain = run.chain;
                below = each_map _ _ is (λ (i : Item M) (b : i.key.tick ≤ g.tick). omega arith) g.all;
                rests = λ q k n b. run.rests q k n (omega arith);
              };
              clock = g.clock (min bound h) ∙ sym (g.clock bound);
            }

    -- A step in its turn is one within the horizon, where it leaves all seats there.
    record Fits (c : Core M) (e : CoreStep M) : Type 0 where
      may : MayDo M h (all_capped c) (step_within e)
      leads : done M (all_capped c) (step_within e) ≡ all_capped (done M c e)

    fits : (c : Core M) (runs : ℕ → List (Item M)) (e : CoreStep M) → Inv M range w c runs → MayDo M range c e → ((q : ℕ) → passed M (done M c e q) ≤ h) → Fits c e
    fits c runs (Lend worker r bound) v x kept = record {
      may = record {
        home = ap (option_map cap) x.home;
        live = x.live;
        legal = record {
          m = x.legal.m;
          is_floor = x.legal.is_floor;
          outboxes = λ s k e b. x.legal.outboxes s k e (omega arith);
          links = λ k u a e b. let l = x.legal.links k u a e b in omega arith;
        };
        not_back =
            let on = step_on c runs (Lend worker r bound) v x r in
            let e : passed M (c r) ≡ (c r).clock = ap (λ z. done_of z (c r).clock) x.live in
            let k = kept r in
            let b = x.not_back in
            omega arith;
        in_range = omega arith;
      };
      leads = λ u q. map_at capped r (record (c r) { out = Some (worker, bound) }) c q u;
    }
    fits c runs (Give worker r is) v x kept =
        let o = (v.each r).out (worker, x.bound) x.is_out in
        let clock_is : (returned M (c r) is).clock ≡ clock_after M x.bound is = ap (λ z. clock_after M (bound_of z) is) x.is_out in
        let at : passed M (done M c (Give worker r is) r) ≡ passed M (returned M (c r) is) = ap (λ s. passed M s) (with_at_same r (returned M (c r) is) c r refl) in
        let k = kept r in
        let done_is : done_of (end M (c r).state is).stop (clock_after M x.bound is) ≡ passed M (returned M (c r) is) = ap (λ z. done_of (end M (c r).state is).stop z) (sym clock_is) in
        let s = short r x.bound (c r) is o.0 x.run (omega arith) in
        let capped_out : (capped (c r)).out ≡ Some (worker, min x.bound h) = ap (option_map cap) x.is_out in
        let clock_same : clock_after M (bound_of (capped (c r)).out) is ≡ (returned M (c r) is).clock = ap (λ z. clock_after M (bound_of z) is) capped_out ∙ s.clock ∙ sym clock_is in
        let back : returned M (capped (c r)) is ≡ capped (returned M (c r) is) = λ u. record (returned M (c r) is) { clock = clock_same u } in
        record {
          may = record { bound = min x.bound h; is_out = capped_out; run = s.run };
          leads = ap (λ z. with_at r z (all_capped c)) back ∙ (λ u q. map_at capped r (returned M (c r) is) c q u);
        }
    fits c runs Exchange v x kept = record { may = λ r. ap (option_map cap) (x r); leads = refl }

    within : (es : List (CoreStep M)) (c : Core M) (runs : ℕ → List (Item M)) → Inv M range w c runs → IsSchedule M range c es → ((q : ℕ) → passed M (core_after M c es q) ≤ h)
        → IsSchedule M h (all_capped c) (steps_within es) × (core_after M (all_capped c) (steps_within es) ≡ all_capped (core_after M c es))
    within [] c runs v x kept = (tt, refl)
    within (e ∷ es) c runs v x kept =
        let v' = inv_step M law w range c runs e v x.0 in
        let f = fits c runs e v x.0 (λ q. let on = steps_on es (done M c e) (taken_by M runs e) v' x.1 q in let k = kept q in omega (arith, on, k)) in
        let rest = within es (done M c e) (taken_by M runs e) v' x.1 kept in (
          (f.may, subst (λ (z : Core M). IsSchedule M h z (steps_within es)) (sym f.leads) rest.0),
          ap (λ (z : Core M). core_after M z (steps_within es)) f.leads ∙ rest.1,
        )

    home_capped : (s : Member M) → s.out ≡ None → capped s ≡ s
    home_capped s e = λ u. record s { out = (ap (option_map cap) e ∙ sym e) u }

    -- A schedule that has brought all seats home within the horizon is one to this horizon, with its bounds up to there.
    pub schedule_within : IsOpening M w → (es : List (CoreStep M)) → IsSchedule M range (opening M w) es → ((r : ℕ) → (reached_by M w es r).out ≡ None) → ((r : ℕ) → passed M (reached_by M w es r) ≤ h)
        → IsSchedule M h (opening M w) (steps_within es) × (reached_by M w (steps_within es) ≡ reached_by M w es)
    schedule_within opens es x home kept =
        let is = within es (opening M w) (λ r. []) (inv_opening M range w opens) x kept in
        (is.0, is.1 ∙ (λ u r. home_capped (reached_by M w es r) (home r) u))
