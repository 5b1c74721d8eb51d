-- There is a simulation: each taking that does not stop uses a step, of which a resource has a limited number in one
-- tick.
use Rattle.fb_laws.proofs.lemmas.Common.{◌≡◌, ℕ, zero, suc, ◌+◌, ◌<◌, ◌≤◌, ◌⊎◌, refl, sym, ap, ◌∙◌, subst, inl, inr, ⊎_elim, List, [], ◌∷◌, ◌++◌, Option, Some, None, arith, cases_lt, cases_eq, Precedes, found, without, changed_to, timer_key, System, Config, Taken, IsSimulation, opening, Each, count_of, IsAtResource, Key, Reason, Event, Stimulus, IsSound}
use Rattle.fb_types.proofs.Common.{NoneBelow, TakesLeast, after, NothingAfter, Chain, last, AtHorizon, ending_by, ending_of, RestsAt, opening_events}
use Rattle.fb_types.proofs.lemmas.lists.Lookups.{before_irrefl, before_cases, before_trans, tick_before, resource_before, none_some, none_since, option_cases, or_else_nones, or_else_some, edit_some, edit_none, without_none, without_some}
use Rattle.fb_laws.proofs.lemmas.takings.Effects.{GoodEffect, takes_good, agenda_fits}
use Rattle.fb_laws.proofs.lemmas.existence.TakeTotal.{In, in_left, in_right, keys, found_in, left_in, can_take}
use Rattle.fb_laws.proofs.lemmas.machine.Opening.{opening_fits, is_counted}
use Rattle.fb_laws.proofs.lemmas.machine.BackToSystem.{each_all}

module _ (sys : System) (sound : IsSound sys) (horizon limit : ℕ) where
  record Good (c : Config) : Type 0 where
    fits : (j : Key) (v : Event) → c.agenda j ≡ Some v → IsAtResource sys j v
    counted : (j : Key) → count_of sys ≤ j.resource → c.agenda j ≡ None
    list : List Key
    covered : (j : Key) (v : Event) → c.agenda j ≡ Some v → In j list

  record Least (c : Config) (xs : List Key) : Type 0 where
    key : Key
    event : Event
    waits : c.agenda key ≡ Some event
    least : (k : Key) → In k xs → Precedes k key → c.agenda k ≡ None

  pick : (c : Config) (xs : List Key) → ((k : Key) → In k xs → c.agenda k ≡ None) ⊎ Least c xs
  pick c [] = inl (λ k h. absurd h)
  pick c (x ∷ xs) =
      ⊎_elim
      (λ h. ⊎_elim
      (λ n. inl (λ k y. ⊎_elim (λ e. ap c.agenda e ∙ n) (λ e. h k e) y))
      (λ v. inr (record { key = x; event = v.0; waits = v.1; least = λ k y b. ⊎_elim (λ e. absurd (before_irrefl x (subst (λ (z : Key). Precedes z x) e b))) (λ e. h k e) y }))
      (option_cases (c.agenda x)))
      (λ l. ⊎_elim
      (λ n. inr (record { key = l.key; event = l.event; waits = l.waits; least = λ k y b. ⊎_elim (λ e. ap c.agenda e ∙ n) (λ e. l.least k e b) y }))
      (λ v. ⊎_elim
      (λ d. inr (record { key = x; event = v.0; waits = v.1; least = λ k y b. ⊎_elim (λ e. absurd (before_irrefl x (subst (λ (z : Key). Precedes z x) e b))) (λ e. l.least k e (before_trans k x l.key b d)) y }))
      (λ d. inr (record { key = l.key; event = l.event; waits = l.waits; least = λ k y b. ⊎_elim (λ e. absurd (d (subst (λ (z : Key). Precedes z l.key) e b))) (λ e. l.least k e b) y }))
      (before_cases x l.key))
      (option_cases (c.agenda x)))
      (pick c xs)

  -- the next taking
  record Next (c : Config) : Type 0 where
    taken : Taken
    takes : TakesLeast sys limit c taken
    good : GoodEffect sys sound taken.key taken.effect
    counted : taken.key.resource < count_of sys
    after_good : Good (after c taken)
    lower : taken.effect.stop ≡ None → left_in limit taken.key.tick taken.key.resource taken.effect.state < left_in limit taken.key.tick taken.key.resource c.state

  record Done (c : Config) : Type 0 where
    takings : List Taken
    chain : Chain sys limit c takings
    below : Each (λ (t : Taken). t.key.tick < horizon) takings
    rests : RestsAt horizon (ending_of horizon takings) (last c takings).agenda

  idle : (c : Config) → NoneBelow c.agenda horizon → Done c
  idle c h = record { takings = []; chain = tt; below = tt; rests = h }

  -- a taking, and what follows it
  join : (c : Config) (t : Taken) → TakesLeast sys limit c t → t.key.tick < horizon → t.effect.stop ≡ None → Done (after c t) → Done c
  join c t x b n y = record {
    takings = t ∷ y.takings;
    chain = (x, subst (λ (o : Option Reason). NothingAfter o y.takings) (sym n) tt, y.chain);
    below = (b, y.below);
    rests = subst (λ (o : Option Reason). RestsAt horizon (ending_by o t.key (ending_of horizon y.takings)) (last (after c t) y.takings).agenda) (sym n) y.rests;
  }

  stopping : (c : Config) (t : Taken) → TakesLeast sys limit c t → t.key.tick < horizon → (q : Reason) → t.effect.stop ≡ Some q → Done c
  stopping c t x b q n = record {
    takings = t ∷ [];
    chain = (x, subst (λ (o : Option Reason). NothingAfter o []) (sym n) refl, tt);
    below = (b, tt);
    rests = subst (λ (o : Option Reason). RestsAt horizon (ending_by o t.key (AtHorizon horizon)) (after c t).agenda) (sym n) tt;
  }

  -- no key before this tick and resource
  abbrev From : ℕ → ℕ → Config → Type 0
  From t r c = (k : Key) → (k.tick < t) ⊎ ((k.tick ≡ t) × (k.resource < r)) → c.agenda k ≡ None

  -- what waits is not before this point
  not_before : (t r : ℕ) (c : Config) (i : Taken) → From t r c → TakesLeast sys limit c i → (t < i.key.tick) ⊎ ((i.key.tick ≡ t) × (r ≤ i.key.resource))
  not_before t r c i f x =
      ⊎_elim
      (λ b. absurd (none_some _ _ (f i.key (inl b)) x.waits))
      (λ b. ⊎_elim
      (λ e. ⊎_elim (λ d. absurd (none_some _ _ (f i.key (inr (e, d))) x.waits)) (λ d. inr (e, d)) (cases_lt i.key.resource r))
      (λ e. inl (omega arith))
      (cases_eq i.key.tick t))
      (cases_lt i.key.tick t)

  from_next : (t r : ℕ) (c : Config) (i : Taken) → GoodEffect sys sound i.key i.effect → i.key.tick ≡ t → i.key.resource ≡ r → From t r c → From t r (after c i)
  from_next t r c i y e d f k h =
      or_else_nones _ _
      (none_since _ (λ v q. let a = (y.sent k v q).arrival in let ta : k.tick ≡ sys.arrival k.a i.key.tick = a.tick in let z = sound.later k.a i.key.tick a.link in ⊎_elim (λ b. omega arith) (λ b. let g = b.0 in omega arith) h))
      (edit_none _ _
      (λ v q. let z = (y.changes k (Some v) q).later v refl in let u : k.resource ≡ i.key.resource = (y.changes k (Some v) q).own in
      ⊎_elim (λ b. omega arith) (λ b. let g = b.0 in let l = b.1 in omega arith) h)
      (without_none i.key c.agenda k (f k h)))

  next_of : (c : Config) → Good c → ((k : Key) → c.agenda k ≡ None) ⊎ Next c
  next_of c g =
      ⊎_elim
      (λ h. inl (λ k. none_since _ (λ v q. none_some _ _ (h k (g.covered k v q)) q)))
      (λ l. inr (found_next c g l))
      (pick c g.list)
    where
      found_next : (c : Config) (g : Good c) → Least c g.list → Next c
      found_next c g l =
          let x = can_take sys limit c.state l.key l.event in
          let home : IsAtResource sys l.key l.event = g.fits l.key l.event l.waits in
          let good = takes_good sys sound l.key limit c.state l.event home x.effect x.takes in
          let here : l.key.resource < count_of sys = ⊎_elim (λ b. b) (λ b. absurd (none_some _ _ (g.counted l.key b) l.waits)) (cases_lt l.key.resource (count_of sys)) in
          record {
            taken = record { key = l.key; event = l.event; effect = x.effect };
            takes = record { waits = l.waits; least = λ k b. none_since _ (λ v q. none_some _ _ (l.least k (g.covered k v q) b) q); takes = x.takes };
            good = good;
            counted = here;
            lower = x.lower;
            after_good = record {
              fits = agenda_fits sys sound l.key c.agenda x.effect good g.fits;
              counted = λ k b. or_else_nones _ _
                  (none_since _ (λ v q. let a = (good.sent k v q).arrival in let ra : k.resource ≡ sys.receiver k.a = a.resource in let z = sound.receivers k.a a.link in omega arith))
                  (edit_none _ _ (λ v q. let u : k.resource ≡ l.key.resource = (good.changes k (Some v) q).own in omega arith) (without_none l.key c.agenda k (g.counted k b)));
              list = keys x.effect.sent ++ (x.covers.list ++ g.list);
              covered = λ k v h. ⊎_elim
                  (λ e. in_left k (keys x.effect.sent) _ (found_in k x.effect.sent v e))
                  (λ e. in_right k (keys x.effect.sent) _ (⊎_elim
                  (λ d. in_left k x.covers.list _ (x.covers.covered k v d))
                  (λ d. in_right k x.covers.list _ (g.covered k v (without_some l.key c.agenda k v d.1).0))
                  (edit_some (x.effect.changes k) (without l.key c.agenda k) v e)))
                  (or_else_some (found k x.effect.sent) (changed_to (x.effect.changes k) (without l.key c.agenda k)) v h);
            };
          }

  in_place_step : (t r : ℕ) → ((c : Config) → Good c → From t (r + 1) c → Done c) → (c : Config) → Good c → From t r c
      → ((n : Next c) → n.taken.effect.stop ≡ None → n.taken.key.tick ≡ t → n.taken.key.resource ≡ r → Done (after c n.taken)) → Done c
  in_place_step t r on c g f go = ⊎_elim (λ h. idle c (λ k b. h k)) (λ n. some n) (next_of c g)
    where
      some : Next c → Done c
      some y =
          let i = y.taken in
          let x = y.takes in
          let nb = not_before t r c i f x in
          ⊎_elim
          (λ b. ⊎_elim
          (λ n. ⊎_elim
          (λ e. on c g (λ k h. ⊎_elim (λ d. f k (inl d)) (λ d. x.least k (tick_before k i.key (let u = d.0 in omega arith))) h))
          (λ e. ⊎_elim
          (λ d. join c i x b n (go y n e.0 d))
          (λ d. on c g (λ k h. ⊎_elim (λ a. f k (inl a)) (λ a. let u = a.0 in let v = e.0 in let p = e.1 in let z = a.1 in x.least k (resource_before k i.key (omega arith) (omega arith))) h))
          (cases_eq i.key.resource r))
          nb)
          (λ q. stopping c i x b q.0 q.1)
          (option_cases i.effect.stop))
          (λ b. idle c (λ k d. x.least k (tick_before k i.key (omega arith))))
          (cases_lt i.key.tick horizon)

  -- the steps that are left at this point, after a taking there
  lower_next : (t r : ℕ) (c : Config) (n : Next c) → n.taken.effect.stop ≡ None → n.taken.key.tick ≡ t → n.taken.key.resource ≡ r → left_in limit t r (after c n.taken).state < left_in limit t r c.state
  lower_next t r c n e p q =
      subst (λ (z : ℕ). left_in limit z r (after c n.taken).state < left_in limit z r c.state) p
      (subst (λ (z : ℕ). left_in limit n.taken.key.tick z (after c n.taken).state < left_in limit n.taken.key.tick z c.state) q (n.lower e))

  -- within one tick of one resource
  in_place : (t r : ℕ) → ((c : Config) → Good c → From t (r + 1) c → Done c) → (fuel : ℕ) (c : Config) → Good c → From t r c → left_in limit t r c.state ≤ fuel → Done c
  in_place t r on zero c g f b =
      in_place_step t r on c g f (λ n e p q. absurd (let l = lower_next t r c n e p q in omega arith))
  in_place t r on (suc fuel) c g f b =
      in_place_step t r on c g f (λ n e p q.
      let l = lower_next t r c n e p q in
      in_place t r on fuel (after c n.taken) n.after_good (from_next t r c n.taken n.good p q f) (omega arith))

  -- within one tick
  in_tick : (t : ℕ) → ((c : Config) → Good c → From (t + 1) 0 c → Done c) → (more r : ℕ) (c : Config) → count_of sys ≤ r + more → Good c → From t r c → Done c
  in_tick t on zero r c b g f =
      on c g (λ k h. ⊎_elim
      (λ a. ⊎_elim (λ d. f k (inl d)) (λ d. ⊎_elim (λ e. f k (inr (omega arith, e))) (λ e. g.counted k (omega arith)) (cases_lt k.resource r)) (cases_lt k.tick t))
      (λ a. let d = a.1 in absurd (omega arith)) h)
  in_tick t on (suc more) r c b g f =
      in_place t r (λ c' g' f'. in_tick t on more (r + 1) c' (omega arith) g' f') (left_in limit t r c.state) c g f (omega arith)

  in_time : (more t : ℕ) (c : Config) → horizon ≤ t + more → Good c → From t 0 c → Done c
  in_time zero t c b g f = idle c (λ k d. f k (inl (omega arith)))
  in_time (suc more) t c b g f = in_tick t (λ c' g' f'. in_time more (t + 1) c' (omega arith) g' f') (count_of sys) 0 c (omega arith) g f

  -- there is a simulation
  pub there_is : (stimuli : List Stimulus) → (ts : List Taken) × IsSimulation sys stimuli horizon limit ts
  there_is stimuli =
      let c = opening sys stimuli in
      let y = in_time horizon 0 c (omega arith)
      (record {
        fits = opening_fits sys sound limit stimuli (timer_key 0 0 0);
        counted = (is_counted sys sound limit stimuli).agenda;
        list = keys (opening_events sys stimuli);
        covered = λ j v h. ⊎_elim (λ e. found_in j (opening_events sys stimuli) v e) (λ e. absurd (none_some None v refl e)) (or_else_some (found j (opening_events sys stimuli)) None v h);
      })
      (λ k h. ⊎_elim (λ a. absurd (omega arith)) (λ a. let d = a.1 in absurd (omega arith)) h) in
      (y.takings, record { chain = y.chain; below = each_all (λ (t : Taken). t.key.tick < horizon) y.takings y.below; rests = y.rests })
