-- The one-thread simulation of a system is the simulation of its machine.
use Rattle.fb_laws.proofs.lemmas.Common.{◌≡◌, ℕ, suc, ◌⊎◌, refl, sym, ap, ◌∙◌, subst, inl, inr, ⊎_elim, List, [], ◌∷◌, Bool, true, false, Option, Some, None, arith, if◌then◌else◌, ◌==◌, nat_lt, All, cases_eq, cond-true, cond-false, eq-eqb, ne_eqb, or_else, System, Config, Takes, with_at, Taken, Machine, Each, cut, machine, items_of, IsAtResource, Key, Reason, IsSound, World, TakesLeast, next, Simulates, last, StopsAt}
use Rattle.fb_types.proofs.Common.{Agenda, agenda_after, NothingAfter, AtHorizon, AtStop, ending_by, ending_of, part_of}
use Rattle.fb_types.specs.Simulation as sim
use Rattle.fb_types.specs.Parts.{Part, item_of}
use Rattle.fb_types.specs.Histories.{takings_below, stop_of}
use Rattle.fb_types.proofs.lemmas.lists.Lookups.{none_some, option_cases, or_else_none}
use Rattle.fb_laws.proofs.lemmas.resources.Global.{with_at_same, with_at_other}
use Rattle.fb_laws.proofs.lemmas.resources.Stops.{HasStop}
use Rattle.fb_laws.proofs.lemmas.takings.Effects.{AllFit, takes_good, agenda_fits}
use Rattle.fb_laws.proofs.lemmas.resources.OwnPart.{takes_stays}

-- what holds at each index holds of each element
pub all_each : {X : Type 0} (P : X → Type 0) (xs : List X) → All P xs → Each P xs
all_each P [] h = tt
all_each P (x ∷ xs) h = (h 0 x (omega arith), all_each P xs (λ k d b. h (suc k) d (omega arith)))

module _ (sys : System) (sound : IsSound sys) (limit : ℕ) where
  abbrev M : Machine
  M = machine sys limit

  abbrev pub world_of : Config → (ℕ → Option Reason) → World (machine sys limit)
  world_of c stops = record { parts = λ r. part_of sys r c.state; stops = stops; agenda = c.agenda }

  world_with : (ℕ → Part) → (ℕ → Option Reason) → Agenda → World (machine sys limit)
  world_with p s a = record { parts = p; stops = s; agenda = a }

  -- nothing has stopped, or nothing more is taken
  abbrev IsLive : (ℕ → Option Reason) → List Taken → Type 0
  IsLive stops ts = ((r : ℕ) → stops r ≡ None) ⊎ (ts ≡ [])

  live_next : (stops : ℕ → Option Reason) (t : Taken) (ts : List Taken) → ((r : ℕ) → stops r ≡ None) → NothingAfter t.effect.stop ts → IsLive (with_at t.key.resource t.effect.stop stops) ts
  live_next stops t ts h n =
      ⊎_elim
      (λ (e : t.effect.stop ≡ None). inl (λ r. ⊎_elim (λ q. with_at_same t.key.resource t.effect.stop stops r q ∙ e) (λ q. with_at_other t.key.resource t.effect.stop stops r q ∙ h r) (cases_eq r t.key.resource)))
      (λ (s : (q : Reason) × (t.effect.stop ≡ Some q)). inr (subst (λ (o : Option Reason). NothingAfter o ts) s.1 n))
      (option_cases t.effect.stop)

  parts_next : (c : Config) (t : Taken) → IsAtResource sys t.key t.event → Takes sys limit c.state t.key t.event t.effect
      → with_at t.key.resource (part_of sys t.key.resource t.effect.state) (λ r. part_of sys r c.state) ≡ (λ r. part_of sys r t.effect.state)
  parts_next c t home x = λ i r. pointwise r i
    where
      pointwise : (r : ℕ) → with_at t.key.resource (part_of sys t.key.resource t.effect.state) (λ r. part_of sys r c.state) r ≡ part_of sys r t.effect.state
      pointwise r =
          ⊎_elim
          (λ (e : r ≡ t.key.resource). with_at_same t.key.resource (part_of sys t.key.resource t.effect.state) (λ r. part_of sys r c.state) r e ∙ ap (λ z. part_of sys z t.effect.state) (sym e))
          (λ (n : r ≡ t.key.resource → ⊥). with_at_other t.key.resource (part_of sys t.key.resource t.effect.state) (λ r. part_of sys r c.state) r n ∙ sym (takes_stays sys sound t.key limit t.event home c.state t.effect x r n))
          (cases_eq r t.key.resource)

  pub world_next : (c : Config) (stops : ℕ → Option Reason) (t : Taken) → IsAtResource sys t.key t.event → Takes sys limit c.state t.key t.event t.effect
      → next M (world_of c stops) (item_of sys limit t) ≡ world_of (sim.after c t) (with_at t.key.resource t.effect.stop stops)
  unfolding world_with
  world_next c stops t home x =
      ap (λ z. world_with z (with_at t.key.resource t.effect.stop stops) (agenda_after t.key c.agenda t.effect)) (parts_next c t home x)

  takes_least : (c : Config) (stops : ℕ → Option Reason) (t : Taken) → AllFit sys sound t.key c.agenda → ((r : ℕ) → stops r ≡ None) → sim.TakesLeast sys limit c t
      → TakesLeast M (world_of c stops) (item_of sys limit t)
  takes_least c stops t fits live x = record {
    live = live;
    waits = x.waits;
    least = x.least;
    fits = fits t.key t.event x.waits;
    gives = record { state = c.state; effect = t.effect; is_part = refl; takes = x.takes; gives = refl };
  }

  -- the stops after the takings
  abbrev pub stops_after : (ℕ → Option Reason) → List Taken → ℕ → Option Reason
  stops_after stops [] = stops
  stops_after stops (t ∷ ts) = stops_after (with_at t.key.resource t.effect.stop stops) ts

  pub simulates : (k : Key) (ts : List Taken) (c : Config) (stops : ℕ → Option Reason) → AllFit sys sound k c.agenda → IsLive stops ts → sim.Chain sys limit c ts
      → Simulates M (world_of c stops) (items_of sys limit ts) × (last M (world_of c stops) (items_of sys limit ts) ≡ world_of (sim.last c ts) (stops_after stops ts))
  simulates k [] c stops fits live x = (tt, refl)
  simulates k (t ∷ ts) c stops fits live x =
      let l : (r : ℕ) → stops r ≡ None = ⊎_elim (λ h. h) (λ h. absurd (nil_not t ts h)) live in
      let home : IsAtResource sys t.key t.event = fits t.key t.event x.0.waits in
      let good = takes_good sys sound t.key limit c.state t.event home t.effect x.0.takes in
      let y = simulates k ts (sim.after c t) (with_at t.key.resource t.effect.stop stops) (agenda_fits sys sound t.key c.agenda t.effect good fits) (live_next stops t ts l x.1) x.2 in
      let e = world_next c stops t home x.0.takes in (
        (takes_least c stops t fits l x.0, subst (λ (w : World M). Simulates M w (items_of sys limit ts)) (sym e) y.0),
        ap (λ w. last M w (items_of sys limit ts)) e ∙ y.1,
      )
    where
      nil_not : (t : Taken) (ts : List Taken) → t ∷ ts ≡ [] → ⊥
      nil_not t ts h = cc

  -- ---- Stops

  -- the reason for which a resource stopped is that of its takings
  pub stops_are : (ts : List Taken) (c : Config) (stops : ℕ → Option Reason) → IsLive stops ts → sim.Chain sys limit c ts → (r : ℕ) → stops_after stops ts r ≡ or_else (stop_of r ts) (stops r)
  stops_are [] c stops live x r = refl
  stops_are (t ∷ ts) c stops live x r =
      let l : (r : ℕ) → stops r ≡ None = ⊎_elim (λ h. h) (λ h. absurd (nil_not t ts h)) live in
      let y = stops_are ts (sim.after c t) (with_at t.key.resource t.effect.stop stops) (live_next stops t ts l x.1) x.2 r in
      y ∙ ap (λ o. or_else (stop_of r ts) o) (here l) ∙ sym (or_else_none _) ∙ sym (ap (λ o. or_else (stop_of r (t ∷ ts)) o) (l r))
    where
      nil_not : (t : Taken) (ts : List Taken) → t ∷ ts ≡ [] → ⊥
      nil_not t ts h = cc

      here : ((r : ℕ) → stops r ≡ None) → with_at t.key.resource t.effect.stop stops r ≡ (if t.key.resource == r then t.effect.stop else None)
      here l =
          ⊎_elim
          (λ (e : r ≡ t.key.resource). with_at_same t.key.resource t.effect.stop stops r e ∙ sym (cond-true (t.key.resource == r) t.effect.stop None (eq-eqb t.key.resource r (sym e))))
          (λ (n : r ≡ t.key.resource → ⊥). with_at_other t.key.resource t.effect.stop stops r n ∙ l r ∙ sym (cond-false (t.key.resource == r) t.effect.stop None (ne_eqb t.key.resource r (λ e. n (sym e)))))
          (cases_eq r t.key.resource)

  -- ---- A cut

  pub items_below : (t : ℕ) (ts : List Taken) → items_of sys limit (takings_below t ts) ≡ cut M t (items_of sys limit ts)
  items_below t [] = refl
  items_below t (x ∷ xs) = go (nat_lt x.key.tick t) (items_below t xs)
    where
      go : (b : Bool) → items_of sys limit (takings_below t xs) ≡ cut M t (items_of sys limit xs)
          → items_of sys limit (if b then x ∷ takings_below t xs else []) ≡ (if b then item_of sys limit x ∷ cut M t (items_of sys limit xs) else [])
      go true e = ap (λ z. item_of sys limit x ∷ z) e
      go false e = refl

  nothing_below : (t : ℕ) (o : Option Reason) (ts : List Taken) → NothingAfter o ts → NothingAfter o (takings_below t ts)
  nothing_below t None ts h = tt
  nothing_below t (Some q) ts h = ap (λ z. takings_below t z) h

  pub chain_below : (t : ℕ) (ts : List Taken) (c : Config) → sim.Chain sys limit c ts → sim.Chain sys limit c (takings_below t ts)
  chain_below t [] c x = tt
  chain_below t (y ∷ ys) c x = go (nat_lt y.key.tick t) (chain_below t ys (sim.after c y) x.2)
    where
      go : (b : Bool) → sim.Chain sys limit (sim.after c y) (takings_below t ys) → sim.Chain sys limit c (if b then y ∷ takings_below t ys else [])
      go true e = (x.0, nothing_below t y.effect.stop ys x.1, e)
      go false e = tt

  -- ---- The ending

  -- no item stops
  abbrev NoneStops : List Taken → Type 0
  NoneStops ts = Each (λ (t : Taken). t.effect.stop ≡ None) ts

  pub none_has : (ts : List Taken) → NoneStops ts → (j : Key) (q : Reason) → HasStop M (items_of sys limit ts) j q → ⊥
  none_has [] h j q g = g
  none_has (t ∷ ts) h j q g = ⊎_elim (λ y. none_some _ _ h.0 y.1) (λ y. none_has ts h.1 j q y) g

  pub ending_is : (horizon : ℕ) (ts : List Taken) (c : Config) → sim.Chain sys limit c ts →
      ((ending_of horizon ts ≡ AtHorizon horizon) × NoneStops ts)
      ⊎ ((s : StopsAt M (items_of sys limit ts)) × (ending_of horizon ts ≡ AtStop s.item.key.tick s.item.key.resource s.reason))
  ending_is horizon [] c x = inl (refl, tt)
  ending_is horizon (t ∷ ts) c x =
      ⊎_elim
      (λ (e : t.effect.stop ≡ None).
      let on : ending_of horizon (t ∷ ts) ≡ ending_of horizon ts = ap (λ o. ending_by o t.key (ending_of horizon ts)) e in
      ⊎_elim (λ y. inl (on ∙ y.0, (e, y.1))) (λ y. inr (later y.0, on ∙ y.1)) (ending_is horizon ts (sim.after c t) x.2))
      (λ (s : (q : Reason) × (t.effect.stop ≡ Some q)).
      let gone : ts ≡ [] = subst (λ (o : Option Reason). NothingAfter o ts) s.1 x.1 in
      inr (here s.0 s.1 gone, ap (λ o. ending_by o t.key (ending_of horizon ts)) s.1))
      (option_cases t.effect.stop)
    where
      later : StopsAt M (items_of sys limit ts) → StopsAt M (items_of sys limit (t ∷ ts))
      later s = record { front = item_of sys limit t ∷ s.front; item = s.item; reason = s.reason; split = ap (λ z. item_of sys limit t ∷ z) s.split; stops = s.stops }

      here : (q : Reason) → t.effect.stop ≡ Some q → ts ≡ [] → StopsAt M (items_of sys limit (t ∷ ts))
      here q e gone = record { front = []; item = item_of sys limit t; reason = q; split = ap (λ z. item_of sys limit t ∷ items_of sys limit z) gone; stops = e }
