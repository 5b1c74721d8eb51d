-- A simulation to one tick, and that to a later one.
use Rattle.fb_types.proofs.Common.{◌≡◌, ℕ, ◌<◌, ◌≤◌, refl, sym, ap, ◌∙◌, subst, arith, ⊎_elim, List, [], ◌∷◌, ◌++◌, Option, Some, None, System, Config, Effect, Takes, Taken, TakesLeast, after, NothingAfter, Chain, last, Ending, AtHorizon, AtStop, ending_by, ending_of, RestsAt, IsSimulation, opening, Each}
use Rattle.fb_types.specs.declared.key.Key.{Key}
use Rattle.fb_types.specs.declared.value.Reason.{Reason}
use Rattle.fb_types.specs.States.{Event}
use Rattle.fb_types.specs.Simulation.{Stimulus}
use Rattle.fb_types.proofs.lemmas.lists.Lookups.{key_cases, none_some, option_cases}
use Rattle.fb_types.proofs.lemmas.determined.SimulationLaws.{takes-one}
use Rattle.fb_laws.proofs.lemmas.machine.Bridge.{all_each}

-- ---- A later tick

module _ (sys : System) (limit : ℕ) where
  taken_of : Key → Event → Effect → Taken
  taken_of k e x = record { key = k; event = e; effect = x }

  least_one : (c : Config) (t u : Taken) → TakesLeast sys limit c t → TakesLeast sys limit c u → t ≡ u
  unfolding taken_of
  least_one c t u x y =
      ⊎_elim same (λ h. ⊎_elim (λ b. absurd (none_some _ _ (y.least t.key b) x.waits)) (λ b. absurd (none_some _ _ (x.least u.key b) y.waits)) h) (key_cases t.key u.key)
    where
      same : t.key ≡ u.key → t ≡ u
      same e =
          let p : Some t.event ≡ Some u.event = sym x.waits ∙ ap c.agenda e ∙ y.waits in
          let q : t.event ≡ u.event = cc in
          let g : Takes sys limit c.state u.key u.event t.effect = subst (λ (v : Event). Takes sys limit c.state u.key v t.effect) q (subst (λ (k : Key). Takes sys limit c.state k t.event t.effect) e x.takes) in
          let o : t.effect ≡ u.effect = takes-one sys limit c.state u.key u.event t.effect u.effect g y.takes in
          λ i. taken_of (e i) (q i) (o i)

  -- Whatever is taken up to one tick is taken first up to a later one.
  pub begins : (to horizon : ℕ) → to ≤ horizon → (ts us : List Taken) (c : Config) → Chain sys limit c ts → Chain sys limit c us
      → Each (λ (t : Taken). t.key.tick < to) ts → RestsAt horizon (ending_of horizon us) (last c us).agenda → (rest : List Taken) × (us ≡ ts ++ rest)
  begins to horizon early [] us c x y a s = (us, refl)
  begins to horizon early (t ∷ ts) [] c x y a s = let b = a.0 in absurd (none_some _ _ (s t.key (omega arith)) x.0.waits)
  begins to horizon early (t ∷ ts) (u ∷ us) c x y a s =
      let e : t ≡ u = least_one c t u x.0 y.0 in
      let yc : Chain sys limit (after c t) us = subst (λ (z : Taken). Chain sys limit (after c z) us) (sym e) y.2 in
      let yn : NothingAfter t.effect.stop us = subst (λ (z : Taken). NothingAfter z.effect.stop us) (sym e) y.1 in
      let ys : RestsAt horizon (ending_by t.effect.stop t.key (ending_of horizon us)) (last (after c t) us).agenda =
      subst (λ (z : Taken). RestsAt horizon (ending_by z.effect.stop z.key (ending_of horizon us)) (last (after c z) us).agenda) (sym e) s in
      let f : (rest : List Taken) × (us ≡ ts ++ rest) =
      ⊎_elim
      (λ (n : t.effect.stop ≡ None).
      begins to horizon early ts us (after c t) x.2 yc a.1
      (subst (λ (o : Option Reason). RestsAt horizon (ending_by o t.key (ending_of horizon us)) (last (after c t) us).agenda) n ys))
      (λ (q : (p : Reason) × (t.effect.stop ≡ Some p)).
      let g : ts ≡ [] = subst (λ (o : Option Reason). NothingAfter o ts) q.1 x.1 in
      let h : us ≡ [] = subst (λ (o : Option Reason). NothingAfter o us) q.1 yn in
      let r : us ≡ ts ++ [] = h ∙ ap (λ (l : List Taken). l ++ []) (sym g) in
      ([], r))
      (option_cases t.effect.stop) in
      (f.0, λ i. sym e i ∷ f.1 i)

  pub later_begins : (stimuli : List Stimulus) (to horizon : ℕ) → to ≤ horizon → (ts us : List Taken) → IsSimulation sys stimuli to limit ts → IsSimulation sys stimuli horizon limit us
      → (rest : List Taken) × (us ≡ ts ++ rest)
  later_begins stimuli to horizon early ts us x y =
      begins to horizon early ts us (opening sys stimuli) x.chain y.chain (all_each (λ (t : Taken). t.key.tick < to) ts x.below) y.rests

-- ---- A stop

-- what stops before one tick, stops so before each other
stops_by : (o : Option Reason) (k : Key) (a b : Ending) (tick r : ℕ) (reason : Reason) → (a ≡ AtStop tick r reason → b ≡ AtStop tick r reason)
    → ending_by o k a ≡ AtStop tick r reason → ending_by o k b ≡ AtStop tick r reason
stops_by None k a b tick r reason on is = on is
stops_by (Some p) k a b tick r reason on is = is

pub stops : (to horizon tick r : ℕ) (reason : Reason) (ts : List Taken) → ending_of to ts ≡ AtStop tick r reason → ending_of horizon ts ≡ AtStop tick r reason
stops to horizon tick r reason [] is = absurd (let f : AtHorizon to ≡ AtStop tick r reason = is in cc)
stops to horizon tick r reason (t ∷ ts) is =
    stops_by t.effect.stop t.key (ending_of to ts) (ending_of horizon ts) tick r reason (stops to horizon tick r reason ts) is

-- a simulation that reaches its horizon says so
pub horizon_is : (to : ℕ) (ts : List Taken) (h : ℕ) → AtHorizon h ≡ ending_of to ts → h ≡ to
horizon_is to [] h is = cc
horizon_is to (t ∷ ts) h is = by t.effect.stop is (horizon_is to ts h)
  where
    by : (s : Option Reason) → AtHorizon h ≡ ending_by s t.key (ending_of to ts) → (AtHorizon h ≡ ending_of to ts → h ≡ to) → h ≡ to
    by None e rest = rest e
    by (Some p) e rest = absurd (let f : AtHorizon h ≡ AtStop t.key.tick t.key.resource p = e in cc)

-- it stops before its horizon
stops_early : (to tick r : ℕ) (reason : Reason) (ts : List Taken) → Each (λ (t : Taken). t.key.tick < to) ts → ending_of to ts ≡ AtStop tick r reason → tick < to
stops_early to tick r reason [] a is = absurd (let f : AtHorizon to ≡ AtStop tick r reason = is in cc)
stops_early to tick r reason (t ∷ ts) a is = by t.effect.stop is (stops_early to tick r reason ts a.1)
  where
    by : (s : Option Reason) → ending_by s t.key (ending_of to ts) ≡ AtStop tick r reason → (ending_of to ts ≡ AtStop tick r reason → tick < to) → tick < to
    by None e rest = rest e
    by (Some p) e rest = let q : tick ≡ t.key.tick = (let f : AtStop t.key.tick t.key.resource p ≡ AtStop tick r reason = e in cc) in let b = a.0 in omega (arith, q, b)

pub stop_is_early : (sys : System) (stimuli : List Stimulus) (limit to tick r : ℕ) (reason : Reason) (ts : List Taken) → ending_of to ts ≡ AtStop tick r reason → IsSimulation sys stimuli to limit ts → tick < to
stop_is_early sys stimuli limit to tick r reason ts is x = stops_early to tick r reason ts (all_each (λ (t : Taken). t.key.tick < to) ts x.below) is

-- a simulation that stops is one to each later tick
pub stopped_later : (sys : System) (stimuli : List Stimulus) (limit to horizon tick r : ℕ) (reason : Reason) → to ≤ horizon → (ts : List Taken) → ending_of to ts ≡ AtStop tick r reason
    → IsSimulation sys stimuli to limit ts → IsSimulation sys stimuli horizon limit ts
stopped_later sys stimuli limit to horizon tick r reason early ts is x = record {
  chain = x.chain;
  below = λ k d b. let p = x.below k d b in omega (arith, p, early);
  rests = subst (λ (e : Ending). RestsAt horizon e (last (opening sys stimuli) ts).agenda) (sym (stops to horizon tick r reason ts is)) tt;
}
