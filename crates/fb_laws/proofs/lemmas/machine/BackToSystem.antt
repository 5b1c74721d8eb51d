-- A simulation of a system's machine is a simulation of the system.
use Rattle.fb_laws.proofs.lemmas.Common.{◌≡◌, ℕ, zero, suc, ◌<◌, refl, sym, ap, ◌∙◌, subst, inl, ⊎_elim, List, [], ◌∷◌, Option, Some, None, All, All-nil, All-cons, timer_key, System, State, Config, Meter, Effect, Takes, TakesWith, begun, world_of as reacting, effect_of, out_of_steps, with_at, Taken, IsSimulation, opening, Item, Each, machine, items_of, IsAtResource, Key, Reason, Event, Line, Stimulus, IsSound, World, TakesLeast, next, Simulates, Simulation}
use Rattle.fb_types.proofs.Common.{NothingAfter, Ending, RestsAt, part_of}
use Rattle.fb_types.specs.Simulation as sim
use Rattle.fb_types.specs.Machines.{Outcome}
use Rattle.fb_types.specs.Parts.{Part, outcome_of, item_of}
use Rattle.fb_types.proofs.lemmas.lists.Lookups.{none_some}
use Rattle.fb_laws.proofs.lemmas.resources.Global.{with_at_same}
use Rattle.fb_laws.proofs.lemmas.resources.FamilyEnds.{sim_ends}
use Rattle.fb_laws.proofs.lemmas.resources.Stops.{stop_has}
use Rattle.fb_laws.proofs.lemmas.resources.AgreeingWorlds.{reacts_same}
use Rattle.fb_laws.proofs.lemmas.takings.Effects.{AllFit, takes_good, agenda_fits}
use Rattle.fb_laws.proofs.lemmas.resources.OwnPart.{same_world, takes_same}
use Rattle.fb_laws.proofs.lemmas.machine.Bridge.{world_of, world_next, simulates, none_has, ending_is}
use Rattle.fb_laws.proofs.lemmas.machine.Opening.{opening_fits}

pub each_all : {X : Type 0} (P : X → Type 0) (xs : List X) → Each P xs → All P xs
each_all P [] h = All-nil P
each_all P (x ∷ xs) h = All-cons P x xs h.0 (each_all P xs h.1)

item_with : (sys : System) (limit : ℕ) → Key → Event → Outcome Part Event Line Reason → Item (machine sys limit)
item_with sys limit k e o = record { key = k; event = e; out = o }

module _ (sys : System) (sound : IsSound sys) (limit : ℕ) where
  -- what is taken from a state is taken from another with the same part
  takes_with_moved : (k : Key) (e : Event) → IsAtResource sys k e → (m : Meter) (left : ℕ) (s u : State) (x : Effect) → part_of sys k.resource s ≡ part_of sys k.resource u
      → TakesWith sys s k e m left x → (y : Effect) × TakesWith sys u k e m left y
  takes_with_moved k e home m zero s u x h a = (out_of_steps u, refl)
  takes_with_moved k e home m (suc left) s u x h a =
      let c = reacts_same sys k (reacting s k.resource) (reacting u k.resource) e left a.0 home (same_world sys sound k s u h) a.1 in
      (effect_of sys k e m u c.0, (c.0, c.1, refl))

  takes_moved : (k : Key) (e : Event) → IsAtResource sys k e → (s u : State) (x : Effect) → part_of sys k.resource s ≡ part_of sys k.resource u
      → Takes sys limit s k e x → (y : Effect) × Takes sys limit u k e y
  unfolding Takes
  takes_moved k e home s u x h a =
      let f : begun limit k.tick (s.meters k.resource) ≡ begun limit k.tick (u.meters k.resource) = ap (λ z. begun limit k.tick z.meter) h in
      let b : TakesWith sys s k e (begun limit k.tick (u.meters k.resource)) (begun limit k.tick (u.meters k.resource)).left x = subst (λ (z : Meter). TakesWith sys s k e z z.left x) f a in
      takes_with_moved k e home (begun limit k.tick (u.meters k.resource)) (begun limit k.tick (u.meters k.resource)).left s u x h b

  record Back (c : Config) (i : Item (machine sys limit)) : Type 0 where
    effect : Effect
    takes : Takes sys limit c.state i.key i.event effect
    out : outcome_of sys i.key effect ≡ i.out

  back : (c : Config) (stops : ℕ → Option Reason) (i : Item (machine sys limit)) → TakesLeast (machine sys limit) (world_of sys sound limit c stops) i → Back c i
  back c stops i x =
      let g = x.gives in
      let y = takes_moved i.key i.event x.fits g.state c.state g.effect g.is_part g.takes in
      record {
        effect = y.0;
        takes = y.1;
        out = sym (takes_same sys sound i.key limit i.event x.fits g.state c.state g.effect y.0 g.is_part g.takes y.1) ∙ sym g.gives;
      }

  -- after a stop nothing is taken
  dead : (w : World (machine sys limit)) (r : ℕ) (q : Reason) (is : List (Item (machine sys limit))) → w.stops r ≡ Some q → Simulates (machine sys limit) w is → is ≡ []
  dead w r q [] e x = refl
  dead w r q (i ∷ is) e x = absurd (none_some _ _ (x.0.live r) e)

  nil_items : (ts : List Taken) → items_of sys limit ts ≡ [] → ts ≡ []
  nil_items [] e = refl
  nil_items (t ∷ ts) e = absurd (no e)
    where
      no : item_of sys limit t ∷ items_of sys limit ts ≡ [] → ⊥
      no e = cc

  nothing_after : (o : Option Reason) (ts : List Taken) → ((q : Reason) → o ≡ Some q → ts ≡ []) → NothingAfter o ts
  nothing_after None ts h = tt
  nothing_after (Some q) ts h = h q refl

  record Chained (c : Config) (is : List (Item (machine sys limit))) : Type 0 where
    takings : List Taken
    chain : sim.Chain sys limit c takings
    items : items_of sys limit takings ≡ is

  chained : (k : Key) (is : List (Item (machine sys limit))) (c : Config) (stops : ℕ → Option Reason) → AllFit sys sound k c.agenda → Simulates (machine sys limit) (world_of sys sound limit c stops) is → Chained c is
  unfolding item_with
  chained k [] c stops fits x = record { takings = []; chain = tt; items = refl }
  chained k (i ∷ is) c stops fits x =
      let b = back c stops i x.0 in
      let t : Taken = record { key = i.key; event = i.event; effect = b.effect } in
      let same : item_of sys limit t ≡ i = ap (λ o. item_with sys limit i.key i.event o) b.out in
      let good = takes_good sys sound i.key limit c.state i.event x.0.fits b.effect b.takes in
      let stops' = with_at i.key.resource b.effect.stop stops in
      let e : next (machine sys limit) (world_of sys sound limit c stops) i ≡ world_of sys sound limit (sim.after c t) stops' =
      ap (λ z. next (machine sys limit) (world_of sys sound limit c stops) z) (sym same) ∙ world_next sys sound limit c stops t x.0.fits b.takes in
      let rest : Simulates (machine sys limit) (world_of sys sound limit (sim.after c t) stops') is = subst (λ (w : World (machine sys limit)). Simulates (machine sys limit) w is) e x.1 in
      let y : Chained (sim.after c t) is = chained k is (sim.after c t) stops' (agenda_fits sys sound i.key c.agenda b.effect good fits) rest in
      record {
        takings = t ∷ y.takings;
        chain = (
          record { waits = x.0.waits; least = x.0.least; takes = b.takes },
          nothing_after b.effect.stop y.takings (λ q s. nil_items y.takings (y.items ∙ dead (world_of sys sound limit (sim.after c t) stops') i.key.resource q is (with_at_same i.key.resource b.effect.stop stops i.key.resource refl ∙ s) rest)),
          y.chain,
        );
        items = λ j. same j ∷ y.items j;
      }

  each_items : (horizon : ℕ) (ts : List Taken) → Each (λ (i : Item (machine sys limit)). i.key.tick < horizon) (items_of sys limit ts) → Each (λ (t : Taken). t.key.tick < horizon) ts
  each_items horizon [] h = tt
  each_items horizon (t ∷ ts) h = (h.0, each_items horizon ts h.1)

  pub simulation_back : (stimuli : List Stimulus) (horizon : ℕ) (is : List (Item (machine sys limit)))
      → Simulation (machine sys limit) (world_of sys sound limit (opening sys stimuli) (λ r. None)) horizon is → (ts : List Taken) × IsSimulation sys stimuli horizon limit ts
  simulation_back stimuli horizon is x =
      let k = timer_key 0 0 0 in
      let c = opening sys stimuli in
      let w = world_of sys sound limit c (λ r. None) in
      let y = chained k is c (λ r. None) (opening_fits sys sound limit stimuli k) x.chain in
      let z : Simulation (machine sys limit) w horizon (items_of sys limit y.takings) = subst (λ (js : List (Item (machine sys limit))). Simulation (machine sys limit) w horizon js) (sym y.items) x in
      let again = simulates sys sound limit k y.takings c (λ r. None) (opening_fits sys sound limit stimuli k) (inl (λ r. refl)) y.chain in (
        y.takings,
        record {
          chain = y.chain;
          below = each_all (λ (t : Taken). t.key.tick < horizon) y.takings (each_items horizon y.takings z.below);
          rests = ⊎_elim
              (λ h. subst (λ (e : Ending). RestsAt horizon e (sim.last c y.takings).agenda) (sym h.0)
              (λ j b. ⊎_elim
              (λ live. sym (ap (λ v. v.agenda j) again.1) ∙ z.ends live j b)
              (λ s. absurd (none_has sys sound limit y.takings h.1 s.item.key s.reason (stop_has (machine sys limit) (items_of sys limit y.takings) s)))
              (sim_ends (machine sys limit) (items_of sys limit y.takings) w z.chain (λ r. refl))))
              (λ h. subst (λ (e : Ending). RestsAt horizon e (sim.last c y.takings).agenda) (sym h.1) tt)
              (ending_is sys sound limit horizon y.takings c y.chain);
        },
      )
