-- Every key under which a taking puts an event is greater than the key taken.
use Rattle.fb_laws.proofs.lemmas.Common.{◌≡◌, ℕ, zero, suc, ◌+◌, ◌<◌, ◌≤◌, ◌⊎◌, refl, sym, ap, ◌∙◌, subst, inl, inr, ⊎_elim, List, [], ◌∷◌, Bool, true, false, Option, Some, None, arith, if◌then◌else◌, cases_lt, cases_eq, eq-eqb, lt-ltb, Precedes, same_key, found, timer_key, Kind, Basic, Composite, System, State, Meter, Expired, path_of, Config, Out, Sends, Outcome, memory_of, Effect, Posts, post, post_all, Takes, TakesWith, begun, world_of, posts_of, effect_of, out_of_steps, put_of, is_timer_of, timer_change, Taken, IsSimulation, opening, Each, Key, EventKind, TimerAsk, Keep, Clear, At, Event, Stimulus, IsSound}
use Rattle.fb_types.proofs.Common.{NoneBelow, stimulus_key, Event as EventBlock, TakesLeast, after, Chain, opening_block}
use Rattle.fb_types.specs.declared.event_kind.EventKind.TheVariants.{Rendezvous}
use Rattle.fb_types.specs.EventBlocks.{memory_at_start}
use Rattle.fb_types.specs.Reactions.{Local}
use Rattle.fb_types.specs.Takes.{is_tick}
use Rattle.fb_types.specs.Simulation.{opening_memory}
use Rattle.fb_types.proofs.lemmas.events.KeyLaws.{same_key_is}
use Rattle.fb_laws.specs.ResourceLaw.{PutsLater}
use Rattle.fb_types.proofs.lemmas.lists.Lookups.{cmp_equal, tick_before, or_else_some, none_some, none_since, edit_some, without_some}
use Rattle.fb_types.proofs.lemmas.lists.EachLaws.{each_map, each_append}
use Rattle.fb_laws.proofs.lemmas.resources.Global.{with_at_same, with_at_other}
use Rattle.fb_laws.proofs.lemmas.takings.Posting.{each_found}
use Rattle.fb_laws.proofs.lemmas.takings.Effects.{if_some, takes_good, GoodEffect, AllFit, agenda_fits}
use Rattle.fb_laws.proofs.lemmas.machine.Opening.{event_good}
use Rattle.fb_laws.proofs.lemmas.takings.RunningTimers.{IsLong, IsAhead, AreLong, reacts_long}

-- ---- Keys of one tick and resource

class_before : (x y : Key) → x.tick ≡ y.tick → x.resource ≡ y.resource → x.class < y.class → Precedes x y
class_before x y e f h = rw (cmp_equal x.tick y.tick e, cmp_equal x.resource y.resource f, lt-ltb x.class y.class h) refl

number_before : (x y : Key) → x.tick ≡ y.tick → x.resource ≡ y.resource → x.class ≡ y.class → x.a < y.a → Precedes x y
number_before x y e f g h =
    rw (cmp_equal x.tick y.tick e, cmp_equal x.resource y.resource f, cmp_equal x.class y.class g, lt-ltb x.a y.a h) refl

-- ---- Local events

-- a local event of the key's tick and resource, numbered from n to below m
pub record IsNumbered (k : Key) (n m : ℕ) (j : Key) : Type 0 where
  pub tick : j.tick ≡ k.tick
  pub resource : j.resource ≡ k.resource
  pub class : j.class ≡ 3
  pub low : n ≤ j.a
  pub high : j.a < m

numbered_wider : (k : Key) (n m p : ℕ) (j : Key) → m ≤ p → IsNumbered k n m j → IsNumbered k n p j
numbered_wider k n m p j le h =
    record { tick = h.tick; resource = h.resource; class = h.class; low = h.low; high = let b : j.a < m = h.high in omega arith }

module _ (sys : System) (k : Key) where
  post_more : (o : Out) (x : Posts) → x.locals ≤ (post sys k o x).locals
  post_more (Local q) x = omega arith
  post_more (Sends q carried) x = omega arith

  post_all_more : (os : List Out) (x : Posts) → x.locals ≤ (post_all sys k os x).locals
  post_all_more [] x = omega arith
  post_all_more (o ∷ os) x =
      let a : x.locals ≤ (post sys k o x).locals = post_more o x in
      let b : (post sys k o x).locals ≤ (post_all sys k os (post sys k o x)).locals = post_all_more os (post sys k o x) in
      omega arith

  -- what is raised is numbered from n to below the count
  AreNumbered : (n : ℕ) → Posts → Type 0
  AreNumbered n x = Each (λ (e : Key × Event). IsNumbered k n x.locals e.0) x.raised

  post_numbered : (n : ℕ) (o : Out) (x : Posts) → n ≤ x.locals → AreNumbered n x → AreNumbered n (post sys k o x)
  unfolding AreNumbered
  post_numbered n (Local q) x le h =
      each_append _ x.raised _ (each_map _ _ x.raised (λ e g. numbered_wider k n x.locals (x.locals + 1) e.0 (omega arith) g) h)
      (record { tick = refl; resource = refl; class = refl; low = le; high = omega arith }, tt)
  post_numbered n (Sends q carried) x le h = h

  post_all_numbered : (n : ℕ) (os : List Out) (x : Posts) → n ≤ x.locals → AreNumbered n x → AreNumbered n (post_all sys k os x)
  unfolding AreNumbered
  post_all_numbered n [] x le h = h
  post_all_numbered n (o ∷ os) x le h =
      let more : x.locals ≤ (post sys k o x).locals = post_more o x in
      post_all_numbered n os (post sys k o x) (omega (arith, le, more)) (post_numbered n o x le h)

  pub raised_numbered : (m : Meter) (s : State) (os : List Out) (j : Key) (v : Event) → found j (posts_of sys k m s os).raised ≡ Some v
      → IsNumbered k m.locals (posts_of sys k m s os).locals j
  unfolding AreNumbered
  raised_numbered m s os j v h =
      let x = posts_of sys k m s os in
      each_found (λ (j : Key) (v : Event). IsNumbered k m.locals x.locals j) x.raised
      (post_all_numbered m.locals os (record { locals = m.locals; sent = s.sent; raised = []; messages = [] }) (omega arith) tt) j v h

-- ---- Timers

-- a timer that is set at a later tick
record IsSetLater (k j : Key) : Type 0 where
  tick : k.tick < j.tick
  class : j.class ≡ 1

set_later : (sys : System) (k : Key) (e : Event) (a : TimerAsk) (j : Key) (v : Event) → IsAhead k.tick a
    → timer_change sys k.resource (path_of e) a j ≡ Some (Some v) → IsSetLater k j
set_later sys k e Keep j v l h = absurd (none_some None (Some v) refl h)
set_later sys k e Clear j v l h = absurd (cleared (is_timer_of k.resource (sys.number (path_of e)) j) h)
  where
    cleared : (b : Bool) → (if b then Some None else None) ≡ Some (Some v) → ⊥
    cleared true g = let n : None ≡ Some v = cc in none_some None v refl n
    cleared false g = none_some None (Some v) refl g
set_later sys k e (At t) j v l h =
    ⊎_elim (λ x. set x.0) (λ x. absurd (cleared (is_timer_of k.resource (sys.number (path_of e)) j) x.1))
    (if_some (same_key (timer_key t k.resource (sys.number (path_of e))) j) (Some (Some (Expired (path_of e))))
    (if is_timer_of k.resource (sys.number (path_of e)) j then Some None else None) (Some v) h)
  where
    cleared : (b : Bool) → (if b then Some None else None) ≡ Some (Some v) → ⊥
    cleared true g = let n : None ≡ Some v = cc in none_some None v refl n
    cleared false g = none_some None (Some v) refl g

    set : same_key (timer_key t k.resource (sys.number (path_of e))) j ≡ true → IsSetLater k j
    set s =
        let same : timer_key t k.resource (sys.number (path_of e)) ≡ j = same_key_is _ _ s in
        let tick : t ≡ j.tick = ap (λ (z : Key). z.tick) same in
        let class : 1 ≡ j.class = ap (λ (z : Key). z.class) same in
        record { tick = omega (arith, l, tick); class = sym class }

put_is : (o : Option Event) (v : Event) → put_of o ≡ Some (Some v) → o ≡ Some v
put_is None v h = absurd (none_some None (Some v) refl h)
put_is (Some w) v h = let e : Some w ≡ Some v = cc in e

-- ---- The opening

start_long : (kind : EventKind) → IsLong (memory_at_start kind)
start_long Rendezvous = tt
start_long _ = tt

kind_long : (kind : Option Kind) → IsLong (memory_of (opening_memory kind))
kind_long None = tt
kind_long (Some (Basic t)) = tt
kind_long (Some (EventBlock kind)) = start_long kind
kind_long (Some (Composite t)) = tt

opening_long : (sys : System) → AreLong (opening_block sys)
opening_long sys p = kind_long (sys.kind p)

-- ---- One taking

begun_same : (limit tick : ℕ) (m : Meter) → m.tick ≡ Some tick → begun limit tick m ≡ m
begun_same limit tick m e =
    let same : is_tick m.tick tick ≡ true = ap (λ o. is_tick o tick) e ∙ eq-eqb tick tick refl in
    ap (λ b. if b then m else record { tick = Some tick; left = limit; locals = 0 }) same

-- What holds of each configuration of the simulation: running timers have times, classes are those that exist, local
-- events have numbers below the count of their tick and resource, and nothing is left of a tick that a resource has
-- passed.
record IsOrderly (c : Config) : Type 0 where
  long : AreLong c.state.blocks
  classes : (j : Key) (v : Event) → c.agenda j ≡ Some v → j.class ≤ 3
  numbers : (j : Key) (v : Event) → c.agenda j ≡ Some v → j.class ≡ 3
      → ((c.state.meters j.resource).tick ≡ Some j.tick) × (j.a < (c.state.meters j.resource).locals)
  reached : (r s : ℕ) → (c.state.meters r).tick ≡ Some s → NoneBelow c.agenda s

-- what the taking of a key does
record IsStep (limit : ℕ) (k : Key) (s : State) (x : Effect) : Type 0 where
  long : AreLong x.state.blocks
  changes : (j : Key) (v : Event) → x.changes j ≡ Some (Some v)
      → IsNumbered k (begun limit k.tick (s.meters k.resource)).locals (x.state.meters k.resource).locals j ⊎ IsSetLater k j
  others : (r : ℕ) → (r ≡ k.resource → ⊥) → x.state.meters r ≡ s.meters r
  -- either nothing was begun, or the resource has reached the tick
  own : ((x.state ≡ s) × ((j : Key) (v : Event) → x.changes j ≡ Some (Some v) → ⊥)) ⊎ (((x.state.meters k.resource).tick ≡ Some k.tick) × ((begun limit k.tick (s.meters k.resource)).locals ≤ (x.state.meters k.resource).locals))

module _ (sys : System) (sound : IsSound sys) (limit : ℕ) where
  effect_step : (k : Key) (e : Event) (s : State) (o : Outcome) → AreLong o.world.blocks → IsAhead k.tick o.timer
      → IsStep limit k s (effect_of sys k e (begun limit k.tick (s.meters k.resource)) s o)
  effect_step k e s o long ahead =
      let m = begun limit k.tick (s.meters k.resource) in
      let x = posts_of sys k m s o.outs in
      let mine : (effect_of sys k e m s o).state.meters k.resource ≡ record { tick = Some k.tick; left = o.left; locals = x.locals } =
      with_at_same k.resource (record { tick = Some k.tick; left = o.left; locals = x.locals }) s.meters k.resource refl in
      record {
        long = long;
        changes = λ j v h. ⊎_elim
            (λ a. inl (subst (λ (n : ℕ). IsNumbered k m.locals n j) (sym (ap (λ (z : Meter). z.locals) mine)) (raised_numbered sys k m s o.outs j v (put_is (found j x.raised) v a))))
            (λ a. inr (set_later sys k e o.timer j v ahead a))
            (or_else_some (put_of (found j x.raised)) (timer_change sys k.resource (path_of e) o.timer j) (Some v) h);
        others = λ r n. with_at_other k.resource (record { tick = Some k.tick; left = o.left; locals = x.locals }) s.meters r n;
        own = inr (
          ap (λ (z : Meter). z.tick) mine,
          subst (λ (n : ℕ). m.locals ≤ n) (sym (ap (λ (z : Meter). z.locals) mine))
              (post_all_more sys k o.outs (record { locals = m.locals; sent = s.sent; raised = []; messages = [] })),
        );
      }

  stopped_step : (k : Key) (s : State) → AreLong s.blocks → IsStep limit k s (out_of_steps s)
  stopped_step k s long = record {
    long = long;
    changes = λ j v h. absurd (none_some None (Some v) refl h);
    others = λ r n. refl;
    own = inl (refl, λ j v h. none_some None (Some v) refl h);
  }

  with_step : (k : Key) (e : Event) (s : State) (left : ℕ) (x : Effect) → AreLong s.blocks
      → TakesWith sys s k e (begun limit k.tick (s.meters k.resource)) left x → IsStep limit k s x
  with_step k e s zero x long h = subst (λ (z : Effect). IsStep limit k s z) (sym h) (stopped_step k s long)
  with_step k e s (suc left) x long h =
      let o = reacts_long sys k (world_of s k.resource) e left h.0 long h.1 in
      subst (λ (z : Effect). IsStep limit k s z) (sym h.2) (effect_step k e s h.0 o.world o.ahead)

  takes_step : (k : Key) (e : Event) (s : State) (x : Effect) → AreLong s.blocks → Takes sys limit s k e x → IsStep limit k s x
  unfolding Takes
  takes_step k e s x long h = with_step k e s (begun limit k.tick (s.meters k.resource)).left x long h

  module _ (c : Config) (t : Taken) (orderly : IsOrderly c) (fits : AllFit sys sound t.key c.agenda) (least : TakesLeast sys limit c t) where
    step : IsStep limit t.key c.state t.effect
    step = takes_step t.key t.event c.state t.effect orderly.long least.takes

    good : GoodEffect sys sound t.key t.effect
    good = takes_good sys sound t.key limit c.state t.event (fits t.key t.event least.waits) t.effect least.takes

    message_later : (j : Key) (v : Event) → found j t.effect.sent ≡ Some v → t.key.tick < j.tick
    message_later j v h =
        let a = (good.sent j v h).arrival in
        let l : t.key.tick < sys.arrival j.a t.key.tick = sound.later j.a t.key.tick a.link in
        omega (arith, l, a.tick)

    -- a key of class 3 that is taken has a number below those that follow
    numbered_before : (n : ℕ) (j : Key) → IsNumbered t.key (begun limit t.key.tick (c.state.meters t.key.resource)).locals n j → Precedes t.key j
    numbered_before n j h =
        let m = begun limit t.key.tick (c.state.meters t.key.resource) in
        let low : m.locals ≤ j.a = h.low in
        ⊎_elim
        (λ (b : t.key.class < 3). class_before t.key j (sym h.tick) (sym h.resource) (omega (arith, b, h.class)))
        (λ (b : 3 ≤ t.key.class).
        let most : t.key.class ≤ 3 = orderly.classes t.key t.event least.waits in
        let three : t.key.class ≡ 3 = omega arith in
        let n = orderly.numbers t.key t.event least.waits three in
        let same : m.locals ≡ (c.state.meters t.key.resource).locals =
        ap (λ (z : Meter). z.locals) (begun_same limit t.key.tick (c.state.meters t.key.resource) n.0) in
        number_before t.key j (sym h.tick) (sym h.resource) (three ∙ sym h.class) (omega (arith, n.1, same, low)))
        (cases_lt t.key.class 3)

    puts_later : PutsLater t
    puts_later j v puts =
        ⊎_elim
        (λ h. ⊎_elim (λ n. numbered_before _ j n) (λ s. tick_before t.key j s.tick) (step.changes j v h))
        (λ h. tick_before t.key j (message_later j v h))
        puts

    -- what waits then was put, or waited before
    waits_after : (j : Key) (v : Event) → (after c t).agenda j ≡ Some v
        → (t.key.tick < j.tick × (j.class ≡ 2)) ⊎ ((t.effect.changes j ≡ Some (Some v)) ⊎ (c.agenda j ≡ Some v))
    waits_after j v h =
        ⊎_elim
        (λ s. inl (message_later j v s, (good.sent j v s).arrival.class))
        (λ s. ⊎_elim (λ a. inr (inl a)) (λ a. inr (inr (without_some t.key c.agenda j v a.1).0)) (edit_some (t.effect.changes j) _ v s))
        (or_else_some (found j t.effect.sent) _ v h)

    not_earlier : (j : Key) (v : Event) → c.agenda j ≡ Some v → t.key.tick ≤ j.tick
    not_earlier j v h = ⊎_elim (λ b. absurd (none_some _ v (least.least j (tick_before j t.key b)) h)) (λ b. b) (cases_lt j.tick t.key.tick)

    after_not_earlier : (j : Key) (v : Event) → (after c t).agenda j ≡ Some v → t.key.tick ≤ j.tick
    after_not_earlier j v h =
        ⊎_elim
        (λ a. let b : t.key.tick < j.tick = a.0 in omega arith)
        (λ a. ⊎_elim
        (λ q. ⊎_elim (λ n. let e : j.tick ≡ t.key.tick = n.tick in omega arith) (λ s. let b : t.key.tick < j.tick = s.tick in omega arith) (step.changes j v q))
        (λ q. not_earlier j v q) a)
        (waits_after j v h)

    -- what must hold of the counts of a resource if a local event of it waits
    abbrev Counts : Key → Meter → Type 0
    Counts j m = (m.tick ≡ Some j.tick) × (j.a < m.locals)

    -- a resource has not reached a later tick than that of the key taken
    come_to : (r s : ℕ) → (c.state.meters r).tick ≡ Some s → s ≤ t.key.tick
    come_to r s h =
        ⊎_elim (λ b. absurd (none_some _ t.event (orderly.reached r s h t.key b) least.waits)) (λ b. b) (cases_lt t.key.tick s)

    raised_counts : (j : Key) (v : Event) → t.effect.changes j ≡ Some (Some v)
        → IsNumbered t.key (begun limit t.key.tick (c.state.meters t.key.resource)).locals (t.effect.state.meters t.key.resource).locals j
        → Counts j (t.effect.state.meters j.resource)
    raised_counts j v q n =
        let here : t.effect.state.meters j.resource ≡ t.effect.state.meters t.key.resource = ap (λ r. t.effect.state.meters r) n.resource in
        ⊎_elim
        (λ u. absurd (u.1 j v q))
        (λ u. subst (λ (m : Meter). Counts j m) (sym here) (u.0 ∙ ap (λ (x : ℕ). Some x) (sym n.tick), n.high))
        step.own

    kept_counts : (j : Key) (v : Event) → c.agenda j ≡ Some v → Counts j (c.state.meters j.resource) → Counts j (t.effect.state.meters j.resource)
    kept_counts j v q old =
        ⊎_elim
        (λ (e : j.resource ≡ t.key.resource).
        ⊎_elim
        (λ u. subst (λ (m : Meter). Counts j m) (ap (λ (s : State). s.meters j.resource) (sym u.0)) old)
        (λ u. own_counts e u.0 u.1)
        step.own)
        (λ n. subst (λ (m : Meter). Counts j m) (sym (step.others j.resource n)) old)
        (cases_eq j.resource t.key.resource)
      where
        own_counts : j.resource ≡ t.key.resource → (t.effect.state.meters t.key.resource).tick ≡ Some t.key.tick
            → (begun limit t.key.tick (c.state.meters t.key.resource)).locals ≤ (t.effect.state.meters t.key.resource).locals
            → Counts j (t.effect.state.meters j.resource)
        own_counts e tick more =
            let early : j.tick ≤ t.key.tick = come_to j.resource j.tick old.0 in
            let late : t.key.tick ≤ j.tick = not_earlier j v q in
            let same : j.tick ≡ t.key.tick = omega arith in
            let before : Counts j (c.state.meters t.key.resource) = subst (λ r. Counts j (c.state.meters r)) e old in
            let running : (c.state.meters t.key.resource).tick ≡ Some t.key.tick = before.0 ∙ ap (λ (x : ℕ). Some x) same in
            let count : (begun limit t.key.tick (c.state.meters t.key.resource)).locals ≡ (c.state.meters t.key.resource).locals =
            ap (λ (z : Meter). z.locals) (begun_same limit t.key.tick (c.state.meters t.key.resource) running) in
            subst (λ r. Counts j (t.effect.state.meters r)) (sym e)
            (tick ∙ ap (λ (x : ℕ). Some x) (sym same), omega (arith, before.1, count, more))

    numbers_after : (j : Key) (v : Event) → (after c t).agenda j ≡ Some v → j.class ≡ 3 → Counts j (t.effect.state.meters j.resource)
    numbers_after j v h three =
        ⊎_elim
        (λ a. absurd (let two : j.class ≡ 2 = a.1 in omega arith))
        (λ a. ⊎_elim
        (λ q. ⊎_elim (λ n. raised_counts j v q n) (λ s. absurd (let one : j.class ≡ 1 = s.class in omega arith)) (step.changes j v q))
        (λ q. kept_counts j v q (orderly.numbers j v q three)) a)
        (waits_after j v h)

    classes_after : (j : Key) (v : Event) → (after c t).agenda j ≡ Some v → j.class ≤ 3
    classes_after j v h =
        ⊎_elim
        (λ a. let two : j.class ≡ 2 = a.1 in omega arith)
        (λ a. ⊎_elim
        (λ q. ⊎_elim (λ n. let three : j.class ≡ 3 = n.class in omega arith) (λ s. let one : j.class ≡ 1 = s.class in omega arith) (step.changes j v q))
        (λ q. orderly.classes j v q) a)
        (waits_after j v h)

    come_to_after : (r s : ℕ) → (t.effect.state.meters r).tick ≡ Some s → s ≤ t.key.tick
    come_to_after r s h =
        ⊎_elim
        (λ (e : r ≡ t.key.resource).
        ⊎_elim
        (λ u. come_to r s (ap (λ (z : State). (z.meters r).tick) (sym u.0) ∙ h))
        (λ u. let q : Some t.key.tick ≡ Some s = sym u.0 ∙ ap (λ x. (t.effect.state.meters x).tick) (sym e) ∙ h in let n : t.key.tick ≡ s = cc in omega arith)
        step.own)
        (λ n. come_to r s (ap (λ (z : Meter). z.tick) (sym (step.others r n)) ∙ h))
        (cases_eq r t.key.resource)

    orderly_after : IsOrderly (after c t)
    orderly_after = record {
      long = step.long;
      classes = classes_after;
      numbers = numbers_after;
      reached = λ r s h j b. none_since _ (λ v q.
          let far : s ≤ t.key.tick = come_to_after r s h in
          let late : t.key.tick ≤ j.tick = after_not_earlier j v q in
          omega arith);
    }

  -- ---- The simulation

  rising : (k : Key) (ts : List Taken) (c : Config) → IsOrderly c → AllFit sys sound k c.agenda → Chain sys limit c ts → Each PutsLater ts
  rising k [] c orderly fits x = tt
  rising k (t ∷ ts) c orderly fits x = (
    puts_later c t orderly fits x.0,
    rising k ts (after c t) (orderly_after c t orderly fits x.0) (agenda_fits sys sound t.key c.agenda t.effect (good c t orderly fits x.0) fits) x.2,
  )

  opening_orderly : (stimuli : List Stimulus) → IsOrderly (opening sys stimuli)
  opening_orderly stimuli = record {
    long = opening_long sys;
    classes = λ j v h. let low : j.class ≤ 1 = (event_good sys sound limit stimuli j v h).low in omega arith;
    numbers = λ j v h three. absurd (let low : j.class ≤ 1 = (event_good sys sound limit stimuli j v h).low in omega arith);
    reached = λ r s h. absurd (none_some None s refl h);
  }

  pub keys_rise : (stimuli : List Stimulus) (horizon : ℕ) (ts : List Taken) → IsSimulation sys stimuli horizon limit ts → Each PutsLater ts
  keys_rise stimuli horizon ts x =
      rising (stimulus_key 0 0 0) ts (opening sys stimuli) (opening_orderly stimuli) (λ j v h. (event_good sys sound limit stimuli j v h).fits) x.chain
