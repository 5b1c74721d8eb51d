-- How the trace of an application is derived step by step, with the keys that wait given at each step.
use Rattle.fb_types.proofs.Common.{◌≡◌, ◌≤◌, true≢false, arith, ℕ, suc, ◌-◌, ◌<◌, refl, sym, ap, subst, ◌∙◌, List, [], ◌∷◌, ◌++◌, map, Bool, true, false, not, ◌||◌, if◌then◌else◌, Option, Some, None, nat_le, nat_lt, list_all, filter, is_lt, or_parts, or_from, and_parts, leb-true, ltb-true, All-nil, All-cons, Port, Kind, Basic, Event, Composite, ports_of, is_event_input, Position, ChartReacts, key_cmp, same_key, Precedes, found, without, changed_to, NoneBelow, timer_key, System, State, Config, Meter, Agenda, Stimulated, Expired, Arrived, Raised, path_of, World, Outcome, Reacts, ReactsAt, silent, taking, start_of, charted, answered, memory_of, crossing_in, crossing_out, expires, with_slots, hold_all, Takes, TakesWith, begun, effect_of, posts_of, world_of, timer_change, is_timer_of, agenda_after, opening, opening_events, Chain, Taken, TakesLeast, NothingAfter, RestsAt, IsSimulation, after, AtHorizon, ending_of, ending_by, last, Key, TimerAsk, Keep, Clear, At, Reason}
use Rattle.std.specs.List.{All}
use Rattle.fb_types.specs.EventBlocks as blocks
use Rattle.fb_types.specs.States.{Event as AnEvent}
use Rattle.fb_types.specs.Simulation.{Stimulus}
use Rattle.fb_types.proofs.lemmas.events.KeyLaws.{same_key_is}

-- ---- The keys under which something may wait

abbrev pub is_among : List Key → Key → Bool
is_among [] j = false
is_among (k ∷ ks) j = same_key k j || is_among ks j

-- Nothing waits except under these keys.
abbrev pub WaitsWithin : Agenda → List Key → Type 0
WaitsWithin m ks = (j : Key) → is_among ks j ≡ false → m j ≡ None

abbrev pub keys_in : List (Key × AnEvent) → List Key
keys_in es = map (λ e. e.0) es

found-outside : (es : List (Key × AnEvent)) (j : Key) → is_among (keys_in es) j ≡ false → found j es ≡ None
found-outside [] j h = refl
found-outside (e ∷ es) j h =
    let parts = or_parts (same_key e.0 j) (is_among (keys_in es) j) h in
    rw (found-outside es j parts.1, parts.0) refl

among-append : (ks js : List Key) (j : Key) → is_among (ks ++ js) j ≡ false → (is_among ks j ≡ false) × (is_among js j ≡ false)
among-append [] js j h = (refl, h)
among-append (k ∷ ks) js j h =
    let parts = or_parts (same_key k j) (is_among (ks ++ js) j) h in
    let rest = among-append ks js j parts.1 in
    (or_from (same_key k j) (is_among ks j) parts.0 rest.0, rest.1)

-- what is left by a test is no more than what there was
among-filter : (p : Key → Bool) (ks : List Key) (j : Key) → p j ≡ true → is_among (filter p ks) j ≡ false → is_among ks j ≡ false
among-filter p [] j passes h = refl
among-filter p (i ∷ ks) j passes h = by (p i) refl h (among-filter p ks j passes)
  where
    other : p i ≡ false → (b : Bool) → same_key i j ≡ b → b ≡ false
    other fails false e = refl
    other fails true e =
        let same : i ≡ j = same_key_is i j e in
        let no : p i ≡ true = subst (λ (z : Key). p z ≡ true) (sym same) passes in
        absurd (true≢false (sym no ∙ fails))

    by : (b : Bool) → p i ≡ b → is_among (if b then i ∷ filter p ks else filter p ks) j ≡ false
        → (is_among (filter p ks) j ≡ false → is_among ks j ≡ false) → is_among (i ∷ ks) j ≡ false
    by true e kept rest =
        let parts = or_parts (same_key i j) (is_among (filter p ks) j) kept in
        or_from (same_key i j) (is_among ks j) parts.0 (rest parts.1)
    by false e gone rest = or_from (same_key i j) (is_among ks j) (other e (same_key i j) refl) (rest gone)

-- the keys but one
abbrev pub keys_but : Key → List Key → List Key
keys_but k ks = filter (λ i. not (same_key k i)) ks

pub opening-within : (sys : System) (stimuli : List Stimulus) → WaitsWithin (opening sys stimuli).agenda (keys_in (opening_events sys stimuli))
opening-within sys stimuli j h = rw (found-outside (opening_events sys stimuli) j h) refl

abbrev pub timer_keys : System → Key → AnEvent → TimerAsk → List Key
timer_keys sys k e Keep = []
timer_keys sys k e Clear = []
timer_keys sys k e (At t) = timer_key t k.resource (sys.number (path_of e)) ∷ []

-- the keys without those of a timer that is cleared
abbrev pub keys_kept : System → Key → AnEvent → TimerAsk → List Key → List Key
keys_kept sys k e Keep ks = ks
keys_kept sys k e Clear ks = filter (λ i. not (is_timer_of k.resource (sys.number (path_of e)) i)) ks
keys_kept sys k e (At t) ks = ks

-- the keys after the taking of one
abbrev pub keys_after : System → Key → AnEvent → Meter → State → Outcome → List Key → List Key
keys_after sys k e m s o ks =
    let x = posts_of sys k m s o.outs in
    keys_in x.messages ++ (keys_in x.raised ++ (timer_keys sys k e o.timer ++ keys_kept sys k e o.timer (keys_but k ks)))

without-none : (k : Key) (a : Agenda) (ks : List Key) → WaitsWithin a ks → (j : Key) → is_among (keys_but k ks) j ≡ false → without k a j ≡ None
without-none k a ks within j h = by (same_key k j) refl
  where
    by : (b : Bool) → same_key k j ≡ b → (if b then None else a j) ≡ None
    by true e = refl
    by false e = within j (among-filter (λ i. not (same_key k i)) ks j (ap not e) h)

-- what a timer's change leaves at a key that is not the new timer's
timer-leaves : (sys : System) (k : Key) (e : AnEvent) (timer : TimerAsk) (a : Agenda) (ks : List Key) → WaitsWithin a ks → (j : Key)
    → is_among (timer_keys sys k e timer) j ≡ false → is_among (keys_kept sys k e timer (keys_but k ks)) j ≡ false
    → changed_to (timer_change sys k.resource (path_of e) timer j) (without k a j) ≡ None
timer-leaves sys k e Keep a ks within j h others = without-none k a ks within j others
timer-leaves sys k e Clear a ks within j h others = by (is_timer_of k.resource (sys.number (path_of e)) j) refl
  where
    by : (b : Bool) → is_timer_of k.resource (sys.number (path_of e)) j ≡ b
        → changed_to (if b then Some None else None) (without k a j) ≡ None
    by true is = refl
    by false is =
        without-none k a ks within j
        (among-filter (λ i. not (is_timer_of k.resource (sys.number (path_of e)) i)) (keys_but k ks) j (ap not is) others)
timer-leaves sys k e (At t) a ks within j h others =
    rw ((or_parts (same_key (timer_key t k.resource (sys.number (path_of e))) j) false h).0)
    (by (is_timer_of k.resource (sys.number (path_of e)) j))
  where
    by : (b : Bool) → changed_to (if b then Some None else None) (without k a j) ≡ None
    by true = refl
    by false = without-none k a ks within j others

pub after-within : (sys : System) (k : Key) (e : AnEvent) (m : Meter) (s : State) (o : Outcome) (a : Agenda) (ks : List Key)
    → WaitsWithin a ks → WaitsWithin (agenda_after k a (effect_of sys k e m s o)) (keys_after sys k e m s o ks)
after-within sys k e m s o a ks within j h =
    let x = posts_of sys k m s o.outs in
    let timers = timer_keys sys k e o.timer in
    let others = keys_kept sys k e o.timer (keys_but k ks) in
    let first = among-append (keys_in x.messages) (keys_in x.raised ++ (timers ++ others)) j h in
    let second = among-append (keys_in x.raised) (timers ++ others) j first.1 in
    let third = among-append timers others j second.1 in
    rw (found-outside x.messages j first.0, found-outside x.raised j second.0)
    (timer-leaves sys k e o.timer a ks within j third.0 third.1)

-- ---- Reactions that are given

-- An event to be taken, with the result of the chart if it is one of a basic block.
pub record Step : Type 0 where
  pub key : Key
  pub event : AnEvent
  pub chart : Position → Option Reason × Position

abbrev pub outcome_at : System → Key → World → Port → ℕ → (Position → Option Reason × Position) → Option Kind → Outcome
outcome_at sys k w q left chart None = silent w left
outcome_at sys k w q left chart (Some (Basic t)) =
    let first = taking sys k w q t.ports left in
    let x = chart (start_of first q.at) in
    charted sys k q.at first x.1 x.0
outcome_at sys k w q left chart (Some (Event kind)) =
    let first = taking sys k w q (ports_of (Event kind)) left in
    let b = first.world.blocks q.at in
    answered sys k q.at kind (blocks.reaction kind (memory_of b.memory) q.name k.tick b.variables) first
outcome_at sys k w q left chart (Some (Composite t)) =
    if is_event_input t.ports q.name then crossing_in sys k q (taking sys k w q t.ports left)
    else crossing_out sys k w q t.ports left

-- what is left to show: that the chart of a basic block has this result
abbrev pub Shown_at : System → Key → World → Port → ℕ → (Position → Option Reason × Position) → Option Kind → Type 0
Shown_at sys k w q left chart (Some (Basic t)) =
    let p = start_of (taking sys k w q t.ports left) q.at in let x = chart p in ChartReacts t q.name p x.0 x.1
Shown_at sys k w q left chart _ = Unit {0}

reacts_at : (sys : System) (k : Key) (w : World) (q : Port) (left : ℕ) (chart : Position → Option Reason × Position) (kind : Option Kind)
    → Shown_at sys k w q left chart kind → ReactsAt sys k w q left kind (outcome_at sys k w q left chart kind)
reacts_at sys k w q left chart None h = refl
reacts_at sys k w q left chart (Some (Basic t)) h =
    let x = chart (start_of (taking sys k w q t.ports left) q.at) in (x.0, x.1, h, refl)
reacts_at sys k w q left chart (Some (Event kind)) h = refl
reacts_at sys k w q left chart (Some (Composite t)) h = refl

abbrev pub outcome : System → Key → World → AnEvent → ℕ → (Position → Option Reason × Position) → Outcome
outcome sys k w (Stimulated q bs) left chart = outcome_at sys k (with_slots q.at bs w) q left chart (sys.kind q.at)
outcome sys k w (Expired p) left chart = expires sys k w p left (sys.kind p)
outcome sys k w (Arrived q cs) left chart = outcome_at sys k (record w { held = hold_all cs w.held }) q left chart (sys.kind q.at)
outcome sys k w (Raised q) left chart = outcome_at sys k w q left chart (sys.kind q.at)

abbrev pub Shown : System → Key → World → AnEvent → ℕ → (Position → Option Reason × Position) → Type 0
Shown sys k w (Stimulated q bs) left chart = Shown_at sys k (with_slots q.at bs w) q left chart (sys.kind q.at)
Shown sys k w (Expired p) left chart = Unit {0}
Shown sys k w (Arrived q cs) left chart = Shown_at sys k (record w { held = hold_all cs w.held }) q left chart (sys.kind q.at)
Shown sys k w (Raised q) left chart = Shown_at sys k w q left chart (sys.kind q.at)

reacts : (sys : System) (k : Key) (w : World) (e : AnEvent) (left : ℕ) (chart : Position → Option Reason × Position)
    → Shown sys k w e left chart → Reacts sys k w e left (outcome sys k w e left chart)
reacts sys k w (Stimulated q bs) left chart h = reacts_at sys k (with_slots q.at bs w) q left chart (sys.kind q.at) h
reacts sys k w (Expired p) left chart h = refl
reacts sys k w (Arrived q cs) left chart h = reacts_at sys k (record w { held = hold_all cs w.held }) q left chart (sys.kind q.at) h
reacts sys k w (Raised q) left chart h = reacts_at sys k w q left chart (sys.kind q.at) h

-- ---- Takings

abbrev pub meter_of : ℕ → Config → Key → Meter
meter_of limit c k = begun limit k.tick (c.state.meters k.resource)

abbrev pub left_of : ℕ → Config → Key → ℕ
left_of limit c k = (meter_of limit c k).left - 1

abbrev pub outcome_of : System → ℕ → Config → Step → Outcome
outcome_of sys limit c x = outcome sys x.key (world_of c.state x.key.resource) x.event (left_of limit c x.key) x.chart

abbrev pub taken_by : System → ℕ → Config → Step → Taken
taken_by sys limit c x =
    let o = outcome_of sys limit c x in
    record { key = x.key; event = x.event; effect = effect_of sys x.key x.event (meter_of limit c x.key) c.state o }

-- the takings of the steps
abbrev pub takings : System → ℕ → Config → List Step → List Taken
takings sys limit c [] = []
takings sys limit c (x ∷ xs) = let t = taken_by sys limit c x in t ∷ takings sys limit (after c t) xs

abbrev pub goes_before : Key → Key → Bool
goes_before j k = is_lt (key_cmp j k)

-- The event waits, no key that may wait goes before its own, and a step is left for it.
pub record IsTakenFirst (sys : System) (limit horizon : ℕ) (c : Config) (ks : List Key) (x : Step) : Type 0 where
  pub waits : c.agenda x.key ≡ Some x.event
  pub first : list_all (λ k. not (goes_before k x.key)) ks ≡ true
  pub below : nat_lt x.key.tick horizon ≡ true
  pub begins : (meter_of limit c x.key).left ≡ suc (left_of limit c x.key)
  pub shown : Shown sys x.key (world_of c.state x.key.resource) x.event (left_of limit c x.key) x.chart

-- what follows a step: nothing, if it stops
abbrev pub Follows : Option Reason → List Step → Type 0 → Type 0
Follows None xs rest = rest
Follows (Some r) [] rest = Unit {0}
Follows (Some r) (x ∷ xs) rest = ⊥

abbrev pub Derives : System → (limit horizon : ℕ) → Config → List Key → List Step → Type 0
Derives sys limit horizon c ks [] = list_all (λ k. nat_le horizon k.tick) ks ≡ true
Derives sys limit horizon c ks (x ∷ xs) =
    let t = taken_by sys limit c x in
    let js = keys_after sys x.key x.event (meter_of limit c x.key) c.state (outcome_of sys limit c x) ks in
    IsTakenFirst sys limit horizon c ks x × Follows t.effect.stop xs (Derives sys limit horizon (after c t) js xs)

goes-first : (m : Agenda) (ks : List Key) (k : Key) → WaitsWithin m ks → list_all (λ j. not (goes_before j k)) ks ≡ true
    → (j : Key) → Precedes j k → m j ≡ None
goes-first m ks k within first j before = within j (outside ks first)
  where
    not-it : (i : Key) → not (goes_before i k) ≡ true → (b : Bool) → same_key i j ≡ b → b ≡ false
    not-it i later false e = refl
    not-it i later true e =
        let same : i ≡ j = same_key_is i j e in
        let no : not (goes_before j k) ≡ true = subst (λ (z : Key). not (goes_before z k) ≡ true) same later in
        let yes : not (goes_before j k) ≡ false = ap (λ o. not (is_lt o)) before in
        absurd (true≢false (sym no ∙ yes))

    outside : (is : List Key) → list_all (λ i. not (goes_before i k)) is ≡ true → is_among is j ≡ false
    outside [] h = refl
    outside (i ∷ is) h =
        let parts = and_parts (not (goes_before i k)) (list_all (λ i. not (goes_before i k)) is) h in
        or_from (same_key i j) (is_among is j) (not-it i parts.0 (same_key i j) refl) (outside is parts.1)

none-below : (m : Agenda) (ks : List Key) (horizon : ℕ) → WaitsWithin m ks → list_all (λ k. nat_le horizon k.tick) ks ≡ true → NoneBelow m horizon
none-below m ks horizon within late j early = within j (outside ks late)
  where
    not-it : (i : Key) → nat_le horizon i.tick ≡ true → (b : Bool) → same_key i j ≡ b → b ≡ false
    not-it i h false e = refl
    not-it i h true e =
        let same : i ≡ j = same_key_is i j e in
        let reached : horizon ≤ j.tick = leb-true horizon j.tick (subst (λ (z : Key). nat_le horizon z.tick ≡ true) same h) in
        absurd (omega (arith, reached, early))

    outside : (is : List Key) → list_all (λ i. nat_le horizon i.tick) is ≡ true → is_among is j ≡ false
    outside [] h = refl
    outside (i ∷ is) h =
        let parts = and_parts (nat_le horizon i.tick) (list_all (λ i. nat_le horizon i.tick) is) h in
        or_from (same_key i j) (is_among is j) (not-it i parts.0 (same_key i j) refl) (outside is parts.1)

takes-with : (sys : System) (s : State) (k : Key) (e : AnEvent) (m : Meter) (n left : ℕ) (o : Outcome) → n ≡ suc left
    → Reacts sys k (world_of s k.resource) e left o → TakesWith sys s k e m n (effect_of sys k e m s o)
takes-with sys s k e m n left o eq r = subst (λ i. TakesWith sys s k e m i (effect_of sys k e m s o)) (sym eq) (o, r, refl)

takes-first : (sys : System) (limit horizon : ℕ) (c : Config) (ks : List Key) (x : Step) → WaitsWithin c.agenda ks
    → IsTakenFirst sys limit horizon c ks x → TakesLeast sys limit c (taken_by sys limit c x)
unfolding Takes
takes-first sys limit horizon c ks x within h =
    let m = meter_of limit c x.key in
    let left = left_of limit c x.key in
    let w = world_of c.state x.key.resource in
    record {
      waits = h.waits;
      least = goes-first c.agenda ks x.key within h.first;
      takes =
          takes-with sys c.state x.key x.event m m.left left (outcome_of sys limit c x) h.begins
          (reacts sys x.key w x.event left x.chart h.shown);
    }

-- ---- Whole derivations

-- What the takings of a derivation are from a state and agenda on.
abbrev pub Derived : System → (limit horizon : ℕ) → Config → List Taken → Type 0
Derived sys limit horizon c ts =
    Chain sys limit c ts × All (λ t. t.key.tick < horizon) ts × RestsAt horizon (ending_of horizon ts) (last c ts).agenda

prepended : (sys : System) (limit horizon : ℕ) (c : Config) (t : Taken) (ts : List Taken) → TakesLeast sys limit c t → t.key.tick < horizon
    → t.effect.stop ≡ None → Derived sys limit horizon (after c t) ts → Derived sys limit horizon c (t ∷ ts)
prepended sys limit horizon c t ts h below goes rest = (
  (h, subst (λ s. NothingAfter s ts) (sym goes) tt, rest.0),
  All-cons (λ t. t.key.tick < horizon) t ts below rest.1,
  subst (λ s. RestsAt horizon (ending_by s t.key (ending_of horizon ts)) (last (after c t) ts).agenda) (sym goes) rest.2,
)

stopped : (sys : System) (limit horizon : ℕ) (c : Config) (t : Taken) (r : Reason) → TakesLeast sys limit c t → t.key.tick < horizon
    → t.effect.stop ≡ Some r → Derived sys limit horizon c (t ∷ [])
stopped sys limit horizon c t r h below stops = (
  (h, subst (λ s. NothingAfter s []) (sym stops) refl, tt),
  All-cons (λ t. t.key.tick < horizon) t [] below (All-nil (λ t. t.key.tick < horizon)),
  subst (λ s. RestsAt horizon (ending_by s t.key (AtHorizon horizon)) (after c t).agenda) (sym stops) tt,
)

module _ (sys : System) (limit horizon : ℕ) where
  derives : (xs : List Step) (c : Config) (ks : List Key) → WaitsWithin c.agenda ks → Derives sys limit horizon c ks xs
      → Derived sys limit horizon c (takings sys limit c xs)
  derives [] c ks within h = (tt, All-nil (λ t. t.key.tick < horizon), none-below c.agenda ks horizon within h)
  derives (x ∷ xs) c ks within h =
      let t = taken_by sys limit c x in
      let js = keys_after sys x.key x.event (meter_of limit c x.key) c.state (outcome_of sys limit c x) ks in
      let js_within : WaitsWithin (after c t).agenda js =
      after-within sys x.key x.event (meter_of limit c x.key) c.state (outcome_of sys limit c x) c.agenda ks within in
      by t.effect.stop refl xs h.1 (takes-first sys limit horizon c ks x within h.0) (derives xs (after c t) js js_within)
    where
      by : (s : Option Reason) → (taken_by sys limit c x).effect.stop ≡ s → (ys : List Step)
          → Follows s ys (Derives sys limit horizon (after c (taken_by sys limit c x)) (keys_after sys x.key x.event (meter_of limit c x.key) c.state (outcome_of sys limit c x) ks) ys)
          → TakesLeast sys limit c (taken_by sys limit c x)
          → (Derives sys limit horizon (after c (taken_by sys limit c x)) (keys_after sys x.key x.event (meter_of limit c x.key) c.state (outcome_of sys limit c x) ks) ys
          → Derived sys limit horizon (after c (taken_by sys limit c x)) (takings sys limit (after c (taken_by sys limit c x)) ys))
          → Derived sys limit horizon c (taken_by sys limit c x ∷ takings sys limit (after c (taken_by sys limit c x)) ys)
      by None goes ys follows first rest =
          prepended sys limit horizon c (taken_by sys limit c x) _ first (ltb-true x.key.tick horizon h.0.below) goes (rest follows)
      by (Some r) stops [] follows first rest =
          stopped sys limit horizon c (taken_by sys limit c x) r first (ltb-true x.key.tick horizon h.0.below) stops
      by (Some r) stops (y ∷ ys) follows first rest = absurd follows

-- The steps from the opening on are a simulation.
pub simulates : (sys : System) (stimuli : List Stimulus) (horizon limit : ℕ) (xs : List Step)
    → Derives sys limit horizon (opening sys stimuli) (keys_in (opening_events sys stimuli)) xs
    → IsSimulation sys stimuli horizon limit (takings sys limit (opening sys stimuli) xs)
simulates sys stimuli horizon limit xs h =
    let d = derives sys limit horizon xs (opening sys stimuli) (keys_in (opening_events sys stimuli)) (opening-within sys stimuli) h in
    record { chain = d.0; below = d.1; rests = d.2 }

-- of a block that has no chart
abbrev pub no_chart : Position → Option Reason × Position
no_chart p = (None, p)

abbrev pub step : Key → AnEvent → Step
step k e = record { key = k; event = e; chart = no_chart }
