-- A walk through the trace of a run follows it: takings with the lines of the run, which end as it ends.
use Rattle.fb_types.proofs.Common.{◌≡◌, ◌⊎◌, ℕ, zero, suc, ◌+◌, ◌-◌, ◌<◌, ◌≤◌, ◌^◌, min, Bool, true, false, cond, List, [], ◌∷◌, ◌++◌, Option, Some, None, refl, sym, ◌∙◌, ap, subst, inl, inr, arith, All, ◌==◌, flat_map, if◌then◌else◌, cases_eq, eq-eqb, All-head, All-tail, Kind, Event, found, timer_key, Each, Path, Outcome, Reacts, AtHorizon, AtStop, Chain, Ending, IsSimulation, NothingAfter as NothingTaken, Taken, ending_by, ending_of, lines_of, opening, opening_events, restart_of, stimuli_from, Arrived, Config, Expired, Meter, Raised, State, Stimulated, path_of, System, Effect, Takes, TakesWith, agenda_after, begun, effect_of, out_of_steps, posts_of, world_of}
use Rattle.fb_types.specs.declared.event_kind.EventKind.TheVariants.{Restart}
use Rattle.fb_types.specs.declared.key.Key.{Key}
use Rattle.fb_types.specs.declared.value.Reason.{Reason}
use Rattle.fb_types.specs.declared.value.Reason.TheVariants.{Steps, Divide, Range}
use Rattle.fb_types.specs.Simulation.{Stimulus}
use Rattle.fb_types.specs.States.{Event as AnEvent, Line}
use Rattle.fb_types.proofs.lemmas.lists.EachLaws.{each_append}
use Rattle.fb_laws.proofs.lemmas.takings.Agendas.{Holds, holds_none, holds_or_else}
use Rattle.fb_inspect.specs.Inspections.{AreTakings, EndsSo, IsOneOf, KeepSteps, KeepsLimit, NoneStops, NothingAfter, RunsOut, all_lines, last_look, limited, stop_of}
use Rattle.fb_inspect.specs.walk.Looks.{IsTaking, IsTakingWith, Left, Look, Taking, first_due, left_at, most, opening_look}
use Rattle.fb_inspect.specs.walk.RunTakings.{AreThere, CanReact, IsSeenIn, IsTakingOf, IsThere, due_before}
use Rattle.fb_inspect.proofs.lemmas.walk.WalkedTakings.{nothing}
use Rattle.fb_inspect.proofs.lemmas.runs.RunContinues.{limited_at}
use Rattle.fb_inspect.proofs.lemmas.runs.Reacted.{reacts_taking}
use Rattle.fb_inspect.proofs.lemmas.runs.Waiting.{MayWait, can_react, found_holds, waits_after}

-- No step was left for the event, or its instance has reacted to it.
pub taken_so :
    (sys : System) (limit : ℕ) (s : State) (k : Key) (e : AnEvent) (x : Effect) → Takes sys limit s k e x
    → ((x ≡ out_of_steps s) × ((begun limit k.tick (s.meters k.resource)).left ≡ 0))
    ⊎ ((left : ℕ) × (o : Outcome) × ((begun limit k.tick (s.meters k.resource)).left ≡ suc left) × Reacts sys k (world_of s k.resource) e left o
    × (x ≡ effect_of sys k e (begun limit k.tick (s.meters k.resource)) s o))
unfolding Takes
taken_so sys limit s k e x h = by m.left refl h
  where
    m : Meter
    m = begun limit k.tick (s.meters k.resource)

    by : (n : ℕ) → m.left ≡ n → TakesWith sys s k e m n x
        → ((x ≡ out_of_steps s) × (m.left ≡ 0)) ⊎ ((left : ℕ) × (o : Outcome) × (m.left ≡ suc left) × Reacts sys k (world_of s k.resource) e left o × (x ≡ effect_of sys k e m s o))
    by zero is h = inl (h, is)
    by (suc left) is h = inr (left, h.0, is, h.1, h.2)

module _ (sys : System) (limit : ℕ) (within : limit ≤ most) (there : AreThere sys) where
  -- the steps that a walk has more than the run
  abbrev more : ℕ
  more = most - limit

  -- The look says what the blocks remember in a run, which events wait, and the steps that are left.
  pub record IsFollowed (c : Config) (look : Look) : Type 0 where
    pub seen : (r : ℕ) → IsSeenIn sys look (world_of c.state r)
    pub waits : (j : Key) → Holds (MayWait sys look j) (c.agenda j)
    pub steps : (r t : ℕ) → left_at most t (look.steps r) ≡ (begun limit t (c.state.meters r)).left + more
    pub least : (r : ℕ) → most ≤ (look.steps r).least + limit

  -- ---- One taking

  -- the steps after a taking, in its tick and in another one
  left_after : (k : Key) (left n locals t : ℕ) (b : Bool) → (k.tick == t) ≡ b
      → left_at most t (record { tick = Some k.tick; left = left + more; least = n }) ≡ (begun limit t (record { tick = Some k.tick; left = left; locals = locals })).left + more
  left_after k left n locals t true e =
      let mine : Meter = record { tick = Some k.tick; left = left; locals = locals } in
      let fresh : Meter = record { tick = Some t; left = limit; locals = 0 } in
      ap (λ (b : Bool). cond b (left + more) most) e ∙ ap (λ (b : Bool). (cond b mine fresh).left + more) (sym e)
  left_after k left n locals t false e =
      let mine : Meter = record { tick = Some k.tick; left = left; locals = locals } in
      let fresh : Meter = record { tick = Some t; left = limit; locals = 0 } in
      let whole : most ≡ limit + more = omega (arith, within) in
      ap (λ (b : Bool). cond b (left + more) most) e ∙ whole ∙ ap (λ (b : Bool). (cond b mine fresh).left + more) (sym e)

  module _ (c : Config) (look : Look) (is : IsFollowed c look) (k : Key) (e : AnEvent) (waits : MayWait sys look k e) (left : ℕ) (o : Outcome) (x : Taking)
      (taking : IsTakingOf sys k (path_of e) left more look (due_before look e) o x) (reacts : Reacts sys k (world_of c.state k.resource) e left o) where
    abbrev m : Meter
    m = begun limit k.tick (c.state.meters k.resource)

    abbrev effect : Effect
    effect = effect_of sys k e m c.state o

    abbrev next : Config
    next = record { state = effect.state; agenda = agenda_after k c.agenda effect }

    abbrev own : Left
    own = record { tick = Some k.tick; left = o.left + more; least = min (look.steps k.resource).least (o.left + more) }

    steps_next : (r t : ℕ) → left_at most t (x.after.steps r) ≡ (begun limit t (next.state.meters r)).left + more
    steps_next r t = ap (λ (f : ℕ → Left). left_at most t (f r)) taking.steps_are ∙ by (r == k.resource)
      where
        by : (b : Bool) → left_at most t (if b then own else look.steps r)
            ≡ (begun limit t (if b then record { tick = Some k.tick; left = o.left; locals = (posts_of sys k m c.state o.outs).locals } else c.state.meters r)).left + more
        by true = left_after k o.left own.least (posts_of sys k m c.state o.outs).locals t (k.tick == t) refl
        by false = is.steps r t

    least_next : (r : ℕ) → most ≤ (x.after.steps r).least + limit
    least_next r = subst (λ (f : ℕ → Left). most ≤ (f r).least + limit) (sym taking.steps_are) (by (r == k.resource))
      where
        by : (b : Bool) → most ≤ (if b then own else look.steps r).least + limit
        by true = let old = is.least k.resource in omega (arith, old, within)
        by false = is.least r

    pub follows : IsFollowed next x.after
    follows =
        record {
          seen = λ r. record { memory = taking.seen.memory; variables = taking.seen.variables };
          waits = λ j. waits_after sys k e left more look o x taking waits j there (world_of c.state k.resource) reacts m c.state c.agenda (is.waits j);
          steps = steps_next;
          least = least_next;
        }

    -- the taking, with the steps of the greatest limit
    pub taking_of : m.left ≡ suc left → k.tick ≤ 10 ^ 12 → IsTaking sys most look x
    taking_of some early =
        let enough : left_at most k.tick (look.steps k.resource) ≡ suc (left + more) = let all = is.steps k.resource k.tick in omega (arith, all, some) in
        let key = sym taking.key_is in
        subst (λ (j : Key). IsTakingWith sys look (left_at most j.tick (look.steps j.resource)) x) key
        (subst (λ (n : ℕ). IsTakingWith sys look n x) (sym enough) (subst (λ (j : Key). j.tick ≤ 10 ^ 12) key early, taking.is_taking))

  -- ---- All takings

  -- Where no taking ends a row, its last one is not of that resource in that tick.
  abbrev pub IsApart : (tick resource : ℕ) → (before last : List Taking) → Type 0
  IsApart t r before last = last ≡ [] → (front : List Taking) (z : Taking) → before ≡ front ++ z ∷ [] → z.first.key.tick ≡ t → z.first.key.resource ≡ r → ⊥

  -- A row of takings ends as a run.
  pub record EndsBySteps (look : Look) (t r : ℕ) (takings : List Taking) : Type 0 where
    pub before : List Taking
    pub last : List Taking
    pub parts : takings ≡ before ++ last
    pub chain : AreTakings sys most look before
    pub goes_on : NoneStops before
    pub one : IsOneOf t r last
    pub kept : KeepSteps sys limit (last_look look before)
    pub within_it : KeepsLimit limit t r (last_look look before)
    pub judged : AreTakings sys limit (limited limit t r (last_look look before)) last
    pub out : RunsOut limit t r (limited limit t r (last_look look before)) last
    pub apart : IsApart t r before last

  abbrev pub RowEnds : Look → List Taking → Ending → Type 0
  RowEnds look takings (AtHorizon h) = AreTakings sys most look takings × NoneStops takings
  RowEnds look takings (AtStop t r Steps) = EndsBySteps look t r takings
  RowEnds look takings (AtStop t r Divide) = AreTakings sys most look takings × (stop_of takings ≡ Some (AtStop t r Divide))
  RowEnds look takings (AtStop t r Range) = AreTakings sys most look takings × (stop_of takings ≡ Some (AtStop t r Range))

  pub record IsRow (look : Look) (ls : List Line) (end : Ending) : Type 0 where
    pub takings : List Taking
    pub lines_are : all_lines takings ≡ ls
    pub ends : RowEnds look takings end

  stop_later : (x : Taking) (xs : List Taking) (end : Ending) → stop_of xs ≡ Some end → stop_of (x ∷ xs) ≡ Some end
  stop_later x [] end e = absurd (cc)
  stop_later x (y ∷ ys) end e = e

  heads : (x y : Taking) (xs ys : List Taking) → x ∷ xs ≡ y ∷ ys → (x ≡ y) × (xs ≡ ys)
  heads x y xs ys e = (cc, cc)

  some_taking : (x : Taking) (xs : List Taking) → [] ≡ x ∷ xs → ⊥
  some_taking x xs e = cc

  -- one more taking before others leaves the last one apart
  apart_more :
      (t r : ℕ) (x : Taking) (before last : List Taking) → IsApart t r before last → (before ≡ [] → last ≡ [] → x.first.key.tick ≡ t → x.first.key.resource ≡ r → ⊥) → IsApart t r (x ∷ before) last
  apart_more t r x before last rest mine none [] z e tick resource =
      let h = heads x z before [] e in mine h.1 none (ap (λ (y : Taking). y.first.key.tick) h.0 ∙ tick) (ap (λ (y : Taking). y.first.key.resource) h.0 ∙ resource)
  apart_more t r x before last rest mine none (y ∷ front) z e tick resource = rest none front z (heads x y before (front ++ z ∷ []) e).1 tick resource

  -- one more taking that goes on
  row_more :
      (look : Look) (x : Taking) (xs : List Taking) (end : Ending) → IsTaking sys most look x → x.stop ≡ None
      → ((t r : ℕ) (before last : List Taking) → end ≡ AtStop t r Steps → xs ≡ before ++ last → before ≡ [] → last ≡ [] → x.first.key.tick ≡ t → x.first.key.resource ≡ r → ⊥)
      → RowEnds x.after xs end → RowEnds look (x ∷ xs) end
  row_more look x xs (AtHorizon h) is_taking on mine rest = ((is_taking, subst (λ (o : Option Reason). NothingAfter o xs) (sym on) tt, rest.0), (on, rest.1))
  row_more look x xs (AtStop t r Steps) is_taking on mine rest =
      record {
        before = x ∷ rest.before;
        last = rest.last;
        parts = ap (λ (ys : List Taking). x ∷ ys) rest.parts;
        chain = (is_taking, subst (λ (o : Option Reason). NothingAfter o rest.before) (sym on) tt, rest.chain);
        goes_on = (on, rest.goes_on);
        one = rest.one;
        kept = rest.kept;
        within_it = rest.within_it;
        judged = rest.judged;
        out = rest.out;
        apart = apart_more t r x rest.before rest.last rest.apart (mine t r rest.before rest.last refl rest.parts);
      }
  row_more look x xs (AtStop t r Divide) is_taking on mine rest = ((is_taking, subst (λ (o : Option Reason). NothingAfter o xs) (sym on) tt, rest.0), stop_later x xs (AtStop t r Divide) rest.1)
  row_more look x xs (AtStop t r Range) is_taking on mine rest = ((is_taking, subst (λ (o : Option Reason). NothingAfter o xs) (sym on) tt, rest.0), stop_later x xs (AtStop t r Range) rest.1)

  -- what is left of the limit of the run in a tick
  limited_left : (c : Config) (look : Look) → IsFollowed c look → (t r : ℕ) → left_at limit t ((limited limit t r look).steps r) ≡ (begun limit t (c.state.meters r)).left
  limited_left c look is t r =
      let left = (left_at most t (look.steps r) + limit) - most in
      let all = is.steps r t in
      let same : left ≡ (begun limit t (c.state.meters r)).left = omega (arith, all, within) in
      ap (λ (b : Bool). left_at limit t (if b then record { tick = Some t; left = left; least = (look.steps r).least } else look.steps r)) (eq-eqb r r refl)
      ∙ ap (λ (b : Bool). if b then left else limit) (eq-eqb t t refl) ∙ same

  keeps_limit : (c : Config) (look : Look) → IsFollowed c look → (t r : ℕ) → KeepsLimit limit t r look
  keeps_limit c look is t r = let all = is.steps r t in omega (arith, all, within)

  none_pushed : (front : List Taking) (z : Taking) → [] ≡ front ++ z ∷ [] → ⊥
  none_pushed [] z e = some_taking z [] e
  none_pushed (y ∷ front) z e = some_taking y (front ++ z ∷ []) e

  -- no step is left
  out_row : (c : Config) (look : Look) → IsFollowed c look → (k : Key) → (begun limit k.tick (c.state.meters k.resource)).left ≡ 0 → IsRow look [] (AtStop k.tick k.resource Steps)
  out_row c look is k none =
      record {
        takings = [];
        lines_are = refl;
        ends = record {
          before = [];
          last = [];
          parts = refl;
          chain = tt;
          goes_on = tt;
          one = tt;
          kept = λ r small. is.least r;
          within_it = keeps_limit c look is k.tick k.resource;
          judged = tt;
          out = limited_left c look is k.tick k.resource ∙ none;
          apart = λ last front z e. absurd (none_pushed front z e);
        };
      }

  can_limited : (look : Look) (t r : ℕ) (k : Key) (e : AnEvent) → CanReact sys look k e → CanReact sys (limited limit t r look) k e
  can_limited look t r k (Stimulated q bs) can = can
  can_limited look t r k (Expired p) can = can
  can_limited look t r k (Arrived q cs) can = can
  can_limited look t r k (Raised q) can = can

  module _ (c : Config) (look : Look) (is : IsFollowed c look) (k : Key) (e : AnEvent) (waits : MayWait sys look k e) (left : ℕ) (o : Outcome)
      (some : (begun limit k.tick (c.state.meters k.resource)).left ≡ suc left) (reacts : Reacts sys k (world_of c.state k.resource) e left o) (early : k.tick ≤ 10 ^ 12) where
    -- the taking with what is left of the limit of the run
    abbrev near : Look
    near = limited limit k.tick k.resource look

    abbrev Near : Type 0
    Near = (x : Taking) × IsTakingOf sys k (path_of e) left 0 near (due_before near e) o x

    near_found : Near
    near_found =
        let seen = is.seen k.resource in
        reacts_taking sys k (world_of c.state k.resource) e left 0 near o (record { memory = seen.memory; variables = seen.variables })
        (can_limited look k.tick k.resource k e (can_react sys look k e waits)) reacts (inl refl)

    near_takings : (f : Near) → IsTaking sys limit near f.0
    near_takings f =
        let x : Taking = f.0 in
        let taking = f.1 in
        let enough : left_at limit k.tick (near.steps k.resource) ≡ suc (left + 0) = let own = limited_left c look is k.tick k.resource in omega (arith, own, some) in
        subst (λ (j : Key). IsTakingWith sys near (left_at limit j.tick (near.steps j.resource)) x) (sym taking.key_is)
        (subst (λ (n : ℕ). IsTakingWith sys near n x) (sym enough) (subst (λ (j : Key). j.tick ≤ 10 ^ 12) (sym taking.key_is) early, taking.is_taking))

    -- the taking ends a row, if no step is left after it
    near_row : (f : Near) → RunsOut limit k.tick k.resource near (f.0 ∷ []) → IsRow look (o.lines ++ []) (AtStop k.tick k.resource Steps)
    near_row f out =
        record {
          takings = f.0 ∷ [];
          lines_are = ap (λ (ls : List Line). ls ++ []) f.1.lines_are;
          ends = record {
            before = [];
            last = f.0 ∷ [];
            parts = refl;
            chain = tt;
            goes_on = tt;
            one = (ap (λ (j : Key). j.tick) f.1.key_is, ap (λ (j : Key). j.resource) f.1.key_is);
            kept = λ r small. is.least r;
            within_it = keeps_limit c look is k.tick k.resource;
            judged = (near_takings f, nothing f.0.stop, tt);
            out = out;
            apart = λ last. absurd (some_taking f.0 [] (sym last));
          };
        }

    -- the reaction runs out of steps
    steps_row : o.stop ≡ Some Steps → IsRow look (o.lines ++ []) (AtStop k.tick k.resource Steps)
    steps_row stop = let f = near_found in near_row f (inl (f.1.stop_is ∙ stop))

    -- the reaction goes on, and uses the last step
    left_after_it : (f : Near) → left_at limit k.tick (f.0.after.steps k.resource) ≡ o.left + 0
    left_after_it f =
        let own : Left = record { tick = Some k.tick; left = o.left + 0; least = min (near.steps k.resource).least (o.left + 0) } in
        ap (λ (g : ℕ → Left). left_at limit k.tick (g k.resource)) f.1.steps_are
        ∙ ap (λ (b : Bool). left_at limit k.tick (if b then own else near.steps k.resource)) (eq-eqb k.resource k.resource refl)
        ∙ ap (λ (b : Bool). if b then own.left else limit) (eq-eqb k.tick k.tick refl)

    exact_row : o.stop ≡ None → o.left ≡ 0 → IsRow look (o.lines ++ []) (AtStop k.tick k.resource Steps)
    exact_row on none = let f = near_found in near_row f (inr (f.1.stop_is ∙ on, left_after_it f ∙ ap (λ (n : ℕ). n + 0) none))

    -- a reason other than the steps ends the reaction
    abbrev Found : Type 0
    Found = (x : Taking) × IsTakingOf sys k (path_of e) left more look (due_before look e) o x

    found_more : (o.stop ≡ Some Steps → ⊥) → Found
    found_more other = reacts_taking sys k (world_of c.state k.resource) e left more look o (is.seen k.resource) (can_react sys look k e waits) reacts (inr other)

    takings_more : (f : Found) → IsTaking sys most look f.0
    takings_more f = taking_of c look is k e waits left o f.0 f.1 reacts some early

    stop_at : (f : Found) (r : Reason) → o.stop ≡ Some r → stop_of (f.0 ∷ []) ≡ Some (AtStop k.tick k.resource r)
    stop_at f r stop =
        ap (λ (s : Option Reason). elim s [ None ↦ None | Some z ↦ Some (AtStop f.0.first.key.tick f.0.first.key.resource z) ]) (f.1.stop_is ∙ stop)
        ∙ ap (λ (j : Key). Some (AtStop j.tick j.resource r)) f.1.key_is

    none_or_steps : (s : Option Reason) → s ≡ None → s ≡ Some Steps → ⊥
    none_or_steps s a b = cc

    divide_or_steps : (s : Option Reason) → s ≡ Some Divide → s ≡ Some Steps → ⊥
    divide_or_steps s a b = cc

    range_or_steps : (s : Option Reason) → s ≡ Some Range → s ≡ Some Steps → ⊥
    range_or_steps s a b = cc

    divide_row : o.stop ≡ Some Divide → IsRow look (o.lines ++ []) (AtStop k.tick k.resource Divide)
    divide_row stop =
        let f = found_more (divide_or_steps o.stop stop) in
        record { takings = f.0 ∷ []; lines_are = ap (λ (ls : List Line). ls ++ []) f.1.lines_are; ends = ((takings_more f, nothing f.0.stop, tt), stop_at f Divide stop) }

    range_row : o.stop ≡ Some Range → IsRow look (o.lines ++ []) (AtStop k.tick k.resource Range)
    range_row stop =
        let f = found_more (range_or_steps o.stop stop) in
        record { takings = f.0 ∷ []; lines_are = ap (λ (ls : List Line). ls ++ []) f.1.lines_are; ends = ((takings_more f, nothing f.0.stop, tt), stop_at f Range stop) }

  lines_end : (t : Taken) (ts : List Taken) (stop : Option Reason) (r : Reason) → stop ≡ Some r → NothingTaken stop ts → [] ≡ lines_of ts
  lines_end t ts stop r is none = ap lines_of (sym (subst (λ (s : Option Reason). NothingTaken s ts) is none))

  -- a run with a first taking, where the rest of it is followed
  abbrev IsRest : (horizon : ℕ) → List Taken → Type 0
  IsRest horizon ts =
      (c : Config) (look : Look) → IsFollowed c look → Chain sys limit c ts → All (λ (t : Taken). t.key.tick < horizon) ts → IsRow look (lines_of ts) (ending_of horizon ts)

  module _ (horizon : ℕ) (small : horizon ≤ 10 ^ 12) (t : Taken) (ts : List Taken) (more_rows : IsRest horizon ts) (c : Config) (look : Look) (is : IsFollowed c look)
      (chain : Chain sys limit c (t ∷ ts)) (below : All (λ (t : Taken). t.key.tick < horizon) (t ∷ ts)) where
    wait_now : MayWait sys look t.key t.event
    wait_now = is.waits t.key t.event chain.0.waits

    early_now : t.key.tick ≤ 10 ^ 12
    early_now = let low = All-head (λ (t : Taken). t.key.tick < horizon) t ts below in omega (arith, low, small)

    -- a stop is the end
    ended : (r : Reason) (ls : List Line) → t.effect.stop ≡ Some r → t.effect.lines ≡ ls → IsRow look (ls ++ []) (AtStop t.key.tick t.key.resource r) → IsRow look (lines_of (t ∷ ts)) (ending_of horizon (t ∷ ts))
    ended r ls stop lines row =
        subst (λ (s : Option Reason). IsRow look (lines_of (t ∷ ts)) (ending_by s t.key (ending_of horizon ts))) (sym stop)
        (subst (λ (ks : List Line). IsRow look ks (AtStop t.key.tick t.key.resource r))
        (ap (λ (ks : List Line). ls ++ ks) (lines_end t ts t.effect.stop r stop chain.1) ∙ ap (λ (ks : List Line). ks ++ lines_of ts) (sym lines)) row)

    module _ (left : ℕ) (o : Outcome) (some : (begun limit t.key.tick (c.state.meters t.key.resource)).left ≡ suc left) (reacts : Reacts sys t.key (world_of c.state t.key.resource) t.event left o)
        (effect_is : t.effect ≡ effect_of sys t.key t.event (begun limit t.key.tick (c.state.meters t.key.resource)) c.state o) where
      stop_so : t.effect.stop ≡ o.stop
      stop_so = ap (λ (x : Effect). x.stop) effect_is

      lines_so : t.effect.lines ≡ o.lines
      lines_so = ap (λ (x : Effect). x.lines) effect_is

      abbrev Free : Type 0
      Free = Found c look is t.key t.event wait_now left o some reacts early_now

      -- one more taking before others
      plain :
          o.stop ≡ None → (f : Free) (ls : List Line) (end : Ending) (rest : IsRow f.0.after ls end)
          → ((k r : ℕ) (before last : List Taking) → end ≡ AtStop k r Steps → rest.takings ≡ before ++ last → before ≡ [] → last ≡ [] → f.0.first.key.tick ≡ k → f.0.first.key.resource ≡ r → ⊥)
          → IsRow look (o.lines ++ ls) end
      plain on f ls end rest own =
          record {
            takings = f.0 ∷ rest.takings;
            lines_are = ap (λ (ks : List Line). ks ++ all_lines rest.takings) f.1.lines_are ∙ ap (λ (ks : List Line). o.lines ++ ks) rest.lines_are;
            ends = row_more look f.0 rest.takings end (takings_more c look is t.key t.event wait_now left o some reacts early_now f) (f.1.stop_is ∙ on) own rest.ends;
          }

      none_later : (ys before last : List Taking) (y : Taking) (zs : List Taking) → ys ≡ y ∷ zs → ys ≡ before ++ last → before ≡ [] → last ≡ [] → ⊥
      none_later ys before last y zs e parts first second =
          some_taking y zs (sym (parts ∙ ap (λ (xs : List Taking). xs ++ last) first ∙ second) ∙ e)

      end_parts : (k r j s : ℕ) → AtStop k r Steps ≡ AtStop j s Steps → (k ≡ j) × (r ≡ s)
      end_parts k r j s e = (cc, cc)

      same_end : (k r : ℕ) → t.key.tick ≡ k → t.key.resource ≡ r → AtStop t.key.tick t.key.resource Steps ≡ AtStop k r Steps
      same_end k r tick resource = ap (λ (n : ℕ). AtStop n t.key.resource Steps) tick ∙ ap (λ (n : ℕ). AtStop k n Steps) resource

      module _ (on : o.stop ≡ None) (f : Free) (next : Config) (followed : IsFollowed next f.0.after) (ls : List Line) (k r : ℕ) (rest : IsRow f.0.after ls (AtStop k r Steps)) where
        -- where the run stops before the next event, the last step is used
        last_used : rest.takings ≡ [] → t.key.tick ≡ k → t.key.resource ≡ r → o.left ≡ 0
        last_used none tick resource =
            let own : Left = record { tick = Some t.key.tick; left = o.left + more; least = min (look.steps t.key.resource).least (o.left + more) } in
            let left_is : left_at most t.key.tick (f.0.after.steps t.key.resource) ≡ o.left + more =
            ap (λ (g : ℕ → Left). left_at most t.key.tick (g t.key.resource)) f.1.steps_are
            ∙ ap (λ (b : Bool). left_at most t.key.tick (if b then own else look.steps t.key.resource)) (eq-eqb t.key.resource t.key.resource refl)
            ∙ ap (λ (b : Bool). if b then own.left else most) (eq-eqb t.key.tick t.key.tick refl)
            in
            let nothing_left = out_of rest.ends.before rest.ends.last (sym rest.ends.parts ∙ none) rest.ends.out in
            let here : (left_at most t.key.tick (f.0.after.steps t.key.resource) + limit) - most ≡ 0 =
            subst (λ (n : ℕ). (left_at most t.key.tick (f.0.after.steps n) + limit) - most ≡ 0) (sym resource)
            (subst (λ (n : ℕ). (left_at most n (f.0.after.steps r) + limit) - most ≡ 0) (sym tick) (sym (limited_at sys limit within f.0.after k r) ∙ nothing_left))
            in
            omega (arith, left_is, here, within)
          where
            out_of : (before last : List Taking) → before ++ last ≡ [] → RunsOut limit k r (limited limit k r (last_look f.0.after before)) last
                → left_at limit k ((limited limit k r f.0.after).steps r) ≡ 0
            out_of [] [] e out = out
            out_of [] (y ∷ ys) e out = absurd (some_taking y ys (sym e))
            out_of (y ∷ ys) last e out = absurd (some_taking y (ys ++ last) (sym e))

        went_steps : (takings : List Taking) → rest.takings ≡ takings → (t.key.tick ≡ k) ⊎ (t.key.tick ≡ k → ⊥) → (t.key.resource ≡ r) ⊎ (t.key.resource ≡ r → ⊥) → IsRow look (o.lines ++ ls) (AtStop k r Steps)
        went_steps (y ∷ ys) e tick resource = plain on f ls (AtStop k r Steps) rest (λ j s before last end parts first second. absurd (none_later rest.takings before last y ys e parts first second))
        went_steps [] e (inr apart) resource =
            plain on f ls (AtStop k r Steps) rest (λ j s before last end parts first second tick own. apart (ap (λ (z : Key). z.tick) (sym f.1.key_is) ∙ tick ∙ sym (end_parts k r j s end).0))
        went_steps [] e (inl tick) (inr apart) =
            plain on f ls (AtStop k r Steps) rest (λ j s before last end parts first second same own. apart (ap (λ (z : Key). z.resource) (sym f.1.key_is) ∙ own ∙ sym (end_parts k r j s end).1))
        went_steps [] e (inl tick) (inl resource) =
            let nothing_more : [] ≡ ls = ap all_lines (sym e) ∙ rest.lines_are in
            subst (λ (end : Ending). IsRow look (o.lines ++ ls) end) (same_end k r tick resource)
            (subst (λ (ks : List Line). IsRow look (o.lines ++ ks) (AtStop t.key.tick t.key.resource Steps)) nothing_more
            (exact_row c look is t.key t.event wait_now left o some reacts early_now on (last_used e tick resource)))

      went_by : (on : o.stop ≡ None) (f : Free) (next : Config) → IsFollowed next f.0.after → (end : Ending) → IsRow f.0.after (lines_of ts) end → IsRow look (o.lines ++ lines_of ts) end
      went_by on f next followed (AtHorizon h) rest = plain on f (lines_of ts) (AtHorizon h) rest (λ k r before last end. absurd (cc))
      went_by on f next followed (AtStop k r Steps) rest =
          went_steps on f next followed (lines_of ts) k r rest rest.takings refl (cases_eq t.key.tick k) (cases_eq t.key.resource r)
      went_by on f next followed (AtStop k r Divide) rest = plain on f (lines_of ts) (AtStop k r Divide) rest (λ j s before last end. absurd (cc))
      went_by on f next followed (AtStop k r Range) rest = plain on f (lines_of ts) (AtStop k r Range) rest (λ j s before last end. absurd (cc))

      went : o.stop ≡ None → IsRow look (lines_of (t ∷ ts)) (ending_of horizon (t ∷ ts))
      went on =
          let f = found_more c look is t.key t.event wait_now left o some reacts early_now (none_or_steps c look is t.key t.event wait_now left o some reacts early_now o.stop on) in
          let next : Config = record { state = t.effect.state; agenda = agenda_after t.key c.agenda t.effect } in
          let followed : IsFollowed next f.0.after =
          subst (λ (x : Effect). IsFollowed (record { state = x.state; agenda = agenda_after t.key c.agenda x }) f.0.after) (sym effect_is)
          (follows c look is t.key t.event wait_now left o f.0 f.1 reacts)
          in
          let rest = more_rows next f.0.after followed chain.2 (All-tail (λ (t : Taken). t.key.tick < horizon) t ts below) in
          subst (λ (s : Option Reason). IsRow look (lines_of (t ∷ ts)) (ending_by s t.key (ending_of horizon ts))) (sym (stop_so ∙ on))
          (subst (λ (ks : List Line). IsRow look (ks ++ lines_of ts) (ending_of horizon ts)) (sym lines_so) (went_by on f next followed (ending_of horizon ts) rest))

      reacted : (s : Option Reason) → o.stop ≡ s → IsRow look (lines_of (t ∷ ts)) (ending_of horizon (t ∷ ts))
      reacted None stop = went stop
      reacted (Some Steps) stop = ended Steps o.lines (stop_so ∙ stop) lines_so (steps_row c look is t.key t.event wait_now left o some reacts early_now stop)
      reacted (Some Divide) stop = ended Divide o.lines (stop_so ∙ stop) lines_so (divide_row c look is t.key t.event wait_now left o some reacts early_now stop)
      reacted (Some Range) stop = ended Range o.lines (stop_so ∙ stop) lines_so (range_row c look is t.key t.event wait_now left o some reacts early_now stop)

    row_by : ((t.effect ≡ out_of_steps c.state) × ((begun limit t.key.tick (c.state.meters t.key.resource)).left ≡ 0))
        ⊎ ((left : ℕ) × (o : Outcome) × ((begun limit t.key.tick (c.state.meters t.key.resource)).left ≡ suc left) × Reacts sys t.key (world_of c.state t.key.resource) t.event left o
        × (t.effect ≡ effect_of sys t.key t.event (begun limit t.key.tick (c.state.meters t.key.resource)) c.state o))
        → IsRow look (lines_of (t ∷ ts)) (ending_of horizon (t ∷ ts))
    row_by (inl out) =
        ended Steps [] (ap (λ (x : Effect). x.stop) out.0) (ap (λ (x : Effect). x.lines) out.0) (out_row c look is t.key out.1)
    row_by (inr h) = reacted h.0 h.1 h.2 h.3 h.4 h.1.stop refl

    row_step : IsRow look (lines_of (t ∷ ts)) (ending_of horizon (t ∷ ts))
    row_step = row_by (taken_so sys limit c.state t.key t.event t.effect chain.0.takes)

  pub row : (horizon : ℕ) → horizon ≤ 10 ^ 12 → (ts : List Taken) → IsRest horizon ts
  row horizon small [] = λ c look is chain below. record { takings = []; lines_are = refl; ends = (tt, tt) }
  row horizon small (t ∷ ts) = λ c look is chain below. row_step horizon small t ts (row horizon small ts) c look is chain below

  -- ---- The opening

  restart_waits : (p : Path) → Each (λ (e : Key × AnEvent). MayWait sys (opening_look sys) e.0 e.1) (restart_of sys p)
  restart_waits p = go (sys.kind p) refl
    where
      go : (o : Option Kind) → sys.kind p ≡ o → Each (λ (e : Key × AnEvent). MayWait sys (opening_look sys) e.0 e.1) (elim o [
        | Some (Event Restart) ↦ (timer_key 0 (sys.resource p) (sys.number p), Expired p) ∷ []
        | _ ↦ []
      ])
      go (Some (Event Restart)) e = (record { kind = Restart; kind_is = e; key_is = refl; due = ap first_due e; may = tt }, tt)
      go _ e = tt

  restarts_wait : (ps : List Path) → Each (λ (e : Key × AnEvent). MayWait sys (opening_look sys) e.0 e.1) (flat_map (restart_of sys) ps)
  restarts_wait [] = tt
  restarts_wait (p ∷ ps) = each_append (λ (e : Key × AnEvent). MayWait sys (opening_look sys) e.0 e.1) (restart_of sys p) _ (restart_waits p) (restarts_wait ps)

  stimuli_wait :
      (row : ℕ) (ss : List Stimulus) → Each (λ (s : Stimulus). IsThere sys s.port.at) ss → Each (λ (e : Key × AnEvent). MayWait sys (opening_look sys) e.0 e.1) (stimuli_from sys row ss)
  stimuli_wait row [] h = tt
  stimuli_wait row (s ∷ ss) h = ((h.0, refl), stimuli_wait (row + 1) ss h.1)

  opening_followed : (ss : List Stimulus) → Each (λ (s : Stimulus). IsThere sys s.port.at) ss → IsFollowed (opening sys ss) (opening_look sys)
  opening_followed ss h =
      let P : Key → AnEvent → Type 0 = MayWait sys (opening_look sys) in
      record {
        seen = λ r. record { memory = λ p. refl; variables = λ p leaf. refl };
        waits = λ j. holds_or_else (P j) (found j (opening_events sys ss)) None
            (found_holds P j (opening_events sys ss) (each_append (λ (e : Key × AnEvent). P e.0 e.1) (stimuli_from sys 0 ss) _ (stimuli_wait 0 ss h) (restarts_wait sys.paths))) (holds_none (P j));
        steps = λ r t. omega (arith, within);
        least = λ r. omega arith;
      }

  ends_so : (takings : List Taking) (end : Ending) → RowEnds (opening_look sys) takings end → EndsSo sys limit takings end
  ends_so takings (AtHorizon h) e = e
  ends_so takings (AtStop t r Steps) e =
      record {
        limited_so =
            record { before = e.before; last = e.last; parts = e.parts; chain = e.chain; goes_on = e.goes_on; one = e.one; kept = e.kept; within = e.within_it; judged = e.judged };
        runs_out = e.out;
      }
  ends_so takings (AtStop t r Divide) e = e
  ends_so takings (AtStop t r Range) e = e

  -- A row that no taking ends for steps has no taking of that resource in that tick as its last one.
  abbrev pub IsExact : (takings : List Taking) (end : Ending) → EndsSo sys limit takings end → Type 0
  IsExact takings (AtHorizon h) e = Unit {0}
  IsExact takings (AtStop t r Steps) e = IsApart t r e.limited_so.before e.limited_so.last
  IsExact takings (AtStop t r Divide) e = Unit {0}
  IsExact takings (AtStop t r Range) e = Unit {0}

  exact_so : (takings : List Taking) (end : Ending) (e : RowEnds (opening_look sys) takings end) → IsExact takings end (ends_so takings end e)
  unfolding ends_so
  exact_so takings (AtHorizon h) e = tt
  exact_so takings (AtStop t r Steps) e = e.apart
  exact_so takings (AtStop t r Divide) e = tt
  exact_so takings (AtStop t r Range) e = tt

  pub run_row :
      (horizon : ℕ) → horizon ≤ 10 ^ 12 → (ss : List Stimulus) → Each (λ (s : Stimulus). IsThere sys s.port.at) ss → (ts : List Taken) → IsSimulation sys ss horizon limit ts
      → (takings : List Taking) × (all_lines takings ≡ lines_of ts) × (ends : EndsSo sys limit takings (ending_of horizon ts)) × IsExact takings (ending_of horizon ts) ends
  run_row horizon small ss h ts is =
      let found = row horizon small ts (opening sys ss) (opening_look sys) (opening_followed ss h) is.chain is.below in
      (found.takings, found.lines_are, ends_so found.takings (ending_of horizon ts) found.ends, exact_so found.takings (ending_of horizon ts) found.ends)
