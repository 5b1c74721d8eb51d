-- An event is taken in its resource as the model takes it.
use Rattle.fb_resource.proofs.lemmas.Common.{◌≡◌, ℕ, suc, Bool, true, false, cond, List, [], map, refl, sym, ap, subst, ◌∙◌, ◌++◌, append-nil, Option, Some, None, option_map, eq-eqb, Inputs, system_of, or_else, found, changed_to, same_key, timer_key, Path, path_at, State, path_of, System, Posts, begun, is_timer_of, post_all, world_of, Key, TimerAsk, Keep, Reason, Contents, Event, out_of, Outbox, event_of, Forest, meter_of, CountsAre, arriving, IsHere, IsTakenHere, Traffic, meaning}
use Rattle.fb_types.proofs.Common.{line_of, Out, Outcome, Reacts, Meter, Expired, Effect, Takes, TakesWith, agenda_after, effect_of, out_of_steps, posts_of, put_of, timer_change, with_at}
use Rattle.fb_types.specs.declared.run.TimerAsk.TheVariants.{Clear, At}
use Rattle.fb_types.specs.declared.run.Event.TheVariants.{Timer}
use Rattle.fb_types.specs.Keys.{no_keys}
use Rattle.fb_types.specs.States.{Event as AnEvent}
use Rattle.fb_types.specs.declared.value.Reason.TheVariants as reason
use Rattle.fb_agenda.specs.Agendas.{timer_set}
use Rattle.fb_net.specs.Outs.{only_lines}
use Rattle.fb_net.specs.Events.{CameTo}
use Rattle.fb_net.proofs.lemmas.taking.AskedTimers.{asked_first}
use Rattle.fb_net.specs.Worlds.{IsForest}
use Rattle.fb_laws.specs.Typed.{IsTypedEvent, IsTypedSystem}
use Rattle.fb_laws.proofs.lemmas.takings.Agendas.{holds_none}
use Rattle.fb_laws.proofs.lemmas.typing.Simulated.{IsTypedConfig, takes-typed}
use Rattle.fb_resource.specs.Takings.{IsSettled}
use Rattle.fb_resource.specs.declared.tick_counts.TickCounts as counted
use Rattle.fb_resource.proofs.lemmas.Meters.{alike_same}

-- ---- No step is left

takes_none : (sys : System) (limit : ℕ) (s : State) (k : Key) (e : AnEvent) (m : Meter) → begun limit k.tick (s.meters k.resource) ≡ m → m.left ≡ 0
    → Takes sys limit s k e (out_of_steps s)
unfolding Takes
takes_none sys limit s k e m is none =
    subst (λ (n : Meter). TakesWith sys s k e n n.left (out_of_steps s)) (sym is)
    (subst (λ (l : ℕ). TakesWith sys s k e m l (out_of_steps s)) (sym none) refl)

pub taken_none : (i : Inputs) (limit : ℕ) (s : State) (k : Key) (e : AnEvent) (m : Meter) (from : ℕ) (t : Forest) (x : counted.TickCounts) (q : Traffic)
    → begun limit k.tick (s.meters k.resource) ≡ m → m.left ≡ 0 → IsHere i s k.resource from t x → CountsAre q.sent.items s.sent
    → IsTakenHere i limit s k e (Some reason.Steps) from t x q q
taken_none i limit s k e m from t x q is none here counts = record {
  effect = out_of_steps s;
  takes = takes_none (system_of i) limit s k e m is none;
  stops = refl;
  here = here;
  counts = counts;
  agenda = λ j. refl;
  mail = sym (append-nil (map (arriving i) q.mail.items));
  lines = sym (append-nil (map (line_of (system_of i)) q.outbox.lines.items));
}

-- ---- One step is used

takes_one : (sys : System) (limit : ℕ) (s : State) (k : Key) (e : AnEvent) (m : Meter) (l : ℕ) (o : Outcome) → begun limit k.tick (s.meters k.resource) ≡ m → m.left ≡ suc l
    → Reacts sys k (world_of s k.resource) e l o → Takes sys limit s k e (effect_of sys k e m s o)
unfolding Takes
takes_one sys limit s k e m l o is left reacts =
    subst (λ (n : Meter). TakesWith sys s k e n n.left (effect_of sys k e m s o)) (sym is)
    (subst (λ (n : ℕ). TakesWith sys s k e m n (effect_of sys k e m s o)) (sym left) (o, reacts, refl))

-- ---- The agenda

pub meaning_timer : (i : Inputs) (r n : ℕ) (ask : TimerAsk) (j : Key) (o : Option Event) → (system_of i).number (path_at (system_of i) n) ≡ n
    → option_map (event_of i) (changed_to (timer_set r n ask j) o) ≡ changed_to (timer_change (system_of i) r (path_at (system_of i) n) ask j) (option_map (event_of i) o)
meaning_timer i r n Keep j o numbered = refl
meaning_timer i r n Clear j o numbered = rw numbered (go (is_timer_of r n j))
  where
    go : (b : Bool) → option_map (event_of i) (changed_to (cond b (Some None) None) o) ≡ changed_to (cond b (Some None) None) (option_map (event_of i) o)
    go true = refl
    go false = refl
meaning_timer i r n (At t) j o numbered = rw numbered (go (same_key (timer_key t r n) j) (is_timer_of r n j))
  where
    go : (b d : Bool) → option_map (event_of i) (changed_to (cond b (Some (Some (Timer n))) (cond d (Some None) None)) o)
        ≡ changed_to (cond b (Some (Some (Expired (path_at (system_of i) n)))) (cond d (Some None) None)) (option_map (event_of i) o)
    go true d = refl
    go false true = refl
    go false false = refl

put_first : (o : Option AnEvent) (t : Option (Option AnEvent)) (z : Option AnEvent) → changed_to (or_else (put_of o) t) z ≡ or_else o (changed_to t z)
put_first (Some x) t z = refl
put_first None t z = refl

agenda_is : (i : Inputs) (k : Key) (p : Path) (ask : TimerAsk) (x : Posts) (old new : Traffic) (locals : ℕ) → IsSettled i k p ask x old new locals
    → (j : Key) → meaning i new.agenda j ≡ changed_to (or_else (put_of (found j x.raised)) (timer_change (system_of i) k.resource p ask j)) (meaning i old.agenda j)
agenda_is i k p ask x old new locals settled j =
    settled.posted.agenda j
    ∙ ap (λ z. or_else (found j x.raised) z) (settled.set j)
    ∙ sym (put_first (found j x.raised) (timer_change (system_of i) k.resource p ask j) (meaning i old.agenda j))

pub with_at_here : {A : Type 0} (n : ℕ) (x : A) (f : ℕ → A) → with_at n x f n ≡ x
with_at_here n x f = ap (λ b. cond b x (f n)) (eq-eqb n n refl)

-- ---- The taking

-- What an event came to in its tree was settled: it is taken, whether or not its reaction stops.
pub taken_one : (i : Inputs) (limit : ℕ) (s : State) (k : Key) (e : Event) (m meter : counted.TickCounts) (l : ℕ) (stop : Option Reason) (old mid new : Traffic) (from : ℕ) (before : Forest) (was : counted.TickCounts) (tree : Forest) (x : Outbox)
    → IsTypedSystem (system_of i) → IsTypedEvent (system_of i) (event_of i e)
    → IsHere i s k.resource from before was → CountsAre old.sent.items s.sent
    → begun limit k.tick (s.meters k.resource) ≡ meter_of m → m.meter.left ≡ suc l
    → CameTo i k e (only_lines (map (line_of (system_of i)) old.outbox.lines.items)) l stop tree meter.meter.left x (world_of s k.resource)
    → mid ≡ record old { outbox = x }
    → ((counts : ℕ → ℕ) → CountsAre mid.sent.items counts
    → IsSettled i k (path_of (event_of i e)) x.timer (post_all (system_of i) k (map (out_of (system_of i)) x.outs.items) (record { locals = m.locals; sent = counts; raised = []; messages = [] })) mid new meter.locals)
    → meter.tick ≡ Some k.tick → new.outbox.lines.items ≡ x.lines.items
    → IsTakenHere i limit s k (event_of i e) stop from tree meter old new
taken_one i limit s k e m meter l stop old mid new from before was tree x sound typed at counted_before is left came between settled tick shown = record {
  effect = effect;
  takes = takes;
  stops = came.stops;
  here = record { blocks = here; meter = alike_same from (state.meters k.resource) (meter_of meter) metered; typed = config.state };
  counts = its.posted.sends;
  agenda = agenda_is i k (path_of event) o.timer posts old new meter.locals its;
  mail = its.posted.mail;
  lines = ap (map (line_of sys)) shown ∙ came.represents.lines;
}
  where
    sys : System
    sys = system_of i

    o : Outcome
    o = came.outcome

    event : AnEvent
    event = event_of i e

    effect : Effect
    effect = effect_of sys k event (meter_of m) s o

    takes : Takes sys limit s k event effect
    takes = takes_one sys limit s k event (meter_of m) l o is left came.reacts

    state : State
    state = effect.state

    start : Posts
    start = record { locals = m.locals; sent = s.sent; raised = []; messages = [] }

    posts : Posts
    posts = posts_of sys k (meter_of m) s o.outs

    after_old : IsSettled i k (path_of event) x.timer (post_all sys k (map (out_of sys) x.outs.items) start) old new meter.locals
    after_old =
        let it = settled s.sent (subst (λ (q : Traffic). CountsAre q.sent.items s.sent) (sym between) counted_before) in
        let mail : mid.mail.items ≡ old.mail.items = ap (λ (q : Traffic). q.mail.items) between in
        let agenda : mid.agenda ≡ old.agenda = ap (λ (q : Traffic). q.agenda) between in
        record {
          mid = it.mid;
          set = λ j. it.set j ∙ ap (λ (a : Contents). changed_to (timer_change sys k.resource (path_of event) x.timer j) (meaning i a j)) agenda;
          posted = record {
            agenda = it.posted.agenda;
            mail = it.posted.mail ∙ ap (λ ms. map (arriving i) ms ++ (post_all sys k (map (out_of sys) x.outs.items) start).messages) mail;
            counted = it.posted.counted;
            sends = it.posted.sends;
          };
        }

    its : IsSettled i k (path_of event) o.timer posts old new meter.locals
    its = subst (λ ask. IsSettled i k (path_of event) ask posts old new meter.locals) (came.represents.timer ∙ asked_first o.timer)
        (subst (λ (os : List Out). IsSettled i k (path_of event) x.timer (post_all sys k os start) old new meter.locals) came.represents.outs after_old)

    here : IsForest i tree (world_of state k.resource)
    here = subst (λ h. IsForest i tree (record { blocks = o.world.blocks; held = h })) (sym (with_at_here k.resource o.world.held s.held)) came.represents.world

    metered : state.meters k.resource ≡ meter_of meter
    metered =
        with_at_here k.resource _ s.meters
        ∙ ap (λ t. record { tick = t; left = o.left; locals = posts.locals }) (sym tick)
        ∙ ap (λ z. record { tick = meter.tick; left = z; locals = posts.locals }) came.leaves
        ∙ ap (λ z. record { tick = meter.tick; left = meter.meter.left; locals = z }) (sym its.posted.counted)

    config : IsTypedConfig sys sound (record { state = state; agenda = agenda_after k no_keys effect })
    config = takes-typed sys sound limit k event s no_keys effect at.typed (λ j. holds_none (IsTypedEvent sys)) typed takes
