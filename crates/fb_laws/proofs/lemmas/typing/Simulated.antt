-- In a simulation each variable holds a value of its type.
use Rattle.fb_types.proofs.Common.{ℕ, zero, suc, ◌+◌, sym, subst, eqb, Bool, true, false, cond, List, [], ◌∷◌, Option, Some, None, All, flat_map, All-nil, All-cons, All-head, All-tail, All-append, All-push, Path, Port, Kind, Event, or_else, found, changed_to, same_key, timer_key, local_key, without, Out, Sends, Outcome, Taken, IsSimulation, Chain, after, opening, opening_state, opening_events, stimuli_from, restart_of, State, Meter, Config, Agenda, Expired, Raised, path_of, System, Posts, post, post_all, posts_of, timer_change, is_timer_of, Effect, put_of, world_of, effect_of, TakesWith, Takes, begun, agenda_after}
use Rattle.fb_types.specs.declared.event_kind.EventKind.TheVariants.{Restart}
use Rattle.fb_types.specs.declared.key.Key.{Key}
use Rattle.fb_types.specs.declared.run.TimerAsk.{TimerAsk}
use Rattle.fb_types.specs.declared.run.TimerAsk.TheVariants.{Keep, Clear, At}
use Rattle.fb_types.specs.Reactions.{Local}
use Rattle.fb_types.specs.Simulation.{Stimulus, opening_memory, opening_agenda}
use Rattle.fb_types.specs.States.{Event as AnEvent}
use Rattle.fb_laws.specs.Typed.{FitsAt, AreTyped, IsTypedMemory, IsTypedEvent, IsTypedOut, IsTypedSystem}
use Rattle.fb_laws.specs.Simulations.{BeginsTyped, IsTypedStimulus, IsTypedState, IsTypedTaking}
use Rattle.fb_laws.proofs.lemmas.typing.Values.{port-found, input-found}
use Rattle.fb_laws.proofs.lemmas.takings.Agendas.{Holds, holds_none, holds_some, holds_if, holds_or_else, holds_found, holds_put, holds_changed, holds_without}
use Rattle.fb_laws.proofs.lemmas.typing.EventBlocks.{start-typed}
use Rattle.fb_laws.proofs.lemmas.typing.ReactionTypes.{reacts_typed}

module _ (sys : System) (sound : IsTypedSystem sys) where
  abbrev AreTypedEvents : List (Key × AnEvent) → Type 0
  AreTypedEvents = All (λ (e : Key × AnEvent). IsTypedEvent sys e.1)

  abbrev pub IsTypedAgenda : Agenda → Type 0
  IsTypedAgenda a = (k : Key) → Holds (IsTypedEvent sys) (a k)

  -- ---- What a reaction emits

  record ArePostsTyped (x : Posts) : Type 0 where
    raised : AreTypedEvents x.raised
    messages : AreTypedEvents x.messages

  post-typed : (k : Key) (o : Out) (x : Posts) → IsTypedOut sys o → ArePostsTyped x → ArePostsTyped (post sys k o x)
  post-typed k (Local q) x t p = record {
    raised = All-push (λ (e : Key × AnEvent). IsTypedEvent sys e.1) x.raised (local_key k.tick k.resource x.locals, Raised q) p.raised tt;
    messages = p.messages;
  }
  post-typed k (Sends q carried) x t p = record {
    raised = p.raised;
    messages = All-push (λ (e : Key × AnEvent). IsTypedEvent sys e.1) x.messages _ p.messages t;
  }

  post_all-typed : (k : Key) (os : List Out) (x : Posts) → All (IsTypedOut sys) os → ArePostsTyped x → ArePostsTyped (post_all sys k os x)
  post_all-typed k [] x t p = p
  post_all-typed k (o ∷ os) x t p =
      post_all-typed k os (post sys k o x) (All-tail (IsTypedOut sys) o os t) (post-typed k o x (All-head (IsTypedOut sys) o os t) p)

  cleared-typed : (r : ℕ) (p : Path) (j : Key) → Holds (Holds (IsTypedEvent sys)) (timer_change sys r p Clear j)
  cleared-typed r p j =
      holds_if (Holds (IsTypedEvent sys)) (is_timer_of r (sys.number p) j) (Some None) None
      (holds_some (Holds (IsTypedEvent sys)) None (holds_none (IsTypedEvent sys))) (holds_none (Holds (IsTypedEvent sys)))

  timer-typed : (r : ℕ) (p : Path) (ask : TimerAsk) (j : Key) → Holds (Holds (IsTypedEvent sys)) (timer_change sys r p ask j)
  timer-typed r p Keep j = holds_none (Holds (IsTypedEvent sys))
  timer-typed r p Clear j = cleared-typed r p j
  timer-typed r p (At t) j =
      holds_if (Holds (IsTypedEvent sys)) (same_key (timer_key t r (sys.number p)) j) (Some (Some (Expired p)))
      (cond (is_timer_of r (sys.number p) j) (Some None) None)
      (holds_some (Holds (IsTypedEvent sys)) (Some (Expired p)) (holds_some (IsTypedEvent sys) (Expired p) tt))
      (cleared-typed r p j)

  -- ---- The taking

  pub record IsTypedConfig (c : Config) : Type 0 where
    pub state : IsTypedState sys c.state
    pub agenda : IsTypedAgenda c.agenda

  state_after : (k : Key) (event : AnEvent) (m : Meter) (s : State) (o : Outcome) → IsTypedState sys s → AreTyped sys o.world
      → IsTypedState sys (effect_of sys k event m s o).state
  state_after k event m s o typed t r = record { blocks = t.blocks; held = go (eqb r k.resource) }
    where
      go : (b : Bool) → (q : Port) → FitsAt sys q (cond b o.world.held (s.held r) q)
      go true q = t.held q
      go false q = (typed r).held q

  agenda_after-typed : (k : Key) (event : AnEvent) (x : Posts) (ask : TimerAsk) (a : Agenda) (j : Key) → ArePostsTyped x → IsTypedAgenda a
      → Holds (IsTypedEvent sys) (or_else (found j x.messages) (changed_to (or_else (put_of (found j x.raised)) (timer_change sys k.resource (path_of event) ask j)) (without k a j)))
  agenda_after-typed k event x ask a j posts waits =
      holds_or_else (IsTypedEvent sys) (found j x.messages) _ (holds_found (IsTypedEvent sys) j x.messages posts.messages)
      (holds_changed (IsTypedEvent sys) (or_else (put_of (found j x.raised)) (timer_change sys k.resource (path_of event) ask j)) (without k a j)
      (holds_or_else (Holds (IsTypedEvent sys)) (put_of (found j x.raised)) (timer_change sys k.resource (path_of event) ask j)
      (holds_put (IsTypedEvent sys) (found j x.raised) (holds_found (IsTypedEvent sys) j x.raised posts.raised))
      (timer-typed k.resource (path_of event) ask j))
      (holds_without (IsTypedEvent sys) k a j (waits j)))

  taken-typed : (k : Key) (event : AnEvent) (m : Meter) (left : ℕ) (s : State) (a : Agenda) (x : Effect) → IsTypedState sys s → IsTypedAgenda a
      → IsTypedEvent sys event → TakesWith sys s k event m left x → IsTypedConfig (record { state = x.state; agenda = agenda_after k a x })
  taken-typed k event m zero s a x typed waits e h =
      subst (λ (z : Effect). IsTypedConfig (record { state = z.state; agenda = agenda_after k a z })) (sym h)
      (record { state = typed; agenda = λ j. holds_without (IsTypedEvent sys) k a j (waits j) })
  taken-typed k event m (suc left) s a x typed waits e h =
      let kept = reacts_typed sys sound k (world_of s k.resource) event left h.0 (typed k.resource) e h.1 in
      let posts = post_all-typed k h.0.outs (record { locals = m.locals; sent = s.sent; raised = []; messages = [] }) kept.outs
      (record { raised = All-nil (λ (e : Key × AnEvent). IsTypedEvent sys e.1); messages = All-nil (λ (e : Key × AnEvent). IsTypedEvent sys e.1) }) in
      subst (λ (z : Effect). IsTypedConfig (record { state = z.state; agenda = agenda_after k a z })) (sym h.2)
      (record {
        state = state_after k event m s h.0 typed kept.world;
        agenda = λ j. agenda_after-typed k event (posts_of sys k m s h.0.outs) h.0.timer a j posts waits;
      })

  pub takes-typed : (limit : ℕ) (k : Key) (event : AnEvent) (s : State) (a : Agenda) (x : Effect) → IsTypedState sys s → IsTypedAgenda a
      → IsTypedEvent sys event → Takes sys limit s k event x → IsTypedConfig (record { state = x.state; agenda = agenda_after k a x })
  unfolding Takes
  takes-typed limit k event s a x typed waits e h =
      let m = begun limit k.tick (s.meters k.resource) in taken-typed k event m m.left s a x typed waits e h

  -- ---- The simulation

  chain-typed : (limit : ℕ) (c : Config) (ts : List Taken) → IsTypedConfig c → Chain sys limit c ts → All (IsTypedTaking sys) ts
  chain-typed limit c [] typed h = All-nil (IsTypedTaking sys)
  chain-typed limit c (t ∷ ts) typed h =
      let event : IsTypedEvent sys t.event = typed.agenda t.key t.event h.0.waits in
      let next = takes-typed limit t.key t.event c.state c.agenda t.effect typed.state typed.agenda event h.0.takes in
      All-cons (IsTypedTaking sys) t ts (record { event = event; state = next.state }) (chain-typed limit (after c t) ts next h.2)

  stimuli-typed : (row : ℕ) (ss : List Stimulus) → All (IsTypedStimulus sys) ss → AreTypedEvents (stimuli_from sys row ss)
  stimuli-typed row [] h = All-nil _
  stimuli-typed row (s ∷ ss) h =
      All-cons (λ (e : Key × AnEvent). IsTypedEvent sys e.1) _ (stimuli_from sys (row + 1) ss) (All-head (IsTypedStimulus sys) s ss h)
      (stimuli-typed (row + 1) ss (All-tail (IsTypedStimulus sys) s ss h))

  restart-typed : (p : Path) → AreTypedEvents (restart_of sys p)
  restart-typed p = go (sys.kind p)
    where
      go : (o : Option Kind) → AreTypedEvents (elim o [
        | Some (Event Restart) ↦ (timer_key 0 (sys.resource p) (sys.number p), Expired p) ∷ []
        | _ ↦ []
      ])
      go (Some (Event Restart)) = All-cons (λ (e : Key × AnEvent). IsTypedEvent sys e.1) _ [] tt (All-nil _)
      go _ = All-nil _

  restarts-typed : (ps : List Path) → AreTypedEvents (flat_map (restart_of sys) ps)
  restarts-typed [] = All-nil _
  restarts-typed (p ∷ ps) =
      All-append (λ (e : Key × AnEvent). IsTypedEvent sys e.1) (restart_of sys p) (flat_map (restart_of sys) ps) (restart-typed p) (restarts-typed ps)

  pub opening_agenda-typed : (ss : List Stimulus) → All (IsTypedStimulus sys) ss → IsTypedAgenda (opening_agenda sys ss)
  opening_agenda-typed ss h j =
      holds_or_else (IsTypedEvent sys) (found j (opening_events sys ss)) None
      (holds_found (IsTypedEvent sys) j (opening_events sys ss)
      (All-append (λ (e : Key × AnEvent). IsTypedEvent sys e.1) (stimuli_from sys 0 ss) (flat_map (restart_of sys) sys.paths)
      (stimuli-typed 0 ss h) (restarts-typed sys.paths)))
      (holds_none (IsTypedEvent sys))

  opening_memory-typed : (k : Kind) → IsTypedMemory k (opening_memory (Some k))
  opening_memory-typed (Event kind) = start-typed kind
  opening_memory-typed _ = tt

  pub opening_state-typed : BeginsTyped sys → IsTypedState sys (opening_state sys)
  opening_state-typed begins r = record {
    blocks = λ p k is. record {
      memory = rw is (opening_memory-typed k);
      variables = begins p k is;
      slots = λ n x h. begins p k is n x (port-found k n x (input-found k n x h));
      published = λ n x h. begins p k is n x (sound.outputs p k n x is h);
    };
    held = λ q k x is h. begins q.at k is q.name x (port-found k q.name x h);
  }

-- Each taking of a simulation is of a typed event, and leaves each variable with a value of its type.
pub simulation-typed : (sys : System) → IsTypedSystem sys → BeginsTyped sys → (stimuli : List Stimulus) → All (IsTypedStimulus sys) stimuli
    → (horizon limit : ℕ) (ts : List Taken) → IsSimulation sys stimuli horizon limit ts → All (IsTypedTaking sys) ts
simulation-typed sys sound begins stimuli fit horizon limit ts h =
    chain-typed sys sound limit (opening sys stimuli) ts
    (record { state = opening_state-typed sys sound begins; agenda = opening_agenda-typed sys sound stimuli fit }) h.chain
