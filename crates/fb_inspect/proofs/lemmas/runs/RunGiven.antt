-- The lines of a run of what was accepted are those of its instances, with values of the types of the variables WITH their events.
use Rattle.fb_types.proofs.Common.{◌≡◌, ◌⊎◌, ℕ, suc, ◌+◌, Bool, true, false, List, [], ◌∷◌, Option, Some, None, All, refl, sym, ◌∙◌, ap, subst, inl, inr, flat_map, if◌then◌else◌, Basic, Event, Kind, actions_of, AreAccepted, Inputs, stimuli_of, system_of, found, or_else, same_key, timer_key, without, Each, Name, Path, Port, Outcome, Reacts, Chain, IsSimulation, Taken, TakesLeast, after, opening, opening_events, restart_of, stimuli_from, Agenda, Arrived, Config, Expired, Meter, Raised, State, Stimulated, path_of, System, Effect, agenda_after, begun, effect_of, is_timer_of, out_of_steps, posts_of, put_of, timer_change, world_of}
use Rattle.fb_types.specs.declared.event_kind.EventKind.TheVariants.{Restart}
use Rattle.fb_types.specs.declared.key.Key.{Key}
use Rattle.fb_types.specs.declared.library.Action.{Action}
use Rattle.fb_types.specs.declared.library.BasicType.{BasicType}
use Rattle.fb_types.specs.declared.run.TimerAsk.{TimerAsk}
use Rattle.fb_types.specs.declared.run.TimerAsk.TheVariants.{Keep, Clear, At}
use Rattle.fb_types.specs.Simulation.{Stimulus}
use Rattle.fb_types.specs.States.{Event as AnEvent}
use Rattle.fb_types.proofs.lemmas.lists.EachLaws.{each_append}
use Rattle.fb_types.proofs.lemmas.events.KeyLaws.{same_key_is}
use Rattle.fb_laws.specs.Simulations.{BeginsTyped, IsTypedStimulus}
use Rattle.fb_laws.specs.Typed.{IsTypedEvent, IsTypedSystem}
use Rattle.fb_laws.proofs.lemmas.typing.Accepted.{accepted_typed}
use Rattle.fb_laws.proofs.lemmas.takings.Agendas.{Holds, holds_changed, holds_if, holds_none, holds_or_else, holds_put, holds_some, holds_without}
use Rattle.fb_laws.proofs.lemmas.typing.Simulated.{IsTypedConfig, opening_agenda-typed, opening_state-typed, takes-typed}
use Rattle.fb_inspect.specs.walk.RunLines.{HasOutput, IsEventPort, IsGiven}
use Rattle.fb_inspect.proofs.lemmas.runs.Followed.{taken_so}
use Rattle.fb_inspect.proofs.lemmas.reactions.GivenLines.{Comes, reacts_given}
use Rattle.fb_inspect.proofs.lemmas.reactions.EventPorts.{outputs_known, stimuli_events, targets_events}
use Rattle.fb_inspect.proofs.lemmas.runs.Waiting.{found_holds, posts_there, reacts_there}

-- Each event that was taken is of the resource of its instance, and gives such lines.
pub record IsGivenTaking (sys : System) (t : Taken) : Type 0 where
  pub home : t.key.resource ≡ sys.resource (path_of t.event)
  pub lines : Each (IsGiven sys t.key) t.effect.lines

pub comes_home : (sys : System) (k : Key) (e : AnEvent) → Comes sys k e → k.resource ≡ sys.resource (path_of e)
comes_home sys k (Stimulated q bs) h = h.1
comes_home sys k (Expired p) h = h
comes_home sys k (Arrived q cs) h = h.1
comes_home sys k (Raised q) h = h.1

module _ (sys : System) (sound : IsTypedSystem sys) (targets : (q : Port) → Each (IsEventPort sys) (sys.targets q))
    (known : (p : Path) (t : BasicType) → sys.kind p ≡ Some (Basic t) → (s : Name) → Each (λ (a : Action). HasOutput t a.output) (actions_of t s)) where
  -- ---- What waits after a taking

  module _ (k : Key) (event : AnEvent) (comes : Comes sys k event) (j : Key) where
    abbrev P : AnEvent → Type 0
    P = Comes sys j

    abbrev here : Path
    here = path_of event

    cleared : Holds (Holds P) (timer_change sys k.resource here Clear j)
    cleared =
        holds_if (Holds P) (is_timer_of k.resource (sys.number here) j) (Some None) None (holds_some (Holds P) None (holds_none P)) (holds_none (Holds P))

    timer_comes : (ask : TimerAsk) → Holds (Holds P) (timer_change sys k.resource here ask j)
    timer_comes Keep = holds_none (Holds P)
    timer_comes Clear = cleared
    timer_comes (At t) = by (same_key (timer_key t k.resource (sys.number here)) j) refl
      where
        by : (b : Bool) → same_key (timer_key t k.resource (sys.number here)) j ≡ b
            → Holds (Holds P) (if b then Some (Some (Expired here)) else if is_timer_of k.resource (sys.number here) j then Some None else None)
        by true e =
            let key : timer_key t k.resource (sys.number here) ≡ j = same_key_is (timer_key t k.resource (sys.number here)) j e in
            holds_some (Holds P) (Some (Expired here)) (holds_some P (Expired here) (sym (ap (λ (z : Key). z.resource) key) ∙ comes_home sys k event comes))
        by false e = cleared

    waits_after :
        (left : ℕ) (m : Meter) (s : State) (o : Outcome) → Reacts sys k (world_of s k.resource) event left o → (a : Agenda) → Holds P (a j)
        → Holds P (agenda_after k a (effect_of sys k event m s o) j)
    waits_after left m s o reacts a h =
        let outs = reacts_there sys (IsEventPort sys) targets k (world_of s k.resource) event left o reacts in
        let posts = posts_there sys (IsEventPort sys) targets k (Comes sys) (λ q n good own. (good, own)) (λ q carried t l n good. (good, refl)) o.outs
        (record { locals = m.locals; sent = s.sent; raised = []; messages = [] }) outs (record { raised = tt; messages = tt }) in
        let x = posts_of sys k m s o.outs in
        holds_or_else P (found j x.messages) _ (found_holds (Comes sys) j x.messages posts.messages)
        (holds_changed P (or_else (put_of (found j x.raised)) (timer_change sys k.resource here o.timer j)) (without k a j)
        (holds_or_else (Holds P) (put_of (found j x.raised)) (timer_change sys k.resource here o.timer j) (holds_put P (found j x.raised) (found_holds (Comes sys) j x.raised posts.raised)) (timer_comes o.timer))
        (holds_without P k a j h))

  -- ---- The chain

  -- The values of a run have their types, and what waits comes to event ports.
  record IsSteady (c : Config) : Type 0 where
    typed : IsTypedConfig sys sound c
    waits : (j : Key) → Holds (Comes sys j) (c.agenda j)

  module _ (limit : ℕ) (c : Config) (steady : IsSteady c) (t : Taken) (least : TakesLeast sys limit c t) where
    comes_now : Comes sys t.key t.event
    comes_now = steady.waits t.key t.event least.waits

    typed_now : IsTypedEvent sys t.event
    typed_now = steady.typed.agenda t.key t.event least.waits

    abbrev meter : Meter
    meter = begun limit t.key.tick (c.state.meters t.key.resource)

    Goes : Effect → Type 0
    Goes x = Each (IsGiven sys t.key) x.lines × ((j : Key) → Holds (Comes sys j) (agenda_after t.key c.agenda x j))

    goes_by :
        ((t.effect ≡ out_of_steps c.state) × (meter.left ≡ 0))
        ⊎ ((left : ℕ) × (o : Outcome) × (meter.left ≡ suc left) × Reacts sys t.key (world_of c.state t.key.resource) t.event left o × (t.effect ≡ effect_of sys t.key t.event meter c.state o))
        → Goes t.effect
    unfolding Goes
    goes_by (inl out) = subst Goes (sym out.0) (tt, λ j. holds_without (Comes sys j) t.key c.agenda j (steady.waits j))
    goes_by (inr h) =
        subst Goes (sym h.4) (
          reacts_given sys sound known t.key (world_of c.state t.key.resource) t.event h.0 h.1 (steady.typed.state t.key.resource) typed_now comes_now h.3,
          λ j. waits_after t.key t.event comes_now j h.0 meter c.state h.1 h.3 c.agenda (steady.waits j),
        )

    taking_steady : IsGivenTaking sys t × IsSteady (after c t)
    unfolding Goes
    taking_steady =
        let goes = goes_by (taken_so sys limit c.state t.key t.event t.effect least.takes) in (
          record { home = comes_home sys t.key t.event comes_now; lines = goes.0 },
          record { typed = takes-typed sys sound limit t.key t.event c.state c.agenda t.effect steady.typed.state steady.typed.agenda typed_now least.takes; waits = goes.1 },
        )

  chain_given : (limit : ℕ) (ts : List Taken) (c : Config) → IsSteady c → Chain sys limit c ts → Each (IsGivenTaking sys) ts
  chain_given limit [] c steady h = tt
  chain_given limit (t ∷ ts) c steady h =
      let next = taking_steady limit c steady t h.0 in (next.0, chain_given limit ts (after c t) next.1 h.2)

  -- ---- The opening

  abbrev EachComes : List (Key × AnEvent) → Type 0
  EachComes es = Each (λ (e : Key × AnEvent). Comes sys e.0 e.1) es

  restart_comes : (p : Path) → EachComes (restart_of sys p)
  restart_comes p = go (sys.kind p)
    where
      go : (o : Option Kind) → EachComes (elim o [
        | Some (Event Restart) ↦ (timer_key 0 (sys.resource p) (sys.number p), Expired p) ∷ []
        | _ ↦ []
      ])
      go (Some (Event Restart)) = (refl, tt)
      go _ = tt

  restarts_come : (ps : List Path) → EachComes (flat_map (restart_of sys) ps)
  restarts_come [] = tt
  restarts_come (p ∷ ps) = each_append (λ (e : Key × AnEvent). Comes sys e.0 e.1) (restart_of sys p) _ (restart_comes p) (restarts_come ps)

  stimuli_come : (row : ℕ) (ss : List Stimulus) → Each (λ (s : Stimulus). IsEventPort sys s.port) ss → EachComes (stimuli_from sys row ss)
  stimuli_come row [] h = tt
  stimuli_come row (s ∷ ss) h = ((h.0, refl), stimuli_come (row + 1) ss h.1)

  opening_steady : (ss : List Stimulus) → BeginsTyped sys → All (IsTypedStimulus sys) ss → Each (λ (s : Stimulus). IsEventPort sys s.port) ss → IsSteady (opening sys ss)
  opening_steady ss begins typed h =
      record {
        typed = record { state = opening_state-typed sys sound begins; agenda = opening_agenda-typed sys sound ss typed };
        waits = λ j. holds_or_else (Comes sys j) (found j (opening_events sys ss)) None
            (found_holds (Comes sys) j (opening_events sys ss) (each_append (λ (e : Key × AnEvent). Comes sys e.0 e.1) (stimuli_from sys 0 ss) _ (stimuli_come 0 ss h) (restarts_come sys.paths)))
            (holds_none (Comes sys j));
      }

-- Each taking of a run of what was accepted gives such lines.
pub run_given :
    (i : Inputs) → AreAccepted i → (horizon limit : ℕ) (ts : List Taken) → IsSimulation (system_of i) (stimuli_of i) horizon limit ts → Each (IsGivenTaking (system_of i)) ts
run_given i accepted horizon limit ts is =
    let sys = system_of i in
    let typed = accepted_typed i accepted in
    let targets = targets_events i accepted in
    let known = outputs_known i accepted in
    chain_given sys typed.system targets known limit ts (opening sys (stimuli_of i))
    (opening_steady sys typed.system targets known (stimuli_of i) typed.begins typed.stimuli (stimuli_events i accepted)) is.chain
