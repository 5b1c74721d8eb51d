-- The least event that waits, as a session tells it.
use Rattle.fb_types.proofs.Common.{◌≡◌, ℕ, ◌^◌, ◌<◌, Option, Some, None, refl, sym, ap, ◌∙◌, subst, IfNone, IfSome, IsSome, option_map}
use Rattle.fb_types.specs.declared.key.Key.{Key}
use Rattle.fb_types.specs.States.{Event}
use Rattle.fb_agenda.specs.Agendas.{IsLeast, waiting}
use Rattle.fb_net.specs.Events.{event_of}
use Rattle.fb_session.specs.Going.{Peeks}
use Rattle.fb_session.specs.Pasts.{IsAlive, Talk}
use Rattle.fb_session.specs.declared.stage.Stage.TheVariants as stage

mapped : {X Y : Type 0} (f : X → Y) (o : Option X) → IsSome o → IsSome (option_map f o)
mapped f (Some x) there = refl
mapped {X} f None there = absurd cc

alive_here : (t : Talk) → t.stage ≡ stage.Running → IsAlive t.stage
alive_here t running = subst IsAlive (sym running) tt

pub peeks : (t : Talk) (r : Option (ℕ × ℕ)) → t.stage ≡ stage.Running
    → IfSome r (λ f. (k : Key) × (k.tick ≡ f.0) × (k.resource ≡ f.1) × IsLeast t.machine.traffic.agenda k × (f.0 < 10 ^ 12))
    → IfNone r ((j : Key) → j.tick < 10 ^ 12 → waiting t.machine.traffic.agenda j ≡ None) → Peeks t r
peeks t None running some none = λ on p was j less. (was.at (alive_here t running)).agenda j ∙ ap (option_map (event_of t.inputs)) (none j less)
peeks t (Some f) running some none = (
  running,
  some.4,
  λ p was.
      let at = was.at (alive_here t running) in
      record {
        key = some.0;
        waits = subst (λ (o : Option Event). IsSome o) (sym (at.agenda some.0)) (mapped (event_of t.inputs) (waiting t.machine.traffic.agenda some.0) some.3.waits);
        least = λ j before. at.agenda j ∙ ap (option_map (event_of t.inputs)) (some.3.none_before j before);
        tick_is = some.1;
        resource_is = some.2;
      },
)
