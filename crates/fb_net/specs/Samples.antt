-- What an event brings to an instance and to the held copies (IEC 61499-1, 5.2.2 and 5.3.2; slots and held copies are this project's profile).
use Rattle.std.specs.Prelude.{◌≡◌, ℕ, List, map}
use Rattle.fb_types.specs.Names.{Name}
use Rattle.fb_types.specs.Blocks.{inputs_with, outputs_with}
use Rattle.fb_types.specs.Headline.{Inputs, system_of}
use Rattle.fb_types.specs.Numbers.{path_at, ports_at, event_at, pair_up, carried_of}
use Rattle.fb_types.specs.Reactions.{World, sampled_from, from_inside, with_values, hold_all}
use Rattle.fb_types.specs.States as model
use Rattle.fb_types.specs.Systems.{System}
use Rattle.fb_types.specs.declared.run.Carried.{Carried}
use Rattle.fb_types.specs.declared.run.Target.{Target}
use Rattle.fb_types.specs.declared.value.Value.{Value}
use Rattle.fb_system.specs.Stimuli.{set_of}
use Rattle.fb_types.specs.declared.run.InputValue.{InputValue}
use Rattle.fb_net.specs.Worlds.{InForest, IsForest}
use Rattle.fb_net.specs.declared.resource.Forest.{Forest}

-- the names of the variables WITH the event at an event input, and at an event output
abbrev pub names_in : System → Target → List Name
names_in sys at = let its = ports_at sys (path_at sys at.instance) in inputs_with its (event_at its.event_inputs at.event)

abbrev pub names_out : System → Target → List Name
names_out sys at = let its = ports_at sys (path_at sys at.instance) in outputs_with its (event_at its.event_outputs at.event)

-- The values are what the variables WITH the event sample.
abbrev pub AreSampled : Inputs → Forest → Target → List Value → Type 0
AreSampled i f at values =
    let p = path_at (system_of i) at.instance in
    (w : World) → IsForest i f w → InForest i f at.instance →
    values ≡ map (λ n. sampled_from (system_of i) f.resource w (record { at = p; name = n })) (names_in (system_of i) at)

-- These are the values that a composite shows from inside, of its data outputs WITH the event.
abbrev pub AreShown : Inputs → Forest → Target → List Value → Type 0
AreShown i f at values =
    let p = path_at (system_of i) at.instance in
    (w : World) → IsForest i f w → InForest i f at.instance →
    values ≡ map (from_inside (system_of i) f.resource w p) (names_out (system_of i) at)

-- the block has sampled the variables WITH an event
abbrev pub all_sampled : List Name → List Value → model.Block → model.Block
all_sampled ns values b = record b { variables = with_values (pair_up ns values) b.variables }

-- a stimulus has set slots
abbrev pub slots_set : System → (instance : ℕ) → List InputValue → model.Block → model.Block
slots_set sys k sets b = record b { slots = with_values (map (set_of sys k) sets) b.slots }

-- A message has brought values to the held copies.
pub record HoldsAll (i : Inputs) (old : Forest) (carried : List Carried) (new : Forest) : Type 0 where
  pub resource : new.resource ≡ old.resource
  pub represents : (w : World) → IsForest i old w → IsForest i new (record w { held = hold_all (map (carried_of (system_of i)) carried) w.held })
