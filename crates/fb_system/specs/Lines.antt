-- Lines that belong to a system (this project's profile).
use Rattle.std.specs.Prelude.{◌≡◌, ◌<◌, List, length, if◌then◌else◌}
use Rattle.fb_types.specs.Names.{Name}
use Rattle.fb_types.specs.Blocks.{inputs_with, outputs_with}
use Rattle.fb_types.specs.Systems.{System}
use Rattle.fb_types.specs.Numbers.{event_at, line_of, path_at, ports_at}
use Rattle.fb_types.specs.declared.library.EventPort.{EventPort}
use Rattle.fb_types.specs.declared.library.Ports.{Ports}
use Rattle.fb_types.specs.declared.run.Emission.{Emission}
use Rattle.fb_types.specs.declared.run.Line.{Line}

-- the events among which a line's event is
abbrev pub line_events : System → Line → List EventPort
line_events sys l = let its = ports_at sys (path_at sys l.instance) in if l.taken then its.event_inputs else its.event_outputs

-- the variables WITH a line's event
abbrev pub line_variables : System → Line → List Name
line_variables sys l =
    let its = ports_at sys (path_at sys l.instance) in
    let n = (line_of sys l).event in
    if l.taken then inputs_with its n else outputs_with its n

-- The numbers of a line represent something in the system, and there is a value for each variable WITH the event.
pub record BelongsTo (sys : System) (l : Line) : Type 0 where
  pub instance : l.instance < length sys.paths
  pub resource : l.key.resource < length sys.resource_names
  pub event : l.event < length (line_events sys l)
  pub values : length l.values ≡ length (line_variables sys l)

-- An emission of an event output of the interface, with a value for each variable WITH the event.
pub record IsEmission (its : Ports) (e : Emission) : Type 0 where
  pub event : e.event < length its.event_outputs
  pub values : length e.values ≡ length (outputs_with its (event_at its.event_outputs e.event))
