-- How a run ends, by numbers (this project's profile).
use Rattle.std.specs.Prelude.{◌<◌, length}
use Rattle.fb_types.specs.Systems.{System}
use Rattle.fb_types.specs.Simulation.{Ending, AtHorizon, AtStop}
use Rattle.fb_trace.specs.declared.last.Outcome.{Outcome}
use Rattle.fb_trace.specs.declared.last.Outcome.TheVariants.{End, Stop}

-- the ending that it represents
abbrev pub ending_of : Outcome → Ending
ending_of (End h) = AtHorizon h
ending_of (Stop m) = AtStop m.tick m.resource m.reason

-- the resource that stopped, if one did, is one of the system's
abbrev pub EndsIn : System → Outcome → Type 0
EndsIn sys (End h) = Unit {0}
EndsIn sys (Stop m) = m.resource < length sys.resource_names
