-- How many ports a type has.
use Rattle.std.specs.Prelude.{◌<◌, ◌^◌, length}
use Rattle.fb_types.specs.declared.library.Ports.{Ports}

-- the indexes of the ports fit in 32 bits
pub record IsNarrow (p : Ports) : Type 0 where
  pub event_inputs : length p.event_inputs < 2 ^ 32
  pub event_outputs : length p.event_outputs < 2 ^ 32
  pub inputs : length p.inputs < 2 ^ 32
  pub outputs : length p.outputs < 2 ^ 32
