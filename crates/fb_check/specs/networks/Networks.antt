-- What is around a network (IEC 61499-1, 5.3).
use Rattle.std.specs.Prelude.{Option, option_map}
use Rattle.fb_types.specs.Repeated.{OwnedNetwork}
use Rattle.fb_types.specs.declared.library.Ports.{Ports}

-- the ports of the composite type around a network
abbrev pub boundary : OwnedNetwork → Option Ports
boundary n = option_map (λ t. t.ports) n.0
