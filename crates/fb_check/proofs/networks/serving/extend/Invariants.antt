use Rattle.std.proofs.Common.{take}
use Rattle.fb_check.specs.networks.Serving.{IsExtended}
use Rattle.fb_check.proofs.networks.serving.extend.Given as goal

abbrev pub invariant-loop-name : goal.invariant-loop-name
invariant-loop-name l = IsExtended l.component (take l.name-index l.names) l.resource l.initial.served l.served
