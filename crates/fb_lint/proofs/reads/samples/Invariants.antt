use Rattle.fb_types.proofs.Common.{◌≡◌, drop, list_any}
use Rattle.fb_types.specs.Blocks.{goes_with}
use Rattle.fb_lint.proofs.reads.samples.Given as goal

abbrev pub invariant-loop-port : goal.invariant-loop-port
invariant-loop-port l = list_any (goes_with l.event l.variable) l.events ≡ list_any (goes_with l.event l.variable) (drop l.port-index l.events)
