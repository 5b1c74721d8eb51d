use Rattle.fb_read.proofs.lemmas.Common.{◌≡◌, flat_map}
use Rattle.fb_read.specs.Ports as spec
use Rattle.fb_read.proofs.ports.declared.Given as goal

abbrev pub invariant-loop-declaration : goal.invariant-loop-declaration
invariant-loop-declaration l = l.all ≡ flat_map spec.variables_of l.yielded
