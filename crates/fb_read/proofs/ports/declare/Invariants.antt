use Rattle.std.proofs.Common.{◌≡◌, ◌++◌, map}
use Rattle.fb_read.specs.Nodes.{variable_of}
use Rattle.fb_read.proofs.ports.declare.Given as goal

abbrev pub invariant-loop-name : goal.invariant-loop-name
invariant-loop-name l = l.all ≡ l.fn.all ++ map (λ name. variable_of name l.fn.declaration.ty l.fn.declaration.initial) l.yielded
