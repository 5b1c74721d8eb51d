use Rattle.fb_lint.proofs.lemmas.Common.{◌≡◌, ◌++◌, drop, each_from, meant_all}
use Rattle.fb_lint.specs.Reads as spec
use Rattle.fb_lint.proofs.uses.push_unmentioned.Given as goal

-- with what is found in the rest, all is there
abbrev pub invariant-loop-port : goal.invariant-loop-port
invariant-loop-port l =
    l.all.items ++ each_from (spec.unmentioned l.block l.port_kind (meant_all l.mentions)) l.port (drop l.port l.variables) ≡ l.fn.all.items ++ each_from (spec.unmentioned l.block l.port_kind (meant_all l.mentions)) 0 l.variables
