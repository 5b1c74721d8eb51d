use Rattle.fb_check.proofs.lemmas.Common.{◌≡◌, ◌++◌, drop, option_copied, each_at, each_from}
use Rattle.fb_check.specs.networks.OutOfRange.{out_at}
use Rattle.fb_check.proofs.networks.ranges.push_in_network.Given as goal

abbrev pub invariant-loop-connection : goal.invariant-loop-connection
invariant-loop-connection l =
    l.found.items ++ each_from (out_at l.library l.site (option_copied l.boundary) l.types) l.connection (drop l.connection l.wires)
    ≡ l.fn.found.items ++ each_at (out_at l.library l.site (option_copied l.boundary) l.types) l.wires
