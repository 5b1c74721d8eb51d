use Rattle.std.proofs.Common.{arith, ap, length}
use Rattle.fb_net.proofs.lemmas.blocks.WaysInTrees.{route_there}
use Rattle.fb_net.proofs.resource.Forest.way.Goals as goal

pub unreachable-requires : goal.unreachable-requires
unreachable-requires c =
    let some = route_there c.args.system.now c.facts.ensures.accepted c.args.instance c.requires in
    let same = ap length c.route.ensures in
    let none = c.in-empty.len_below in
    omega (arith, some, same, none)
