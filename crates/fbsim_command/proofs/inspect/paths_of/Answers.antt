use Rattle.std.proofs.Common.{arith}
use Rattle.fbsim_command.proofs.inspect.paths_of.Goals as goal

pub push_reserved-requires : goal.push_reserved-requires
push_reserved-requires c =
    let inv = c.loop-text.invariant in
    let within = c.loop-text-test.true in
    omega (arith, inv.len, inv.room, within)
