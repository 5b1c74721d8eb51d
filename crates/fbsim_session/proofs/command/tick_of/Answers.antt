use Rattle.std.proofs.Common.{◌<◌, ◌≤◌, ◌^◌, arith}
use Rattle.fb_inputs.specs.Numbers.{natural}
use Rattle.fbsim_session.proofs.lemmas.Commanding.{tick_some}
use Rattle.fbsim_session.proofs.command.tick_of.Goals as goal

pub returns-clause-of : goal.returns-clause-of
returns-clause-of c =
    let some : 0 < c.in_ok-tick.tick = omega (arith, c.if-tick-eq0.false) in
    let early : c.in_ok-tick.tick ≤ 10 ^ 12 = omega (arith, c.if-tick-from.false, c.from-else-tick-eq0.ensures) in
    tick_some (natural c.args.word.now) c.from.result c.in_ok-tick.tick c.from.ensures c.in_ok-tick.ensures some early
