use Rattle.std.proofs.Common.{◌*◌, if◌then◌else◌, length}
use Rattle.fbsim_command.proofs.lemmas.rules.HeldRules.{put-points, put-suite}
use Rattle.fbsim_command.proofs.expect.put_part.Goals as goal

pub returns-then-expect : goal.returns-then-expect
returns-then-expect c =
    put-suite c.args.expect.now c.args.rules.now (length c.args.rules.now * c.args.at.0) c.args.at.1 c.args.judged.now c.put_suite.result c.args.text.now.items c.put_suite.new.text.items c.if-expect.true
    c.put_suite.ensures

pub returns : goal.returns
returns c =
    put-points c.args.expect.now c.args.rules.now (length c.args.rules.now * c.args.at.0) c.args.at.1 c.args.judged.now c.put_points.result c.args.text.now.items c.put_points.new.text.items c.are_named.result
    c.if-expect.false c.are_named.ensures c.put_points.ensures
