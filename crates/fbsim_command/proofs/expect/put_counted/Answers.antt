use Rattle.std.proofs.Common.{◌∙◌}
use Rattle.fbsim_command.proofs.lemmas.rules.HeldRules.{counted-points, counted-suite}
use Rattle.fbsim_command.proofs.expect.put_counted.Goals as goal

pub returns-then-expect : goal.returns-then-expect
returns-then-expect c =
    counted-suite c.args.expect.now c.args.rules.now c.args.counts.now c.len-traces.result c.put_applied_suite.result c.args.text.now.items c.put_applied_suite.new.text.items c.if-expect.true
    (c.len-traces.ensures ∙ c.args.expect.now.traces.ok.0) c.put_applied_suite.ensures

pub returns : goal.returns
returns c =
    counted-points c.args.expect.now c.args.rules.now c.args.counts.now c.len-traces.result c.put_applied.result c.args.text.now.items c.put_applied.new.text.items c.if-expect.false
    (c.len-traces.ensures ∙ c.args.expect.now.traces.ok.0) c.put_applied.ensures
