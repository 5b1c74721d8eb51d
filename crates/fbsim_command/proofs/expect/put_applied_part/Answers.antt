use Rattle.fbsim_command.proofs.lemmas.rules.HeldRules.{applied-none, applied-put}
use Rattle.fbsim_command.proofs.expect.put_applied_part.Goals as goal

pub returns-then-not-expect : goal.returns-then-not-expect
returns-then-not-expect c = applied-none c.args.expect.now c.args.rules.now c.args.counts.now c.args.text.now.items c.if-not-expect.true

pub returns : goal.returns
returns c =
    applied-put c.args.expect.now c.args.rules.now c.args.counts.now c.put_counted.result c.args.text.now.items c.put_counted.new.text.items c.if-not-expect.false c.put_counted.ensures
