use Rattle.fb_types.proofs.Common.{arith, string_bytes}
use Rattle.fbsim_command.proofs.lemmas.names.Nearest.{first-unknown, known-all, known-more, says-when}
use Rattle.fbsim_command.proofs.inspect.first_line.Goals as goal

pub returns-in-Some : goal.returns-in-Some
returns-in-Some c =
    first-unknown c.args.system.now c.args.texts.now c.loop-text.text-index _ (string_bytes c.in-Some.line) c.loop-text-test.true c.loop-text.invariant
    (says-when string_bytes c.args.system.now _ c.in_ok-line.field-0 _ c.in-Some.is c.in_ok-line.ensures)

pub loop-text-preserved : goal.loop-text-preserved
loop-text-preserved c =
    known-more c.args.system.now c.args.texts.now c.loop-text.text-index _ c.loop-text-test.true c.loop-text.invariant
    (says-when string_bytes c.args.system.now _ c.in_ok-line.field-0 _ c.in_default.is c.in_ok-line.ensures)

pub returns : goal.returns
returns c = known-all c.args.system.now c.args.texts.now c.loop-text.text-index (let end = c.loop-text-test.false in omega (arith, end)) c.loop-text.invariant
