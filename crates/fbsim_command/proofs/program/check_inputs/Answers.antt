use Rattle.std.proofs.Common.{false}
use Rattle.fbsim_command.proofs.lemmas.calls.Checking.{checked, checks_none, checks_part}
use Rattle.fbsim_command.proofs.program.check_inputs.Goals as goal

pub returns-in_err-accept_inputs : goal.returns-in_err-accept_inputs
returns-in_err-accept_inputs g c =
    checked false c.args.inputs.now _ _ c.from_residual.result _ c.from_residual.ensures.1
    (checks_none false c.args.inputs.now (g.W.Write.contents c.args.out.now) c.in_err-accept_inputs.field-0.0 c.in_err-accept_inputs.ensures.refused)

pub returns-in_err-write_text : goal.returns-in_err-write_text
returns-in_err-write_text g c =
    checked false c.args.inputs.now _ _ c.from_residual-in_err-write_text.result _ c.from_residual-in_err-write_text.ensures.1
    (checks_part false c.args.inputs.now (g.W.Write.contents c.args.out.now) (g.W.Write.contents c.write_text.new.out) c.in_err-write_text.field-0.0 c.in_ok-accept_inputs.ensures.accepted
    c.in_err-write_text.ensures.part)

pub returns : goal.returns
returns g c = (c.in_ok-accept_inputs.ensures.accepted, c.in_ok-write_text.ensures.whole)
