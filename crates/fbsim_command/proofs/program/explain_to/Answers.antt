use Rattle.std.proofs.Common.{sym}
use Rattle.fbsim_command.proofs.lemmas.calls.Explaining.{explains, explains_part}
use Rattle.fbsim_command.proofs.program.explain_to.Goals as goal

pub returns-in_err-write_text : goal.returns-in_err-write_text
returns-in_err-write_text g c =
    explains_part c.in-Some.explanation c.args.name.now _ _ c.as_bytes.result.now _ _ _ c.in_ok-text.ensures c.in-Some.ensures.named (sym c.in-Some.ensures.all) c.as_bytes.ensures.value
    c.from_residual-in_err-write_text.result c.in_err-write_text.field-0.0 c.from_residual-in_err-write_text.ensures.1 c.in_err-write_text.ensures.part

pub returns : goal.returns
returns g c =
    explains c.in-Some.explanation c.args.name.now _ _ c.as_bytes.result.now _ _ _ c.in_ok-text.ensures c.in-Some.ensures.named (sym c.in-Some.ensures.all) c.as_bytes.ensures.value
    c.in_ok-write_text.ensures.whole
