use Rattle.fb_types.proofs.Common.{system_of, line_of}
use Rattle.fb_trace.proofs.lemmas.lines.LineStarts.{with_key}
use Rattle.fb_trace.proofs.lemmas.lines.PutPieces.{Fails-before, Gathers-after, Gathers-passed}
use Rattle.fb_trace.proofs.lines.put_any.Goals as goal

pub returns-in_err-put_key : goal.returns-in_err-put_key
returns-in_err-put_key g c =
    let sys = system_of c.args.system.now in
    Gathers-passed _ c.from_residual.ensures.1
    (rw (← with_key c.args.form sys (line_of sys c.args.line.now)) (Fails-before _ c.in_err-put_key.ensures.part))

pub returns-in-Some : goal.returns-in-Some
returns-in-Some g c =
    let sys = system_of c.args.system.now in
    rw (← with_key c.args.form sys (line_of sys c.args.line.now)) (Gathers-after _ c.in_ok-put_key.ensures.whole c.put_by_head.ensures)

pub returns-in-None : goal.returns-in-None
returns-in-None g c =
    let sys = system_of c.args.system.now in
    rw (← with_key c.args.form sys (line_of sys c.args.line.now)) (Gathers-after _ c.in_ok-put_key.ensures.whole c.put_by_names.ensures)
