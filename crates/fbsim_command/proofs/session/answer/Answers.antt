use Rattle.fbsim_command.proofs.lemmas.Common.{subst, sym, End}
use Rattle.fbsim_command.specs.Sessions.{Answers}
use Rattle.fbsim_command.proofs.lemmas.Talking.{answers_none, answers_so}
use Rattle.fbsim_command.proofs.session.answer.Goals as goal

pub returns-in_err-system : goal.returns-in_err-system
returns-in_err-system g c =
    answers_none c.args.inputs.now c.args.call.now (g.W.Write.contents c.args.out.now) c.from_residual.result _ c.from_residual.ensures.1 c.in_err-system.ensures.refused

pub returns : goal.returns
returns g c =
    let old = g.W.Write.contents c.args.out.now in
    let new = g.W.Write.contents c.talk-ended.new.out in
    subst (λ (e : End). Answers c.args.inputs.now c.args.call.now old new e) (sym c.end_of.ensures)
    (answers_so c.args.inputs.now c.args.call.now old new c.in_ok-system.system c.in_ok-system.ensures.system c.talk-ended.result c.talk-ended.ensures)
