use Rattle.fb_types.proofs.Common.{◌≡◌, ◌∙◌, ◌&&◌, Bool, sym, ap, subst, IsTrue}
use Rattle.fbsim_command.specs.Notes.{noted_of}
use Rattle.fbsim_command.proofs.lemmas.calls.Reporting.{quiet_all, reported_all}
use Rattle.fbsim_command.proofs.program.command_with_clock.Goals as goal
use Rattle.fbsim_command.proofs.program.command_with_clock.Goals.{then-answer, else-answer}

pub returns : goal.returns
returns g c =
    let end = c.obey-answer.result.end in
    let note = noted_of c.obey-answer.result.note in
    let heard = c.obey-answer.result.is_heard in
    let reported = c.report_end-is_end_reported.result in
    let old = g.E.Write.contents c.args.err.now in
    let mid = g.E.Write.contents c.obey-answer.new.err in
    let new = g.E.Write.contents c.report_end-is_end_reported.new.err in
    let reports = c.obey-answer.ensures.0 in
    let hears = c.obey-answer.ensures.1 in
    let all : c.if-answer.result ≡ (heard && reported) =
    elim c.if-answer.branch [
      | then-answer w ↦ w.result-is ∙ ap (λ (b : Bool). b && reported) (sym w.if-answer.true)
      | else-answer w ↦ w.result-is ∙ w.if-answer.false ∙ ap (λ (b : Bool). b && reported) (sym w.if-answer.false)
    ] in (
      end,
      heard,
      reports,
      note,
      c.status.ensures,
      c.obey-answer.ensures.2,
      λ is. reported_all heard reported old mid new reports end note hears c.report_end-is_end_reported.ensures.reported (subst (λ (b : Bool). IsTrue b) all is),
      quiet_all heard old mid new reports end hears c.report_end-is_end_reported.ensures.quiet,
    )
