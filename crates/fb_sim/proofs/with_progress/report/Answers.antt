use Rattle.fb_types.proofs.Common.{◌∙◌, length, nat_eq, eqb-true}
use Rattle.fb_sim.specs.Reports.{report_text}
use Rattle.fb_sim.proofs.lemmas.runs.Ending.{heard_whole}
use Rattle.fb_sim.proofs.with_progress.report.Goals as goal

pub returns-in-Ok : goal.returns-in-Ok
returns-in-Ok g c =
    let bytes = c.as_bytes-bytes.result.now in
    let n = c.write_front.result in
    heard_whole (g.E.Write.contents c.args.err.now) (g.E.Write.contents c.write_front.new.out) (report_text c.args.horizon c.args.tick c.args.lines) bytes n (nat_eq n (length bytes))
    (c.as_bytes-bytes.ensures.value ∙ c.in-Ok.ensures) (λ e. cc) c.write_front.ensures.within c.write_front.ensures.got (eqb-true n (length bytes))
