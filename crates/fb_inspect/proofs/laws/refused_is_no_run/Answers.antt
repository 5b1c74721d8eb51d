use Rattle.fb_inspect.proofs.lemmas.runs.NoRun.{not_wrong}
use Rattle.fb_inspect.proofs.lemmas.runs.RunAccepted.{trace_exact}
use Rattle.fb_inspect.proofs.laws.refused_is_no_run.Goals as goal

pub returns : goal.returns
returns c = λ i good narrow names limit n text within wrong form horizon end some small trace room.
    let found = trace_exact i good narrow form horizon limit text end some small within trace room in
    not_wrong i good.accepted names limit within text found.0 found.1 n wrong
