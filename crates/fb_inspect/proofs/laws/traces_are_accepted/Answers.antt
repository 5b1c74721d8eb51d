use Rattle.fb_inspect.proofs.lemmas.runs.RunAccepted.{trace_exact}
use Rattle.fb_inspect.proofs.laws.traces_are_accepted.Goals as goal

pub returns : goal.returns
returns c = λ i good narrow form horizon limit bytes end some small within trace room. (trace_exact i good narrow form horizon limit bytes end some small within trace room).0
