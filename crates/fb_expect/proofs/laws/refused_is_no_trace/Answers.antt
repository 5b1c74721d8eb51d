use Rattle.fb_expect.proofs.lemmas.traces.Excluding.{no-trace}
use Rattle.fb_expect.proofs.laws.refused_is_no_trace.Goals as goal

pub returns : goal.returns
returns c = no-trace
