use Rattle.fb_types.proofs.latency.Latency.constant.Goals as goal

pub returns : goal.returns
returns c = c.in_ok-entries.ensures
