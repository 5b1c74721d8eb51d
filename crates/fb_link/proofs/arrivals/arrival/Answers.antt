use Rattle.std.proofs.Common.{◌∙◌, sym}
use Rattle.fb_link.proofs.arrivals.arrival.Goals as goal

pub returns-clause-value : goal.returns-clause-value
returns-clause-value c = c.arrival_by.ensures.value ∙ sym (c.latency.ensures c.args.sent_tick)
