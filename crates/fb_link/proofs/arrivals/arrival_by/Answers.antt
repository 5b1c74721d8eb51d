use Rattle.std.proofs.Common.{◌+◌, ap}
use Rattle.fb_link.proofs.arrivals.arrival_by.Goals as goal

pub returns-clause-value : goal.returns-clause-value
returns-clause-value c = ap (λ n. c.args.sent_tick + n) c.latency_at.ensures.value
