use Rattle.std.proofs.Common.{◌≡◌, ◌++◌, drop}
use Rattle.fb_coverage.specs.Reports as spec
use Rattle.fb_coverage.specs.Listed.{listed}
use Rattle.fb_coverage.proofs.block_report.put_events.Given as goal

-- with what the rest adds, all is there
abbrev pub invariant-loop-index : goal.invariant-loop-index
invariant-loop-index l = l.text.items ++ listed (spec.event_line l.taken l.clearing) l.index (drop l.index l.events) ≡ l.fn.text.items ++ listed (spec.event_line l.taken l.clearing) 0 l.events
