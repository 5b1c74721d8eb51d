use Rattle.std.proofs.Common.{◌≡◌, ◌++◌, codes, length, drop}
use Rattle.fb_expect.specs.Applied.{applied_cases, unapplied}
use Rattle.fb_expect.specs.Suites.{suite_head_by}
use Rattle.fb_expect.proofs.applied.put_applied_suite.Given as goal

abbrev pub invariant-loop-index : goal.invariant-loop-index
invariant-loop-index l =
    l.text.items ++ applied_cases (drop l.index l.rules) (drop l.index l.counts) l.traces
    ≡ (l.fn.text.items ++ suite_head_by (codes "applied") (length l.counts) (unapplied l.counts) 0) ++ applied_cases l.rules l.counts l.traces
