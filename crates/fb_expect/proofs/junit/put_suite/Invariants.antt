use Rattle.std.proofs.Common.{◌≡◌, ◌++◌, drop}
use Rattle.fb_expect.specs.Suites.{cases_of, suite_head}
use Rattle.fb_expect.proofs.junit.put_suite.Given as goal

abbrev pub invariant-loop-index : goal.invariant-loop-index
invariant-loop-index l =
    l.text.items ++ cases_of l.is_strict l.trace (drop l.index l.rules) (drop l.index l.judged)
    ≡ (l.fn.text.items ++ suite_head l.is_strict l.trace l.judged) ++ cases_of l.is_strict l.trace l.rules l.judged
