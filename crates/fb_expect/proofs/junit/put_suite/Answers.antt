use Rattle.std.proofs.Common.{List, ℕ, ◌++◌, codes, drop, length, ap, ◌∙◌, arith}
use Rattle.fb_expect.specs.Suites.{cases_of, suite_head, suite_head_by}
use Rattle.fb_expect.proofs.lemmas.documents.Suiting.{case-put, cases-end, suite-end}
use Rattle.fb_expect.proofs.junit.put_suite.Goals as goal

pub loop-index-init : goal.loop-index-init
loop-index-init c =
    ap (λ (t : List ℕ). t ++ cases_of c.args.is_strict c.args.trace.now c.args.rules.now c.args.judged.now)
    (c.in_ok-put_suite_head.ensures
    ∙ (λ i. c.args.text.now.items ++ suite_head_by c.args.trace.now (length c.args.judged.now) (c.failures-failed.ensures i) (c.skips-skipped.ensures i)))

pub loop-index-preserved : goal.loop-index-preserved
loop-index-preserved c =
    let a = c.args in
    let l = c.loop-index in
    case-put a.is_strict a.trace.now a.rules.now a.judged.now l.index c.index-rules-index.result _ l.text.items c.put_case.new.text.items
    (omega (arith, c.loop-index-test.true, c.min-index-end.ensures)) (omega (arith, c.loop-index-test.true, c.min-index-end.ensures)) c.index-rules-index.is c.in_ok-put_case.ensures
    ∙ l.invariant

pub returns : goal.returns
returns c =
    let a = c.args in
    let l = c.loop-index in
    suite-end c.put_all.result a.text.now.items l.text.items c.put_all.new.text.items (suite_head a.is_strict a.trace.now a.judged.now)
    (cases_of a.is_strict a.trace.now a.rules.now a.judged.now) (cases_of a.is_strict a.trace.now (drop l.index a.rules.now) (drop l.index a.judged.now)) (codes "</testsuite>\n")
    (cases-end a.is_strict a.trace.now a.rules.now a.judged.now l.index (omega (arith, c.min-index-end.ensures, l.auto.index-end, c.loop-index-test.false))) l.invariant c.put_all.ensures
