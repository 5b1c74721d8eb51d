use Rattle.std.proofs.Common.{List, ℕ, ◌++◌, codes, drop, length, ap, ◌∙◌, arith}
use Rattle.fb_expect.specs.Applied.{applied_cases, unapplied}
use Rattle.fb_expect.specs.Suites.{suite_head_by}
use Rattle.fb_expect.proofs.lemmas.documents.AppliedTexts.{case-put, cases-end}
use Rattle.fb_expect.proofs.lemmas.documents.Suiting.{suite-end}
use Rattle.fb_expect.proofs.applied.put_applied_suite.Goals as goal

pub loop-index-init : goal.loop-index-init
loop-index-init c =
    ap (λ (t : List ℕ). t ++ applied_cases c.args.rules.now c.args.counts.now c.args.traces)
    (c.in_ok-put_suite_head.ensures ∙ (λ i. c.args.text.now.items ++ suite_head_by (codes "applied") (length c.args.counts.now) (c.unapplied-failed.ensures i) 0))

pub loop-index-preserved : goal.loop-index-preserved
loop-index-preserved c =
    let a = c.args in
    let l = c.loop-index in
    case-put l.index a.rules.now a.counts.now c.index-rules-index.result a.traces l.text.items c.put_applied_case.new.text.items
    (omega (arith, c.loop-index-test.true, c.min-index-end.ensures)) (omega (arith, c.loop-index-test.true, c.min-index-end.ensures)) c.index-rules-index.is c.in_ok-put_applied_case.ensures
    ∙ l.invariant

pub returns : goal.returns
returns c =
    let a = c.args in
    let l = c.loop-index in
    suite-end c.put_all.result a.text.now.items l.text.items c.put_all.new.text.items (suite_head_by (codes "applied") (length a.counts.now) (unapplied a.counts.now) 0)
    (applied_cases a.rules.now a.counts.now a.traces) (applied_cases (drop l.index a.rules.now) (drop l.index a.counts.now) a.traces) (codes "</testsuite>\n")
    (cases-end a.rules.now a.counts.now l.index a.traces (omega (arith, c.min-index-end.ensures, l.auto.index-end, c.loop-index-test.false))) l.invariant c.put_all.ensures
