use Rattle.fb_expect.proofs.lemmas.Common.{ℕ, sym, ◌∙◌, subst, both_ways, Concludes, Fewer, Broken}
use Rattle.fb_expect.specs.declared.rule.Need.TheVariants as need
use Rattle.fb_expect.specs.declared.watch.Watch.TheVariants as watch
use Rattle.fb_expect.proofs.lemmas.rules.Verdicts.{window-amid, window-fewer, window-holds}
use Rattle.fb_expect.proofs.verdict.conclude_window.Goals as goal

pub returns-then-lacks : goal.returns-then-lacks
returns-then-lacks c =
    let b = c.args.bounds in
    subst
    (λ (t : ℕ). Concludes (need.Count b.least b.most b.every) (watch.Count c.args.window c.args.count) c.args.line c.args.end (Broken (record { line = c.args.line; tick = t; fault = Fewer })))
    (sym c.tick.ensures)
    (window-fewer b.least b.most b.every c.args.window c.args.count c.windows_over.result c.args.line c.args.end c.windows_over.ensures (c.lacks.ensures.0 c.if-lacks.true))

pub returns-then-is_amid : goal.returns-then-is_amid
returns-then-is_amid c =
    let b = c.args.bounds in
    window-amid b.least b.most b.every c.args.window c.args.count c.windows_over.result c.args.line c.args.end c.windows_over.ensures
    (λ l. both_ways c.lacks.result c.if-lacks.false (c.lacks.ensures.1 l)) (sym c.is_amid.ensures ∙ c.if-is_amid.true)

pub returns-else-is_amid : goal.returns-else-is_amid
returns-else-is_amid c =
    let b = c.args.bounds in
    window-holds b.least b.most b.every c.args.window c.args.count c.windows_over.result c.args.line c.args.end c.windows_over.ensures
    (λ l. both_ways c.lacks.result c.if-lacks.false (c.lacks.ensures.1 l)) (sym c.is_amid.ensures ∙ c.if-is_amid.false)
