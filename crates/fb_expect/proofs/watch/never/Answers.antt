use Rattle.fb_expect.proofs.lemmas.Common.{sym, subst, ◌∙◌, Steps, Watch}
use Rattle.fb_expect.specs.declared.rule.Need.TheVariants as need
use Rattle.fb_expect.specs.declared.watch.Watch.TheVariants as watch
use Rattle.std.proofs.lemmas.Bool.{and_cases, and_parts}
use Rattle.fb_expect.proofs.lemmas.rules.Stepping.{never-breaks, never-goes}
use Rattle.fb_expect.proofs.watch.never.Goals as goal

pub returns-then-both : goal.returns-then-both
returns-then-both c =
    let sure = and_parts c.both-stays_on.result c.args.hit.first (sym c.both.ensures ∙ c.if-both.true) in
    subst (λ (w : Watch). Steps (need.Never c.args.from_start) (watch.Never c.args.is_on) c.args.line c.args.hit w) (sym c.broken.ensures)
    (never-breaks c.args.from_start c.args.line c.args.is_on c.both-stays_on.result c.args.hit c.both-stays_on.ensures sure.0 sure.1)

pub returns : goal.returns
returns c =
    never-goes c.args.from_start c.args.line c.args.is_on c.both-stays_on.result c.either.result c.args.hit c.both-stays_on.ensures
    (and_cases c.both-stays_on.result c.args.hit.first (sym c.both.ensures ∙ c.if-both.false)) c.either.ensures
