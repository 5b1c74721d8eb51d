use Rattle.fb_types.proofs.Common.{subst, refl, arith, take_all, system_of}
use Rattle.std.proofs.lemmas.List.Elements.{All-more}
use Rattle.fb_system.specs.Lines.{BelongsTo}
use Rattle.fb_tests.proofs.tests.parts.belonging.all_belong.Goals as goal

pub loop-line-preserved : goal.loop-line-preserved
loop-line-preserved c =
    let P = BelongsTo (system_of c.args.system.now) in
    All-more P c.args.lines.now c.loop-line.line-index c.line-item.result c.loop-line-test.true c.loop-line.invariant (subst P c.line-item.is (c.if-not-belongs.ensures refl))

pub returns : goal.returns
returns c = λ h. rw (take_all c.loop-line.line-index c.args.lines.now (omega arith)) at c.loop-line.invariant
