use Rattle.fb_check.proofs.lemmas.Common.{◌≡◌, ℕ, false, ◌∙◌}
use Rattle.fb_types.proofs.Common.{below_more}
use Rattle.fb_check.specs.networks.Heights.{mark_at}
use Rattle.fb_check.proofs.lemmas.networks.Lasting.{all_marks, mark_get}
use Rattle.fb_check.proofs.networks.heights.first_set.Goals as goal

pub returns-then-is_set : goal.returns-then-is_set
returns-then-is_set c = mark_get c.args.marks.now c.loop-block.block false c.loop-block-test.true ∙ c.if-is_set.true

pub loop-block-preserved : goal.loop-block-preserved
loop-block-preserved c =
    below_more (λ (k : ℕ). mark_at c.args.marks.now k ≡ false) c.loop-block.block c.loop-block.invariant
    (mark_get c.args.marks.now c.loop-block.block false c.loop-block-test.true ∙ c.if-is_set.false)

pub returns : goal.returns
returns c = all_marks c.args.marks.now c.loop-block.block c.loop-block-test.false c.loop-block.invariant
