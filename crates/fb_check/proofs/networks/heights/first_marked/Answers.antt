use Rattle.fb_check.proofs.lemmas.Common.{sym, ◌∙◌, position, is_marked}
use Rattle.fb_check_names.proofs.lemmas.twice.Repeating.{same_within}
use Rattle.fb_check.proofs.lemmas.networks.SearchLoops.{at_first, found_first, found_none, not_first}
use Rattle.fb_check.proofs.networks.heights.first_marked.Goals as goal

pub loop-component-init : goal.loop-component-init
loop-component-init c = at_first (position (is_marked c.args.marks.now) c.args.types.now)

pub returns-then-is_marked : goal.returns-then-is_marked
returns-then-is_marked c =
    found_first (is_marked c.args.marks.now) c.args.types.now c.loop-component.component _ c.loop-component-test.true
    (same_within c.args.types.now c.loop-component.component _ _ c.loop-component-test.true) c.loop-component.invariant
    (sym c.is_marked.ensures ∙ c.if-is_marked.true)

pub loop-component-preserved : goal.loop-component-preserved
loop-component-preserved c =
    not_first (is_marked c.args.marks.now) c.args.types.now c.loop-component.component _ c.loop-component-test.true
    (same_within c.args.types.now c.loop-component.component _ _ c.loop-component-test.true) c.loop-component.invariant
    (sym c.is_marked.ensures ∙ c.if-is_marked.false)

pub returns : goal.returns
returns c = found_none (is_marked c.args.marks.now) c.args.types.now c.loop-component.component c.loop-component-test.false c.loop-component.invariant
