use Rattle.std.proofs.Common.{sym, ◌∙◌}
use Rattle.fb_expect.specs.Stars.{is_star_name}
use Rattle.fb_expect.proofs.lemmas.texts.TextParts.{all-first, all-last, part_shorter}
use Rattle.fb_expect.proofs.stars.are_star_names.Goals as goal

pub loop-name-smaller : goal.loop-name-smaller
loop-name-smaller c = part_shorter 46 c.loop-name.rest.now _ _ c.in-Some.ensures

pub loop-name-preserved : goal.loop-name-preserved
loop-name-preserved c =
    c.loop-name.invariant
    ∙ all-first is_star_name 46 c.loop-name.rest.now _ _ _ c.in-Some.ensures (sym c.is_star_name.ensures ∙ c.if-not-is_star_name.false)

pub returns-then-not-is_star_name : goal.returns-then-not-is_star_name
returns-then-not-is_star_name c =
    sym (c.loop-name.invariant ∙ all-first is_star_name 46 c.loop-name.rest.now _ _ _ c.in-Some.ensures (sym c.is_star_name.ensures ∙ c.if-not-is_star_name.true))

pub returns : goal.returns
returns c = c.is_star_name-2.ensures ∙ sym (c.loop-name.invariant ∙ all-last is_star_name 46 c.loop-name.rest.now c.in_default.ensures)
