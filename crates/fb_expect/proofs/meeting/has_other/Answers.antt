use Rattle.fb_types.proofs.Common.{sym, ◌∙◌}
use Rattle.fb_types.specs.declared.value.Value.{Value}
use Rattle.fb_expect.specs.Patterns.{are_as, is_value_of}
use Rattle.fb_expect.proofs.lemmas.texts.TextParts.{any-first, any-last, part_shorter}
use Rattle.fb_expect.proofs.meeting.has_other.Goals as goal

pub loop-word-smaller : goal.loop-word-smaller
loop-word-smaller c = part_shorter 32 c.loop-word.rest.now _ _ c.in-Some.ensures

pub loop-word-preserved : goal.loop-word-preserved
loop-word-preserved c =
    let a = c.args in
    c.loop-word.invariant
    ∙ any-first (is_value_of a.name.now (λ (other : Value). are_as a.demand a.comparison a.found other)) 32 c.loop-word.rest.now _ _ _ c.in-Some.ensures (sym c.is_other.ensures ∙ c.if-is_other.false)

pub returns-then-is_other : goal.returns-then-is_other
returns-then-is_other c =
    let a = c.args in
    sym (c.loop-word.invariant
    ∙ any-first (is_value_of a.name.now (λ (other : Value). are_as a.demand a.comparison a.found other)) 32 c.loop-word.rest.now _ _ _ c.in-Some.ensures (sym c.is_other.ensures ∙ c.if-is_other.true))

pub returns : goal.returns
returns c =
    let a = c.args in
    c.is_other-2.ensures
    ∙ sym (c.loop-word.invariant ∙ any-last (is_value_of a.name.now (λ (other : Value). are_as a.demand a.comparison a.found other)) 32 c.loop-word.rest.now c.in_default.ensures)
