use Rattle.std.proofs.Common.{sym, ◌∙◌}
use Rattle.fb_expect.specs.Words.{is_binding}
use Rattle.fb_expect.proofs.lemmas.texts.TextParts.{all-first, all-last, part_shorter}
use Rattle.fb_expect.proofs.event.are_bindings.Goals as goal

pub loop-word-smaller : goal.loop-word-smaller
loop-word-smaller c = part_shorter 32 c.loop-word.rest.now _ _ c.in-Some.ensures

pub loop-word-preserved : goal.loop-word-preserved
loop-word-preserved c =
    c.loop-word.invariant
    ∙ all-first is_binding 32 c.loop-word.rest.now _ _ _ c.in-Some.ensures (sym c.is_binding.ensures ∙ c.if-not-is_binding.false)

pub returns-then-not-is_binding : goal.returns-then-not-is_binding
returns-then-not-is_binding c =
    sym (c.loop-word.invariant
    ∙ all-first is_binding 32 c.loop-word.rest.now _ _ _ c.in-Some.ensures (sym c.is_binding.ensures ∙ c.if-not-is_binding.true))

pub returns : goal.returns
returns c =
    c.is_binding-2.ensures ∙ sym (c.loop-word.invariant
    ∙ all-last is_binding 32 c.loop-word.rest.now c.in_default.ensures)
