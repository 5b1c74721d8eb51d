use Rattle.fb_expect.proofs.lemmas.Common.{List, nat_eq, sym, ap, ◌∙◌, slice_split, Text}
use Rattle.fb_expect.specs.Patterns.{has_value, is_right_for, is_value_of}
use Rattle.fb_expect.proofs.lemmas.texts.TextParts.{any-first, any-last, part_shorter}
use Rattle.fb_expect.proofs.meeting.is_found.Goals as goal

pub loop-word-smaller : goal.loop-word-smaller
loop-word-smaller c = part_shorter 32 c.loop-word.rest.now _ _ c.in-Some-split_at_mark.ensures

pub loop-word-preserved : goal.loop-word-preserved
loop-word-preserved c =
    let a = c.args in
    let words = slice_split (nat_eq 32) c.in-Some.words.now in
    c.loop-word.invariant
    ∙ any-first (is_value_of a.condition.now.variable (is_right_for a.condition.now a.demand words)) 32 c.loop-word.rest.now _ _ _ c.in-Some-split_at_mark.ensures
    (sym c.is_found_by.ensures ∙ c.if-is_found_by.false)

pub returns-then-is_found_by : goal.returns-then-is_found_by
returns-then-is_found_by c =
    let a = c.args in
    let words = slice_split (nat_eq 32) c.in-Some.words.now in
    sym (ap (λ (ws : List Text). has_value a.condition.now.variable (is_right_for a.condition.now a.demand ws) ws) c.in-Some.ensures.some ∙ c.loop-word.invariant
    ∙ any-first (is_value_of a.condition.now.variable (is_right_for a.condition.now a.demand words)) 32 c.loop-word.rest.now _ _ _ c.in-Some-split_at_mark.ensures
    (sym c.is_found_by.ensures ∙ c.if-is_found_by.true))

pub returns : goal.returns
returns c =
    let a = c.args in
    let words = slice_split (nat_eq 32) c.in-Some.words.now in
    c.is_found_by-2.ensures
    ∙ sym (ap (λ (ws : List Text). has_value a.condition.now.variable (is_right_for a.condition.now a.demand ws) ws) c.in-Some.ensures.some ∙ c.loop-word.invariant
    ∙ any-last (is_value_of a.condition.now.variable (is_right_for a.condition.now a.demand words)) 32 c.loop-word.rest.now c.in_default-split_at_mark.ensures)
