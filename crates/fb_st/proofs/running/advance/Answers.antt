use Rattle.fb_st.proofs.lemmas.Common.{◌≡◌, ◌∙◌, ap, rules, to_z-of_z, ◌+ℤ◌, slice_get, slice_set, fits, whole, passed, types_in, word_at, name_at, values_at}
use mir.Syntax.{w64}
use mir.Val.{SFits}
use Rattle.fb_types.specs.declared.value.Value.TheVariants as value
use Rattle.fb_st.proofs.lemmas.Assigning.{advances_to, low_word, within_slot}
use Rattle.fb_st.proofs.lemmas.CodeRuns.{first_read, first_set}
use Rattle.fb_st.proofs.lemmas.Words.{word_read, word_type}
use Rattle.fb_st.proofs.running.advance.Goals as goal

pub returns-in-Some-clause-run : goal.returns-in-Some-clause-run
returns-in-Some-clause-run c = λ left.
    let ds = c.args.layout.now in
    let ws = c.args.words.now in
    let k = c.args.count.now in
    let z = c.in-Some.next in
    let fit : SFits w64 z = search rules in
    let here = low_word (slice_get ds k.slot) k.least k.most c.requires.slot (word_at ws k.slot) c.in-Some.ensures.from in
    let there = within_slot (slice_get ds k.slot) k.least k.most c.requires.slot z c.in-Some.ensures.low c.in-Some.ensures.high in
    let read : whole (values_at ds ws (name_at ds k.slot)) ≡ word_at ws k.slot = ap whole (word_read ds ws c.requires.frame.fit c.requires.frame.once k.slot here.0 here.1 ∙ here.2) in
    rw (to_z-of_z fit)
    (advances_to (types_in ds) (name_at ds k.slot) c.args.span.now.end c.args.span.now.step (values_at ds ws) left z
    (ap (λ x. x +ℤ c.args.span.now.step) read ∙ c.in-Some.ensures.next) (values_at ds (slice_set ws k.slot z)) c.in-Some.ensures.goes_on
    (ap (λ t. fits t (value.Whole z)) (word_type ds ws c.requires.frame.fit c.requires.frame.once k.slot there.0 there.1) ∙ there.2)
    (first_set ds ws c.requires.frame.fit c.requires.frame.once k.slot there.0 there.1 z z there.3))

pub returns-in-Some-clause-within : goal.returns-in-Some-clause-within
returns-in-Some-clause-within c = λ went.
    let ds = c.args.layout.now in
    let ws = c.args.words.now in
    let k = c.args.count.now in
    let z = c.in-Some.next in
    let fit : SFits w64 z = search rules in
    let there = within_slot (slice_get ds k.slot) k.least k.most c.requires.slot z c.in-Some.ensures.low c.in-Some.ensures.high in
    rw (to_z-of_z fit)
    (ap (passed c.args.span.now.end c.args.span.now.step) (first_read ds ws c.requires.frame.fit c.requires.frame.once k.slot there.0 there.1 z z there.3) ∙ c.in-Some.ensures.goes_on)
