use Rattle.fb_st.proofs.lemmas.Common.{sym, ◌∙◌, ap, rules, to_z-of_z, ◌+ℤ◌, slice_get, slice_set, err_from_is_err_and, fits, passed, types_in, name_at, ty_or, value_of_word, values_at}
use mir.Syntax.{w64, w128}
use mir.Val.{SFits}
use Rattle.fb_types.specs.declared.value.Value.TheVariants as value
use Rattle.fb_st.proofs.lemmas.Assigning.{advances_not, advances_past, advances_to, whole_read, within_slot_there}
use Rattle.fb_st.proofs.lemmas.CodeRuns.{first_read, first_set, within_there}
use Rattle.fb_st.proofs.lemmas.Words.{word_type}
use Rattle.fb_st.proofs.running.advance_exact.Goals as goal

-- The slot is one of the layout, and of the words.

pub word-requires : goal.word-requires
word-requires c =
    let k = c.args.count.now in
    rw (c.requires.frame.fit) (within_slot_there c.args.layout.now k.slot k.least k.most c.requires.slot)

pub number_of-number-requires : goal.number_of-number-requires
number_of-number-requires c =
    let k = c.args.count.now in
    within_slot_there c.args.layout.now k.slot k.least k.most c.requires.slot

pub word_of-requires : goal.word_of-requires
word_of-requires c =
    let k = c.args.count.now in
    within_slot_there c.args.layout.now k.slot k.least k.most c.requires.slot

pub bounds-words-count : goal.bounds-words-count
bounds-words-count c =
    let k = c.args.count.now in
    rw (c.requires.frame.fit) (within_slot_there c.args.layout.now k.slot k.least k.most c.requires.slot)

pub returns-in_default-clause-run : goal.returns-in_default-clause-run
returns-in_default-clause-run c = λ left.
    let ds = c.args.layout.now in
    let ws = c.args.words.now in
    let k = c.args.count.now in
    let there = within_there k.least k.most (slice_get ds k.slot) c.requires.slot in
    let short : SFits w64 c.word.result = search rules in
    let number_is = rw (to_z-of_z short) at c.number_of-number.ensures in
    let read = whole_read ds ws c.requires.frame.fit c.requires.frame.once k.slot there.0 there.1 c.word.result c.number_of-number.result c.word.ensures number_is in
    let own : SFits w128 c.number_of-number.result = search rules in
    let past = rw (to_z-of_z own) at c.next_of.ensures.past in
    advances_past (types_in ds) (name_at ds k.slot) c.args.span.now.end c.args.span.now.step (values_at ds ws) left _
    (ap (λ x. x +ℤ c.args.span.now.step) read) (past c.in_default.is)

pub returns-in_err-words-clause-run : goal.returns-in_err-words-clause-run
returns-in_err-words-clause-run c = λ left.
    let ds = c.args.layout.now in
    let ws = c.args.words.now in
    let k = c.args.count.now in
    let there = within_there k.least k.most (slice_get ds k.slot) c.requires.slot in
    let short : SFits w64 c.word.result = search rules in
    let number_is = rw (to_z-of_z short) at c.number_of-number.ensures in
    let read = whole_read ds ws c.requires.frame.fit c.requires.frame.once k.slot there.0 there.1 c.word.result c.number_of-number.result c.word.ensures number_is in
    let wide : SFits w128 c.in-Some.next = search rules in
    let own : SFits w128 c.number_of-number.result = search rules in
    let next = rw (to_z-of_z own) at c.in-Some.ensures.next in
    let no = rw (to_z-of_z wide) at c.in_err-words.ensures.err in
    let x = err_from_is_err_and c.from_residual.result c.from_residual.ensures.1 in
    rw (x.1, x.2, no.0)
    (advances_not (types_in ds) (name_at ds k.slot) c.args.span.now.end c.args.span.now.step (values_at ds ws) left _
    (ap (λ x. x +ℤ c.args.span.now.step) read ∙ next.0) next.1
    (ap (λ t. fits t (value.Whole c.in-Some.next)) (word_type ds ws c.requires.frame.fit c.requires.frame.once k.slot there.0 there.1 ∙ sym (ap ty_or there.1)) ∙ no.1))

pub returns-clause-run : goal.returns-clause-run
returns-clause-run c = λ left.
    let ds = c.args.layout.now in
    let ws = c.args.words.now in
    let k = c.args.count.now in
    let z = c.in_ok-words.field-0 in
    let fit : SFits w64 z = search rules in
    let wide : SFits w128 c.in-Some.next = search rules in
    let yes = rw (to_z-of_z wide) at c.in_ok-words.ensures.ok in
    let there = within_there k.least k.most (slice_get ds k.slot) c.requires.slot in
    let short : SFits w64 c.word.result = search rules in
    let number_is = rw (to_z-of_z short) at c.number_of-number.ensures in
    let read = whole_read ds ws c.requires.frame.fit c.requires.frame.once k.slot there.0 there.1 c.word.result c.number_of-number.result c.word.ensures number_is in
    let own : SFits w128 c.number_of-number.result = search rules in
    let next = rw (to_z-of_z own) at c.in-Some.ensures.next in
    rw (to_z-of_z fit)
    (advances_to (types_in ds) (name_at ds k.slot) c.args.span.now.end c.args.span.now.step (values_at ds ws) left c.in-Some.next
    (ap (λ x. x +ℤ c.args.span.now.step) read ∙ next.0) (values_at ds (slice_set ws k.slot z)) next.1
    (ap (λ t. fits t (value.Whole c.in-Some.next)) (word_type ds ws c.requires.frame.fit c.requires.frame.once k.slot there.0 there.1 ∙ sym (ap ty_or there.1)) ∙ yes.0)
    (first_set ds ws c.requires.frame.fit c.requires.frame.once k.slot there.0 there.1 z c.in-Some.next (ap (λ t. value_of_word t z) (sym (ap ty_or there.1)) ∙ yes.1)))

pub returns-clause-within : goal.returns-clause-within
returns-clause-within c = λ went.
    let ds = c.args.layout.now in
    let ws = c.args.words.now in
    let k = c.args.count.now in
    let z = c.in_ok-words.field-0 in
    let fit : SFits w64 z = search rules in
    let wide : SFits w128 c.in-Some.next = search rules in
    let yes = rw (to_z-of_z wide) at c.in_ok-words.ensures.ok in
    let there = within_there k.least k.most (slice_get ds k.slot) c.requires.slot in
    rw (to_z-of_z fit)
    (ap (passed c.args.span.now.end c.args.span.now.step)
    (first_read ds ws c.requires.frame.fit c.requires.frame.once k.slot there.0 there.1 z c.in-Some.next (ap (λ t. value_of_word t z) (sym (ap ty_or there.1)) ∙ yes.1))
    ∙ c.in-Some.ensures.next.1)
