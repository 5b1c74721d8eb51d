use Rattle.fb_st.proofs.lemmas.Common.{◌≡◌, sym, ◌∙◌, ap, length, rules, to_z-of_z, err_from_is_err_and, fits, as_whole, types_in, number_said, fits_number, values_at, name_at, ty_or, value_of_word, kinds_number, expr_of_number}
use mir.Syntax.{w64, w128}
use mir.Val.{SFits}
use Rattle.fb_types.specs.declared.value.Value.TheVariants as value
use Rattle.fb_st.proofs.lemmas.Comes.{both_true, number_comes}
use Rattle.fb_st.proofs.lemmas.Assigning.{assign_writes, assign_refused, assign_stops, there}
use Rattle.fb_st.proofs.running.assign_exact.Goals as goal

pub returns-in_err-number-clause-run : goal.returns-in_err-number-clause-run
returns-in_err-number-clause-run c = λ left.
    let ds = c.args.layout.now in
    let ws = c.args.words.now in
    let e = number_said c.args.expr.now in
    let right = both_true (fits_number (length ds) e) (kinds_number ds e) c.requires.right in
    let x = err_from_is_err_and c.from_residual.result c.from_residual.ensures.1 in
    let comes = number_comes ds ws c.requires.frame.fit c.requires.frame.once e right.1 ∙ ap as_whole (sym c.number.ensures ∙ c.in_err-number.was) in
    rw (x.1, x.2) (assign_stops (types_in ds) (name_at ds c.args.slot) (expr_of_number ds e) (values_at ds ws) _ comes left)

pub returns-in_err-words-clause-run : goal.returns-in_err-words-clause-run
returns-in_err-words-clause-run c = λ left.
    let ds = c.args.layout.now in
    let ws = c.args.words.now in
    let e = number_said c.args.expr.now in
    let right = both_true (fits_number (length ds) e) (kinds_number ds e) c.requires.right in
    let at = there ds c.args.slot c.requires.slot in
    let x = err_from_is_err_and c.from_residual-in_err-words.result c.from_residual-in_err-words.ensures.1 in
    let comes = number_comes ds ws c.requires.frame.fit c.requires.frame.once e right.1 ∙ ap as_whole (sym c.number.ensures ∙ c.in_ok-number.was) in
    let wide : SFits w128 c.in_ok-number.number = search rules in
    let no = rw (to_z-of_z wide) at c.in_err-words.ensures.err in
    let unfit : fits at.0.1 (value.Whole c.in_ok-number.number) ≡ _ = ap (λ o. fits (ty_or o) (value.Whole c.in_ok-number.number)) (sym at.1) ∙ no.1 in
    rw (x.1, x.2, no.0) (assign_refused ds ws c.requires.frame.fit c.requires.frame.once c.args.slot at.0 at.1 (expr_of_number ds e) _ comes unfit left)

pub returns-clause-run : goal.returns-clause-run
returns-clause-run c = λ left.
    let ds = c.args.layout.now in
    let ws = c.args.words.now in
    let e = number_said c.args.expr.now in
    let right = both_true (fits_number (length ds) e) (kinds_number ds e) c.requires.right in
    let at = there ds c.args.slot c.requires.slot in
    let fit : SFits w64 c.in_ok-words.field-0 = search rules in
    let comes = number_comes ds ws c.requires.frame.fit c.requires.frame.once e right.1 ∙ ap as_whole (sym c.number.ensures ∙ c.in_ok-number.was) in
    let wide : SFits w128 c.in_ok-number.number = search rules in
    let yes = rw (to_z-of_z wide) at c.in_ok-words.ensures.ok in
    rw (to_z-of_z fit)
    (assign_writes ds ws c.requires.frame.fit c.requires.frame.once c.args.slot at.0 at.1 (expr_of_number ds e) c.in_ok-words.field-0 _ comes
    (ap (λ o. fits (ty_or o) (value.Whole c.in_ok-number.number)) (sym at.1) ∙ yes.0)
    (ap (λ o. value_of_word (ty_or o) c.in_ok-words.field-0) (sym at.1) ∙ yes.1) left)
