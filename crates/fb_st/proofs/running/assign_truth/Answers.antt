use Rattle.fb_st.proofs.lemmas.Common.{sym, ◌∙◌, ap, length, rules, to_z-of_z, slice_get, err_from_is_err_and, types_in, truth_said, fits_truth, values_at, name_at, is_truth_type, right_truth, kinds_truth, expr_of_truth}
use mir.Syntax.{w64}
use mir.Val.{SFits}
use Rattle.fb_st.specs.Required.{as_bool}
use Rattle.fb_st.proofs.lemmas.Comes.{both_true, truth_comes}
use Rattle.fb_st.proofs.lemmas.Assigning.{assign_writes, assign_stops, truth_slot, truth_slot_within}
use Rattle.fb_st.proofs.running.assign_truth.Goals as goal

pub returns-in_err-is_true-clause-run : goal.returns-in_err-is_true-clause-run
returns-in_err-is_true-clause-run c = λ left.
    let ds = c.args.layout.now in
    let ws = c.args.words.now in
    let e = truth_said c.args.expr.now in
    let parts = both_true (is_truth_type (slice_get ds c.args.slot)) (right_truth ds e) c.requires.right in
    let right = both_true (fits_truth (length ds) e) (kinds_truth ds e) parts.1 in
    let x = err_from_is_err_and c.from_residual.result c.from_residual.ensures.1 in
    let comes = truth_comes ds ws c.requires.frame.fit c.requires.frame.once e right.1 ∙ ap as_bool (sym c.is_true.ensures ∙ c.in_err-is_true.was) in
    rw (x.1, x.2) (assign_stops (types_in ds) (name_at ds c.args.slot) (expr_of_truth ds e) (values_at ds ws) _ comes left)

pub returns-clause-run : goal.returns-clause-run
returns-clause-run c = λ left.
    let ds = c.args.layout.now in
    let ws = c.args.words.now in
    let e = truth_said c.args.expr.now in
    let parts = both_true (is_truth_type (slice_get ds c.args.slot)) (right_truth ds e) c.requires.right in
    let right = both_true (fits_truth (length ds) e) (kinds_truth ds e) parts.1 in
    let fit : SFits w64 c.from.result = search rules in
    let at = truth_slot (slice_get ds c.args.slot) parts.0 c.in_ok-is_true.field-0 c.from.result (search (rules, c.from.ensures)) in
    let comes = truth_comes ds ws c.requires.frame.fit c.requires.frame.once e right.1 ∙ ap as_bool (sym c.is_true.ensures ∙ c.in_ok-is_true.was) in
    rw (to_z-of_z fit) (assign_writes ds ws c.requires.frame.fit c.requires.frame.once c.args.slot at.0 at.1 (expr_of_truth ds e) c.from.result _ comes at.2 at.3 left)

-- The expression and the slot fit the words.

pub is_true-requires : goal.is_true-requires
is_true-requires c =
    let ds = c.args.layout.now in
    let e = truth_said c.args.expr.now in
    let parts = both_true (is_truth_type (slice_get ds c.args.slot)) (right_truth ds e) c.requires.right in
    rw (c.requires.frame.fit) (both_true (fits_truth (length ds) e) (kinds_truth ds e) parts.1).0

pub bounds-words-slot : goal.bounds-words-slot
bounds-words-slot c =
    let ds = c.args.layout.now in
    let parts = both_true (is_truth_type (slice_get ds c.args.slot)) (right_truth ds (truth_said c.args.expr.now)) c.requires.right in
    rw (c.requires.frame.fit) (truth_slot_within ds c.args.slot parts.0)
