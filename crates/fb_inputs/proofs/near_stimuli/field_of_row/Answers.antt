use Rattle.fb_types.proofs.Common.{ℕ, ◌+◌, arith, subst, IfOk}
use Rattle.fb_inputs.specs.NearSpans.{IsField}
use Rattle.fb_inputs.specs.Searches.{FindsOne}
use Rattle.fb_inputs.proofs.lemmas.positions.FieldSpans.{index_below}
use Rattle.fb_inputs.proofs.near_stimuli.field_of_row.Goals as goal

pub returns-in-Some-clause-found : goal.returns-in-Some-clause-found
returns-in-Some-clause-found c =
    subst (λ (k : ℕ). IfOk c.field_span.result (λ o. FindsOne o (IsField c.args.text.now k c.args.field))) c.in-Some.ensures.1 c.field_span.ensures.found

pub returns-in-None-clause-found : goal.returns-in-None-clause-found
returns-in-None-clause-found c = λ span field.
    let below = index_below c.args.text.now (c.args.row + 1) c.args.field span field.at in
    c.in-None.ensures (omega (arith, below))
