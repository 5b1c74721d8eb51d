use Rattle.fb_read.proofs.lemmas.Common.{◌≡◌, List, Ok, Err, refl, subst, err_from_is_err_and, Reads, run_after, basic, algorithm, algorithms}
use Rattle.fb_types.specs.declared.library.Algorithm.{Algorithm}
use Rattle.fb_read.specs.declared.token.Mark.TheVariants as mark
use Rattle.fb_read.proofs.lemmas.rules.Reading.{stops, stops_later, went_on}
use Rattle.fb_read.proofs.block.basic.Goals as goal

pub returns-in_err-internals : goal.returns-in_err-internals
unfolding basic
returns-in_err-internals c =
    let p = err_from_is_err_and c.from_residual.result c.from_residual.ensures.1 in
    rw (p.1, p.2) (stops _ _ _ _ c.in_err-internals.ensures)

pub returns-in_err-states : goal.returns-in_err-states
unfolding basic
returns-in_err-states c =
    let p = err_from_is_err_and c.from_residual-in_err-states.result c.from_residual-in_err-states.ensures.1 in
    rw (p.1, p.2) (stops_later _ _ _ _ _ _ c.in_ok-internals.ensures (stops _ _ _ _ c.in_err-states.ensures))

pub returns-in_err-transitions : goal.returns-in_err-transitions
unfolding basic
returns-in_err-transitions c =
    let p = err_from_is_err_and c.from_residual-in_err-transitions.result c.from_residual-in_err-transitions.ensures.1 in
    rw (p.1, p.2) (stops_later _ _ _ _ _ _ c.in_ok-internals.ensures (stops_later _ _ _ _ _ _ c.in_ok-states.ensures (stops _ _ _ _ c.in_err-transitions.ensures)))

pub returns-in_err-algorithms : goal.returns-in_err-algorithms
unfolding basic algorithms
returns-in_err-algorithms c =
    let first = subst (λ (found : List Algorithm). Reads (run_after algorithm mark.Algorithm found c.transitions.new.cursor) (Err c.in_err-algorithms.field-0.0) c.run_after.new.cursor) c.no_items-none.ensures c.in_err-algorithms.ensures in
    let p = err_from_is_err_and c.from_residual-in_err-algorithms.result c.from_residual-in_err-algorithms.ensures.1 in
    rw (p.1, p.2) (stops_later _ _ _ _ _ _ c.in_ok-internals.ensures (stops_later _ _ _ _ _ _ c.in_ok-states.ensures (stops_later _ _ _ _ _ _ c.in_ok-transitions.ensures (stops _ _ _ _ first))))

pub returns : goal.returns
unfolding basic algorithms
returns c =
    let first = subst (λ (found : List Algorithm). run_after algorithm mark.Algorithm found c.transitions.new.cursor ≡ Ok (c.in_ok-algorithms.algorithms, c.run_after.new.cursor)) c.no_items-none.ensures c.in_ok-algorithms.ensures in
    went_on _ _ _ _ _ c.in_ok-internals.ensures (went_on _ _ _ _ _ c.in_ok-states.ensures (went_on _ _ _ _ _ c.in_ok-transitions.ensures (went_on _ _ _ _ _ first refl)))
