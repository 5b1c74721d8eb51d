use Rattle.std.proofs.Common.{◌≡◌, ◌<◌, true, List, [], ◌∷◌, ◌++◌, length, map, take, get_or, sym, ◌∙◌, ap, subst}
use Rattle.fb_types.specs.declared.library.State.{State}
use Rattle.fb_types.proofs.lemmas.lists.LoopSteps.{map_take_more}
use Rattle.fb_ecc.specs.Indexed.{row_within}
use Rattle.fb_ecc.specs.Numbered.{act_of}
use Rattle.fb_ecc.specs.declared.chart.ChartState.{ChartState}
use Rattle.fb_ecc.proofs.chart.rows_begun.Goals as goal

pub loop-state-preserved : goal.loop-state-preserved
loop-state-preserved c =
    let t = c.args.block.now in
    let s : State = c.state-item.result in
    let begun : State → ChartState = row_within t 0 in
    let so_far : List ChartState = map begun (take c.loop-state.state-index t.states) in
    let within : c.loop-state.state-index < length t.states =
    subst (λ (l : List State). c.loop-state.state-index < length l) c.as_slice-state-items.ensures c.loop-state-test.true in
    let here : s ≡ get_or t.states c.loop-state.state-index s =
    subst (λ (l : List State). s ≡ get_or l c.loop-state.state-index s) c.as_slice-state-items.ensures c.state-item.is in
    let row : ChartState = record { exits = c.new-exits.result; acts = c.in_ok-acts.acts; waits = true } in
    c.in_ok-push.ensures.items ∙ ap (λ (rows : List ChartState). rows ++ row ∷ []) c.loop-state.invariant
    ∙ ap (λ (row : ChartState). so_far ++ row ∷ [])
    (λ i. record { exits = c.new-exits.ensures i; acts = (c.in_ok-acts.ensures ∙ ap (map (act_of t)) c.as_slice.ensures) i; waits = true })
    ∙ sym (map_take_more begun t.states c.loop-state.state-index s within here)
