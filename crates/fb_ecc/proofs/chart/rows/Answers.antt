use Rattle.fb_types.proofs.Common.{◌≡◌, ◌<◌, ◌∷◌, [], ◌++◌, ◌&&◌, List, length, get_or, refl, sym, ◌∙◌, ap, subst, is_some, position, same_name, state_names}
use Rattle.fb_types.specs.declared.library.Transition.{Transition}
use Rattle.fb_check_names.specs.Indexes.{index_in}
use Rattle.fb_ecc.specs.declared.chart.Exit.{Exit}
use Rattle.fb_ecc.proofs.lemmas.Charts.{rows_left, rows_stay}
use Rattle.fb_ecc.proofs.chart.rows.Goals as goal
use Rattle.fb_ecc.proofs.chart.rows.Goals.{in-Some+in_ok-add_exit, in_default}

pub loop-index-preserved : goal.loop-index-preserved
loop-index-preserved c =
    let t = c.args.block.now in
    let x : Transition = c.transition-item.result in
    let within : c.loop-index.index < length t.transitions =
    subst (λ (l : List Transition). c.loop-index.index < length l) c.as_slice-transition-items.ensures c.loop-index-test.true in
    let here : x ≡ get_or t.transitions c.loop-index.index x =
    subst (λ (l : List Transition). x ≡ get_or l c.loop-index.index x) c.as_slice-transition-items.ensures c.transition-item.is in
    let shown : position (same_name x.from) (state_names t) ≡ c.index_of.result =
    sym (c.requires.states.index x.from) ∙ ap (index_in c.args.numbers.now.states) (sym c.as_bytes.ensures) ∙ sym c.index_of.ensures in
    elim c.match-index_of.branch [
      | in-Some+in_ok-add_exit w ↦
          rw w.rows-is
          (rows_left t c.loop-index.index w.in-Some.source x c.loop-index.rows.items _ w.index_mut.result.now w.add_exit.new.row within here c.requires.states.once (shown ∙ w.in-Some.is)
          c.loop-index.invariant w.index_mut.ensures.value
          (w.in_ok-add_exit.ensures.exits ∙ ap (λ (e : Exit). w.index_mut.result.now.exits ++ e ∷ []) w.numbered_transition-exit.ensures) w.in_ok-add_exit.ensures.acts
          (w.in_ok-add_exit.ensures.waits ∙ ap (λ (e : Exit). w.index_mut.result.now.waits && is_some e.event) w.numbered_transition-exit.ensures)
          refl)
      | in_default w ↦ rw w.rows-is (c.loop-index.invariant ∙ rows_stay t c.loop-index.index x within here (shown ∙ w.in_default.is))
    ]
