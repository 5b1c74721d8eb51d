use Rattle.fb_check.proofs.lemmas.Common.{◌++◌, List, append_assoc, refl, sym, ◌∙◌, ap, BasicType, each_at, UnknownName, unknown_in_body, unknown_in_state, unknown_in_transition}
use Rattle.fb_check.proofs.lemmas.types.GrowingLists.{and_added}
use Rattle.fb_check.proofs.types.basics.push_in_chart.Goals as goal

pub returns : goal.returns
returns c =
    let t = c.args.scope.now in
    let b = c.args.block in
    let f0 = c.args.found.now.items in
    let f1 = c.push_in_states.new.found.items in
    let f2 = c.push_in_transitions.new.found.items in
    let p : List UnknownName = each_at (unknown_in_state t b) c.as_slice.result.now in
    let q : List UnknownName = each_at (unknown_in_transition t b) c.as_slice-transitions.result.now in
    let r : List UnknownName = each_at (unknown_in_body t b) c.as_slice-algorithms.result.now in
    let states = sym (c.as_slice.ensures ∙ ap (λ (x : BasicType). x.states) c.block-basic.ensures) in
    let transitions = sym (c.as_slice-transitions.ensures ∙ ap (λ (x : BasicType). x.transitions) c.block-basic.ensures) in
    let algorithms = sym (c.as_slice-algorithms.ensures ∙ ap (λ (x : BasicType). x.algorithms) c.block-basic.ensures) in
    and_added c.and-2.result c.and.result c.push_in_bodies.result f0 f2 c.push_in_bodies.new.found.items (p ++ q) r _
    ((λ i. each_at (unknown_in_state t b) (states i) ++ (each_at (unknown_in_transition t b) (transitions i) ++ each_at (unknown_in_body t b) (algorithms i)))
    ∙ sym (append_assoc p q r))
    c.and-2.ensures
    (and_added c.and.result c.push_in_states.result c.push_in_transitions.result f0 f1 f2 p q _ refl c.and.ensures c.push_in_states.ensures c.push_in_transitions.ensures)
    c.push_in_bodies.ensures
