use Rattle.fb_lint.specs.Circles.{endless_states}
use Rattle.fb_lint.specs.Warnings as spec
use Rattle.fb_lint.proofs.lemmas.WarningLists.{two_found}
use Rattle.fb_lint.proofs.lint.push_of_chart.Goals as goal

pub returns : goal.returns
returns c =
    let t = c.args.basic.now in
    let b = c.args.block in
    two_found c.push_endless_states.result c.args.all.now.items c.push_of_states.new.all.items _ (spec.of_states b t) (endless_states b t.transitions t.states) _
    c.in_ok-push_of_states.ensures (λ i. endless_states b (c.as_slice-transitions.ensures i) (c.as_slice-states.ensures i)) c.push_endless_states.ensures
