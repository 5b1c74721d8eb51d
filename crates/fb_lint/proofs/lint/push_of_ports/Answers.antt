use Rattle.fb_lint.proofs.lemmas.Common.{◌≡◌, ◌++◌, ◌∙◌, ap, meant_all, names_are}
use Rattle.fb_check_names.specs.declared.ports.PortKind.TheVariants as kind
use Rattle.fb_lint.specs.Charts.{silent_outputs}
use Rattle.fb_lint.specs.Reads.{assigned, mentions_of, unassigned_events, unmentioned_variables}
use Rattle.fb_lint.proofs.lemmas.WarningLists.{four_found}
use Rattle.fb_lint.proofs.lint.push_of_ports.Goals as goal

pub returns : goal.returns
returns c =
    let t = c.args.basic.now in
    let b = c.args.block in
    let mentions : meant_all c.as_slice-mentions.result.now ≡ mentions_of t.algorithms t.transitions =
    ap meant_all c.as_slice-mentions.ensures.value ∙ c.in_ok-mentions.ensures ∙ (λ i. mentions_of (c.as_slice-algorithms.ensures i) (c.as_slice-2.ensures i)) in
    let names : names_are c.as_slice-5.result.now ≡ assigned t.algorithms =
    ap names_are c.as_slice-5.ensures.value ∙ c.in_ok-assigned.ensures ∙ ap assigned c.as_slice-algorithms.ensures in
    four_found c.push_unassigned_events.result c.args.all.now.items c.push_silent_outputs.new.all.items c.push_unmentioned.new.all.items c.push_unmentioned-2.new.all.items _
    (silent_outputs b t.states t.ports.event_outputs) (unmentioned_variables b kind.Input (mentions_of t.algorithms t.transitions) t.ports.inputs)
    (unmentioned_variables b kind.Output (mentions_of t.algorithms t.transitions) t.ports.outputs) (unassigned_events b (assigned t.algorithms) t.ports.event_outputs) _
    (c.in_ok-push_silent_outputs.ensures ∙ (λ i. c.args.all.now.items ++ silent_outputs b (c.as_slice.ensures i) (c.as_slice-outputs.ensures i)))
    (c.in_ok-push_unmentioned.ensures ∙ (λ i. c.push_silent_outputs.new.all.items ++ unmentioned_variables b kind.Input (mentions i) (c.as_slice-3.ensures i)))
    (c.in_ok-push_unmentioned-2.ensures ∙ (λ i. c.push_unmentioned.new.all.items ++ unmentioned_variables b kind.Output (mentions i) (c.as_slice-4.ensures i)))
    (λ i. unassigned_events b (names i) (c.as_slice-outputs.ensures i))
    c.push_unassigned_events.ensures
