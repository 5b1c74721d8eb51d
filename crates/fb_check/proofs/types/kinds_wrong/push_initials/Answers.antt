use Rattle.fb_check.proofs.lemmas.Common.{◌++◌, List, append_assoc, refl, sym, ◌∙◌, ap, Ports, each_at, KindWrongAt, kind_wrong_initial}
use Rattle.fb_check_names.specs.declared.location.Variables.TheVariants.{Inputs, Outputs, Internals}
use Rattle.fb_check.proofs.lemmas.types.GrowingLists.{and_added}
use Rattle.fb_check.proofs.types.kinds_wrong.push_initials.Goals as goal

pub returns : goal.returns
returns c =
    let b = c.args.block in
    let f0 = c.args.found.now.items in
    let f1 = c.push_variables.new.found.items in
    let f2 = c.push_variables-2.new.found.items in
    let p : List KindWrongAt = each_at (kind_wrong_initial b Inputs) c.as_slice-inputs.result.now in
    let q : List KindWrongAt = each_at (kind_wrong_initial b Outputs) c.as_slice-outputs.result.now in
    let r : List KindWrongAt = each_at (kind_wrong_initial b Internals) c.internals_of.result.now in
    let inputs = sym (c.as_slice-inputs.ensures ∙ ap (λ (x : Ports). x.inputs) c.ports-ports.ensures) in
    let outputs = sym (c.as_slice-outputs.ensures ∙ ap (λ (x : Ports). x.outputs) c.ports-ports.ensures) in
    let internals = sym c.internals_of.ensures in
    and_added c.and-2.result c.and.result c.push_variables-3.result f0 f2 c.push_variables-3.new.found.items (p ++ q) r _
    ((λ i. each_at (kind_wrong_initial b Inputs) (inputs i) ++ (each_at (kind_wrong_initial b Outputs) (outputs i) ++ each_at (kind_wrong_initial b Internals) (internals i)))
    ∙ sym (append_assoc p q r))
    c.and-2.ensures
    (and_added c.and.result c.push_variables.result c.push_variables-2.result f0 f1 f2 p q _ refl c.and.ensures c.push_variables.ensures c.push_variables-2.ensures)
    c.push_variables-3.ensures
