use Rattle.fb_types.proofs.Common.{List, sym, ◌∙◌, ap}
use Rattle.fb_types.specs.declared.library.Variable.{Variable}
use Rattle.fb_types.specs.Blocks.{type_named}
use Rattle.fb_check.proofs.lemmas.types.VariableTypes.{type_back, type_front}
use Rattle.fb_check.proofs.types.variables.port_type.Goals as goal

pub returns-in-Some : goal.returns-in-Some
returns-in-Some c =
    let n = c.args.name.now in
    sym (type_front n c.args.ports.now.inputs c.args.ports.now.outputs c.in-Some.ty
    (ap (λ (vs : List Variable). type_named vs n) (sym c.as_slice.ensures) ∙ sym c.variable_type.ensures ∙ c.in-Some.is))

pub returns-in-None : goal.returns-in-None
returns-in-None c =
    let n = c.args.name.now in
    c.variable_type-in-None.ensures ∙ ap (λ (vs : List Variable). type_named vs n) c.as_slice-in-None.ensures
    ∙ sym (type_back n c.args.ports.now.inputs c.args.ports.now.outputs
    (ap (λ (vs : List Variable). type_named vs n) (sym c.as_slice.ensures) ∙ sym c.variable_type.ensures ∙ c.in-None.is))
