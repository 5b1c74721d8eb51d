use Rattle.std.proofs.Common.{◌++◌, sym, ◌∙◌}
use Rattle.fb_check.proofs.lemmas.types.VariableTypes.{type_back, type_front}
use Rattle.fb_check.proofs.types.variables.type_among.Goals as goal

pub returns-in-Some : goal.returns-in-Some
returns-in-Some c =
    sym (type_front c.args.name.now (c.args.ports.now.inputs ++ c.args.ports.now.outputs) c.args.internals.now c.in-Some.ty (sym c.port_type.ensures ∙ c.in-Some.is))

pub returns-in-None : goal.returns-in-None
returns-in-None c =
    c.variable_type.ensures
    ∙ sym (type_back c.args.name.now (c.args.ports.now.inputs ++ c.args.ports.now.outputs) c.args.internals.now (sym c.port_type.ensures ∙ c.in-None.is))
