use Rattle.fb_types.proofs.Common.{◌++◌, List, Option, ◌∙◌, ap, unwrap_or}
use Rattle.fb_types.specs.declared.library.Variable.{Variable}
use Rattle.fb_types.specs.declared.value.Ty.{Ty}
use Rattle.fb_types.specs.declared.value.Ty.TheVariants.{Bool as Boolean}
use Rattle.fb_types.specs.Blocks.{type_named}
use Rattle.fb_check.proofs.lemmas.types.VariableTypes.{type_or_boolean}
use Rattle.fb_check.proofs.types.variables.BasicTypeTyping.type_of.Goals as goal

pub returns : goal.returns
returns c =
    let n = c.args.name.now in
    let t = c.args.self.now in
    c.unwrap_or.ensures
    ∙ ap (λ (o : Option Ty). unwrap_or o Boolean) (c.type_among.ensures ∙ ap (λ (vs : List Variable). type_named ((t.ports.inputs ++ t.ports.outputs) ++ vs) n) c.as_slice.ensures)
    ∙ type_or_boolean n ((t.ports.inputs ++ t.ports.outputs) ++ t.internals)
