use Rattle.fb_types.proofs.Common.{◌∙◌, ap, is_some}
use Rattle.fb_types.specs.Blocks.{type_named}
use Rattle.fb_check.specs.types.Roles.{variables_of}
use Rattle.fb_check.proofs.lemmas.types.Roles.{is_some-type_named}
use Rattle.fb_check.proofs.types.scope.Scope.is_variable.Goals as goal

pub returns : goal.returns
returns c =
    c.is_some.ensures
    ∙ ap is_some (c.type_of.ensures ∙ ap (λ d. type_named (variables_of d) c.args.name.now) c.interface.ensures)
    ∙ is_some-type_named (variables_of (record { ports = c.args.self.now.ports; internals = c.args.self.now.internals })) c.args.name.now
