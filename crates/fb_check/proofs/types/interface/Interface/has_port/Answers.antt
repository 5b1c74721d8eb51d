use Rattle.std.proofs.Common.{sym, ◌∙◌, ap}
use Rattle.fb_check.specs.types.Roles.{is_port}
use Rattle.fb_check.proofs.lemmas.types.Roles.{port_says, says}
use Rattle.fb_check.proofs.types.interface.Interface.has_port.Goals as goal

pub returns-in-Some : goal.returns-in-Some
returns-in-Some c =
    c.is_port.ensures ∙ ap (says (is_port c.args.value_kind)) (sym c.in-Some.is)
    ∙ port_says c.args.value_kind c.args.self.now c.args.name.now c.role_of.result c.role_of.ensures.role c.role_of.ensures.once

pub returns-in-None : goal.returns-in-None
returns-in-None c =
    ap (says (is_port c.args.value_kind)) (sym c.in-None.is)
    ∙ port_says c.args.value_kind c.args.self.now c.args.name.now c.role_of.result c.role_of.ensures.role c.role_of.ensures.once
