use Rattle.std.proofs.Common.{sym, ◌∙◌, ap}
use Rattle.fb_check.proofs.lemmas.types.Roles.{says_type, type_says}
use Rattle.fb_check.proofs.types.interface.Interface.type_of.Goals as goal

pub returns-in-Some : goal.returns-in-Some
returns-in-Some c =
    c.ty.ensures ∙ ap says_type (sym c.in-Some.is) ∙ type_says c.args.self.now c.args.name.now c.role_of.result c.role_of.ensures.role c.role_of.ensures.once

pub returns-in-None : goal.returns-in-None
returns-in-None c = ap says_type (sym c.in-None.is) ∙ type_says c.args.self.now c.args.name.now c.role_of.result c.role_of.ensures.role c.role_of.ensures.once
