use Rattle.fb_types.proofs.Common.{Some, None, sym, ◌∙◌, ap, position, same_name}
use Rattle.fb_check.specs.types.Roles.{names_of}
use Rattle.fb_check.proofs.lemmas.types.Roles.{role_found}
use Rattle.fb_check.proofs.types.interface.Interface.role_of.Goals as goal

pub returns-clause-role : goal.returns-clause-role
returns-clause-role c =
    c.role_at.ensures
    ∙ role_found c.args.self.now c.args.name.now (Some c.in_ok-index.index)
    (sym c.in_ok-index.was ∙ c.index_of_name.ensures ∙ c.self.invariant.index c.args.name.now
    ∙ ap (λ d. position (same_name c.args.name.now) (names_of d)) c.self.view_is)

pub returns-in_err-index-clause-role : goal.returns-in_err-index-clause-role
returns-in_err-index-clause-role c =
    c.from_residual.ensures
    ∙ role_found c.args.self.now c.args.name.now None
    (sym c.in_err-index.was ∙ c.index_of_name.ensures ∙ c.self.invariant.index c.args.name.now
    ∙ ap (λ d. position (same_name c.args.name.now) (names_of d)) c.self.view_is)
