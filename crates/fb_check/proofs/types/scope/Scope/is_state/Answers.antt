use Rattle.fb_types.proofs.Common.{◌∙◌, ap, is_some, same_name, among, state_names}
use Rattle.fb_types.proofs.lemmas.lists.Positions.{is_some-position}
use Rattle.fb_check.proofs.types.scope.Scope.is_state.Goals as goal

pub returns : goal.returns
returns c =
    c.is_some.ensures
    ∙ ap is_some (c.index_of_name.ensures ∙ c.self.invariant.states.index c.args.name.now)
    ∙ is_some-position (same_name c.args.name.now) (state_names c.self.inside.block.now)
    ∙ ap (λ t. among (state_names t) c.args.name.now) c.self.view_is
