use Rattle.std.proofs.Common.{[], ◌∷◌, Some}
use Rattle.fb_check_names.proofs.repeats.names_of.Goals as goal

pub returns : goal.returns
returns c =
    λ i. c.as_ref.ensures.value i ∷ Some c.args.connection.now.from.port ∷ c.as_ref-2.ensures.value i ∷ Some c.args.connection.now.to.port ∷ []
