use Rattle.fbsim_command.specs.Nearest.{IsBest, type_distance}
use Rattle.fbsim_command.proofs.near.nearest_type.Given as goal

abbrev pub invariant-loop-index : goal.invariant-loop-index
invariant-loop-index l = IsBest (type_distance l.library l.text) l.index l.best
