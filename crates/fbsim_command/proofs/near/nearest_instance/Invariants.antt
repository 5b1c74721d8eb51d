use Rattle.fbsim_command.specs.Nearest.{IsBest, path_distance}
use Rattle.fbsim_command.proofs.near.nearest_instance.Given as goal

abbrev pub invariant-loop-index : goal.invariant-loop-index
invariant-loop-index l = IsBest (path_distance l.system l.text) l.index l.best
