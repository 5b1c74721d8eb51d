use Rattle.std.proofs.Common.{map}
use Rattle.fbsim_command.specs.Nearest.{IsBest, name_distance}
use Rattle.fbsim_command.proofs.near.nearest_index.Given as goal

abbrev pub invariant-loop-index : goal.invariant-loop-index
invariant-loop-index l = IsBest (name_distance (map (λ n. n.now) l.names) l.text) l.index l.best
