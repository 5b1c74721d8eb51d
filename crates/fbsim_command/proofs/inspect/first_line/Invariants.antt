use Rattle.std.specs.Prelude.{All, map, take}
use Rattle.fbsim_command.specs.Inspecting.{HasPath}
use Rattle.fbsim_command.proofs.inspect.first_line.Given as goal

abbrev pub invariant-loop-text : goal.invariant-loop-text
invariant-loop-text l = All (HasPath l.system) (map (λ t. t.now) (take l.text-index l.texts))
