use Rattle.std.proofs.Common.{◌≡◌, ◌++◌, ◌∷◌, drop, map}
use Rattle.fbsim_command.specs.Joining.{lines_behind, lines_of_first}
use Rattle.fbsim_command.specs.Texts.{texts_of}
use Rattle.fbsim_command.proofs.join.lines_with.Given as goal

-- with those of the files that are left, all are there
abbrev pub invariant-loop-text : goal.invariant-loop-text
invariant-loop-text l =
    l.lines.items ++ map lines_behind (texts_of (drop l.text-index l.following)) ≡ lines_of_first l.first ∷ map lines_behind (texts_of l.following)
