use Rattle.fbsim_command.proofs.lemmas.Common.{map, take, texts_of}
use Rattle.fbsim_command.specs.Reading.{AreTextsRead}
use Rattle.fbsim_command.proofs.texts.read_types.Given as goal

abbrev pub invariant-loop-i : goal.invariant-loop-i
invariant-loop-i g l = AreTextsRead g.S.Source.gives (map (λ t. t.now) (take l.i l.types)) l.initial.source l.source (texts_of l.texts.items)
