use Rattle.std.proofs.Common.{string_bytes, take}
use Rattle.fbsim_command.specs.Notes.{AreNotesOfAll}
use Rattle.fbsim_command.proofs.notes.notes_at.Given as goal

abbrev pub invariant-loop-index : goal.invariant-loop-index
invariant-loop-index l = AreNotesOfAll l.refused (take l.index l.shown) (string_bytes l.text)
