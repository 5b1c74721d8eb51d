use Rattle.fbsim_command.proofs.lemmas.Common.{map, noted_of, sym, ◌∙◌}
use Rattle.fbsim_command.proofs.lemmas.notes.Noting.{file-noted, named-file, unasked}
use Rattle.fbsim_command.proofs.notes.note_of_file.Goals as goal

pub returns-then-not-task : goal.returns-then-not-task
returns-then-not-task c = unasked c.args.task.now.why c.if-not-task.true

pub returns-in-Some : goal.returns-in-Some
returns-in-Some c =
    file-noted (map (λ t. t.now) c.args.types.now) c.args.task.now c.args.unread.part c.args.unread.fault c.word_for.result.now c.in-Some.name.now (noted_of c.note_of_name.result) c.if-not-task.false
    (named-file _ _ _ c.name_of.ensures c.in-Some.is) c.word_for.ensures c.note_of_name.ensures
