use Rattle.fbsim_command.proofs.lemmas.Common.{rules, ◌≡◌, ◌∙◌, sym, map, true, given_of, lines_of}
use Rattle.fbsim_command.specs.Notes.{input_names, noted_of}
use Rattle.fbsim_command.proofs.lemmas.notes.Noting.{no-number, noted, unasked}
use Rattle.fbsim_command.proofs.notes.note_of.Goals as goal

pub returns-then-not-task : goal.returns-then-not-task
returns-then-not-task c = unasked c.args.task.now.why c.if-not-task.true

pub returns-in_default : goal.returns-in_default
returns-in_default c =
    λ asked. no-number (given_of c.args.texts.now) c.args.failure.now (sym c.number_of.ensures ∙ c.in_default.is)

pub returns : goal.returns
returns c =
    noted (map (λ t. t.now) c.args.types.now) c.args.task.now.declaration.now (input_names c.args.task.now) (lines_of c.args.texts.now) (given_of c.args.texts.now) c.args.task.now.why c.args.failure.now c.in-Some.number
    (noted_of c.note_of_number.result) c.if-not-task.false (sym c.number_of.ensures ∙ c.in-Some.is) c.note_of_number.ensures
