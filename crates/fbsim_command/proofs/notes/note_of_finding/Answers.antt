use Rattle.fbsim_command.proofs.lemmas.Common.{Some, None, string_bytes, names_of, given_of, lines_of}
use Rattle.fbsim_command.specs.InputNotes.{types_in}
use Rattle.fbsim_command.proofs.lemmas.notes.Noting.{noted-by}
use Rattle.fbsim_command.proofs.notes.note_of_finding.Goals as goal

pub returns-in-Some : goal.returns-in-Some
returns-in-Some c =
    let refused = c.args.refused.now in
    let f = c.args.found.now.finding in
    noted-by (types_in refused) refused.own.now (names_of refused.names) (lines_of refused.texts.now) (given_of refused.texts.now) f.location (string_bytes f.text) c.args.found.now.place (Some c.in-Some.at)
    c.note_at_place.result c.in-Some.is c.note_at_place.ensures

pub returns-in-None : goal.returns-in-None
returns-in-None c =
    let refused = c.args.refused.now in
    let f = c.args.found.now.finding in
    noted-by (types_in refused) refused.own.now (names_of refused.names) (lines_of refused.texts.now) (given_of refused.texts.now) f.location (string_bytes f.text) c.args.found.now.place None c.note_elsewhere.result
    c.in-None.is c.note_elsewhere.ensures
