use Rattle.fbsim_command.proofs.lemmas.Common.{inr, map, noted_of, subst, Declares, Given, given_of, lines_of}
use Rattle.fb_types.proofs.Common.{MatchOption}
use Rattle.fbsim_command.specs.Outcomes.{HasRefusal}
use Rattle.fbsim_command.specs.Stops.{NotesRun, NotesStop}
use Rattle.fbsim_command.proofs.lemmas.notes.Located.{run-stop}
use Rattle.fbsim_command.proofs.lemmas.notes.Noting.{none-of, ok-map, some-of}
use Rattle.fbsim_command.proofs.located_stop.note_of_stop.Goals as goal

pub returns-in_default : goal.returns-in_default
returns-in_default c = λ early few.
    let given = given_of c.args.texts.now in
    let o = c.in_ok-system.field-0 in
    inr (none-of (HasRefusal given) (Declares given) o c.in_default.is (subst (λ (g : Given). MatchOption o (HasRefusal g) (Declares g)) c.inputs.ensures c.in_ok-system.ensures))

pub returns : goal.returns
returns c =
    let types = map (λ t. t.now) c.args.types.now in
    let own = c.args.own.now in
    let lines = lines_of c.args.texts.now in
    let given = given_of c.args.texts.now in
    let o = c.in_ok-system.field-0 in
    let i = c.in-Some.system in
    let declared = some-of (HasRefusal given) (Declares given) o i c.in-Some.is (subst (λ (g : Given). MatchOption o (HasRefusal g) (Declares g)) c.inputs.ensures c.in_ok-system.ensures) in
    ok-map (NotesRun types own lines given i c.args.horizon c.args.steps) (NotesStop types own lines given c.args.horizon c.args.steps) (noted_of c.note_in-note.result) c.note_in-note.ensures
    (λ n said. run-stop types own lines given i c.args.horizon c.args.steps n declared said)
