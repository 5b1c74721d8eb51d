use Rattle.fbsim_command.proofs.lemmas.Common.{Bor, List, ℕ, map, Option, option_map, subst, names_of, given_of, lines_of}
use Rattle.fb_types.proofs.Common.{All}
use Rattle.fb_why.specs.Listings.{AreFound}
use Rattle.fb_why.specs.Places.{IsPlacedFinding}
use Rattle.fbsim_command.specs.Notes.{noted_of}
use Rattle.fbsim_command.proofs.lemmas.notes.Noting.{noted-in}
use Rattle.fbsim_command.proofs.notes.note_of_number.Goals as goal

pub returns : goal.returns
returns c =
    let given = given_of c.args.texts.now in
    let n = c.args.number in
    let f = c.in_ok-findings.findings in
    let plan = option_map (λ (b : Bor (List ℕ)). b.now) c.deployment.result in
    let rows = option_map (λ (b : Bor (List ℕ)). b.now) c.rows.result in
    let placed : All (IsPlacedFinding given.declaration) f.shown.items =
    subst (λ (t : List ℕ). All (IsPlacedFinding t) f.shown.items) c.as_slice-declaration.ensures.value c.in_ok-findings.ensures.placed in
    let here : AreFound given.declaration plan rows n f = subst (λ (t : List ℕ). AreFound t plan rows n f) c.as_slice-declaration.ensures.value c.in_ok-findings.ensures.found in
    let planned : AreFound given.declaration given.deploy rows n f = subst (λ (p : Option (List ℕ)). AreFound given.declaration p rows n f) c.deployment.ensures here in
    let found : AreFound given.declaration given.deploy given.stimuli n f = subst (λ (s : Option (List ℕ)). AreFound given.declaration given.deploy s n f) c.rows.ensures planned in
    noted-in (map (λ (t : Bor (List ℕ)). t.now) c.args.types.now) c.args.own.now (names_of c.args.names.now) (lines_of c.args.texts.now) given n f (noted_of c.note_of_findings-note.result) placed found
    c.note_of_findings-note.ensures
