use Rattle.fb_types.proofs.Common.{List, ℕ, ◌++◌, ◌∙◌, ap, refl, string_bytes, subst, arith, nat_eq, take_all}
use Rattle.std.proofs.lemmas.Slice.Zip.{AllZip-long}
use Rattle.fb_why.specs.declared.place.PlacedFinding.{PlacedFinding}
use Rattle.fbsim_command.specs.Notes.{AreNotesOfAll, IsPlaceIn, on_line}
use Rattle.fbsim_command.specs.InputNotes.{names_of, types_in}
use Rattle.fbsim_command.specs.Texts.{given_of, lines_of}
use Rattle.fbsim_command.proofs.lemmas.notes.Noting.{notes_more, place-at}
use Rattle.fbsim_command.proofs.notes.notes_at.Goals as goal

-- each finding has a place at its index
pub bounds-places-index : goal.bounds-places-index
bounds-places-index c = omega (arith, c.loop-index-test.true, AllZip-long (IsPlaceIn c.args.refused.now) c.args.shown.now c.args.places.now c.requires)

pub note_of_finding-requires : goal.note_of_finding-requires
note_of_finding-requires c =
    place-at (given_of c.args.refused.now.texts.now) c.args.shown.now c.args.places.now c.loop-index.index c.index-shown-index.result _ c.requires c.loop-index-test.true c.index-shown-index.is

pub loop-index-preserved : goal.loop-index-preserved
loop-index-preserved c =
    let refused = c.args.refused.now in
    notes_more (types_in refused) refused.own.now (names_of refused.names) (lines_of refused.texts.now) (given_of refused.texts.now) c.args.shown.now c.loop-index.index
    c.index-shown-index.result (nat_eq c.loop-index.index 0) (string_bytes c.loop-index.text) (string_bytes c.in_ok-note.note) (string_bytes c.in_ok-text.text) c.loop-index-test.true c.index-shown-index.is refl
    c.loop-index.invariant c.in_ok-note.ensures
    (c.in_ok-text.ensures ∙ ap (λ (n : List ℕ). string_bytes c.loop-index.text ++ on_line (nat_eq c.loop-index.index 0) n) c.as_str.ensures.value)

pub returns : goal.returns
returns c =
    subst (λ (fs : List PlacedFinding). AreNotesOfAll c.args.refused.now fs (string_bytes c.loop-index.text)) (take_all c.loop-index.index c.args.shown.now c.loop-index-test.false) c.loop-index.invariant
