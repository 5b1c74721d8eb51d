use Rattle.fbsim_command.proofs.lemmas.Common.{Bor, List, ℕ, Option, option_map, subst, sym, AllZip, given_of}
use Rattle.fb_why.specs.InputPlaces.{IsPlaceOf}
use Rattle.fb_why.specs.declared.input_place.InputPlace.{InputPlace}
use Rattle.fbsim_command.specs.Notes.{IsPlaceIn}
use Rattle.fbsim_command.proofs.notes.notes_of.Goals as goal

pub notes_at-requires : goal.notes_at-requires
notes_at-requires c =
    let given = given_of c.args.refused.now.texts.now in
    let rows = option_map (λ (b : Bor (List ℕ)). b.now) c.rows.result in
    let found = c.args.shown.now in
    let places = c.in_ok-places.places.items in
    subst (λ (ps : List (Option InputPlace)). AllZip (IsPlaceIn c.args.refused.now) found ps) (sym c.as_slice.ensures.value)
    (subst (λ (s : Option (List ℕ)). AllZip (IsPlaceOf given.deploy s) found places) c.rows.ensures
    (subst (λ (d : Option (List ℕ)). AllZip (IsPlaceOf d rows) found places) c.deployment.ensures c.in_ok-places.ensures))
