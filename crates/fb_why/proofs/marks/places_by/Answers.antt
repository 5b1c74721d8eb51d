use Rattle.std.proofs.Common.{◌∙◌, List, Option, map, subst, sym}
use Rattle.std.specs.List.{AllZip}
use Rattle.fb_read_positions.specs.Places.{IsPlaceFor}
use Rattle.fb_read_positions.specs.declared.places.Place.{Place}
use Rattle.fb_why.specs.Positions.{position_of}
use Rattle.fb_why.proofs.lemmas.PlacedFindings.{all_shown, of_positions}
use Rattle.fb_why.proofs.marks.places_by.Goals as goal

pub returns-then-not-has_expression : goal.returns-then-not-has_expression
returns-then-not-has_expression c =
    let text = c.args.text.now in
    let library = c.args.library.now in
    let locations = c.args.locations.now in
    let places = c.in_ok-places.places.items in
    all_shown text library locations places c.requires.read (sym c.has_expression.ensures ∙ c.if-not-has_expression.true)
    (of_positions text library locations c.args.positions.now places c.requires.positions c.in_ok-places.ensures)

pub marked_among-requires-clause-places : goal.marked_among-requires-clause-places
marked_among-requires-clause-places c =
    let text = c.args.text.now in
    let library = c.args.library.now in
    let locations = c.args.locations.now in
    let places = c.in_ok-places.places.items in
    subst (λ (os : List (Option Place)). AllZip (IsPlaceFor text library) (map (position_of library) locations) os) (sym c.as_slice.ensures.value)
    (of_positions text library locations c.args.positions.now places c.requires.positions c.in_ok-places.ensures)
