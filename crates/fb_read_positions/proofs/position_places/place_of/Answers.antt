use Rattle.fb_read_positions.specs.Spans.{IsAt, IsNowhere}
use Rattle.fb_read_positions.proofs.lemmas.PlacesOfPositions.{placed}
use Rattle.fb_read_positions.proofs.lemmas.TokensLeft.{where_none, where_some}
use Rattle.fb_read_positions.proofs.position_places.place_of.Goals as goal

pub returns-in-Some : goal.returns-in-Some
returns-in-Some c = λ position library found.
    let text = c.args.declaration.now in
    placed text library position c.in-Some.span c.place_counted_from.result
    (where_some (IsNowhere text library position) (IsAt text library position) _ c.in-Some.span c.in-Some.is found)
    c.place_counted_from.ensures.within c.place_counted_from.ensures.place c.place_counted_from.ensures.there

pub returns-in-None : goal.returns-in-None
returns-in-None c = λ position library found.
    let text = c.args.declaration.now in
    where_none (IsNowhere text library position) (IsAt text library position) _ c.in-None.is found
