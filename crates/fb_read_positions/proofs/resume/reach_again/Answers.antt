use Rattle.fb_read_positions.specs.Resumed.{IsAhead, IsListed}
use Rattle.fb_read_positions.specs.Walks.{to_item}
use Rattle.fb_read_positions.proofs.lemmas.TokensLeft.{stop_if}
use Rattle.fb_read_positions.proofs.lemmas.PlacesOfPositions.{of_some}
use Rattle.fb_read_positions.proofs.lemmas.ResumedWalks.{item_after}
use Rattle.fb_read_positions.proofs.resume.reach_again.Goals as goal

pub returns : goal.returns
returns c =
    let i = c.args.item in
    let ps = c.args.tokens.now in
    let from = c.in-Some.from in
    let listed : IsListed ps from = of_some (IsListed ps) _ from c.in-Some.is (c.earlier.ensures.listed ps c.requires.reached) in
    let ahead : IsAhead i from = of_some (IsAhead i) _ from c.in-Some.is c.earlier.ensures.ahead in
    stop_if ps (to_item i) c.stop_at.result
    (c.stop_at.ensures ps c.requires.reached (item_after ps c.last.result.now i from _ listed ahead c.last.ensures c.in_ok-left.ensures))
