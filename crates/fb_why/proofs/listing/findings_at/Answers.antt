use Rattle.fb_types.proofs.Common.{◌<◌, List, length, map, refl, ◌∙◌, ap, arith, take_all}
use Rattle.fb_check_names.proofs.lemmas.twice.Repeating.{same_within}
use Rattle.fb_check.specs.declared.location.Location.{Location}
use Rattle.fb_why.specs.declared.location.FindingLocation.{FindingLocation}
use Rattle.fb_why.specs.declared.location.FindingLocation.TheVariants.{Check}
use Rattle.fb_why.specs.declared.place.PlacedFinding.{PlacedFinding}
use Rattle.fb_why.proofs.lemmas.PlacedFindings.{located, placed_more}
use Rattle.fb_why.proofs.listing.findings_at.Goals as goal

abbrev checked : List Location → List FindingLocation
checked ls = map (λ p. Check p) ls

pub loop-index-init : goal.loop-index-init
loop-index-init c = (ap (map (λ (r : PlacedFinding). r.finding.location)) c.new-all.ensures.items, ap (map (λ (r : PlacedFinding). r.place)) c.new-all.ensures.items)

pub loop-index-preserved : goal.loop-index-preserved
loop-index-preserved c =
    let l = c.loop-index in
    let xs = c.args.locations.now in
    let ys = c.args.places.now in
    let within : l.index < length xs = c.loop-index-test.true in
    let placed : l.index < length ys = omega (arith, c.requires, within) in (
      located l.all.items c.push.new.self.items _ xs l.index _ within (same_within xs l.index _ _ within) c.in_ok-push.ensures.items refl l.invariant.0,
      placed_more l.all.items c.push.new.self.items _ ys l.index _ placed (same_within ys l.index _ _ placed) c.in_ok-push.ensures.items refl l.invariant.1,
    )

pub returns-clause-found : goal.returns-clause-found
returns-clause-found c = c.loop-index.invariant.0 ∙ ap checked (take_all c.loop-index.index c.args.locations.now c.loop-index-test.false)

pub returns-clause-placed : goal.returns-clause-placed
returns-clause-placed c = c.loop-index.invariant.1 ∙ take_all c.loop-index.index c.args.places.now (omega (arith, c.requires, c.loop-index-test.false))
