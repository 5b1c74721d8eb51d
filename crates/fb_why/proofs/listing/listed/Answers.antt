use Rattle.std.proofs.Common.{◌≡◌, min, length, map, take, ap, ◌∙◌, arith}
use Rattle.std.proofs.lemmas.List.{take_all, take_min}
use Rattle.fb_types.proofs.lemmas.lists.LoopSteps.{mapped_next}
use Rattle.fb_check.specs.declared.location.Location.{Location}
use Rattle.fb_why.specs.declared.location.FindingLocation.TheVariants.{Check}
use Rattle.fb_why.specs.Positions.{position_of}
use Rattle.fb_why.proofs.lemmas.PlacedFindings.{all_placed, as_many}
use Rattle.fb_why.proofs.listing.listed.Goals as goal

pub loop-location-init : goal.loop-location-init
loop-location-init c = c.new-positions.ensures.items

pub loop-location-preserved : goal.loop-location-preserved
loop-location-preserved c =
    mapped_next (position_of c.args.case.now.library.now) (take c.min.result c.args.locations.now) c.loop-location.location-index _ _ _ _ c.loop-location-test.true c.position_of.ensures c.loop-location.invariant
    c.in_ok-push.ensures.items

pub marked_places-requires-clause-positions : goal.marked_places-requires-clause-positions
marked_places-requires-clause-positions c =
    let lib = c.args.case.now.library.now in
    let first = take c.min.result c.args.locations.now in
    c.as_slice.ensures.value ∙ c.loop-location.invariant ∙ ap (map (position_of lib)) (take_all c.loop-location.location-index first c.loop-location-test.false)

pub shown_at-requires : goal.shown_at-requires
shown_at-requires c =
    as_many c.args.declaration.now (take c.min.result c.args.locations.now) c.in_ok-marked.marked.items c.as_slice-2.result.now c.in_ok-marked.ensures c.as_slice-2.ensures.value

pub returns-clause-placed : goal.returns-clause-placed
returns-clause-placed c =
    all_placed c.args.declaration.now c.in_ok-shown.shown.items (take c.min.result c.args.locations.now) c.in_ok-marked.marked.items c.in_ok-shown.ensures.found
    (c.in_ok-shown.ensures.placed ∙ c.as_slice-2.ensures.value) c.in_ok-marked.ensures

pub returns-clause-shown : goal.returns-clause-shown
returns-clause-shown c =
    let xs = c.args.locations.now in
    let many : c.min.result ≡ min 20 (length xs) = omega (arith, c.min.ensures) in
    c.in_ok-shown.ensures.found ∙ ap (λ n. map (λ (p : Location). Check p) (take n xs)) many ∙ ap (map (λ (p : Location). Check p)) (take_min 20 xs)
