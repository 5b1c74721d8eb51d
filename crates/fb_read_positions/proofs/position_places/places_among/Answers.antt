use Rattle.fb_types.proofs.Common.{List, Option, Some, None, subst, refl, sym, ◌∙◌, arith, AllZip, take_all}
use Rattle.fb_check_names.proofs.lemmas.twice.Repeating.{same_within}
use Rattle.fb_read_positions.specs.Places.{IsPlaceFor}
use Rattle.fb_read_positions.specs.declared.position.Position.{Position}
use Rattle.fb_read_positions.proofs.lemmas.PlacesOfPositions.{found_at, one_placed}
use Rattle.fb_read_positions.proofs.position_places.places_among.Goals as goal

pub loop-position-preserved-in_default : goal.loop-position-preserved-in_default
loop-position-preserved-in_default c =
    let l = c.loop-position in
    let inv = l.invariant in
    let one = c.push_reserved.ensures in
    let here = sym c.in_default.is ∙ same_within c.args.positions.now l.position-index _ None c.loop-position-test.true in
    record {
      placed = one_placed c.args.declaration.now c.args.library.now c.args.positions.now l.position-index l.places.items c.push_reserved.new.self.items None None c.loop-position-test.true here one.items inv.placed refl;
      earlier = inv.earlier;
      reached = inv.reached;
      len = omega (arith, inv.len, one.len);
      room = omega (arith, inv.room, one.capacity);
    }

pub loop-position-preserved : goal.loop-position-preserved
loop-position-preserved c =
    let l = c.loop-position in
    let inv = l.invariant in
    let one = c.push_reserved-in-loop-position.ensures in
    let p = c.in-Some.position in
    let here = sym c.in-Some.is ∙ same_within c.args.positions.now l.position-index _ (Some p) c.loop-position-test.true in
    let place = c.place_of-earlier.ensures p c.args.library.now c.in_ok-found.ensures.found in
    record {
      placed = one_placed c.args.declaration.now c.args.library.now c.args.positions.now l.position-index l.places.items c.push_reserved-in-loop-position.new.self.items (Some p) c.place_of-earlier.result c.loop-position-test.true here one.items inv.placed place;
      earlier = found_at c.args.declaration.now c.args.library.now p c.place_of-earlier.result place;
      reached = c.in_ok-found.ensures.reached;
      len = omega (arith, inv.len, one.len);
      room = omega (arith, inv.room, one.capacity);
    }

pub returns : goal.returns
returns c =
    subst (λ (ps : List (Option Position)). AllZip (IsPlaceFor c.args.declaration.now c.args.library.now) ps c.loop-position.places.items)
    (take_all c.loop-position.position-index c.args.positions.now c.loop-position-test.false) c.loop-position.invariant.placed
