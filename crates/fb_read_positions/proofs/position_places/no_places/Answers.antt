use Rattle.fb_types.proofs.Common.{List, Option, None, get_or, subst, arith, AllZip, take_all}
use Rattle.fb_check_names.proofs.lemmas.twice.Repeating.{same_within}
use Rattle.fb_read_positions.specs.Places.{IsPlaceFor}
use Rattle.fb_read_positions.specs.declared.position.Position.{Position}
use Rattle.fb_read_positions.proofs.lemmas.PlacesOfPositions.{no_place, one_placed}
use Rattle.fb_read_positions.proofs.position_places.no_places.Goals as goal

pub loop-position-preserved : goal.loop-position-preserved
loop-position-preserved c =
    let l = c.loop-position in
    let ps = c.args.positions.now in
    let one = c.push_reserved.ensures in
    let p = get_or ps l._position-index None in
    record {
      placed = λ library.
          one_placed c.args.declaration.now library ps l._position-index l.places.items c.push_reserved.new.self.items p None c.loop-position-test.true
          (same_within ps l._position-index None p c.loop-position-test.true) one.items (l.invariant.placed library) (no_place c.args.declaration.now library p c.requires);
      len = omega (arith, l.invariant.len, one.len);
      room = omega (arith, l.invariant.room, one.capacity);
    }

pub returns : goal.returns
returns c = λ library.
    subst (λ (ps : List (Option Position)). AllZip (IsPlaceFor c.args.declaration.now library) ps c.loop-position.places.items)
    (take_all c.loop-position._position-index c.args.positions.now c.loop-position-test.false) (c.loop-position.invariant.placed library)
