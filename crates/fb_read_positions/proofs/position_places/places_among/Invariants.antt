use Rattle.fb_types.proofs.Common.{◌≡◌, ◌≤◌, length, take, vec_len, vec_capacity, AllZip, IfSome}
use Rattle.fb_read_positions.specs.Places.{IsPlace, IsPlaceFor}
use Rattle.fb_read_positions.specs.Resumed.{IsReached}
use Rattle.fb_read_positions.proofs.position_places.places_among.Given as goal

abbrev pub invariant-loop-position : goal.invariant-loop-position
invariant-loop-position l = record {
  placed : AllZip (IsPlaceFor l.declaration l.library) (take l.position-index l.positions) l.places.items;
  earlier : IfSome l.earlier (IsPlace l.declaration);
  reached : IsReached l.tokens l.reached;
  len : vec_len l.places ≡ l.position-index;
  room : length l.positions ≤ vec_capacity l.places;
}
