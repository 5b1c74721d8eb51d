use Rattle.fb_types.proofs.Common.{◌≡◌, ◌≤◌, length, take, vec_len, vec_capacity, AllZip}
use Rattle.fb_types.specs.declared.library.Library.{Library}
use Rattle.fb_read_positions.specs.Places.{IsPlaceFor}
use Rattle.fb_read_positions.proofs.position_places.no_places.Given as goal

abbrev pub invariant-loop-position : goal.invariant-loop-position
invariant-loop-position l = record {
  placed : (library : Library) → AllZip (IsPlaceFor l.declaration library) (take l._position-index l.positions) l.places.items;
  len : vec_len l.places ≡ l._position-index;
  room : length l.positions ≤ vec_capacity l.places;
}
