use Rattle.std.proofs.Common.{IfSome, take}
use Rattle.std.specs.List.{AllZip}
use Rattle.fb_read_positions.specs.Places.{IsPlace}
use Rattle.fbsim_command.specs.WarningLines.{IsPlaceNear}
use Rattle.fbsim_command.proofs.row_places.places_of_spans.Given as goal

abbrev pub invariant-loop-span : goal.invariant-loop-span
invariant-loop-span l = record {
  earlier : IfSome l.earlier (IsPlace l.text);
  placed : AllZip (IsPlaceNear l.text) (take l.span-index l.spans) l.places.items;
}
