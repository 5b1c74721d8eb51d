use Rattle.fb_types.proofs.Common.{take, AllZip}
use Rattle.fb_why.specs.Places.{IsCheckedPlaceIf}
use Rattle.fb_why.proofs.marks.marked_among.Given as goal

abbrev pub invariant-loop-index : goal.invariant-loop-index
invariant-loop-index l = AllZip (IsCheckedPlaceIf l.text) (take l.index l.locations) l.all.items
