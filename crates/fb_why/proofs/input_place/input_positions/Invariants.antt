use Rattle.fb_types.proofs.Common.{List, ℕ, Bor, option_map, take, AllZip}
use Rattle.fb_why.specs.InputPlaces.{IsShownAt}
use Rattle.fb_why.proofs.input_place.input_positions.Given as goal

abbrev pub invariant-loop-one : goal.invariant-loop-one
invariant-loop-one l = AllZip (IsShownAt (option_map (λ (b : Bor (List ℕ)). b.now) l.deploy)) (take l.one-index l.found) l.positions.items
