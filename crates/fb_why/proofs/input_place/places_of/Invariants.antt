use Rattle.fb_types.proofs.Common.{List, ℕ, Bor, option_map, take, AllZip}
use Rattle.fb_why.specs.InputPlaces.{IsPlaceFor}
use Rattle.fb_why.proofs.input_place.places_of.Given as goal

abbrev pub invariant-loop-index : goal.invariant-loop-index
invariant-loop-index l =
    AllZip (IsPlaceFor (option_map (λ (b : Bor (List ℕ)). b.now) l.deploy) (option_map (λ (b : Bor (List ℕ)). b.now) l.stimuli)) (take l.index l.positions) l.places.items
