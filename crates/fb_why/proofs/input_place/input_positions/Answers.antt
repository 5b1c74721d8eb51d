use Rattle.fb_types.proofs.Common.{Bor, List, ℕ, option_map, subst, AllZip, take_all}
use Rattle.fb_why.specs.InputPlaces.{IsShownAt}
use Rattle.fb_why.specs.declared.place.PlacedFinding.{PlacedFinding}
use Rattle.fb_why.proofs.lemmas.PairedLists.{none_paired, one_paired}
use Rattle.fb_why.proofs.input_place.input_positions.Goals as goal

pub loop-one-init : goal.loop-one-init
loop-one-init c = none_paired (IsShownAt (option_map (λ (b : Bor (List ℕ)). b.now) c.args.deploy)) _ c.new-positions.ensures.items

pub loop-one-preserved : goal.loop-one-preserved
loop-one-preserved c =
    let l = c.loop-one in
    one_paired (IsShownAt (option_map (λ (b : Bor (List ℕ)). b.now) c.args.deploy)) c.args.found.now l.one-index l.positions.items c.push.new.self.items c.one-item.result c.in_ok-input_position.field-0 c.loop-one-test.true
    c.one-item.is c.in_ok-push.ensures.items l.invariant c.in_ok-input_position.ensures

pub returns : goal.returns
returns c =
    subst (λ (fs : List PlacedFinding). AllZip (IsShownAt (option_map (λ (b : Bor (List ℕ)). b.now) c.args.deploy)) fs c.loop-one.positions.items)
    (take_all c.loop-one.one-index c.args.found.now c.loop-one-test.false) c.loop-one.invariant
