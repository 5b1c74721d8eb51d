use Rattle.fb_types.proofs.Common.{◌<◌, List, length, subst, arith, AllZip, take_all}
use Rattle.fb_check.specs.declared.location.Location.{Location}
use Rattle.fb_check_names.proofs.lemmas.twice.Repeating.{same_within}
use Rattle.fb_read_positions.specs.Places.{IsPlaceFor}
use Rattle.fb_why.specs.Places.{IsCheckedPlaceIf}
use Rattle.fb_why.specs.Positions.{position_of}
use Rattle.fb_why.proofs.lemmas.PairedLists.{as_many_paired, none_paired, one_paired, pair_at}
use Rattle.fb_why.proofs.marks.marked_among.Goals as goal

pub loop-index-init : goal.loop-index-init
loop-index-init c = none_paired (IsCheckedPlaceIf c.args.text.now) _ c.new-all.ensures.items

-- each location has a place at its index
pub bounds-places-index : goal.bounds-places-index
bounds-places-index c =
    let many = as_many_paired (IsPlaceFor c.args.text.now c.args.library.now) (position_of c.args.library.now) c.args.locations.now c.args.places.now c.requires.places in
    omega (arith, c.loop-index-test.true, many)

pub checked_place-requires-clause-place : goal.checked_place-requires-clause-place
checked_place-requires-clause-place c =
    let xs = c.args.locations.now in
    let ys = c.args.places.now in
    let i = c.loop-index.index in
    let R = IsPlaceFor c.args.text.now c.args.library.now in
    let within : i < length xs = c.loop-index-test.true in
    let placed : i < length ys = omega (arith, within, as_many_paired R (position_of c.args.library.now) xs ys c.requires.places) in
    pair_at R (position_of c.args.library.now) xs ys i _ _ c.requires.places within (same_within xs i _ _ within) (same_within ys i _ _ placed)

pub loop-index-preserved : goal.loop-index-preserved
loop-index-preserved c =
    let l = c.loop-index in
    let xs = c.args.locations.now in
    one_paired (IsCheckedPlaceIf c.args.text.now) xs l.index l.all.items c.push.new.self.items _ c.in_ok-place.place c.loop-index-test.true
    (same_within xs l.index _ _ c.loop-index-test.true) c.in_ok-push.ensures.items l.invariant c.in_ok-place.ensures

pub returns : goal.returns
returns c =
    let l = c.loop-index in
    subst (λ (ls : List Location). AllZip (IsCheckedPlaceIf c.args.text.now) ls l.all.items) (take_all l.index c.args.locations.now c.loop-index-test.false) l.invariant
