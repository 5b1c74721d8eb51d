use Rattle.fb_types.proofs.Common.{◌<◌, Bor, List, ℕ, Option, length, option_map, subst, arith, AllZip, take_all}
use Rattle.fb_check_names.proofs.lemmas.twice.Repeating.{same_within}
use Rattle.fb_why.specs.InputPlaces.{IsNearIn, IsPlaceFor, row_of}
use Rattle.fb_why.specs.declared.input_place.InputPosition.{InputPosition}
use Rattle.fb_why.proofs.lemmas.PairedLists.{as_many_paired, none_paired, one_paired, pair_at}
use Rattle.fb_why.proofs.input_place.places_of.Goals as goal

abbrev bytes : Option (Bor (List ℕ)) → Option (List ℕ)
bytes o = option_map (λ (b : Bor (List ℕ)). b.now) o

pub loop-index-init : goal.loop-index-init
loop-index-init c = none_paired (IsPlaceFor (bytes c.args.deploy) (bytes c.args.stimuli)) _ c.new-places.ensures.items

-- each position has a span at its index
pub bounds-spans-index : goal.bounds-spans-index
bounds-spans-index c = omega (arith, c.loop-index-test.true, as_many_paired (IsNearIn (bytes c.args.stimuli)) row_of c.args.positions.now c.args.spans.now c.requires.near)

pub place_of-requires-clause-near : goal.place_of-requires-clause-near
place_of-requires-clause-near c =
    let xs = c.args.positions.now in
    let ys = c.args.spans.now in
    let i = c.loop-index.index in
    let within : i < length xs = c.loop-index-test.true in
    let near : i < length ys = omega (arith, within, as_many_paired (IsNearIn (bytes c.args.stimuli)) row_of xs ys c.requires.near) in
    pair_at (IsNearIn (bytes c.args.stimuli)) row_of xs ys i _ _ c.requires.near within (same_within xs i _ _ within) (same_within ys i _ _ near)

pub place_of-requires-clause-read : goal.place_of-requires-clause-read
place_of-requires-clause-read c = c.requires.read c.loop-index.index _ c.loop-index-test.true

pub loop-index-preserved : goal.loop-index-preserved
loop-index-preserved c =
    let l = c.loop-index in
    let xs = c.args.positions.now in
    one_paired (IsPlaceFor (bytes c.args.deploy) (bytes c.args.stimuli)) xs l.index l.places.items c.push.new.self.items _ c.in_ok-place.place c.loop-index-test.true
    (same_within xs l.index _ _ c.loop-index-test.true) c.in_ok-push.ensures.items l.invariant c.in_ok-place.ensures

pub returns : goal.returns
returns c =
    let l = c.loop-index in
    subst (λ (ps : List (Option InputPosition)). AllZip (IsPlaceFor (bytes c.args.deploy) (bytes c.args.stimuli)) ps l.places.items)
    (take_all l.index c.args.positions.now c.loop-index-test.false) l.invariant
