use Rattle.std.proofs.Common.{List, get_or, subst, take, take_all}
use Rattle.std.specs.List.{AllZip}
use Rattle.fb_read.specs.declared.token.Span.{Span}
use Rattle.fbsim_command.specs.WarningLines.{IsPlaceNear}
use Rattle.fbsim_command.proofs.lemmas.files.Counting.{same-item}
use Rattle.fbsim_command.proofs.lemmas.files.PlacedLines.{places_next}
use Rattle.fbsim_command.proofs.row_places.places_of_spans.Goals as goal

-- what stands beyond the end
abbrev nothing : Span
nothing = record { start = 0; end = 0 }

pub loop-span-preserved : goal.loop-span-preserved
loop-span-preserved c =
    let k = c.loop-span.span-index in
    let s = get_or c.args.spans.now k nothing in
    record {
      earlier = c.place_counted_from-place.ensures.place;
      placed = places_next c.args.text.now c.args.spans.now k s c.loop-span.places.items c.push.new.self.items c.place_counted_from-place.result c.loop-span-test.true
          (same-item c.args.spans.now k nothing s c.loop-span-test.true) c.loop-span.invariant.placed c.place_counted_from-place.ensures.place c.place_counted_from-place.ensures.there c.place_counted_from-place.ensures.within c.in_ok-push.ensures.items;
    }

pub returns : goal.returns
returns c =
    subst (λ (xs : List Span). AllZip (IsPlaceNear c.args.text.now) xs c.loop-span.places.items) (take_all c.loop-span.span-index c.args.spans.now c.loop-span-test.false) c.loop-span.invariant.placed
