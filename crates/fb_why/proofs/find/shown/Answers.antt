use Rattle.fb_types.proofs.Common.{◌≡◌, Option, None, false, subst, true, arith, IsTrue}
use Rattle.std.specs.Option.{is_some}
use Rattle.fb_read.proofs.lemmas.tokens.PlaceLaws.{inside}
use Rattle.fb_read_positions.specs.Places.{IsWithin}
use Rattle.fb_read_positions.specs.declared.places.Place.{Place}
use Rattle.fb_why.proofs.find.shown.Goals as goal

none_there : (o : Option Place) → IsTrue (is_some o) → o ≡ None → ⊥
none_there o some none = let no : false ≡ true = subst (λ (x : Option Place). IsTrue (is_some x)) none some in cc

pub end_of_earlier_line-requires : goal.end_of_earlier_line-requires
end_of_earlier_line-requires c =
    let here = inside c.args.refusal.fault c.args.text.now c.args.refusal.start c.args.refusal.end c.requires in
    omega (arith, here.ordered, here.within)

pub unreachable-requires : goal.unreachable-requires
unreachable-requires c =
    let w = inside c.args.refusal.fault c.args.text.now c.args.refusal.start c.args.refusal.end c.requires in
    let there : IsWithin c.args.text.now c.args.refusal.start c.args.refusal.end = record { after = w.after; ordered = w.ordered; within = w.within } in
    none_there c.place_between.result (c.place_between.ensures.within there) c.in-None.is
