use Rattle.std.proofs.Common.{◌≡◌, ℕ, List, Option, Some, None, length, map, ap, sym, ◌∙◌, arith}
use Rattle.std.specs.Prelude.{slice_get}
use Rattle.std.proofs.lemmas.List.{length-map}
use Rattle.toml.specs.Data.{Data}
use Rattle.toml.specs.View.{view}
use Rattle.fb_expect.specs.Locations.{has_shape}
use Rattle.fb_expect.proofs.lemmas.documents.Locating.{all-next, all-whole, seen-at}
use Rattle.fb_expect.proofs.location.shape_location.Goals as goal

pub loop-rule-preserved : goal.loop-rule-preserved
loop-rule-preserved c =
    let ds = map view c.args.values.now in
    let d = view c.index-values-rule.result in
    let there : slice_get ds c.loop-rule.rule ≡ Some d = seen-at view c.args.values.now c.loop-rule.rule c.index-values-rule.result (omega arith) c.index-values-rule.is in
    all-next has_shape ds c.loop-rule.rule d there c.loop-rule.invariant c.in_default.ensures.none

pub returns-clause-none : goal.returns-clause-none
returns-clause-none c =
    let ds = map view c.args.values.now in
    let long : length ds ≡ length c.args.values.now = length-map c.args.values.now view in
    all-whole has_shape ds c.loop-rule.rule (omega (arith, long)) c.loop-rule.invariant
