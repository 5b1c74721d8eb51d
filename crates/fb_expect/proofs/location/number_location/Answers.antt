use Rattle.std.proofs.Common.{◌≡◌, ℕ, List, Option, Some, None, length, map, refl, ap, sym, ◌∙◌, arith}
use Rattle.std.specs.Prelude.{is_some, option_map, slice_get}
use Rattle.std.proofs.lemmas.List.{length-map}
use Rattle.fb_expect.specs.Drafts.{text_of}
use Rattle.fb_expect.specs.Locations.{has_numbers}
use Rattle.fb_expect.specs.Reading.{most_rules}
use Rattle.std.proofs.Common.{◌≤◌, ◌<◌, true, false}
use Rattle.std.proofs.lemmas.Bool.{le-leb}
use Rattle.fb_expect.proofs.lemmas.documents.Locating.{all-next, all-whole, seen-at, number-refused, numbers-read, over-most}
use Rattle.fb_expect.proofs.location.number_location.Goals as goal

pub loop-rule-preserved : goal.loop-rule-preserved
loop-rule-preserved c =
    let ts = map text_of c.args.drafts.now in
    let t = text_of c.index-drafts-rule.result in
    let there : slice_get ts c.loop-rule.rule ≡ Some t = seen-at text_of c.args.drafts.now c.loop-rule.rule c.index-drafts-rule.result (omega arith) c.index-drafts-rule.is in
    all-next has_numbers ts c.loop-rule.rule t there c.loop-rule.invariant c.in_default.ensures.none

pub returns-in-Some-clause-exact : goal.returns-in-Some-clause-exact
returns-in-Some-clause-exact c = λ patterns.
    let ts = map text_of c.args.drafts.now in
    let t = text_of c.index-drafts-rule.result in
    let there : slice_get ts c.loop-rule.rule ≡ Some t = seen-at text_of c.args.drafts.now c.loop-rule.rule c.index-drafts-rule.result (omega arith) c.index-drafts-rule.is in
    number-refused ts c.loop-rule.rule t there c.in-Some.ensures.fault.out

pub returns-then-drafts-gt-MOST_RULES-clause-exact : goal.returns-then-drafts-gt-MOST_RULES-clause-exact
returns-then-drafts-gt-MOST_RULES-clause-exact c = λ patterns.
    let ts = map text_of c.args.drafts.now in
    let long : length ts ≡ length c.args.drafts.now = length-map c.args.drafts.now text_of in
    let over : most_rules < length ts = omega (arith, long) in
    numbers-read ts (all-whole has_numbers ts c.loop-rule.rule (omega (arith, long)) c.loop-rule.invariant) patterns false (over-most (length ts) most_rules over)

pub returns-else-drafts-gt-MOST_RULES-clause-exact : goal.returns-else-drafts-gt-MOST_RULES-clause-exact
returns-else-drafts-gt-MOST_RULES-clause-exact c = λ patterns.
    let ts = map text_of c.args.drafts.now in
    let long : length ts ≡ length c.args.drafts.now = length-map c.args.drafts.now text_of in
    let within : length ts ≤ most_rules = omega (arith, long) in
    c.name_location.ensures.exact
    ∙ numbers-read ts (all-whole has_numbers ts c.loop-rule.rule (omega (arith, long)) c.loop-rule.invariant) patterns true (le-leb (length ts) most_rules within)
