use Rattle.std.proofs.Common.{◌≡◌, ℕ, List, Option, Some, None, length, map, refl, ap, sym, ◌∙◌, arith}
use Rattle.std.specs.Prelude.{is_some, option_map, slice_get}
use Rattle.std.proofs.lemmas.List.{length-map}
use Rattle.fb_expect.specs.Drafts.{text_of}
use Rattle.fb_expect.specs.Needs.{has_patterns}
use Rattle.fb_expect.specs.declared.location.RuleKey.{RuleKey}
use Rattle.fb_expect.proofs.lemmas.documents.Locating.{all-fails, all-next, all-whole, seen-at, not-so, so-not}
use Rattle.fb_expect.proofs.location.pattern_location.Goals as goal

pub loop-rule-preserved : goal.loop-rule-preserved
loop-rule-preserved c =
    let ts = map text_of c.args.drafts.now in
    let t = text_of c.index-drafts-rule.result in
    let there : slice_get ts c.loop-rule.rule ≡ Some t = seen-at text_of c.args.drafts.now c.loop-rule.rule c.index-drafts-rule.result (omega arith) c.index-drafts-rule.is in
    all-next has_patterns ts c.loop-rule.rule t there c.loop-rule.invariant
    (so-not (has_patterns t) (ap (λ (o : Option RuleKey). is_some o) (sym c.in_default.is) ∙ c.in_ok-key.ensures.exact))

pub returns-in-Some-clause-exact : goal.returns-in-Some-clause-exact
returns-in-Some-clause-exact c =
    let ts = map text_of c.args.drafts.now in
    let t = text_of c.index-drafts-rule.result in
    let there : slice_get ts c.loop-rule.rule ≡ Some t = seen-at text_of c.args.drafts.now c.loop-rule.rule c.index-drafts-rule.result (omega arith) c.index-drafts-rule.is in
    rw (all-fails has_patterns ts c.loop-rule.rule t there
    (not-so (has_patterns t) (ap (λ (o : Option RuleKey). is_some o) (sym c.in-Some.is) ∙ c.in_ok-key.ensures.exact))) refl

pub returns-clause-exact : goal.returns-clause-exact
returns-clause-exact c =
    let ts = map text_of c.args.drafts.now in
    let long : length ts ≡ length c.args.drafts.now = length-map c.args.drafts.now text_of in
    rw (all-whole has_patterns ts c.loop-rule.rule (omega (arith, long)) c.loop-rule.invariant) refl
