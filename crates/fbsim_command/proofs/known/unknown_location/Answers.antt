use Rattle.fb_types.proofs.Common.{MatchOption, Option, length, refl, slice_get_read, subst, true, ◌≡◌}
use Rattle.fb_expect.specs.declared.location.RuleKey.{RuleKey}
use Rattle.fbsim_command.specs.OfSystem.{IsUnknownKey, has_rule}
use Rattle.fbsim_command.proofs.known.unknown_location.Goals as goal

pub returns-in-Some : goal.returns-in-Some
returns-in-Some c =
    let rules = c.args.rules.now in
    let rule = c.index-rules-index.result in
    record {
      rule = rule;
      there = slice_get_read rules (length rules) c.loop-index.index rule refl c.loop-index-test.true c.index-rules-index.is;
      so = subst (λ (o : Option RuleKey). MatchOption o (has_rule c.args.system.now rule ≡ true) (IsUnknownKey c.args.system.now rule)) c.in-Some.is c.in_ok-key.ensures;
    }
