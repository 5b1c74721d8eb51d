use Rattle.fb_expect.proofs.lemmas.Common.{◌≡◌, drop, map, text_of, each}
use Rattle.fb_expect.specs.Needs.{rule_of}
use Rattle.fb_expect.proofs.lemmas.documents.EachMayFail.{with_front}
use Rattle.fb_expect.proofs.rules.each_rule.Given as goal

abbrev pub invariant-loop-draft : goal.invariant-loop-draft
invariant-loop-draft l = each rule_of (map text_of l.drafts) ≡ with_front l.rules (each rule_of (map text_of (drop l.draft-index l.drafts)))
