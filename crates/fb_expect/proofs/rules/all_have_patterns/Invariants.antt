use Rattle.fb_expect.proofs.lemmas.Common.{◌≡◌, drop, map, list_all, text_of}
use Rattle.fb_expect.specs.Needs.{has_patterns}
use Rattle.fb_expect.proofs.rules.all_have_patterns.Given as goal

abbrev pub invariant-loop-draft : goal.invariant-loop-draft
invariant-loop-draft l = list_all has_patterns (map text_of l.drafts) ≡ list_all has_patterns (map text_of (drop l.draft-index l.drafts))
