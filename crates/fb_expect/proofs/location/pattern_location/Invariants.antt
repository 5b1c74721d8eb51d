use Rattle.std.proofs.Common.{◌≡◌, map, take, true}
use Rattle.std.specs.List.{list_all}
use Rattle.fb_expect.specs.Drafts.{text_of}
use Rattle.fb_expect.specs.Needs.{has_patterns}
use Rattle.fb_expect.proofs.location.pattern_location.Given as goal

abbrev pub invariant-loop-rule : goal.invariant-loop-rule
invariant-loop-rule l = list_all has_patterns (take l.rule (map text_of l.drafts)) ≡ true
