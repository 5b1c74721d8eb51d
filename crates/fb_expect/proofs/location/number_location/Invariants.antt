use Rattle.std.proofs.Common.{◌≡◌, map, take, true}
use Rattle.std.specs.List.{list_all}
use Rattle.fb_expect.specs.Drafts.{text_of}
use Rattle.fb_expect.specs.Locations.{has_numbers}
use Rattle.fb_expect.proofs.location.number_location.Given as goal

abbrev pub invariant-loop-rule : goal.invariant-loop-rule
invariant-loop-rule l = list_all has_numbers (take l.rule (map text_of l.drafts)) ≡ true
