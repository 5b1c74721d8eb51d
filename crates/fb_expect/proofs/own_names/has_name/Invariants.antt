use Rattle.std.proofs.Common.{◌≡◌, drop, map}
use Rattle.fb_expect.specs.Drafts.{text_of}
use Rattle.fb_expect.specs.OwnNames.{has_name}
use Rattle.fb_expect.proofs.own_names.has_name.Given as goal

abbrev pub invariant-loop-draft : goal.invariant-loop-draft
invariant-loop-draft l = has_name l.name (map text_of l.drafts) ≡ has_name l.name (map text_of (drop l.draft-index l.drafts))
