use Rattle.std.proofs.Common.{◌≡◌, ◌++◌, drop}
use Rattle.fb_expect.specs.Shown.{shown_after}
use Rattle.fb_expect.proofs.shown.shown.Given as goal

abbrev pub invariant-loop-index : goal.invariant-loop-index
invariant-loop-index l = l.text.items ++ shown_after l.skipped (drop l.index l.part) ≡ shown_after 0 l.part
