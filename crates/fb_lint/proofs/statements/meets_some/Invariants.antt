use Rattle.fb_types.proofs.Common.{◌≡◌, drop, list_any}
use Rattle.fb_lint.specs.Statements.{meets}
use Rattle.fb_lint.proofs.statements.meets_some.Given as goal

abbrev pub invariant-loop-other : goal.invariant-loop-other
invariant-loop-other l = list_any (meets l.label) l.others ≡ list_any (meets l.label) (drop l.other-index l.others)
