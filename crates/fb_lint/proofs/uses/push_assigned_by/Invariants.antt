use Rattle.fb_lint.proofs.lemmas.Common.{◌≡◌, ◌++◌, drop, flat_map, all_standing, names_are}
use Rattle.fb_lint.specs.Reads as spec
use Rattle.fb_lint.proofs.uses.push_assigned_by.Given as goal

-- with what the rest adds, all is there
abbrev pub invariant-loop-standing : goal.invariant-loop-standing
invariant-loop-standing l = names_are l.names.items ++ flat_map spec.assigned_by (all_standing (drop l.standing-index l.statements)) ≡ names_are l.fn.names.items ++ flat_map spec.assigned_by (all_standing l.statements)
