use Rattle.fb_lint.proofs.lemmas.Common.{◌≡◌, ◌++◌, drop, flat_map, meant_all, all_standing}
use Rattle.fb_lint.specs.Statements.{read_standing}
use Rattle.fb_lint.proofs.statements.push_read_by.Given as goal

-- with what the rest adds, all is there
abbrev pub invariant-loop-standing : goal.invariant-loop-standing
invariant-loop-standing l = meant_all l.reads.items ++ flat_map read_standing (all_standing (drop l.standing-index l.statements)) ≡ meant_all l.fn.reads.items ++ flat_map read_standing (all_standing l.statements)
