use Rattle.fb_read.proofs.lemmas.Common.{◌≡◌, ◌-◌, nested_statement, branches, branch, begins_label, several_from}
use Rattle.fb_read.proofs.statement.StatementRules.branches.Given as goal

abbrev pub invariant-loop-turn : goal.invariant-loop-turn
invariant-loop-turn g l = branches (nested_statement l.self.below) l.fn.cursor ≡ several_from begins_label (branch (nested_statement l.self.below)) (l._turn-end - l._turn) l.found l.cursor
