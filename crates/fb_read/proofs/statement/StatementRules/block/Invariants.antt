use Rattle.std.proofs.Common.{◌≡◌, ◌-◌}
use Rattle.fb_read.specs.Statements.{nested_statement, block, begins_statement, several_from}
use Rattle.fb_read.proofs.statement.StatementRules.block.Given as goal

abbrev pub invariant-loop-turn : goal.invariant-loop-turn
invariant-loop-turn g l = block (nested_statement l.self.below) l.fn.cursor ≡ several_from begins_statement (nested_statement l.self.below) (l._turn-end - l._turn) l.found l.cursor
