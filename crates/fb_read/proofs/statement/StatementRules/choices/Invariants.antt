use Rattle.fb_read.proofs.lemmas.Common.{◌≡◌, ◌-◌, sees, nested_statement, choices, elsif, several_from}
use Rattle.fb_read.specs.declared.token.Mark.TheVariants as mark
use Rattle.fb_read.proofs.statement.StatementRules.choices.Given as goal

abbrev pub invariant-loop-turn : goal.invariant-loop-turn
invariant-loop-turn g l = choices (nested_statement l.self.below) l.fn.cursor ≡ several_from (sees mark.Elsif) (elsif (nested_statement l.self.below)) (l._turn-end - l._turn) l.found l.cursor
