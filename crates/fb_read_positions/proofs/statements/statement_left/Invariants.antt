use Rattle.std.proofs.Common.{◌≡◌, drop, true}
use Rattle.fb_read.specs.Tokens.{tokens_of}
use Rattle.fb_read_positions.specs.Walks.{to_statement}
use Rattle.fb_read_positions.proofs.statements.statement_left.Given as goal

abbrev pub invariant-loop-index : goal.invariant-loop-index
invariant-loop-index l = to_statement (tokens_of l.tokens) true l.count ≡ to_statement (tokens_of (drop l.index l.tokens)) l.ready l.before
