use Rattle.std.proofs.Common.{◌≡◌, ◌≤◌, ◌+◌, drop}
use Rattle.fb_read.specs.Tokens.{tokens_of}
use Rattle.fb_read_positions.specs.Walks.{depth_at, to_clause}
use Rattle.fb_read_positions.proofs.clauses.clause_left.Given as goal

abbrev pub invariant-loop-index : goal.invariant-loop-index
invariant-loop-index l =
    (to_clause (tokens_of l.tokens) (depth_at (tokens_of l.tokens)) l.count ≡ to_clause (tokens_of (drop l.index l.tokens)) l.depth l.before) × (l.depth ≤ l.index + 1)
