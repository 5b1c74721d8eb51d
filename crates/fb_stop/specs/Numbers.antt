-- How the statements of an algorithm are counted: as they begin in the text, those inside others too (this project's own).
use Rattle.std.specs.Prelude.{ℕ, ◌+◌, ◌-◌, ◌^◌, ◌<◌, min}
use Rattle.fb_types.specs.Syntax.{Stmt, Empty, Exit, Return, Assign, If, Case, For, While, Repeat, Stmts, no_stmt, then_stmts, Choices, no_choice, then_choices, Branches, no_branch, then_branches}

-- The next number. Numbers end where those of the program do, which no text reaches.
abbrev pub next : ℕ → ℕ
next n = min (n + 1) (2 ^ 64 - 1)

-- A text may reach the number, so that it is that of one statement alone.
abbrev pub IsReached : ℕ → Type 0
IsReached n = n < 2 ^ 64 - 1

abbrev mutual
  -- the number of what follows a statement of this number
  pub after : Stmt → ℕ → ℕ
  after Empty n = next n
  after Exit n = next n
  after Return n = next n
  after (Assign v x) n = next n
  after (If choices others) n = after_all others (after_choices choices (next n))
  after (Case x branches others) n = after_all others (after_branches branches (next n))
  after (For v start end step body) n = after_all body (next n)
  after (While c body) n = after_all body (next n)
  after (Repeat body c) n = after_all body (next n)

  -- the number after statements, of which the first has this number
  pub after_all : Stmts → ℕ → ℕ
  after_all no_stmt n = n
  after_all (then_stmts s rest) n = after_all rest (after s n)

  pub after_choices : Choices → ℕ → ℕ
  after_choices no_choice n = n
  after_choices (then_choices c body rest) n = after_choices rest (after_all body n)

  pub after_branches : Branches → ℕ → ℕ
  after_branches no_branch n = n
  after_branches (then_branches labels body rest) n = after_branches rest (after_all body n)
