-- The tokens of an expression as it was read (IEC 61131-3, 7.3.2): a literal and a name are one each.
use Rattle.std.specs.Prelude.{ℕ, ◌+◌, ◌-◌, ◌^◌, min, List, [], ◌∷◌}
use Rattle.fb_types.specs.declared.text.Expr as read
use Rattle.fb_types.specs.declared.text.Expr.TheOpen.{Expr-F}

-- The next token. Numbers end where those of the program do, which no text reaches.
abbrev pub next : ℕ → ℕ
next n = min (n + 1) (2 ^ 64 - 1)

-- the token after arguments, of which each has a comma or the closing parenthesis after it
abbrev pub past_each : List (ℕ → ℕ) → ℕ → ℕ
past_each [] n = n
past_each (a ∷ others) n = past_each others (next (a n))

-- the token after the arguments of a call, or after its parenthesis where it has none
abbrev pub past_call : List (ℕ → ℕ) → ℕ → ℕ
past_call [] n = next n
past_call (a ∷ others) n = past_each (a ∷ others) n

-- one node that was read, with where its parts end, from where they begin
abbrev pub past_step : Expr-F (ℕ → ℕ) → ℕ → ℕ
past_step (Expr-F.Whole z) n = next n
past_step (Expr-F.Truth b) n = next n
past_step (Expr-F.Variable v) n = next n
past_step (Expr-F.Group e) n = next (e (next n))
past_step (Expr-F.Unary o e) n = e (next n)
past_step (Expr-F.Binary o e f) n = f (next (e n))
past_step (Expr-F.Call f args) n = past_call args (next (next n))

-- the token after an expression that begins at a token
abbrev pub past : read.Expr → ℕ → ℕ
past = read.fold-Expr (ℕ → ℕ) past_step
