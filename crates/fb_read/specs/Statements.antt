-- What the parser of statements computes.
use Rattle.std.specs.Prelude.{ℕ, zero, suc, ℤ, pos, neg_ℤ, Bool, true, false, ◌||◌, if◌then◌else◌, List, [], ◌∷◌, ◌++◌, length, Option, Some, None, Ok, Err}
use Rattle.fb_types.specs.Names.{Name}
use Rattle.fb_types.specs.declared.text.Expr.{Expr}
use Rattle.fb_types.specs.declared.text.Stmt.{Stmt}
use Rattle.fb_types.specs.declared.text.Stmt.TheVariants as s
use Rattle.fb_types.specs.declared.text.Choice.{Choice}
use Rattle.fb_types.specs.declared.text.Branch.{Branch}
use Rattle.fb_types.specs.declared.text.Label.{Label}
use Rattle.fb_types.specs.declared.text.Body.{Body}
use Rattle.fb_read.specs.declared.token.Mark.{Mark}
use Rattle.fb_read.specs.declared.token.Mark.TheVariants as mark
use Rattle.fb_read.specs.declared.token.Token.TheVariants as token
use Rattle.fb_read.specs.Tokens.{Tokens}
use Rattle.fb_read.specs.Parser.{Parser, ◌>>=◌, ◌>>◌, pure, eat, expect, name, whole, sees, separated, too_deep}
use Rattle.fb_read.specs.Nesting.{most_nesting}
use Rattle.fb_read.specs.Expressions.{expression}
use Rattle.fb_read.specs.StatementNodes.{label_of, choice_of, branch_of, body_of}

-- a statement begins with this mark
abbrev pub begins_by : Mark → Bool
begins_by mark.Semicolon = true
begins_by mark.Exit = true
begins_by mark.Return = true
begins_by mark.If = true
begins_by mark.Case = true
begins_by mark.For = true
begins_by mark.While = true
begins_by mark.Repeat = true
begins_by _ = false

-- a statement may begin here
abbrev pub begins_statement : Tokens → Bool
begins_statement (token.Mark k ∷ ts) = begins_by k
begins_statement (token.Name text ∷ ts) = true
begins_statement _ = false

abbrev pub sees_whole : Tokens → Bool
sees_whole (token.Whole n ∷ ts) = true
sees_whole _ = false

-- a label may begin here
abbrev pub begins_label : Tokens → Bool
begins_label ts = sees mark.Minus ts || sees_whole ts

-- the items while one begins; by the number of iterations that are left and the items so far
unfoldable pub several_from : {A : Type 0} → (Tokens → Bool) → Parser A → ℕ → List A → Parser (List A)
several_from begins item zero found = pure found
several_from begins item (suc n) found = λ ts. if begins ts then (do
  x ← item
  several_from begins item n (found ++ x ∷ [])) ts else Ok (found, ts)

-- those so far, and the items while one begins
unfoldable pub several : {A : Type 0} → (Tokens → Bool) → Parser A → List A → Parser (List A)
several begins item found = λ ts. several_from begins item (length ts) found ts

unfoldable pub bound : Parser ℤ
bound = do
  is_negative ← eat mark.Minus
  if is_negative then (do
    n ← whole
    pure (neg_ℤ (pos n)))
      else (do
        n ← whole
        pure (pos n))

unfoldable pub label : Parser Label
label = do
  first ← bound
  is_range ← eat mark.DotDot
  if is_range then (do
    last ← bound
    pure (label_of first last))
      else pure (label_of first first)

unfoldable pub assignment : Parser Stmt
assignment = do
  target ← name
  expect mark.Assign
  value ← expression
  expect mark.Semicolon
  pure (s.Assign target value)

-- what follows FOR, up to DO
unfoldable pub step : Parser (Option Expr)
step = do
  some ← eat mark.By
  if some then (do
    x ← expression
    pure (Some x))
      else pure None

-- a statement that holds no others
unfoldable pub simple : Parser Stmt
simple = do
  is_empty ← eat mark.Semicolon
  if is_empty then pure s.Empty else (do
    is_exit ← eat mark.Exit
    if is_exit then (do
      expect mark.Semicolon
      pure s.Exit)
        else (do
          is_return ← eat mark.Return
          if is_return then (do
            expect mark.Semicolon
            pure s.Return)
              else assignment))

abbrev pub bounds : Expr → Option Expr → Expr × Option Expr
bounds end by = (end, by)

-- the end of a FOR and its step, from TO on
unfoldable pub for_end : Parser (Expr × Option Expr)
for_end = do
  expect mark.To
  end ← expression
  by ← step
  pure (bounds end by)

abbrev pub cases : List Branch → List Stmt → List Branch × List Stmt
cases found other = (found, other)

-- inner: the parser of the statements inside
module _ (inner : Parser Stmt) where
  unfoldable pub block : Parser (List Stmt)
  block = several begins_statement inner []

  -- a condition, and what is done after it
  unfoldable pub choice : Parser Choice
  choice = do
    condition ← expression
    expect mark.Then
    body ← block
    pure (choice_of condition body)

  unfoldable pub elsif : Parser Choice
  elsif = do
    expect mark.Elsif
    choice

  unfoldable pub choices : Parser (List Choice)
  choices = do
    first ← choice
    several (sees mark.Elsif) elsif (first ∷ [])

  unfoldable pub branch : Parser Branch
  branch = do
    labels ← separated label
    expect mark.Colon
    body ← block
    pure (branch_of labels body)

  unfoldable pub branches : Parser (List Branch)
  branches = do
    first ← branch
    several begins_label branch (first ∷ [])

  unfoldable pub others : Parser (List Stmt)
  others = do
    some ← eat mark.Else
    if some then block else pure []

  -- after IF
  unfoldable pub if_statement : Parser Stmt
  if_statement = do
    found ← choices
    other ← others
    expect mark.EndIf
    expect mark.Semicolon
    pure (s.If found other)

  -- the branches of a CASE and its ELSE, from OF on
  unfoldable pub case_body : Parser (List Branch × List Stmt)
  case_body = do
    expect mark.Of
    found ← branches
    other ← others
    expect mark.EndCase
    expect mark.Semicolon
    pure (cases found other)

  -- after CASE
  unfoldable pub case_statement : Parser Stmt
  case_statement = do
    selector ← expression
    inside ← case_body
    pure (s.Case selector inside.0 inside.1)

  -- the statements of a loop, from DO on, up to this mark and the end of the loop
  unfoldable pub loop_body : Mark → Parser (List Stmt)
  loop_body end = do
    expect mark.Do
    body ← block
    expect end
    expect mark.Semicolon
    pure body

  -- a FOR from its TO on
  unfoldable pub for_to : (variable : Name) (start : Expr) → Parser Stmt
  for_to variable start = do
    until ← for_end
    body ← loop_body mark.EndFor
    pure (s.For variable start until.0 until.1 body)

  -- after FOR
  unfoldable pub for_statement : Parser Stmt
  for_statement = do
    variable ← name
    expect mark.Assign
    start ← expression
    for_to variable start

  -- after WHILE
  unfoldable pub while_statement : Parser Stmt
  while_statement = do
    condition ← expression
    body ← loop_body mark.EndWhile
    pure (s.While condition body)

  -- after REPEAT
  unfoldable pub repeat_statement : Parser Stmt
  repeat_statement = do
    body ← block
    expect mark.Until
    condition ← expression
    expect mark.EndRepeat
    expect mark.Semicolon
    pure (s.Repeat body condition)

  unfoldable pub statement : Parser Stmt
  statement = do
    is_if ← eat mark.If
    if is_if then if_statement else (do
      is_case ← eat mark.Case
      if is_case then case_statement else (do
        is_for ← eat mark.For
        if is_for then for_statement else (do
          is_while ← eat mark.While
          if is_while then while_statement else (do
            is_repeat ← eat mark.Repeat
            if is_repeat then repeat_statement else simple))))

-- a statement that nests no deeper than this
unfoldable pub nested_statement : ℕ → Parser Stmt
nested_statement zero = λ ts. Err too_deep
nested_statement (suc depth) = statement (nested_statement depth)

-- the statements of an algorithm, and its end
unfoldable pub body : Parser Body
body = do
  statements ← block (nested_statement most_nesting)
  expect mark.EndAlgorithm
  pure (body_of statements)
