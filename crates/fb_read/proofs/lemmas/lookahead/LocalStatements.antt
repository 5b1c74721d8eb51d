-- The rules of statements look one token ahead.
use Rattle.fb_read.proofs.lemmas.Common.{ℕ, zero, suc, List, [], ◌∷◌, Some, None, pos, refl, Name, Expr, Label, Stmt, choice_of, branch_of, Mark, Parser, ◌>>=◌, pure, eat, expect, name, whole, sees, after, separated, most_nesting, expression, begins_statement, begins_label, assignment, simple, for_end, choice, elsif, choices, branch, branches, others, if_statement, case_body, case_statement, loop_body, for_to, for_statement, while_statement, repeat_statement, statement, nested_statement, body}
use Rattle.fb_types.proofs.Common.{neg_ℤ}
use Rattle.fb_read.specs.StatementNodes.{label_of, body_of}
use Rattle.fb_types.specs.declared.text.Stmt.TheVariants as s
use Rattle.fb_read.specs.declared.token.Token.TheVariants as token
use Rattle.fb_read.specs.declared.token.Mark.TheVariants as mark
use Rattle.fb_read.specs.Statements.{bound, label, step, bounds, cases, block}
use Rattle.fb_read.proofs.lemmas.statements.StatementLengths.{label-shorter, statement-shorter}
use Rattle.fb_read.proofs.lemmas.statements.StatementSound.{label-sound, nested-right}
use Rattle.fb_read.proofs.lemmas.lookahead.OneTokenAhead.{Local, Nests, nests-of, local-bind, local-pure, nests-deep, HeadOnly, local-cond}
use Rattle.fb_read.proofs.lemmas.lookahead.LocalSteps.{Advances, local-eat, local-expect, local-name, local-whole}
use Rattle.fb_read.proofs.lemmas.lookahead.LocalLoops.{IsNoneAtEnd, sees-head, local-several, local-separated}
use Rattle.fb_read.proofs.lemmas.lookahead.LocalRules.{advances-bind, advances-expect, advances-separated, local-ended}
use Rattle.fb_read.proofs.lemmas.lookahead.LocalExpressions.{local-expression}

statement-head : HeadOnly begins_statement
statement-head (token.Mark k) ts = refl
statement-head (token.Name t) ts = refl
statement-head (token.Whole n) ts = refl
statement-head (token.Time n) ts = refl

label-head : HeadOnly begins_label
label-head (token.Mark k) ts = refl
label-head (token.Name t) ts = refl
label-head (token.Whole n) ts = refl
label-head (token.Time n) ts = refl

local-bound : Local bound
unfolding bound
local-bound =
    local-bind (eat mark.Minus) _ (local-eat mark.Minus) (λ b. local-cond b _ _
    (local-bind whole _ local-whole (λ n. local-pure (neg_ℤ (pos n))))
    (local-bind whole _ local-whole (λ n. local-pure (pos n))))

local-label : Local label
unfolding label
local-label =
    local-bind bound _ local-bound (λ first. local-bind (eat mark.DotDot) _ (local-eat mark.DotDot) (λ b. local-cond b _ _
    (local-bind bound _ local-bound (λ last. local-pure (label_of first last)))
    (local-pure (label_of first first))))

advances-label : Advances label
advances-label ts rest x h = label-shorter x ts rest (label-sound ts x rest h)

none-label : IsNoneAtEnd label
unfolding label bound after whole
none-label = refl

local-assignment : Local assignment
unfolding assignment
local-assignment =
    local-bind name _ local-name (λ target. local-bind (expect mark.Assign) _ (local-expect mark.Assign) (λ _. local-bind expression _ local-expression (λ value. local-ended mark.Semicolon (s.Assign target value))))

local-step : Local step
unfolding step
local-step = local-bind (eat mark.By) _ (local-eat mark.By) (λ b. local-cond b _ _ (local-bind expression _ local-expression (λ x. local-pure (Some x))) (local-pure None))

local-simple : Local simple
unfolding simple
local-simple =
    local-bind (eat mark.Semicolon) _ (local-eat mark.Semicolon) (λ a. local-cond a _ _ (local-pure s.Empty)
    (local-bind (eat mark.Exit) _ (local-eat mark.Exit) (λ b. local-cond b _ _ (local-ended mark.Semicolon s.Exit)
    (local-bind (eat mark.Return) _ (local-eat mark.Return) (λ c. local-cond c _ _ (local-ended mark.Semicolon s.Return) local-assignment)))))

local-for_end : Local for_end
unfolding for_end
local-for_end =
    local-bind (expect mark.To) _ (local-expect mark.To) (λ _. local-bind expression _ local-expression (λ end. local-bind step _ local-step (λ by. local-pure (bounds end by))))

-- two marks at the end
local-finished : {A : Type 0} (k : Mark) (x : A) → Local (expect k >>= (λ _. expect mark.Semicolon >>= (λ _. pure x)))
local-finished k x = local-bind (expect k) _ (local-expect k) (λ _. local-ended mark.Semicolon x)

module _ (inner : Parser Stmt) (l : Nests inner) (adv : Advances inner) where
  local-block : Local (block inner)
  unfolding block
  local-block = local-several begins_statement inner statement-head refl l adv []

  local-choice : Local (choice inner)
  unfolding choice
  local-choice =
      local-bind expression _ local-expression (λ condition. local-bind (expect mark.Then) _ (local-expect mark.Then) (λ _. local-bind (block inner) _ local-block (λ body. local-pure (choice_of condition body))))

  local-elsif : Local (elsif inner)
  unfolding elsif
  local-elsif = local-bind (expect mark.Elsif) _ (local-expect mark.Elsif) (λ _. local-choice)

  advances-elsif : Advances (elsif inner)
  unfolding elsif
  advances-elsif = advances-bind (expect mark.Elsif) _ (advances-expect mark.Elsif) (λ _. local-choice)

  local-choices : Local (choices inner)
  unfolding choices
  local-choices = local-bind (choice inner) _ local-choice (λ first. local-several (sees mark.Elsif) (elsif inner) (sees-head mark.Elsif) refl (nests-of local-elsif) advances-elsif (first ∷ []))

  branch-rest : (labels : List Label) → Local (expect mark.Colon >>= (λ _. block inner >>= (λ body. pure (branch_of labels body))))
  branch-rest labels = local-bind (expect mark.Colon) _ (local-expect mark.Colon) (λ _. local-bind (block inner) _ local-block (λ body. local-pure (branch_of labels body)))

  local-branch : Local (branch inner)
  unfolding branch
  local-branch = local-bind (separated label) _ (local-separated label local-label advances-label none-label) (λ labels. branch-rest labels)

  advances-branch : Advances (branch inner)
  unfolding branch
  advances-branch = advances-bind (separated label) _ (advances-separated label local-label advances-label) (λ labels. branch-rest labels)

  local-branches : Local (branches inner)
  unfolding branches
  local-branches = local-bind (branch inner) _ local-branch (λ first. local-several begins_label (branch inner) label-head refl (nests-of local-branch) advances-branch (first ∷ []))

  local-others : Local (others inner)
  unfolding others
  local-others = local-bind (eat mark.Else) _ (local-eat mark.Else) (λ b. local-cond b _ _ local-block (local-pure []))

  local-if_statement : Local (if_statement inner)
  unfolding if_statement
  local-if_statement = local-bind (choices inner) _ local-choices (λ found. local-bind (others inner) _ local-others (λ other. local-finished mark.EndIf (s.If found other)))

  local-case_body : Local (case_body inner)
  unfolding case_body
  local-case_body =
      local-bind (expect mark.Of) _ (local-expect mark.Of) (λ _. local-bind (branches inner) _ local-branches (λ found. local-bind (others inner) _ local-others (λ other. local-finished mark.EndCase (cases found other))))

  local-case_statement : Local (case_statement inner)
  unfolding case_statement
  local-case_statement = local-bind expression _ local-expression (λ selector. local-bind (case_body inner) _ local-case_body (λ inside. local-pure (s.Case selector inside.0 inside.1)))

  local-loop_body : (end : Mark) → Local (loop_body inner end)
  unfolding loop_body
  local-loop_body end = local-bind (expect mark.Do) _ (local-expect mark.Do) (λ _. local-bind (block inner) _ local-block (λ body. local-finished end body))

  local-for_to : (variable : Name) (start : Expr) → Local (for_to inner variable start)
  unfolding for_to
  local-for_to variable start = local-bind for_end _ local-for_end (λ until. local-bind (loop_body inner mark.EndFor) _ (local-loop_body mark.EndFor) (λ body. local-pure (s.For variable start until.0 until.1 body)))

  local-for_statement : Local (for_statement inner)
  unfolding for_statement
  local-for_statement =
      local-bind name _ local-name (λ variable. local-bind (expect mark.Assign) _ (local-expect mark.Assign) (λ _. local-bind expression _ local-expression (λ start. local-for_to variable start)))

  local-while_statement : Local (while_statement inner)
  unfolding while_statement
  local-while_statement = local-bind expression _ local-expression (λ condition. local-bind (loop_body inner mark.EndWhile) _ (local-loop_body mark.EndWhile) (λ body. local-pure (s.While condition body)))

  local-repeat_statement : Local (repeat_statement inner)
  unfolding repeat_statement
  local-repeat_statement =
      local-bind (block inner) _ local-block (λ body. local-bind (expect mark.Until) _ (local-expect mark.Until) (λ _. local-bind expression _ local-expression (λ condition. local-finished mark.EndRepeat (s.Repeat body condition))))

  local-statement : Local (statement inner)
  unfolding statement
  local-statement =
      local-bind (eat mark.If) _ (local-eat mark.If) (λ a. local-cond a _ _ local-if_statement
      (local-bind (eat mark.Case) _ (local-eat mark.Case) (λ b. local-cond b _ _ local-case_statement
      (local-bind (eat mark.For) _ (local-eat mark.For) (λ c. local-cond c _ _ local-for_statement
      (local-bind (eat mark.While) _ (local-eat mark.While) (λ d. local-cond d _ _ local-while_statement
      (local-bind (eat mark.Repeat) _ (local-eat mark.Repeat) (λ f. local-cond f _ _ local-repeat_statement local-simple)))))))))

advances-nested : (d : ℕ) → Advances (nested_statement d)
advances-nested d ts rest x h = statement-shorter (nested-right d ts x rest h).derived

nests-nested : (d : ℕ) → Nests (nested_statement d)
unfolding nested_statement
nests-nested zero = nests-deep
nests-nested (suc d) = nests-of (local-statement (nested_statement d) (nests-nested d) (advances-nested d))

pub local-body : Local body
unfolding body
local-body =
    local-bind _ _ (local-block (nested_statement most_nesting) (nests-nested most_nesting) (advances-nested most_nesting)) (λ statements. local-ended mark.EndAlgorithm (body_of statements))
