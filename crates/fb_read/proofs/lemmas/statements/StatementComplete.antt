-- Statements that the grammar derives are read if they keep the limits of nesting, and are refused for their nesting if
-- they do not. By induction only on the depth: the lemma on each rule takes as a premise that the parser of inner
-- statements is complete.
use Rattle.fb_read.proofs.lemmas.Common.{◌≡◌, ℕ, zero, suc, ◌-◌, ℤ, max, Bool, false, leb, List, [], ◌∷◌, map, Option, Some, None, refl, sym, ap, ◌∙◌, arith, ◌&&◌, lt-leb, Name, Expr, Choice, Branch, Label, Stmt, Tokens, Parser, same_mark, sees, after, expect, name, whole, separated, Stops, loosest, nesting, deepest, most_nesting, IsMark, is_mark, is_name, is_whole, AreSeparated, last, and_next, IsExpression, choice_of, branch_of, IsBody, expression, assignment, simple, begins_statement, begins_label, choice, elsif, choices, branch, branches, others, if_statement, case_statement, loop_body, case_body, for_end, for_to, for_statement, while_statement, repeat_statement, statement, nested_statement, body}
use Rattle.fb_types.specs.declared.text.Stmt.TheVariants as s
use Rattle.fb_read.specs.declared.token.Mark.TheVariants as mark
use Rattle.fb_read.specs.declared.token.Token.TheVariants as token
use Rattle.fb_read.specs.Nesting.{by_nesting, statement_nesting, branch_nesting, choice_nesting, expression_nesting, branch_expression_nesting, choice_expression_nesting, fits_body}
use Rattle.fb_read.specs.StatementNodes.{label_of, body_of}
use Rattle.fb_read.specs.StatementGrammar.{IsBound, is_bound, is_negative, IsLabel, is_single, is_range, IsStep, no_step, is_step, IsStatement, is_empty, is_exit, is_return, is_assignment, is_if, is_case, is_for, is_while, is_repeat, AreStatements, no_statement, then_statements, IsChoice, is_choice, IsElsif, is_elsif, AreElsifs, no_elsif, then_elsifs, IsBranch, is_branch, AreBranches, no_branch, then_branches, AreOthers, no_others, are_others, is_body}
use Rattle.fb_read.specs.Statements.{bound, label, step, block, cases, bounds}
use Rattle.fb_read.proofs.lemmas.rules.Steps.{done, after-unseen}
use Rattle.fb_read.proofs.lemmas.rules.Lists.{IsComplete, Anything, always, all-always, picked, separated-complete}
use Rattle.fb_read.proofs.lemmas.expressions.NestingLimits.{room, bind-is, map-room, same-room, leb-over, both-over, expression-room, over-both, over-expression, over-node}
use Rattle.fb_read.proofs.lemmas.rules.Several.{Each, no_item, then_items, IsRoomy, Begun, over_by, deepest-over, several-complete}
use Rattle.fb_read.proofs.lemmas.expressions.ExpressionComplete.{stops-mark}
use Rattle.fb_read.proofs.lemmas.statements.StatementLengths.{label-shorter, statement-shorter, elsif-shorter, branch-shorter}
use Rattle.fb_read.proofs.lemmas.statements.StatementNesting.{nesting-Empty, nesting-Exit, nesting-Return, nesting-Assign, nesting-If, nesting-Case, nesting-For, nesting-While, nesting-Repeat, nesting-choice, nesting-branch, statement-positive, inside-Empty, inside-Exit, inside-Return, inside-Assign, inside-If, inside-Case, inside-For, inside-While, inside-Repeat, inside-choice, inside-branch}

-- ---- what follows an expression

then-stops : (rest : Tokens) → Stops loosest (token.Mark mark.Then ∷ rest)
unfolding same_mark
then-stops rest = stops-mark mark.Then loosest rest refl refl

of-stops : (rest : Tokens) → Stops loosest (token.Mark mark.Of ∷ rest)
unfolding same_mark
of-stops rest = stops-mark mark.Of loosest rest refl refl

to-stops : (rest : Tokens) → Stops loosest (token.Mark mark.To ∷ rest)
unfolding same_mark
to-stops rest = stops-mark mark.To loosest rest refl refl

by-stops : (rest : Tokens) → Stops loosest (token.Mark mark.By ∷ rest)
unfolding same_mark
by-stops rest = stops-mark mark.By loosest rest refl refl

do-stops : (rest : Tokens) → Stops loosest (token.Mark mark.Do ∷ rest)
unfolding same_mark
do-stops rest = stops-mark mark.Do loosest rest refl refl

semicolon-stops : (rest : Tokens) → Stops loosest (token.Mark mark.Semicolon ∷ rest)
unfolding same_mark
semicolon-stops rest = stops-mark mark.Semicolon loosest rest refl refl

end_repeat-stops : (rest : Tokens) → Stops loosest (token.Mark mark.EndRepeat ∷ rest)
unfolding same_mark
end_repeat-stops rest = stops-mark mark.EndRepeat loosest rest refl refl

-- ---- labels

bound-complete : {n : ℤ} {ts rest : Tokens} → IsBound n ts rest → bound ts ≡ done n rest
unfolding bound whole after same_mark
bound-complete (is_bound is_whole) = refl
bound-complete (is_negative is_mark is_whole) = refl

-- what may follow a label
abbrev NoRange : Tokens → Type 0
NoRange ts = sees mark.DotDot ts ≡ false

range-turn : (m n : ℤ) (a rest : Tokens) → bound a ≡ done n rest → (ts : Tokens) → bound ts ≡ done m (token.Mark mark.DotDot ∷ a) → label ts ≡ done (label_of m n) rest
unfolding label after same_mark
range-turn m n a rest second ts first = rw (first, second) refl

single-turn : (n : ℤ) (ts rest : Tokens) → bound ts ≡ done n rest → NoRange rest → label ts ≡ done (label_of n n) rest
unfolding label
single-turn n ts rest first ends = rw (first, ends, after-unseen mark.DotDot rest ends) refl

label-complete : IsComplete label IsLabel NoRange always
label-complete x ts rest (is_single {n = n} b) ends = single-turn n ts rest (bound-complete b) ends
label-complete x ts rest (is_range {m = m} {n = n} {b = b} c is_mark d) ends = range-turn m n b rest (bound-complete d) ts (bound-complete c)

comma-ends : (ts rest : Tokens) → IsMark mark.Comma ts rest → NoRange ts
unfolding same_mark
comma-ends ts rest is_mark = refl

labels-complete : (xs : List Label) (ts rest : Tokens) → AreSeparated IsLabel xs ts (token.Mark mark.Colon ∷ rest) → separated label ts ≡ done xs (token.Mark mark.Colon ∷ rest)
unfolding same_mark
labels-complete xs ts rest l =
    separated-complete label IsLabel NoRange always label-complete label-shorter comma-ends xs ts (token.Mark mark.Colon ∷ rest) l refl refl
    ∙ ap (λ (b : Bool). picked b xs (token.Mark mark.Colon ∷ rest)) (all-always xs)

-- ---- what the parts of a statement begin with

-- what ends the statements, the choices and the branches inside a statement
record Ended (ts : Tokens) : Type 0 where
  no_statement : begins_statement ts ≡ false
  no_elsif : sees mark.Elsif ts ≡ false
  no_label : begins_label ts ≡ false

others-ended : {xs : List Stmt} {ts rest : Tokens} → AreOthers xs ts rest → Ended rest → Ended ts
unfolding same_mark
others-ended no_others h = h
others-ended (are_others is_mark l) h = record { no_statement = refl; no_elsif = refl; no_label = refl }

end_if : (rest : Tokens) → Ended (token.Mark mark.EndIf ∷ rest)
unfolding same_mark
end_if rest = record { no_statement = refl; no_elsif = refl; no_label = refl }

end_case : (rest : Tokens) → Ended (token.Mark mark.EndCase ∷ rest)
unfolding same_mark
end_case rest = record { no_statement = refl; no_elsif = refl; no_label = refl }

-- no statement begins here
abbrev NoStatement : Tokens → Type 0
NoStatement ts = begins_statement ts ≡ false

statement-begins : (x : Stmt) (ts rest : Tokens) → IsStatement x ts rest → Begun begins_statement Anything ts
statement-begins x ts rest (is_empty is_mark) = record { begins_one = refl; may_follow = tt }
statement-begins x ts rest (is_exit is_mark l) = record { begins_one = refl; may_follow = tt }
statement-begins x ts rest (is_return is_mark l) = record { begins_one = refl; may_follow = tt }
statement-begins x ts rest (is_assignment is_name k e l) = record { begins_one = refl; may_follow = tt }
statement-begins x ts rest (is_if is_mark c cs o e l) = record { begins_one = refl; may_follow = tt }
statement-begins x ts rest (is_case is_mark e m b bs o f l) = record { begins_one = refl; may_follow = tt }
statement-begins x ts rest (is_for is_mark n a e t f z d b g l) = record { begins_one = refl; may_follow = tt }
statement-begins x ts rest (is_while is_mark e d b f l) = record { begins_one = refl; may_follow = tt }
statement-begins x ts rest (is_repeat is_mark b u e f l) = record { begins_one = refl; may_follow = tt }

elsif-begins : (x : Choice) (ts rest : Tokens) → IsElsif x ts rest → Begun (sees mark.Elsif) NoStatement ts
unfolding same_mark
elsif-begins x ts rest (is_elsif is_mark c) = record { begins_one = refl; may_follow = refl }

bound-begins : {n : ℤ} {ts rest : Tokens} → IsBound n ts rest → Begun begins_label NoStatement ts
unfolding same_mark
bound-begins (is_bound is_whole) = record { begins_one = refl; may_follow = refl }
bound-begins (is_negative is_mark n) = record { begins_one = refl; may_follow = refl }

label-begins : {x : Label} {ts rest : Tokens} → IsLabel x ts rest → Begun begins_label NoStatement ts
label-begins (is_single b) = bound-begins b
label-begins (is_range b k c) = bound-begins b

labels-begin : {xs : List Label} {ts rest : Tokens} → AreSeparated IsLabel xs ts rest → Begun begins_label NoStatement ts
labels-begin (last l) = label-begins l
labels-begin (and_next l k more) = label-begins l

branch-begins : (x : Branch) (ts rest : Tokens) → IsBranch x ts rest → Begun begins_label NoStatement ts
branch-begins x ts rest (is_branch l k b) = labels-begin l

elsifs-before : {xs : List Choice} {ts rest : Tokens} → AreElsifs xs ts rest → NoStatement rest → NoStatement ts
elsifs-before no_elsif h = h
elsifs-before {ts = ts} (then_elsifs {x = x} {mid = mid} e more) h = (elsif-begins x ts mid e).may_follow

branches-before : {xs : List Branch} {ts rest : Tokens} → AreBranches xs ts rest → NoStatement rest → NoStatement ts
branches-before no_branch h = h
branches-before {ts = ts} (then_branches {x = x} {mid = mid} b more) h = (branch-begins x ts mid b).may_follow

each-statement : {xs : List Stmt} {ts rest : Tokens} → AreStatements xs ts rest → Each IsStatement xs ts rest
each-statement no_statement = no_item
each-statement (then_statements x more) = then_items x (each-statement more)

each-elsif : {xs : List Choice} {ts rest : Tokens} → AreElsifs xs ts rest → Each IsElsif xs ts rest
each-elsif no_elsif = no_item
each-elsif (then_elsifs x more) = then_items x (each-elsif more)

each-branch : {xs : List Branch} {ts rest : Tokens} → AreBranches xs ts rest → Each IsBranch xs ts rest
each-branch no_branch = no_item
each-branch (then_branches x more) = then_items x (each-branch more)

-- ---- by how much the parts nest over their limits

abbrev pub over : ℕ → Stmt → ℕ
over = over_by statement_nesting expression_nesting

abbrev over_choice : ℕ → Choice → ℕ
over_choice = over_by choice_nesting choice_expression_nesting

abbrev over_branch : ℕ → Branch → ℕ
over_branch = over_by branch_nesting branch_expression_nesting

abbrev all_over : {A : Type 0} → (f g : A → ℕ) → ℕ → List A → ℕ
all_over f g limit xs = max (deepest (map f xs) - limit) (deepest (map g xs) - most_nesting)

abbrev block_over : ℕ → List Stmt → ℕ
block_over = all_over statement_nesting expression_nesting

abbrev expression_over : Expr → ℕ
expression_over x = nesting x - most_nesting

-- ---- the sums of IF, CASE and FOR

if-parts : (m : ℕ) (x : Choice) (xs : List Choice) (ys : List Stmt) → max (max (over_choice m x) (all_over choice_nesting choice_expression_nesting m xs)) (block_over m ys)
    ≡ max (max (deepest (map choice_nesting (x ∷ xs))) (deepest (map statement_nesting ys)) - m) (max (deepest (map choice_expression_nesting (x ∷ xs))) (deepest (map expression_nesting ys)) - most_nesting)
if-parts m x xs ys =
    let k : ℕ = block_over m ys in
    let one = over-both m most_nesting (choice_nesting x) (deepest (map choice_nesting xs)) (choice_expression_nesting x) (deepest (map choice_expression_nesting xs)) in
    ap (λ (j : ℕ). max j k) one ∙ over-both m most_nesting (deepest (map choice_nesting (x ∷ xs))) (deepest (map statement_nesting ys)) (deepest (map choice_expression_nesting (x ∷ xs))) (deepest (map expression_nesting ys))

branch-parts : (m : ℕ) (x : Branch) (xs : List Branch) (ys : List Stmt) → max (max (over_branch m x) (all_over branch_nesting branch_expression_nesting m xs)) (block_over m ys)
    ≡ max (max (deepest (map branch_nesting (x ∷ xs))) (deepest (map statement_nesting ys)) - m) (max (deepest (map branch_expression_nesting (x ∷ xs))) (deepest (map expression_nesting ys)) - most_nesting)
branch-parts m x xs ys =
    let k : ℕ = block_over m ys in
    let one = over-both m most_nesting (branch_nesting x) (deepest (map branch_nesting xs)) (branch_expression_nesting x) (deepest (map branch_expression_nesting xs)) in
    ap (λ (j : ℕ). max j k) one ∙ over-both m most_nesting (deepest (map branch_nesting (x ∷ xs))) (deepest (map statement_nesting ys)) (deepest (map branch_expression_nesting (x ∷ xs))) (deepest (map expression_nesting ys))

case-parts : (m : ℕ) (e : Expr) (x : Branch) (xs : List Branch) (ys : List Stmt) → max (expression_over e) (max (max (over_branch m x) (all_over branch_nesting branch_expression_nesting m xs)) (block_over m ys))
    ≡ max (max (deepest (map branch_nesting (x ∷ xs))) (deepest (map statement_nesting ys)) - m)
    (max (nesting e) (max (deepest (map branch_expression_nesting (x ∷ xs))) (deepest (map expression_nesting ys))) - most_nesting)
case-parts m e x xs ys =
    let k : ℕ = expression_over e in
    ap (λ (j : ℕ). max k j) (branch-parts m x xs ys) ∙ over-expression m most_nesting (nesting e) (max (deepest (map branch_nesting (x ∷ xs))) (deepest (map statement_nesting ys)))
    (max (deepest (map branch_expression_nesting (x ∷ xs))) (deepest (map expression_nesting ys)))

for-parts : (m : ℕ) (x y : Expr) (z : Option Expr) (xs : List Stmt) → max (expression_over x) (max (expression_over y) (max (by_nesting z - most_nesting) (block_over m xs)))
    ≡ max (deepest (map statement_nesting xs) - m) (max (nesting x) (max (nesting y) (max (by_nesting z) (deepest (map expression_nesting xs)))) - most_nesting)
for-parts m x y z xs =
    let a : ℕ = deepest (map statement_nesting xs) in
    let c : ℕ = deepest (map expression_nesting xs) in
    let j : ℕ = expression_over x in
    let k : ℕ = expression_over y in
    ap (λ (i : ℕ). max j (max k i)) (over-expression m most_nesting (by_nesting z) a c)
    ∙ ap (λ (i : ℕ). max j i) (over-expression m most_nesting (nesting y) a (max (by_nesting z) c))
    ∙ over-expression m most_nesting (nesting x) a (max (nesting y) (max (by_nesting z) c))

-- ---- the step of a FOR

by-stops-of : {x : Option Expr} {ts rest : Tokens} → IsStep x ts (token.Mark mark.Do ∷ rest) → Stops loosest ts
by-stops-of {rest = rest} no_step = do-stops rest
by-stops-of (is_step {a = a} is_mark x) = by-stops a

no_step-turn : (ts : Tokens) → sees mark.By ts ≡ false → step ts ≡ done None ts
unfolding step
no_step-turn ts ends = rw (ends, after-unseen mark.By ts ends) refl

is_step-turn : (x : Expr) (a rest : Tokens) → expression a ≡ room (expression_over x) x rest → step (token.Mark mark.By ∷ a) ≡ room (expression_over x) (Some x) rest
unfolding step after same_mark
is_step-turn x a rest read = rw read (map-room (expression_over x) x rest (λ (y : Expr). Some y))

do-by : (rest : Tokens) → sees mark.By (token.Mark mark.Do ∷ rest) ≡ false
unfolding same_mark
do-by rest = refl

step-complete : {x : Option Expr} {ts rest : Tokens} → IsStep x ts (token.Mark mark.Do ∷ rest) → step ts ≡ room (by_nesting x - most_nesting) x (token.Mark mark.Do ∷ rest)
step-complete {ts = ts} {rest = rest} no_step = no_step-turn ts (do-by rest)
step-complete {rest = rest} (is_step {x = x} {a = a} is_mark e) = is_step-turn x a (token.Mark mark.Do ∷ rest) (expression-room x a (token.Mark mark.Do ∷ rest) e (do-stops rest))

-- ---- statements without inner statements

assignment-complete : (limit : ℕ) (n : Name) (x : Expr) (b rest : Tokens) → IsExpression x b (token.Mark mark.Semicolon ∷ rest)
    → assignment (token.Name n ∷ (token.Mark mark.Assign ∷ b)) ≡ room (over (suc limit) (s.Assign n x)) (s.Assign n x) rest
unfolding assignment name expect same_mark
assignment-complete limit n x b rest e =
    rw (expression-room x b (token.Mark mark.Semicolon ∷ rest) e (semicolon-stops rest))
    (bind-is (expression_over x) 0 (over (suc limit) (s.Assign n x)) x (token.Mark mark.Semicolon ∷ rest) _ (s.Assign n x) rest (omega (arith, nesting-Assign n x, inside-Assign n x)) refl)

-- the parser of inner statements is complete
module _ (below : ℕ) (inner : Parser Stmt) (i : IsRoomy inner IsStatement Anything (over below)) where
  pub block-complete : (xs : List Stmt) (ts rest : Tokens) → AreStatements xs ts rest → NoStatement rest → block inner ts ≡ room (block_over below xs) xs rest
  unfolding block
  block-complete xs ts rest l ends =
      several-complete begins_statement inner IsStatement Anything (over below) i (λ x t u r. statement-shorter r) statement-begins [] xs ts rest (each-statement l) tt ends
      ∙ same-room (deepest (map (over below) xs)) (block_over below xs) xs rest (deepest-over statement_nesting expression_nesting below xs)

  choice-complete : IsRoomy (choice inner) IsChoice NoStatement (over_choice below)
  unfolding choice expect same_mark
  choice-complete y ts rest (is_choice {x = x} {body = xs} {b = b} e is_mark l) ends =
      rw (expression-room x ts (token.Mark mark.Then ∷ b) e (then-stops b))
      (bind-is (expression_over x) (block_over below xs) (over_choice below (choice_of x xs)) x (token.Mark mark.Then ∷ b) _ (choice_of x xs) rest
      (omega (arith, nesting-choice x xs, inside-choice x xs))
      (rw (block-complete xs b rest l ends) (map-room (block_over below xs) xs rest (choice_of x))))

  elsif-complete : IsRoomy (elsif inner) IsElsif NoStatement (over_choice below)
  unfolding elsif expect same_mark
  elsif-complete x ts rest (is_elsif {a = a} is_mark c) ends = choice-complete x a rest c ends

  abbrev choices_over : Choice → List Choice → ℕ
  choices_over x xs = max (over_choice below x) (all_over choice_nesting choice_expression_nesting below xs)

  choices-complete : (x : Choice) (xs : List Choice) (ts mid rest : Tokens) → IsChoice x ts mid → AreElsifs xs mid rest → Ended rest → choices inner ts ≡ room (choices_over x xs) (x ∷ xs) rest
  unfolding choices
  choices-complete x xs ts mid rest c cs ends =
      rw (choice-complete x ts mid c (elsifs-before cs ends.no_statement))
      (bind-is (over_choice below x) (deepest (map (over_choice below) xs)) (choices_over x xs) x mid _ (x ∷ xs) rest
      (omega (arith, deepest-over choice_nesting choice_expression_nesting below xs))
      (several-complete (sees mark.Elsif) (elsif inner) IsElsif NoStatement (over_choice below) elsif-complete (λ y t u r. elsif-shorter r) elsif-begins (x ∷ []) xs mid rest (each-elsif cs) ends.no_statement ends.no_elsif))

  branch-complete : IsRoomy (branch inner) IsBranch NoStatement (over_branch below)
  unfolding branch expect same_mark
  branch-complete y ts rest (is_branch {labels = ls} {body = xs} {b = b} l is_mark m) ends =
      rw (labels-complete ls ts b l, block-complete xs b rest m ends)
      (map-room (block_over below xs) xs rest (branch_of ls)
      ∙ same-room (block_over below xs) (over_branch below (branch_of ls xs)) (branch_of ls xs) rest (omega (arith, nesting-branch ls xs, inside-branch ls xs)))

  abbrev branches_over : Branch → List Branch → ℕ
  branches_over x xs = max (over_branch below x) (all_over branch_nesting branch_expression_nesting below xs)

  branches-complete : (x : Branch) (xs : List Branch) (ts mid rest : Tokens) → IsBranch x ts mid → AreBranches xs mid rest → Ended rest → branches inner ts ≡ room (branches_over x xs) (x ∷ xs) rest
  unfolding branches
  branches-complete x xs ts mid rest b bs ends =
      rw (branch-complete x ts mid b (branches-before bs ends.no_statement))
      (bind-is (over_branch below x) (deepest (map (over_branch below) xs)) (branches_over x xs) x mid _ (x ∷ xs) rest
      (omega (arith, deepest-over branch_nesting branch_expression_nesting below xs))
      (several-complete begins_label (branch inner) IsBranch NoStatement (over_branch below) branch-complete (λ y t u r. branch-shorter r) branch-begins (x ∷ []) xs mid rest (each-branch bs) ends.no_statement ends.no_label))

  others-complete : (xs : List Stmt) (ts rest : Tokens) → AreOthers xs ts rest → NoStatement rest → sees mark.Else rest ≡ false → others inner ts ≡ room (block_over below xs) xs rest
  unfolding others after same_mark
  others-complete xs ts rest no_others ends other = rw (other) (same-room 0 (block_over below []) [] rest (omega arith))
  others-complete xs ts rest (are_others {a = a} is_mark l) ends other = block-complete xs a rest l ends

  if-complete : (x : Choice) (xs : List Choice) (ys : List Stmt) (a b c rest : Tokens) → IsChoice x a b → AreElsifs xs b c
      → AreOthers ys c (token.Mark mark.EndIf ∷ (token.Mark mark.Semicolon ∷ rest)) → if_statement inner a ≡ room (over (suc below) (s.If (x ∷ xs) ys)) (s.If (x ∷ xs) ys) rest
  unfolding if_statement expect same_mark
  if-complete x xs ys a b c rest ch cs o =
      let following : Tokens = token.Mark mark.EndIf ∷ (token.Mark mark.Semicolon ∷ rest) in
      rw (choices-complete x xs a b c ch cs (others-ended o (end_if (token.Mark mark.Semicolon ∷ rest))))
      (bind-is (choices_over x xs) (block_over below ys) (over (suc below) (s.If (x ∷ xs) ys)) (x ∷ xs) c _ (s.If (x ∷ xs) ys) rest
      (over-node below most_nesting (max (deepest (map choice_nesting (x ∷ xs))) (deepest (map statement_nesting ys))) (max (deepest (map choice_expression_nesting (x ∷ xs))) (deepest (map expression_nesting ys)))
      (statement_nesting (s.If (x ∷ xs) ys)) (expression_nesting (s.If (x ∷ xs) ys)) (max (choices_over x xs) (block_over below ys)) (nesting-If (x ∷ xs) ys) (inside-If (x ∷ xs) ys)
      (if-parts below x xs ys))
      (rw (others-complete ys c following o refl refl)
      (bind-is (block_over below ys) 0 (block_over below ys) ys following _ (s.If (x ∷ xs) ys) rest (omega arith) refl)))

  case-body-complete : (y : Branch) (ys : List Branch) (zs : List Stmt) (c d e rest : Tokens) → IsBranch y c d → AreBranches ys d e
      → AreOthers zs e (token.Mark mark.EndCase ∷ (token.Mark mark.Semicolon ∷ rest)) → case_body inner (token.Mark mark.Of ∷ c) ≡ room (max (branches_over y ys) (block_over below zs)) (cases (y ∷ ys) zs) rest
  unfolding case_body expect same_mark
  case-body-complete y ys zs c d e rest b bs o =
      let following : Tokens = token.Mark mark.EndCase ∷ (token.Mark mark.Semicolon ∷ rest) in
      let inside = cases (y ∷ ys) zs in
      rw (branches-complete y ys c d e b bs (others-ended o (end_case (token.Mark mark.Semicolon ∷ rest))))
      (bind-is (branches_over y ys) (block_over below zs) (max (branches_over y ys) (block_over below zs)) (y ∷ ys) e _ inside rest refl
      (rw (others-complete zs e following o refl refl)
      (bind-is (block_over below zs) 0 (block_over below zs) zs following _ inside rest (omega arith) refl)))

  case-complete : (x : Expr) (y : Branch) (ys : List Branch) (zs : List Stmt) (a c d e rest : Tokens) → IsExpression x a (token.Mark mark.Of ∷ c) → IsBranch y c d → AreBranches ys d e
      → AreOthers zs e (token.Mark mark.EndCase ∷ (token.Mark mark.Semicolon ∷ rest)) → case_statement inner a ≡ room (over (suc below) (s.Case x (y ∷ ys) zs)) (s.Case x (y ∷ ys) zs) rest
  unfolding case_statement
  case-complete x y ys zs a c d e rest l b bs o =
      let over_all : ℕ = max (branches_over y ys) (block_over below zs) in
      let found = s.Case x (y ∷ ys) zs in
      rw (expression-room x a (token.Mark mark.Of ∷ c) l (of-stops c))
      (bind-is (expression_over x) (max (branches_over y ys) (block_over below zs)) (over (suc below) found) x (token.Mark mark.Of ∷ c) _ found rest
      (over-node below most_nesting (max (deepest (map branch_nesting (y ∷ ys))) (deepest (map statement_nesting zs)))
      (max (nesting x) (max (deepest (map branch_expression_nesting (y ∷ ys))) (deepest (map expression_nesting zs))))
      (statement_nesting found) (expression_nesting found) (max (expression_over x) (max (branches_over y ys) (block_over below zs))) (nesting-Case x (y ∷ ys) zs) (inside-Case x (y ∷ ys) zs)
      (case-parts below x y ys zs))
      (rw (case-body-complete y ys zs c d e rest b bs o)
      (bind-is over_all 0 over_all (cases (y ∷ ys) zs) rest _ found rest (omega arith) refl)))

  for-body-complete : (xs : List Stmt) (h rest : Tokens) → AreStatements xs h (token.Mark mark.EndFor ∷ (token.Mark mark.Semicolon ∷ rest))
      → loop_body inner mark.EndFor (token.Mark mark.Do ∷ h) ≡ room (block_over below xs) xs rest
  unfolding loop_body expect same_mark
  for-body-complete xs h rest b =
      let following : Tokens = token.Mark mark.EndFor ∷ (token.Mark mark.Semicolon ∷ rest) in
      rw (block-complete xs h following b refl)
      (bind-is (block_over below xs) 0 (block_over below xs) xs following _ xs rest (omega arith) refl)

  for-end-complete : (y : Expr) (z : Option Expr) (e f h : Tokens) → IsExpression y e f → IsStep z f (token.Mark mark.Do ∷ h)
      → for_end (token.Mark mark.To ∷ e) ≡ room (max (expression_over y) (by_nesting z - most_nesting)) (bounds y z) (token.Mark mark.Do ∷ h)
  unfolding for_end expect same_mark
  for-end-complete y z e f h m k =
      let by : ℕ = by_nesting z - most_nesting in
      let following : Tokens = token.Mark mark.Do ∷ h in
      rw (expression-room y e f m (by-stops-of k))
      (bind-is (expression_over y) by (max (expression_over y) by) y f _ (bounds y z) following refl
      (rw (step-complete k)
      (bind-is by 0 by z following _ (bounds y z) following (omega arith) refl)))

  for-complete : (n : Name) (x y : Expr) (z : Option Expr) (xs : List Stmt) (c e f h rest : Tokens) → IsExpression x c (token.Mark mark.To ∷ e) → IsExpression y e f
      → IsStep z f (token.Mark mark.Do ∷ h) → AreStatements xs h (token.Mark mark.EndFor ∷ (token.Mark mark.Semicolon ∷ rest))
      → for_statement inner (token.Name n ∷ (token.Mark mark.Assign ∷ c)) ≡ room (over (suc below) (s.For n x y z xs)) (s.For n x y z xs) rest
  unfolding for_statement for_to name expect same_mark
  for-complete n x y z xs c e f h rest l m k b =
      let found = s.For n x y z xs in
      let by : ℕ = by_nesting z - most_nesting in
      let inside : ℕ = block_over below xs in
      rw (expression-room x c (token.Mark mark.To ∷ e) l (to-stops e))
      (bind-is (expression_over x) (max (expression_over y) (max by inside)) (over (suc below) found) x (token.Mark mark.To ∷ e) _ found rest
      (over-node below most_nesting (deepest (map statement_nesting xs)) (max (nesting x) (max (nesting y) (max (by_nesting z) (deepest (map expression_nesting xs)))))
      (statement_nesting found) (expression_nesting found) (max (expression_over x) (max (expression_over y) (max by inside))) (nesting-For n x y z xs) (inside-For n x y z xs)
      (for-parts below x y z xs))
      (rw (for-end-complete y z e f h m k)
      (bind-is (max (expression_over y) by) inside (max (expression_over y) (max by inside)) (bounds y z) (token.Mark mark.Do ∷ h) _ found rest (omega arith)
      (rw (for-body-complete xs h rest b)
      (bind-is inside 0 inside xs rest _ found rest (omega arith) refl)))))

  while-body-complete : (xs : List Stmt) (h rest : Tokens) → AreStatements xs h (token.Mark mark.EndWhile ∷ (token.Mark mark.Semicolon ∷ rest))
      → loop_body inner mark.EndWhile (token.Mark mark.Do ∷ h) ≡ room (block_over below xs) xs rest
  unfolding loop_body expect same_mark
  while-body-complete xs h rest b =
      let following : Tokens = token.Mark mark.EndWhile ∷ (token.Mark mark.Semicolon ∷ rest) in
      rw (block-complete xs h following b refl)
      (bind-is (block_over below xs) 0 (block_over below xs) xs following _ xs rest (omega arith) refl)

  while-complete : (x : Expr) (xs : List Stmt) (a c rest : Tokens) → IsExpression x a (token.Mark mark.Do ∷ c) → AreStatements xs c (token.Mark mark.EndWhile ∷ (token.Mark mark.Semicolon ∷ rest))
      → while_statement inner a ≡ room (over (suc below) (s.While x xs)) (s.While x xs) rest
  unfolding while_statement
  while-complete x xs a c rest l b =
      rw (expression-room x a (token.Mark mark.Do ∷ c) l (do-stops c))
      (bind-is (expression_over x) (block_over below xs) (over (suc below) (s.While x xs)) x (token.Mark mark.Do ∷ c) _ (s.While x xs) rest
      (omega (arith, nesting-While x xs, inside-While x xs))
      (rw (while-body-complete xs c rest b)
      (bind-is (block_over below xs) 0 (block_over below xs) xs rest _ (s.While x xs) rest (omega arith) refl)))

  repeat-complete : (x : Expr) (xs : List Stmt) (a c rest : Tokens) → AreStatements xs a (token.Mark mark.Until ∷ c) → IsExpression x c (token.Mark mark.EndRepeat ∷ (token.Mark mark.Semicolon ∷ rest))
      → repeat_statement inner a ≡ room (over (suc below) (s.Repeat xs x)) (s.Repeat xs x) rest
  unfolding repeat_statement expect same_mark
  repeat-complete x xs a c rest b l =
      let following : Tokens = token.Mark mark.EndRepeat ∷ (token.Mark mark.Semicolon ∷ rest) in
      rw (block-complete xs a (token.Mark mark.Until ∷ c) b refl)
      (bind-is (block_over below xs) (expression_over x) (over (suc below) (s.Repeat xs x)) xs (token.Mark mark.Until ∷ c) _ (s.Repeat xs x) rest
      (omega (arith, nesting-Repeat xs x, inside-Repeat xs x))
      (rw (expression-room x c following l (end_repeat-stops (token.Mark mark.Semicolon ∷ rest)))
      (bind-is (expression_over x) 0 (expression_over x) x following _ (s.Repeat xs x) rest (omega arith) refl)))

  statement-complete : IsRoomy (statement inner) IsStatement Anything (over (suc below))
  unfolding statement simple after expect same_mark
  statement-complete x ts rest (is_empty is_mark) h = same-room 0 (over (suc below) s.Empty) s.Empty rest (omega (arith, nesting-Empty, inside-Empty))
  statement-complete x ts rest (is_exit is_mark is_mark) h = same-room 0 (over (suc below) s.Exit) s.Exit rest (omega (arith, nesting-Exit, inside-Exit))
  statement-complete x ts rest (is_return is_mark is_mark) h = same-room 0 (over (suc below) s.Return) s.Return rest (omega (arith, nesting-Return, inside-Return))
  statement-complete x ts rest (is_assignment {n = n} {x = y} {b = b} is_name is_mark l is_mark) h = assignment-complete below n y b rest l
  statement-complete x ts rest (is_if {x = y} {xs = ys} {others = zs} {a = a} {b = b} {c = c} is_mark ch cs o is_mark is_mark) h = if-complete y ys zs a b c rest ch cs o
  statement-complete x ts rest (is_case {x = y} {y = z} {ys = zs} {others = os} {a = a} {c = c} {d = d} {e = e} is_mark l is_mark b bs o is_mark is_mark) h =
      case-complete y z zs os a c d e rest l b bs o
  statement-complete x ts rest (is_for {n = n} {x = y} {y = z} {z = w} {body = xs} {c = c} {e = e} {f = f} {h = g} is_mark is_name is_mark l is_mark m k is_mark b is_mark is_mark) h =
      for-complete n y z w xs c e f g rest l m k b
  statement-complete x ts rest (is_while {x = y} {body = xs} {a = a} {c = c} is_mark l is_mark b is_mark is_mark) h = while-complete y xs a c rest l b
  statement-complete x ts rest (is_repeat {x = y} {body = xs} {a = a} {c = c} is_mark b is_mark l is_mark is_mark) h = repeat-complete y xs a c rest b l

pub nested-complete : (d : ℕ) → IsRoomy (nested_statement d) IsStatement Anything (over d)
unfolding nested_statement
nested-complete zero x ts rest r h = rw (lt-leb (over 0 x) 0 (omega (arith, statement-positive x))) refl
nested-complete (suc below) x ts rest r h = statement-complete below (nested_statement below) (nested-complete below) x ts rest r h

pub body-complete : IsComplete body IsBody Anything fits_body
unfolding body expect same_mark
body-complete y ts rest (is_body {xs = xs} l is_mark) h =
    let k : ℕ = block_over most_nesting xs in
    let m : ℕ = deepest (map statement_nesting xs) in
    let n : ℕ = deepest (map expression_nesting xs) in
    let kept : leb k 0 ≡ leb m most_nesting && leb n most_nesting = both-over (m - most_nesting) (n - most_nesting) ∙ sym (rw (leb-over m most_nesting, leb-over n most_nesting) refl) in
    rw (block-complete most_nesting (nested_statement most_nesting) (nested-complete most_nesting) xs ts (token.Mark mark.EndAlgorithm ∷ rest) l refl)
    (bind-is k 0 k xs (token.Mark mark.EndAlgorithm ∷ rest) _ (body_of xs) rest (omega arith) refl ∙ ap (λ (b : Bool). picked b (body_of xs) rest) kept)
