-- Statements that are read are derived by the grammar, and keep the limits of nesting.
use Rattle.fb_read.proofs.lemmas.Common.{◌≡◌, ℕ, zero, suc, pos, ◌≤◌, List, [], ◌∷◌, map, Ok, Option, Some, None, sym, ap, ◌∙◌, subst, inl, inr, arith, Name, Expr, Choice, Branch, Label, Stmt, Tokens, Parser, Outcome, and_then, pure, sees, after, expect, name, whole, separated, nesting, deepest, most_nesting, IsMark, choice_of, branch_of, IsBody, expression, assignment, simple, begins_statement, begins_label, choice, elsif, choices, branch, branches, others, if_statement, case_statement, loop_body, case_body, for_end, for_to, for_statement, while_statement, repeat_statement, statement, nested_statement, body}
use Rattle.std.proofs.Math.IntN.{neg_ℤ}
use Rattle.fb_types.specs.declared.text.Stmt.TheVariants as s
use Rattle.fb_types.specs.declared.text.Body.{Body}
use Rattle.fb_read.specs.declared.token.Mark.TheVariants as mark
use Rattle.fb_read.specs.Nesting.{by_nesting, statement_nesting, branch_nesting, choice_nesting, expression_nesting, branch_expression_nesting, choice_expression_nesting, BodyFits}
use Rattle.fb_read.specs.StatementNodes.{label_of, body_of}
use Rattle.fb_read.specs.StatementGrammar.{IsBound, is_bound, is_negative, IsLabel, is_single, is_range, IsStep, no_step, is_step, IsStatement, is_empty, is_exit, is_return, is_assignment, is_if, is_case, is_for, is_while, is_repeat, AreStatements, no_statement, then_statements, IsChoice, is_choice, IsElsif, is_elsif, AreElsifs, no_elsif, then_elsifs, IsBranch, is_branch, AreBranches, no_branch, then_branches, AreOthers, no_others, are_others, is_body}
use Rattle.fb_read.specs.Statements.{bound, label, step, block}
use Rattle.fb_read.proofs.lemmas.rules.Steps.{both_ok, made, expected, eaten, named, counted}
use Rattle.fb_read.proofs.lemmas.rules.Chained.{both_done}
use Rattle.fb_read.proofs.lemmas.rules.Lists.{IsSound, separated-sound}
use Rattle.fb_read.proofs.lemmas.rules.Several.{ItemRight, ListRight, several-sound, each-right}
use Rattle.fb_read.proofs.lemmas.expressions.ExpressionSound.{expression-right}
use Rattle.fb_read.proofs.lemmas.statements.StatementNesting.{nesting-Empty, nesting-Exit, nesting-Return, nesting-Assign, nesting-If, nesting-Case, nesting-For, nesting-While, nesting-Repeat, nesting-choice, nesting-branch, inside-Empty, inside-Exit, inside-Return, inside-Assign, inside-If, inside-Case, inside-For, inside-While, inside-Repeat, inside-choice, inside-branch}

-- ---- labels

bound-sound : IsSound bound IsBound
unfolding bound
bound-sound ts x rest h =
    elim (eaten mark.Minus _ _ ts (x, rest) h) [
      | inl w ↦
          let a = both_ok (whole (after mark.Minus ts)) _ (x, rest) w.1 in
          made IsBound (neg_ℤ (pos a.0)) x ts a.1 rest a.3 (is_negative w.0 (counted (after mark.Minus ts) a.0 a.1 a.2))
      | inr w ↦
          let a = both_ok (whole ts) _ (x, rest) w.1 in
          made IsBound (pos a.0) x ts a.1 rest a.3 (is_bound (counted ts a.0 a.1 a.2))
    ]

pub label-sound : IsSound label IsLabel
unfolding label
label-sound ts x rest h =
    let a = both_ok (bound ts) _ (x, rest) h in
    elim (eaten mark.DotDot _ _ a.1 (x, rest) a.3) [
      | inl w ↦
          let b = both_ok (bound (after mark.DotDot a.1)) _ (x, rest) w.1 in
          made IsLabel (label_of a.0 b.0) x ts b.1 rest b.3 (is_range (bound-sound ts a.0 a.1 a.2) w.0 (bound-sound (after mark.DotDot a.1) b.0 b.1 b.2))
      | inr w ↦ made IsLabel (label_of a.0 a.0) x ts a.1 rest w.1 (is_single (bound-sound ts a.0 a.1 a.2))
    ]

-- ---- how deep a statement nests, by what is in it

assign-fits : (below : ℕ) (n : Name) (x : Expr) → statement_nesting (s.Assign n x) ≤ suc below
assign-fits below n x = omega (arith, nesting-Assign n x)

assign-inside : (n : Name) (x : Expr) → nesting x ≤ most_nesting → expression_nesting (s.Assign n x) ≤ most_nesting
assign-inside n x h = omega (arith, inside-Assign n x)

if-fits : (below : ℕ) (c : Choice) (cs : List Choice) (others : List Stmt) → choice_nesting c ≤ below → deepest (map choice_nesting cs) ≤ below
    → deepest (map statement_nesting others) ≤ below → statement_nesting (s.If (c ∷ cs) others) ≤ suc below
if-fits below c cs others a b h = omega (arith, nesting-If (c ∷ cs) others)

if-inside : (c : Choice) (cs : List Choice) (others : List Stmt) → choice_expression_nesting c ≤ most_nesting → deepest (map choice_expression_nesting cs) ≤ most_nesting
    → deepest (map expression_nesting others) ≤ most_nesting → expression_nesting (s.If (c ∷ cs) others) ≤ most_nesting
if-inside c cs others a b h = omega (arith, inside-If (c ∷ cs) others)

case-fits : (below : ℕ) (x : Expr) (b : Branch) (bs : List Branch) (others : List Stmt) → branch_nesting b ≤ below → deepest (map branch_nesting bs) ≤ below
    → deepest (map statement_nesting others) ≤ below → statement_nesting (s.Case x (b ∷ bs) others) ≤ suc below
case-fits below x b bs others a c h = omega (arith, nesting-Case x (b ∷ bs) others)

case-inside : (x : Expr) (b : Branch) (bs : List Branch) (others : List Stmt) → nesting x ≤ most_nesting → branch_expression_nesting b ≤ most_nesting
    → deepest (map branch_expression_nesting bs) ≤ most_nesting → deepest (map expression_nesting others) ≤ most_nesting → expression_nesting (s.Case x (b ∷ bs) others) ≤ most_nesting
case-inside x b bs others e a c h = omega (arith, inside-Case x (b ∷ bs) others)

for-fits : (below : ℕ) (n : Name) (x y : Expr) (z : Option Expr) (xs : List Stmt) → deepest (map statement_nesting xs) ≤ below → statement_nesting (s.For n x y z xs) ≤ suc below
for-fits below n x y z xs h = omega (arith, nesting-For n x y z xs)

for-inside : (n : Name) (x y : Expr) (z : Option Expr) (xs : List Stmt) → nesting x ≤ most_nesting → nesting y ≤ most_nesting → by_nesting z ≤ most_nesting
    → deepest (map expression_nesting xs) ≤ most_nesting → expression_nesting (s.For n x y z xs) ≤ most_nesting
for-inside n x y z xs a b c d = omega (arith, inside-For n x y z xs)

while-fits : (below : ℕ) (x : Expr) (xs : List Stmt) → deepest (map statement_nesting xs) ≤ below → statement_nesting (s.While x xs) ≤ suc below
while-fits below x xs h = omega (arith, nesting-While x xs)

while-inside : (x : Expr) (xs : List Stmt) → nesting x ≤ most_nesting → deepest (map expression_nesting xs) ≤ most_nesting → expression_nesting (s.While x xs) ≤ most_nesting
while-inside x xs a b = omega (arith, inside-While x xs)

repeat-fits : (below : ℕ) (xs : List Stmt) (x : Expr) → deepest (map statement_nesting xs) ≤ below → statement_nesting (s.Repeat xs x) ≤ suc below
repeat-fits below xs x h = omega (arith, nesting-Repeat xs x)

repeat-inside : (xs : List Stmt) (x : Expr) → deepest (map expression_nesting xs) ≤ most_nesting → nesting x ≤ most_nesting → expression_nesting (s.Repeat xs x) ≤ most_nesting
repeat-inside xs x a b = omega (arith, inside-Repeat xs x)

choice-fits : (below : ℕ) (x : Expr) (xs : List Stmt) → deepest (map statement_nesting xs) ≤ below → choice_nesting (choice_of x xs) ≤ below
choice-fits below x xs h = omega (arith, nesting-choice x xs)

choice-inside : (x : Expr) (xs : List Stmt) → nesting x ≤ most_nesting → deepest (map expression_nesting xs) ≤ most_nesting → choice_expression_nesting (choice_of x xs) ≤ most_nesting
choice-inside x xs a b = omega (arith, inside-choice x xs)

branch-fits : (below : ℕ) (ls : List Label) (xs : List Stmt) → deepest (map statement_nesting xs) ≤ below → branch_nesting (branch_of ls xs) ≤ below
branch-fits below ls xs h = omega (arith, nesting-branch ls xs)

branch-inside : (ls : List Label) (xs : List Stmt) → deepest (map expression_nesting xs) ≤ most_nesting → branch_expression_nesting (branch_of ls xs) ≤ most_nesting
branch-inside ls xs a = omega (arith, inside-branch ls xs)

-- ---- statements without inner statements

-- a statement that is derived and keeps both limits
abbrev pub StatementRight : ℕ → Stmt → Tokens → Tokens → Type 0
StatementRight = ItemRight IsStatement statement_nesting expression_nesting

assignment-right : (below : ℕ) → IsSound assignment (StatementRight (suc below))
unfolding assignment
assignment-right below ts x rest h =
    both_done (name ts) _ (x, rest) h (λ a a_end a_is a_then.
    both_done (expect mark.Assign a_end) _ (x, rest) a_then (λ b b_end b_is b_then.
    both_done (expression b_end) _ (x, rest) b_then (λ c c_end c_is c_then.
    both_done (expect mark.Semicolon c_end) _ (x, rest) c_then (λ d d_end d_is d_then.
    let r = expression-right b_end c c_end c_is in
    made (StatementRight (suc below)) (s.Assign a c) x ts d_end rest d_then (record {
      derived = is_assignment (named ts a a_end a_is) (expected mark.Assign a_end b_end b_is) r.derived (expected mark.Semicolon c_end d_end d_is);
      fits = assign-fits below a c;
      inside = assign-inside a c r.fits;
    })))))

simple-right : (below : ℕ) → IsSound simple (StatementRight (suc below))
unfolding simple
simple-right below ts x rest h =
    elim (eaten mark.Semicolon _ _ ts (x, rest) h) [
      | inl w ↦ made (StatementRight (suc below)) s.Empty x ts (after mark.Semicolon ts) rest w.1
          (record { derived = is_empty w.0; fits = omega (arith, nesting-Empty); inside = omega (arith, inside-Empty) })
      | inr w ↦ elim (eaten mark.Exit _ _ ts (x, rest) w.1) [
        | inl v ↦
            let a = both_ok (expect mark.Semicolon (after mark.Exit ts)) _ (x, rest) v.1 in
            made (StatementRight (suc below)) s.Exit x ts a.1 rest a.3
            (record { derived = is_exit v.0 (expected mark.Semicolon (after mark.Exit ts) a.1 a.2); fits = omega (arith, nesting-Exit); inside = omega (arith, inside-Exit) })
        | inr v ↦ elim (eaten mark.Return _ _ ts (x, rest) v.1) [
          | inl u ↦
              let a = both_ok (expect mark.Semicolon (after mark.Return ts)) _ (x, rest) u.1 in
              made (StatementRight (suc below)) s.Return x ts a.1 rest a.3
              (record { derived = is_return u.0 (expected mark.Semicolon (after mark.Return ts) a.1 a.2); fits = omega (arith, nesting-Return); inside = omega (arith, inside-Return) })
          | inr u ↦ assignment-right below ts x rest u.1
        ]
      ]
    ]

-- the step of a FOR
record StepRight (x : Option Expr) (ts rest : Tokens) : Type 0 where
  derived : IsStep x ts rest
  inside : by_nesting x ≤ most_nesting

step-right : IsSound step StepRight
unfolding step
step-right ts x rest h =
    elim (eaten mark.By _ _ ts (x, rest) h) [
      | inl w ↦
          let a = both_ok (expression (after mark.By ts)) _ (x, rest) w.1 in
          let r = expression-right (after mark.By ts) a.0 a.1 a.2 in
          made StepRight (Some a.0) x ts a.1 rest a.3 (record { derived = is_step w.0 r.derived; inside = r.fits })
      | inr w ↦ made StepRight None x ts ts rest w.1 (record { derived = no_step; inside = omega arith })
    ]

-- ---- statements with inner statements

abbrev pub BlockRight : ℕ → List Stmt → Tokens → Tokens → Type 0
BlockRight = ListRight AreStatements statement_nesting expression_nesting

abbrev ChoiceRight : ℕ → Choice → Tokens → Tokens → Type 0
ChoiceRight = ItemRight IsChoice choice_nesting choice_expression_nesting

abbrev ElsifRight : ℕ → Choice → Tokens → Tokens → Type 0
ElsifRight = ItemRight IsElsif choice_nesting choice_expression_nesting

abbrev BranchRight : ℕ → Branch → Tokens → Tokens → Type 0
BranchRight = ItemRight IsBranch branch_nesting branch_expression_nesting

-- one or more choices
record ChoicesRight (below : ℕ) (xs : List Choice) (ts rest : Tokens) : Type 0 where
  first : Choice
  more : List Choice
  all_is : xs ≡ first ∷ more
  mid : Tokens
  one : ChoiceRight below first ts mid
  others : ListRight AreElsifs choice_nesting choice_expression_nesting below more mid rest

-- one or more branches
record BranchesRight (below : ℕ) (xs : List Branch) (ts rest : Tokens) : Type 0 where
  first : Branch
  more : List Branch
  all_is : xs ≡ first ∷ more
  mid : Tokens
  one : BranchRight below first ts mid
  others : ListRight AreBranches branch_nesting branch_expression_nesting below more mid rest

-- the parser of inner statements is right
module _ (below : ℕ) (inner : Parser Stmt) (i : IsSound inner (StatementRight below)) where
  pub block-right : IsSound (block inner) (BlockRight below)
  unfolding block
  block-right ts xs rest h =
      let a = several-sound begins_statement inner (StatementRight below) i [] ts xs rest h in
      subst (λ (ys : List Stmt). BlockRight below ys ts rest) (sym a.read_is)
      (each-right IsStatement AreStatements (λ t. no_statement) (λ y ys t m r one more. then_statements one more) statement_nesting expression_nesting below a.more ts rest a.derived)

  choice-right : IsSound (choice inner) (ChoiceRight below)
  unfolding choice
  choice-right ts x rest h =
      both_done (expression ts) _ (x, rest) h (λ a a_end a_is a_then.
      both_done (expect mark.Then a_end) _ (x, rest) a_then (λ b b_end b_is b_then.
      both_done (block inner b_end) _ (x, rest) b_then (λ c c_end c_is c_then.
      let r = expression-right ts a a_end a_is in
      let l = block-right b_end c c_end c_is in
      made (ChoiceRight below) (choice_of a c) x ts c_end rest c_then (record {
        derived = is_choice r.derived (expected mark.Then a_end b_end b_is) l.derived;
        fits = choice-fits below a c l.fits;
        inside = choice-inside a c r.fits l.inside;
      }))))

  elsif-right : IsSound (elsif inner) (ElsifRight below)
  unfolding elsif
  elsif-right ts x rest h =
      let a = both_ok (expect mark.Elsif ts) _ (x, rest) h in
      let r = choice-right a.1 x rest a.3 in
      record { derived = is_elsif (expected mark.Elsif ts a.1 a.2) r.derived; fits = r.fits; inside = r.inside }

  choices-right : IsSound (choices inner) (ChoicesRight below)
  unfolding choices
  choices-right ts xs rest h =
      let a = both_ok (choice inner ts) _ (xs, rest) h in
      let l = several-sound (sees mark.Elsif) (elsif inner) (ElsifRight below) elsif-right (a.0 ∷ []) a.1 xs rest a.3 in
      record {
        first = a.0;
        more = l.more;
        all_is = l.read_is;
        mid = a.1;
        one = choice-right ts a.0 a.1 a.2;
        others = each-right IsElsif AreElsifs (λ t. no_elsif) (λ y ys t m r one more. then_elsifs one more) choice_nesting choice_expression_nesting below l.more a.1 rest l.derived;
      }

  branch-right : IsSound (branch inner) (BranchRight below)
  unfolding branch
  branch-right ts x rest h =
      both_done (separated label ts) _ (x, rest) h (λ a a_end a_is a_then.
      both_done (expect mark.Colon a_end) _ (x, rest) a_then (λ b b_end b_is b_then.
      both_done (block inner b_end) _ (x, rest) b_then (λ c c_end c_is c_then.
      let l = block-right b_end c c_end c_is in
      made (BranchRight below) (branch_of a c) x ts c_end rest c_then (record {
        derived = is_branch (separated-sound label IsLabel label-sound ts a a_end a_is) (expected mark.Colon a_end b_end b_is) l.derived;
        fits = branch-fits below a c l.fits;
        inside = branch-inside a c l.inside;
      }))))

  branches-right : IsSound (branches inner) (BranchesRight below)
  unfolding branches
  branches-right ts xs rest h =
      let a = both_ok (branch inner ts) _ (xs, rest) h in
      let l = several-sound begins_label (branch inner) (BranchRight below) branch-right (a.0 ∷ []) a.1 xs rest a.3 in
      record {
        first = a.0;
        more = l.more;
        all_is = l.read_is;
        mid = a.1;
        one = branch-right ts a.0 a.1 a.2;
        others = each-right IsBranch AreBranches (λ t. no_branch) (λ y ys t m r one more. then_branches one more) branch_nesting branch_expression_nesting below l.more a.1 rest l.derived;
      }

  others-right : IsSound (others inner) (ListRight AreOthers statement_nesting expression_nesting below)
  unfolding others
  others-right ts xs rest h =
      elim (eaten mark.Else _ _ ts (xs, rest) h) [
        | inl w ↦
            let l = block-right (after mark.Else ts) xs rest w.1 in
            record { derived = are_others w.0 l.derived; fits = l.fits; inside = l.inside }
        | inr w ↦ made (ListRight AreOthers statement_nesting expression_nesting below) [] xs ts ts rest w.1 (record { derived = no_others; fits = omega arith; inside = omega arith })
      ]

  if-right : (start ts : Tokens) (x : Stmt) (rest : Tokens) → IsMark mark.If start ts → if_statement inner ts ≡ Ok (x, rest) → StatementRight (suc below) x start rest
  unfolding if_statement
  if-right start ts x rest k h =
      both_done (choices inner ts) _ (x, rest) h (λ a a_end a_is a_then.
      both_done (others inner a_end) _ (x, rest) a_then (λ b b_end b_is b_then.
      both_done (expect mark.EndIf b_end) _ (x, rest) b_then (λ c c_end c_is c_then.
      both_done (expect mark.Semicolon c_end) _ (x, rest) c_then (λ d d_end d_is d_then.
      let r = choices-right ts a a_end a_is in
      let o = others-right a_end b b_end b_is in
      let same : s.If (r.first ∷ r.more) b ≡ s.If a b = ap (λ (xs : List Choice). s.If xs b) (sym r.all_is) in
      made (StatementRight (suc below)) (s.If a b) x start d_end rest d_then (subst (λ (y : Stmt). StatementRight (suc below) y start d_end) same (record {
        derived = is_if k r.one.derived r.others.derived o.derived (expected mark.EndIf b_end c_end c_is) (expected mark.Semicolon c_end d_end d_is);
        fits = if-fits below r.first r.more b r.one.fits r.others.fits o.fits;
        inside = if-inside r.first r.more b r.one.inside r.others.inside o.inside;
      }))))))

  case-right : (start ts : Tokens) (x : Stmt) (rest : Tokens) → IsMark mark.Case start ts → case_statement inner ts ≡ Ok (x, rest) → StatementRight (suc below) x start rest
  unfolding case_statement case_body
  case-right start ts x rest k h =
      both_done (expression ts) _ (x, rest) h (λ p p_end p_is p_then.
      both_done (case_body inner p_end) _ (x, rest) p_then (λ i i_end i_is i_then.
      both_done (expect mark.Of p_end) _ (i, i_end) i_is (λ q q_end q_is q_then.
      both_done (branches inner q_end) _ (i, i_end) q_then (λ a a_end a_is a_then.
      both_done (others inner a_end) _ (i, i_end) a_then (λ b b_end b_is b_then.
      both_done (expect mark.EndCase b_end) _ (i, i_end) b_then (λ c c_end c_is c_then.
      both_done (expect mark.Semicolon c_end) _ (i, i_end) c_then (λ d d_end d_is d_then.
      let end = ap (λ (r : Outcome (List Branch × List Stmt)). and_then r (λ y. pure (s.Case p y.0 y.1))) d_then ∙ i_then in
      let e = expression-right ts p p_end p_is in
      let r = branches-right q_end a a_end a_is in
      let o = others-right a_end b b_end b_is in
      let same : s.Case p (r.first ∷ r.more) b ≡ s.Case p a b = ap (λ (xs : List Branch). s.Case p xs b) (sym r.all_is) in
      made (StatementRight (suc below)) (s.Case p a b) x start d_end rest end (subst (λ (y : Stmt). StatementRight (suc below) y start d_end) same (record {
        derived = is_case k e.derived (expected mark.Of p_end q_end q_is) r.one.derived r.others.derived o.derived (expected mark.EndCase b_end c_end c_is) (expected mark.Semicolon c_end d_end d_is);
        fits = case-fits below p r.first r.more b r.one.fits r.others.fits o.fits;
        inside = case-inside p r.first r.more b e.fits r.one.inside r.others.inside o.inside;
      })))))))))

  for-right : (start ts : Tokens) (x : Stmt) (rest : Tokens) → IsMark mark.For start ts → for_statement inner ts ≡ Ok (x, rest) → StatementRight (suc below) x start rest
  unfolding for_statement for_to for_end loop_body
  for-right start ts x rest k h =
      both_done (name ts) _ (x, rest) h (λ n n_end n_is n_then.
      both_done (expect mark.Assign n_end) _ (x, rest) n_then (λ m m_end m_is m_then.
      both_done (expression m_end) _ (x, rest) m_then (λ p p_end p_is p_then.
      both_done (for_end p_end) _ (x, rest) p_then (λ i i_end i_is i_then.
      both_done (expect mark.To p_end) _ (i, i_end) i_is (λ t t_end t_is t_then.
      both_done (expression t_end) _ (i, i_end) t_then (λ q q_end q_is q_then.
      both_done (step q_end) _ (i, i_end) q_then (λ z z_end z_is z_then.
      let following = ap (λ (r : Outcome (Expr × Option Expr)). and_then r (λ y t. and_then (loop_body inner mark.EndFor t) (λ body. pure (s.For n p y.0 y.1 body)))) z_then ∙ i_then in
      both_done (loop_body inner mark.EndFor z_end) _ (x, rest) following (λ o o_end o_is o_then.
      both_done (expect mark.Do z_end) _ (o, o_end) o_is (λ u u_end u_is u_then.
      both_done (block inner u_end) _ (o, o_end) u_then (λ b b_end b_is b_then.
      both_done (expect mark.EndFor b_end) _ (o, o_end) b_then (λ c c_end c_is c_then.
      both_done (expect mark.Semicolon c_end) _ (o, o_end) c_then (λ d d_end d_is d_then.
      let same = ap (λ (r : Outcome (List Stmt)). and_then r (λ body. pure (s.For n p q z body))) d_then ∙ o_then in
      let e = expression-right m_end p p_end p_is in
      let f = expression-right t_end q q_end q_is in
      let g = step-right q_end z z_end z_is in
      let l = block-right u_end b b_end b_is in
      made (StatementRight (suc below)) (s.For n p q z b) x start d_end rest same (record {
        derived = is_for k (named ts n n_end n_is) (expected mark.Assign n_end m_end m_is) e.derived (expected mark.To p_end t_end t_is) f.derived g.derived
            (expected mark.Do z_end u_end u_is) l.derived (expected mark.EndFor b_end c_end c_is) (expected mark.Semicolon c_end d_end d_is);
        fits = for-fits below n p q z b l.fits;
        inside = for-inside n p q z b e.fits f.fits g.inside l.inside;
      })))))))))))))

  while-right : (start ts : Tokens) (x : Stmt) (rest : Tokens) → IsMark mark.While start ts → while_statement inner ts ≡ Ok (x, rest) → StatementRight (suc below) x start rest
  unfolding while_statement loop_body
  while-right start ts x rest k h =
      both_done (expression ts) _ (x, rest) h (λ p p_end p_is p_then.
      both_done (loop_body inner mark.EndWhile p_end) _ (x, rest) p_then (λ o o_end o_is o_then.
      both_done (expect mark.Do p_end) _ (o, o_end) o_is (λ u u_end u_is u_then.
      both_done (block inner u_end) _ (o, o_end) u_then (λ b b_end b_is b_then.
      both_done (expect mark.EndWhile b_end) _ (o, o_end) b_then (λ c c_end c_is c_then.
      both_done (expect mark.Semicolon c_end) _ (o, o_end) c_then (λ d d_end d_is d_then.
      let same = ap (λ (r : Outcome (List Stmt)). and_then r (λ body. pure (s.While p body))) d_then ∙ o_then in
      let e = expression-right ts p p_end p_is in
      let l = block-right u_end b b_end b_is in
      made (StatementRight (suc below)) (s.While p b) x start d_end rest same (record {
        derived = is_while k e.derived (expected mark.Do p_end u_end u_is) l.derived (expected mark.EndWhile b_end c_end c_is) (expected mark.Semicolon c_end d_end d_is);
        fits = while-fits below p b l.fits;
        inside = while-inside p b e.fits l.inside;
      })))))))

  repeat-right : (start ts : Tokens) (x : Stmt) (rest : Tokens) → IsMark mark.Repeat start ts → repeat_statement inner ts ≡ Ok (x, rest) → StatementRight (suc below) x start rest
  unfolding repeat_statement
  repeat-right start ts x rest k h =
      both_done (block inner ts) _ (x, rest) h (λ b b_end b_is b_then.
      both_done (expect mark.Until b_end) _ (x, rest) b_then (λ u u_end u_is u_then.
      both_done (expression u_end) _ (x, rest) u_then (λ p p_end p_is p_then.
      both_done (expect mark.EndRepeat p_end) _ (x, rest) p_then (λ c c_end c_is c_then.
      both_done (expect mark.Semicolon c_end) _ (x, rest) c_then (λ d d_end d_is d_then.
      let e = expression-right u_end p p_end p_is in
      let l = block-right ts b b_end b_is in
      made (StatementRight (suc below)) (s.Repeat b p) x start d_end rest d_then (record {
        derived = is_repeat k l.derived (expected mark.Until b_end u_end u_is) e.derived (expected mark.EndRepeat p_end c_end c_is) (expected mark.Semicolon c_end d_end d_is);
        fits = repeat-fits below b p l.fits;
        inside = repeat-inside b p l.inside e.fits;
      }))))))

  statement-right : IsSound (statement inner) (StatementRight (suc below))
  unfolding statement
  statement-right ts x rest h =
      elim (eaten mark.If _ _ ts (x, rest) h) [
        | inl w ↦ if-right ts (after mark.If ts) x rest w.0 w.1
        | inr w ↦ elim (eaten mark.Case _ _ ts (x, rest) w.1) [
          | inl v ↦ case-right ts (after mark.Case ts) x rest v.0 v.1
          | inr v ↦ elim (eaten mark.For _ _ ts (x, rest) v.1) [
            | inl u ↦ for-right ts (after mark.For ts) x rest u.0 u.1
            | inr u ↦ elim (eaten mark.While _ _ ts (x, rest) u.1) [
              | inl t ↦ while-right ts (after mark.While ts) x rest t.0 t.1
              | inr t ↦ elim (eaten mark.Repeat _ _ ts (x, rest) t.1) [
                | inl r ↦ repeat-right ts (after mark.Repeat ts) x rest r.0 r.1
                | inr r ↦ simple-right below ts x rest r.1
              ]
            ]
          ]
        ]
      ]

pub nested-right : (d : ℕ) → IsSound (nested_statement d) (StatementRight d)
unfolding nested_statement
nested-right zero ts x rest h = absurd cc
nested-right (suc below) ts x rest h = statement-right below (nested_statement below) (nested-right below) ts x rest h

-- statements of an algorithm that are read are derived, and keep the limits
pub record BodyRight (x : Body) (ts rest : Tokens) : Type 0 where
  pub derived : IsBody x ts rest
  pub fits : BodyFits x

pub body-right : IsSound body BodyRight
unfolding body
body-right ts x rest h =
    let a = both_ok (block (nested_statement most_nesting) ts) _ (x, rest) h in
    let b = both_ok (expect mark.EndAlgorithm a.1) _ (x, rest) a.3 in
    let l = block-right most_nesting (nested_statement most_nesting) (nested-right most_nesting) ts a.0 a.1 a.2 in
    made BodyRight (body_of a.0) x ts b.1 rest b.3
    (record { derived = is_body l.derived (expected mark.EndAlgorithm a.1 b.1 b.2); fits = record { statements = l.fits; expressions = l.inside } })
