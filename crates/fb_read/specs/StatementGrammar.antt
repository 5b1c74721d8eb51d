-- The grammar of statements, a case for each production (IEC 61131-3, Annex A, in this project's profile). It has no
-- limit of nesting.
use Rattle.std.specs.Prelude.{ℕ, ℤ, pos, neg_ℤ, List, [], ◌∷◌, Option, Some, None}
use Rattle.fb_types.specs.Names.{Name}
use Rattle.fb_types.specs.declared.text.Expr.{Expr}
use Rattle.fb_types.specs.declared.text.Stmt.{Stmt}
use Rattle.fb_types.specs.declared.text.Stmt.TheVariants as s
use Rattle.fb_types.specs.declared.text.Choice.{Choice}
use Rattle.fb_types.specs.declared.text.Branch.{Branch}
use Rattle.fb_types.specs.declared.text.Label.{Label}
use Rattle.fb_types.specs.declared.text.Body.{Body}
use Rattle.fb_read.specs.declared.token.Mark.TheVariants as mark
use Rattle.fb_read.specs.Tokens.{Tokens}
use Rattle.fb_read.specs.Grammar.{IsMark, IsName, IsWhole, AreSeparated}
use Rattle.fb_read.specs.ExpressionGrammar.{IsExpression}
use Rattle.fb_read.specs.StatementNodes.{label_of, choice_of, branch_of, body_of}

-- bound = [ "-" ] whole
pub data IsBound : ℤ → Tokens → Tokens → Type 0 where
  is_bound : {n : ℕ} {ts rest : Tokens} → IsWhole n ts rest → IsBound (pos n) ts rest
  is_negative : {n : ℕ} {ts mid rest : Tokens} → IsMark mark.Minus ts mid → IsWhole n mid rest → IsBound (neg_ℤ (pos n)) ts rest

-- label = bound [ ".." bound ]
pub data IsLabel : Label → Tokens → Tokens → Type 0 where
  is_single : {n : ℤ} {ts rest : Tokens} → IsBound n ts rest → IsLabel (label_of n n) ts rest
  is_range : {m n : ℤ} {ts a b rest : Tokens} → IsBound m ts a → IsMark mark.DotDot a b → IsBound n b rest → IsLabel (label_of m n) ts rest

-- [ BY expr ]
pub data IsStep : Option Expr → Tokens → Tokens → Type 0 where
  no_step : {ts : Tokens} → IsStep None ts ts
  is_step : {x : Expr} {ts a rest : Tokens} → IsMark mark.By ts a → IsExpression x a rest → IsStep (Some x) ts rest

mutual
  pub data IsStatement : Stmt → Tokens → Tokens → Type 0 where
    -- ";"
    is_empty : {ts rest : Tokens} → IsMark mark.Semicolon ts rest → IsStatement s.Empty ts rest
    -- EXIT ";"
    is_exit : {ts a rest : Tokens} → IsMark mark.Exit ts a → IsMark mark.Semicolon a rest → IsStatement s.Exit ts rest
    -- RETURN ";"
    is_return : {ts a rest : Tokens} → IsMark mark.Return ts a → IsMark mark.Semicolon a rest → IsStatement s.Return ts rest
    -- name ":=" expr ";"
    is_assignment : {n : Name} {x : Expr} {ts a b c rest : Tokens} → IsName n ts a → IsMark mark.Assign a b → IsExpression x b c
        → IsMark mark.Semicolon c rest → IsStatement (s.Assign n x) ts rest
    -- IF expr THEN { stmt } { ELSIF expr THEN { stmt } } [ ELSE { stmt } ] END_IF ";"
    is_if : {x : Choice} {xs : List Choice} {others : List Stmt} {ts a b c d e rest : Tokens} → IsMark mark.If ts a → IsChoice x a b
        → AreElsifs xs b c → AreOthers others c d → IsMark mark.EndIf d e → IsMark mark.Semicolon e rest → IsStatement (s.If (x ∷ xs) others) ts rest
    -- CASE expr OF branch { branch } [ ELSE { stmt } ] END_CASE ";"
    is_case : {x : Expr} {y : Branch} {ys : List Branch} {others : List Stmt} {ts a b c d e f g rest : Tokens} → IsMark mark.Case ts a
        → IsExpression x a b → IsMark mark.Of b c → IsBranch y c d → AreBranches ys d e → AreOthers others e f → IsMark mark.EndCase f g
        → IsMark mark.Semicolon g rest → IsStatement (s.Case x (y ∷ ys) others) ts rest
    -- FOR name ":=" expr TO expr [ BY expr ] DO { stmt } END_FOR ";"
    is_for : {n : Name} {x y : Expr} {z : Option Expr} {body : List Stmt} {ts a b c d e f g h i j rest : Tokens} → IsMark mark.For ts a
        → IsName n a b → IsMark mark.Assign b c → IsExpression x c d → IsMark mark.To d e → IsExpression y e f → IsStep z f g
        → IsMark mark.Do g h → AreStatements body h i → IsMark mark.EndFor i j → IsMark mark.Semicolon j rest
        → IsStatement (s.For n x y z body) ts rest
    -- WHILE expr DO { stmt } END_WHILE ";"
    is_while : {x : Expr} {body : List Stmt} {ts a b c d e rest : Tokens} → IsMark mark.While ts a → IsExpression x a b → IsMark mark.Do b c
        → AreStatements body c d → IsMark mark.EndWhile d e → IsMark mark.Semicolon e rest → IsStatement (s.While x body) ts rest
    -- REPEAT { stmt } UNTIL expr END_REPEAT ";"
    is_repeat : {x : Expr} {body : List Stmt} {ts a b c d e rest : Tokens} → IsMark mark.Repeat ts a → AreStatements body a b
        → IsMark mark.Until b c → IsExpression x c d → IsMark mark.EndRepeat d e → IsMark mark.Semicolon e rest
        → IsStatement (s.Repeat body x) ts rest

  -- { stmt }
  pub data AreStatements : List Stmt → Tokens → Tokens → Type 0 where
    no_statement : {ts : Tokens} → AreStatements [] ts ts
    then_statements : {x : Stmt} {xs : List Stmt} {ts mid rest : Tokens} → IsStatement x ts mid → AreStatements xs mid rest → AreStatements (x ∷ xs) ts rest

  -- expr THEN { stmt }
  pub data IsChoice : Choice → Tokens → Tokens → Type 0 where
    is_choice : {x : Expr} {body : List Stmt} {ts a b rest : Tokens} → IsExpression x ts a → IsMark mark.Then a b → AreStatements body b rest
        → IsChoice (choice_of x body) ts rest

  -- ELSIF expr THEN { stmt }
  pub data IsElsif : Choice → Tokens → Tokens → Type 0 where
    is_elsif : {x : Choice} {ts a rest : Tokens} → IsMark mark.Elsif ts a → IsChoice x a rest → IsElsif x ts rest

  -- { ELSIF expr THEN { stmt } }
  pub data AreElsifs : List Choice → Tokens → Tokens → Type 0 where
    no_elsif : {ts : Tokens} → AreElsifs [] ts ts
    then_elsifs : {x : Choice} {xs : List Choice} {ts mid rest : Tokens} → IsElsif x ts mid → AreElsifs xs mid rest → AreElsifs (x ∷ xs) ts rest

  -- branch = label { "," label } ":" { stmt }
  pub data IsBranch : Branch → Tokens → Tokens → Type 0 where
    is_branch : {labels : List Label} {body : List Stmt} {ts a b rest : Tokens} → AreSeparated IsLabel labels ts a → IsMark mark.Colon a b
        → AreStatements body b rest → IsBranch (branch_of labels body) ts rest

  -- { branch }
  pub data AreBranches : List Branch → Tokens → Tokens → Type 0 where
    no_branch : {ts : Tokens} → AreBranches [] ts ts
    then_branches : {x : Branch} {xs : List Branch} {ts mid rest : Tokens} → IsBranch x ts mid → AreBranches xs mid rest → AreBranches (x ∷ xs) ts rest

  -- [ ELSE { stmt } ]
  pub data AreOthers : List Stmt → Tokens → Tokens → Type 0 where
    no_others : {ts : Tokens} → AreOthers [] ts ts
    are_others : {body : List Stmt} {ts a rest : Tokens} → IsMark mark.Else ts a → AreStatements body a rest → AreOthers body ts rest

-- { stmt } END_ALGORITHM
pub data IsBody : Body → Tokens → Tokens → Type 0 where
  is_body : {xs : List Stmt} {ts mid rest : Tokens} → AreStatements xs ts mid → IsMark mark.EndAlgorithm mid rest → IsBody (body_of xs) ts rest
