-- Where in a body an operation is: the statement, the expression of it, and the operation in that (this project's own).
use Rattle.std.specs.Prelude.{◌≡◌, ◌⊎◌, ℕ, zero, suc, List, take, slice_get, Option, Some}
use Rattle.fb_types.specs.Names.{Name}
use Rattle.fb_types.specs.Values.{Values}
use Rattle.fb_types.specs.declared.text.Branch.{Branch, out-Branch}
use Rattle.fb_types.specs.declared.text.Choice.{Choice, out-Choice}
use Rattle.fb_types.specs.declared.text.Expr.{Expr}
use Rattle.fb_types.specs.declared.text.Stmt as read
use Rattle.fb_types.specs.declared.value.Reason.{Reason}
use Rattle.fb_st.specs.Flows.{all_of, branches_of, choices_of}
use Rattle.fb_stop.specs.Numbers.{IsReached, next, after_all, after_branches, after_choices}
use Rattle.fb_stop.specs.Operations.{FaultIn, IsOtherwise, IsUnfit}
use Rattle.fb_stop.specs.Tokens.{past}
use Rattle.fb_stop.specs.declared.operation.Operation.{Operation}
use Rattle.fb_stop.specs.declared.statement.Anchor.{Anchor}
use Rattle.fb_stop.specs.declared.statement.Anchor.TheVariants.{Beginning, Elsif, Until}
use Rattle.fb_stop.specs.declared.statement.Placed.{Placed}

-- ---- The expressions of a statement

-- where the condition at an index of IF begins
abbrev pub anchor_of : ℕ → Anchor
anchor_of zero = Beginning
anchor_of (suc k) = Elsif (suc k)

-- The expression is one of the statement, and begins at the token from there: after the variable and `:=`, after the
-- keyword, and in FOR after the variable and `:=`, TO and BY.
pub data IsExpression : read.Stmt → Anchor → ℕ → Expr → Type 0 where
  assigned : (v : Name) (e : Expr) → IsExpression (read.Assign v e) Beginning 2 e
  condition : (cs : List Choice) (others : List read.Stmt) (k : ℕ) (c : Choice) → slice_get cs k ≡ Some c → IsExpression (read.If cs others) (anchor_of k) 1 (out-Choice c).condition
  selector : (e : Expr) (bs : List Branch) (others : List read.Stmt) → IsExpression (read.Case e bs others) Beginning 1 e
  start : (v : Name) (a b : Expr) (c : Option Expr) (body : List read.Stmt) → IsExpression (read.For v a b c body) Beginning 3 a
  end : (v : Name) (a b : Expr) (c : Option Expr) (body : List read.Stmt) → IsExpression (read.For v a b c body) Beginning (next (past a 3)) b
  step : (v : Name) (a b c : Expr) (body : List read.Stmt) → IsExpression (read.For v a b (Some c) body) Beginning (next (past b (next (past a 3)))) c
  while : (c : Expr) (body : List read.Stmt) → IsExpression (read.While c body) Beginning 1 c
  until : (body : List read.Stmt) (c : Expr) → IsExpression (read.Repeat body c) Until 1 c

-- The operation has no value for the reason; or the reason is that the value of an assignment does not fit its variable,
-- and the operation is the outermost one of what is assigned.
abbrev pub IsOfOwn : Values → Reason → read.Stmt → Expr → ℕ → Operation → Type 0
IsOfOwn vars r s e n x = FaultIn vars r e n x ⊎ ((v : Name) × (s ≡ read.Assign v e) × IsUnfit vars r e n x)

-- The operation is in an expression of the statement itself.
pub record HasOwn (vars : Values) (r : Reason) (s : read.Stmt) (x : Placed) : Type 0 where
  pub expression : Expr
  pub first : ℕ
  pub is : IsExpression s x.anchor first expression
  pub fault : IsOfOwn vars r s expression first x.operation

-- The fault is in a condition of IF, or in a bound of FOR.
pub record IsOfChoices (vars : Values) (r : Reason) (cs : List Choice) (x : Placed) : Type 0 where
  pub index : ℕ
  pub choice : Choice
  pub at : slice_get cs index ≡ Some choice
  pub anchor : x.anchor ≡ anchor_of index
  pub fault : FaultIn vars r (out-Choice choice).condition 1 x.operation

abbrev pub IsOfFor : Values → Reason → Expr → Expr → Option Expr → Placed → Type 0
IsOfFor vars r a b c x = (v : Name) (body : List read.Stmt) → HasOwn vars r (read.For v a b c body) x

-- ---- The statements inside a statement

-- The statements are those of a condition, of which the first is counted so, or those of ELSE.
pub data IsOfIf (cs : List Choice) (others : List read.Stmt) (n : ℕ) : List read.Stmt → ℕ → Type 0 where
  of_condition : (k : ℕ) (c : Choice) → slice_get cs k ≡ Some c → IsOfIf cs others n (out-Choice c).body (after_choices (choices_of (take k cs)) n)
  of_else : IsOfIf cs others n others (after_choices (choices_of cs) n)

pub data IsOfCase (bs : List Branch) (others : List read.Stmt) (n : ℕ) : List read.Stmt → ℕ → Type 0 where
  of_label : (k : ℕ) (b : Branch) → slice_get bs k ≡ Some b → IsOfCase bs others n (out-Branch b).body (after_branches (branches_of (take k bs)) n)
  of_no_label : IsOfCase bs others n others (after_branches (branches_of bs) n)

-- The statements are inside the statement of this number, and the first of them is counted so.
pub data IsInside : read.Stmt → ℕ → List read.Stmt → ℕ → Type 0 where
  in_if : (cs : List Choice) (others : List read.Stmt) (n : ℕ) (body : List read.Stmt) (m : ℕ) → IsOfIf cs others (next n) body m → IsInside (read.If cs others) n body m
  in_case : (e : Expr) (bs : List Branch) (others : List read.Stmt) (n : ℕ) (body : List read.Stmt) (m : ℕ) → IsOfCase bs others (next n) body m → IsInside (read.Case e bs others) n body m
  in_for : (v : Name) (a b : Expr) (c : Option Expr) (body : List read.Stmt) (n : ℕ) → IsInside (read.For v a b c body) n body (next n)
  in_while : (c : Expr) (body : List read.Stmt) (n : ℕ) → IsInside (read.While c body) n body (next n)
  in_repeat : (body : List read.Stmt) (c : Expr) (n : ℕ) → IsInside (read.Repeat body c) n body (next n)

-- The statement of a number is this one, or is inside it; it is one of statements, of which the first is counted so.
mutual
  pub data IsNumbered : read.Stmt → ℕ → read.Stmt → ℕ → Type 0 where
    itself : (s : read.Stmt) (n : ℕ) → IsNumbered s n s n
    inside : (s : read.Stmt) (n : ℕ) (body : List read.Stmt) (m : ℕ) (t : read.Stmt) (k : ℕ) → IsInside s n body m → IsAmong body m t k → IsNumbered s n t k

  pub data IsAmong : List read.Stmt → ℕ → read.Stmt → ℕ → Type 0 where
    among : (ss : List read.Stmt) (n i : ℕ) (s t : read.Stmt) (k : ℕ) → slice_get ss i ≡ Some s → IsNumbered s (after_all (all_of (take i ss)) n) t k → IsAmong ss n t k

-- The operation is in the statement of the number.
pub record IsInStatement (vars : Values) (r : Reason) (s : read.Stmt) (n number : ℕ) (x : Placed) : Type 0 where
  pub statement : read.Stmt
  pub there : IsNumbered s n statement number
  pub own : HasOwn vars r statement x

pub record IsInList (vars : Values) (r : Reason) (ss : List read.Stmt) (first number : ℕ) (x : Placed) : Type 0 where
  pub statement : read.Stmt
  pub there : IsAmong ss first statement number
  pub own : HasOwn vars r statement x

pub record IsInChoices (vars : Values) (r : Reason) (cs : List Choice) (others : List read.Stmt) (first number : ℕ) (x : Placed) : Type 0 where
  pub body : List read.Stmt
  pub from : ℕ
  pub of : IsOfIf cs others first body from
  pub found : IsInList vars r body from number x

pub record IsInBranches (vars : Values) (r : Reason) (bs : List Branch) (others : List read.Stmt) (first number : ℕ) (x : Placed) : Type 0 where
  pub body : List read.Stmt
  pub from : ℕ
  pub of : IsOfCase bs others first body from
  pub found : IsInList vars r body from number x

-- ---- Where no operation is answered

-- Each expression of the statement itself has a value, or none for another reason.
abbrev pub IsOwnOtherwise : Values → Reason → read.Stmt → Type 0
IsOwnOtherwise vars r s = (a : Anchor) (n : ℕ) (e : Expr) → IsExpression s a n e → IsOtherwise vars r e

-- Each condition of IF has a value, or none for another reason; so have the bounds of FOR.
abbrev pub AreOtherwise : Values → Reason → List Choice → Type 0
AreOtherwise vars r cs = (k : ℕ) (c : Choice) → slice_get cs k ≡ Some c → IsOtherwise vars r (out-Choice c).condition

abbrev pub AreBoundsOtherwise : Values → Reason → Expr → Expr → Option Expr → Type 0
AreBoundsOtherwise vars r a b c = IsOtherwise vars r a × IsOtherwise vars r b × ((e : Expr) → c ≡ Some e → IsOtherwise vars r e)

-- So it is in the statement of the number, if a text may reach it.
abbrev pub IsStatementOtherwise : Values → Reason → read.Stmt → (n number : ℕ) → Type 0
IsStatementOtherwise vars r s n number = IsReached number → (t : read.Stmt) → IsNumbered s n t number → IsOwnOtherwise vars r t

abbrev pub IsListOtherwise : Values → Reason → List read.Stmt → (first number : ℕ) → Type 0
IsListOtherwise vars r ss first number = IsReached number → (t : read.Stmt) → IsAmong ss first t number → IsOwnOtherwise vars r t

abbrev pub AreChoicesOtherwise : Values → Reason → List Choice → List read.Stmt → (first number : ℕ) → Type 0
AreChoicesOtherwise vars r cs others first number = (body : List read.Stmt) (from : ℕ) → IsOfIf cs others first body from → IsListOtherwise vars r body from number

abbrev pub AreBranchesOtherwise : Values → Reason → List Branch → List read.Stmt → (first number : ℕ) → Type 0
AreBranchesOtherwise vars r bs others first number = (body : List read.Stmt) (from : ℕ) → IsOfCase bs others first body from → IsListOtherwise vars r body from number
