-- What was compiled is right for its layout, and says what was read (this project's own).
use Rattle.std.specs.Prelude.{◌≡◌, List, [], ◌∷◌, map, true}
use Rattle.fb_types.specs.Names.{Name}
use Rattle.fb_types.specs.Syntax as syntax
use Rattle.fb_types.specs.declared.text.BinaryOperator.{BinaryOperator}
use Rattle.fb_types.specs.declared.text.Label.{Label}
use Rattle.fb_st.specs.Compiled.{number_said, truth_said}
use Rattle.fb_st.specs.Frames.{Declared}
use Rattle.fb_st.specs.Fitting.{arm_said, arms_right, code_right, code_said, codes_right, count_right, expr_of_number, expr_of_truth, fork_said, forks_right, name_at, right_number, right_truth}
use Rattle.fb_st.specs.declared.compiled.CompiledBranch.{CompiledBranch}
use Rattle.fb_st.specs.declared.compiled.CompiledChoice.{CompiledChoice}
use Rattle.fb_st.specs.declared.compiled.CompiledStmt.{CompiledStmt}
use Rattle.fb_st.specs.declared.compiled.CountExpr.{CountExpr}
use Rattle.fb_st.specs.declared.compiled.NumberExpr.{NumberExpr}
use Rattle.fb_st.specs.declared.compiled.TruthExpr.{TruthExpr}

pub record SaysNumber (ds : List Declared) (e : syntax.Expr) (n : NumberExpr) : Type 0 where
  pub right : right_number ds (number_said n) ≡ true
  pub says : expr_of_number ds (number_said n) ≡ e

pub record SaysTruth (ds : List Declared) (e : syntax.Expr) (c : TruthExpr) : Type 0 where
  pub right : right_truth ds (truth_said c) ≡ true
  pub says : expr_of_truth ds (truth_said c) ≡ e

pub record SaysStmt (ds : List Declared) (s : syntax.Stmt) (code : CompiledStmt) : Type 0 where
  pub right : code_right ds code ≡ true
  pub says : code_said ds code ≡ s

pub record SaysAll (ds : List Declared) (ss : List syntax.Stmt) (codes : List CompiledStmt) : Type 0 where
  pub right : codes_right ds codes ≡ true
  pub says : map (code_said ds) codes ≡ ss

pub record SaysChoices (ds : List Declared) (cs : List (syntax.Expr × syntax.Stmts)) (arms : List CompiledChoice) : Type 0 where
  pub right : arms_right ds arms ≡ true
  pub says : map (arm_said ds) arms ≡ cs

pub record SaysBranches (ds : List Declared) (bs : List (List Label × syntax.Stmts)) (forks : List CompiledBranch) : Type 0 where
  pub right : forks_right ds forks ≡ true
  pub says : map (fork_said ds) forks ≡ bs

-- the variable, the start, the end and the step of FOR
pub record SaysCount (ds : List Declared) (n : Name) (start end step : syntax.Expr) (count : CountExpr) : Type 0 where
  pub right : count_right ds count ≡ true
  pub variable : name_at ds count.slot ≡ n
  pub starts : expr_of_number ds (number_said count.start) ≡ start
  pub ends : expr_of_number ds (number_said count.end) ≡ end
  pub steps : expr_of_number ds (number_said count.step) ≡ step

abbrev pub binary_of : BinaryOperator → syntax.Expr → syntax.Expr → syntax.Expr
binary_of o e f = syntax.Binary o e f

abbrev pub call_of_one : Name → syntax.Expr → syntax.Expr
call_of_one n a = syntax.Call n (syntax.exprs (a ∷ []))

abbrev pub call_of_two : Name → syntax.Expr → syntax.Expr → syntax.Expr
call_of_two n a b = syntax.Call n (syntax.exprs (a ∷ b ∷ []))

abbrev pub call_of_three : Name → syntax.Expr → syntax.Expr → syntax.Expr → syntax.Expr
call_of_three n a b c = syntax.Call n (syntax.exprs (a ∷ b ∷ c ∷ []))
