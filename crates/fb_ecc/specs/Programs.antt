-- The algorithms and guards of a basic type in the form in which they run (this project's own).
use Rattle.std.specs.Prelude.{◌≡◌, ℕ, List, map, slice_get, Option, Some}
use Rattle.fb_types.specs.Syntax.{expr_of, stmt_of}
use Rattle.fb_types.specs.declared.library.Algorithm.{Algorithm}
use Rattle.fb_types.specs.declared.library.BasicType.{BasicType}
use Rattle.fb_types.specs.declared.library.Transition.{Transition}
use Rattle.fb_types.specs.declared.text.Expr.{Expr}
use Rattle.fb_st.specs.Frames.{Declared}
use Rattle.fb_st.specs.Made.{SaysAll, SaysTruth}
use Rattle.fb_st.specs.declared.compiled.CompiledStmt.{CompiledStmt}
use Rattle.fb_st.specs.declared.compiled.TruthExpr.{TruthExpr}
use Rattle.fb_ecc.specs.Numbered.{chart_of}
use Rattle.fb_ecc.specs.Sound.{declared_by}
use Rattle.fb_ecc.specs.declared.program.Program.{Program}
use Rattle.fb_ecc.specs.declared.shared.Shared.{Shared}

-- What was compiled says what the algorithm at its index says.
abbrev pub AreBodies : List Declared → List Algorithm → List (Option (List CompiledStmt)) → Type 0
AreBodies ds algorithms bodies =
    (i : ℕ) (a : Algorithm) (codes : List CompiledStmt) → slice_get algorithms i ≡ Some a → slice_get bodies i ≡ Some (Some codes) → SaysAll ds (map stmt_of a.body.statements) codes

-- Each compiled guard is that of the transition at its index.
abbrev pub AreGuards : List Declared → List Transition → List (Option TruthExpr) → Type 0
AreGuards ds transitions guards =
    (i : ℕ) (x : Transition) (e : Expr) (c : TruthExpr) → slice_get transitions i ≡ Some x → x.condition.guard ≡ Some e → slice_get guards i ≡ Some (Some c) → SaysTruth ds (expr_of e) c

pub record IsProgramOf (t : BasicType) (p : Program) : Type 0 where
  pub layout : p.layout ≡ declared_by t
  pub bodies : AreBodies p.layout t.algorithms p.bodies
  pub guards : AreGuards p.layout t.transitions p.guards

-- The chart and the program are those of the type.
pub record IsSharedOf (t : BasicType) (s : Shared) : Type 0 where
  pub chart : s.chart ≡ chart_of t
  pub program : IsProgramOf t s.program
