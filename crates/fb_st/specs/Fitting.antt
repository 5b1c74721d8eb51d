-- What compiled algorithms say of the variables of a layout, and when they fit it (this project's own).
use Rattle.std.specs.Prelude.{ℕ, suc, ℤ, List, [], ◌∷◌, map, Bool, true, false, ◌&&◌, Option, Some, None, slice_get, length, codes}
use Rattle.std.specs.List.{list_all}
use Rattle.fb_types.specs.Names.{Name}
use Rattle.fb_types.specs.Syntax as syntax
use Rattle.fb_types.specs.Values.{Values, same_whole}
use Rattle.fb_types.specs.Bodies.{Point}
use Rattle.fb_types.specs.declared.text.Label.{Label}
use Rattle.fb_types.specs.declared.text.UnaryOperator.TheVariants as unary
use Rattle.fb_types.specs.declared.value.Ty.{Ty}
use Rattle.fb_types.specs.declared.value.Ty.TheVariants.{Lint, Time, Ulint, Bool as Boolean}
use Rattle.fb_types.specs.declared.value.Value.{Value}
use Rattle.fb_types.specs.declared.value.Value.TheVariants as value
use Rattle.fb_st.specs.Required.{gives_number}
use Rattle.fb_st.specs.Frames.{Declared, values_of}
use Rattle.fb_st.specs.Variables.{least_of, most_of}
use Rattle.fb_st.specs.Compiled.{Number, Constant, Slot, UnsignedSlot, Binary, Negated, Magnitude, Lesser, Larger, Limited, Chosen, Truth, Known, TruthSlot, Compared, Joined, Not, TruthChosen, number_said, truth_said, fits_number, fits_truth, unsigned_of, truth_of_word, is_comparison, is_joint}
use Rattle.fb_st.specs.declared.frame.Slot.{Slot as Variable}
use Rattle.fb_st.specs.declared.meter.Meter.{Meter}
use Rattle.fb_st.specs.declared.compiled.CountExpr.{CountExpr}
use Rattle.fb_st.specs.declared.compiled.CompiledStmt as code
use Rattle.fb_st.specs.declared.compiled.CompiledStmt.TheOpen.{CompiledStmt-F, CompiledBranch-F, CompiledChoice-F}
use Rattle.fb_st.specs.declared.compiled.CompiledBranch.{CompiledBranch, fold-CompiledBranch}
use Rattle.fb_st.specs.declared.compiled.CompiledChoice.{CompiledChoice, fold-CompiledChoice}

-- ---- Words as variables

-- the value that a word is in a variable of the type
abbrev pub value_of_word : Ty → ℤ → Value
value_of_word Boolean z = value.Bool (truth_of_word z)
value_of_word Ulint z = value.Whole (unsigned_of z)
value_of_word _ z = value.Whole z

-- the variables of a layout, where the words are what they hold
abbrev pub held : List Declared → List ℤ → List Variable
held [] ws = []
held (d ∷ ds) [] = []
held (d ∷ ds) (z ∷ ws) = record { name = d.0; ty = d.1; value = value_of_word d.1 z } ∷ held ds ws

abbrev pub values_at : List Declared → List ℤ → Values
values_at ds ws = values_of (held ds ws)

-- where a run is
abbrev pub spot : List Declared → List ℤ → Meter → Point
spot ds ws m = record { vars = values_at ds ws; left = m.left }

-- where it was before the step that began the statement
abbrev pub begun : List Declared → List ℤ → Meter → Point
begun ds ws m = record { vars = values_at ds ws; left = suc m.left }

-- ---- What it says, with the names of the variables

abbrev pub name_or : Option Declared → Name
name_or None = []
name_or (Some d) = d.0

abbrev pub name_at : List Declared → ℕ → Name
name_at ds i = name_or (slice_get ds i)

abbrev mutual
  pub expr_of_number : List Declared → Number → syntax.Expr
  expr_of_number ds (Constant z) = syntax.Whole z
  expr_of_number ds (Slot i) = syntax.Variable (name_at ds i)
  expr_of_number ds (UnsignedSlot i) = syntax.Variable (name_at ds i)
  expr_of_number ds (Binary o e f) = syntax.Binary o (expr_of_number ds e) (expr_of_number ds f)
  expr_of_number ds (Negated e) = syntax.Unary unary.Negate (expr_of_number ds e)
  expr_of_number ds (Magnitude e) = syntax.Call (codes "ABS") (syntax.then_exprs (expr_of_number ds e) syntax.no_expr)
  expr_of_number ds (Lesser e f) = syntax.Call (codes "MIN") (syntax.then_exprs (expr_of_number ds e) (syntax.then_exprs (expr_of_number ds f) syntax.no_expr))
  expr_of_number ds (Larger e f) = syntax.Call (codes "MAX") (syntax.then_exprs (expr_of_number ds e) (syntax.then_exprs (expr_of_number ds f) syntax.no_expr))
  expr_of_number ds (Limited e f g) = syntax.Call (codes "LIMIT") (syntax.then_exprs (expr_of_number ds e) (syntax.then_exprs (expr_of_number ds f) (syntax.then_exprs (expr_of_number ds g) syntax.no_expr)))
  expr_of_number ds (Chosen c e f) = syntax.Call (codes "SEL") (syntax.then_exprs (expr_of_truth ds c) (syntax.then_exprs (expr_of_number ds e) (syntax.then_exprs (expr_of_number ds f) syntax.no_expr)))

  pub expr_of_truth : List Declared → Truth → syntax.Expr
  expr_of_truth ds (Known b) = syntax.Truth b
  expr_of_truth ds (TruthSlot i) = syntax.Variable (name_at ds i)
  expr_of_truth ds (Compared o e f) = syntax.Binary o (expr_of_number ds e) (expr_of_number ds f)
  expr_of_truth ds (Joined o c d) = syntax.Binary o (expr_of_truth ds c) (expr_of_truth ds d)
  expr_of_truth ds (Not c) = syntax.Unary unary.Not (expr_of_truth ds c)
  expr_of_truth ds (TruthChosen c d e) = syntax.Call (codes "SEL") (syntax.then_exprs (expr_of_truth ds c) (syntax.then_exprs (expr_of_truth ds d) (syntax.then_exprs (expr_of_truth ds e) syntax.no_expr)))

-- ---- Whether it fits: each variable is one of the layout, and is of the kind that is required

-- a number of 64 bits is its own word
abbrev pub is_plain : Ty → Bool
is_plain Boolean = false
is_plain Ulint = false
is_plain _ = true

abbrev pub is_unsigned : Ty → Bool
is_unsigned Ulint = true
is_unsigned _ = false

abbrev pub is_truth : Ty → Bool
is_truth Boolean = true
is_truth _ = false

abbrev pub is_plain_type : Option Declared → Bool
is_plain_type None = false
is_plain_type (Some d) = is_plain d.1

abbrev pub is_unsigned_type : Option Declared → Bool
is_unsigned_type None = false
is_unsigned_type (Some d) = is_unsigned d.1

abbrev pub is_truth_type : Option Declared → Bool
is_truth_type None = false
is_truth_type (Some d) = is_truth d.1

abbrev mutual
  pub kinds_number : List Declared → Number → Bool
  kinds_number ds (Constant z) = true
  kinds_number ds (Slot i) = is_plain_type (slice_get ds i)
  kinds_number ds (UnsignedSlot i) = is_unsigned_type (slice_get ds i)
  kinds_number ds (Binary o e f) = gives_number o && kinds_number ds e && kinds_number ds f
  kinds_number ds (Negated e) = kinds_number ds e
  kinds_number ds (Magnitude e) = kinds_number ds e
  kinds_number ds (Lesser e f) = kinds_number ds e && kinds_number ds f
  kinds_number ds (Larger e f) = kinds_number ds e && kinds_number ds f
  kinds_number ds (Limited e f g) = kinds_number ds e && kinds_number ds f && kinds_number ds g
  kinds_number ds (Chosen c e f) = kinds_truth ds c && kinds_number ds e && kinds_number ds f

  pub kinds_truth : List Declared → Truth → Bool
  kinds_truth ds (Known b) = true
  kinds_truth ds (TruthSlot i) = is_truth_type (slice_get ds i)
  kinds_truth ds (Compared o e f) = is_comparison o && kinds_number ds e && kinds_number ds f
  kinds_truth ds (Joined o c d) = is_joint o && kinds_truth ds c && kinds_truth ds d
  kinds_truth ds (Not c) = kinds_truth ds c
  kinds_truth ds (TruthChosen c d e) = kinds_truth ds c && kinds_truth ds d && kinds_truth ds e

abbrev pub right_number : List Declared → Number → Bool
right_number ds e = fits_number (length ds) e && kinds_number ds e

abbrev pub right_truth : List Declared → Truth → Bool
right_truth ds c = fits_truth (length ds) c && kinds_truth ds c

-- the type of the variable of a slot
abbrev pub ty_or : Option Declared → Ty
ty_or None = Boolean
ty_or (Some d) = d.1

abbrev pub ty_at : List Declared → ℕ → Ty
ty_at ds i = ty_or (slice_get ds i)

-- ---- Statements

-- one statement, with what is inside it in its places
abbrev pub code_step : List Declared → CompiledStmt-F syntax.Stmt (List Label × syntax.Stmts) (syntax.Expr × syntax.Stmts) → syntax.Stmt
code_step ds CompiledStmt-F.Empty = syntax.Empty
code_step ds CompiledStmt-F.Exit = syntax.Exit
code_step ds CompiledStmt-F.Return = syntax.Return
code_step ds (CompiledStmt-F.AssignLong i e) = syntax.Assign (name_at ds i) (expr_of_number ds (number_said e))
code_step ds (CompiledStmt-F.AssignWithin i least most e) = syntax.Assign (name_at ds i) (expr_of_number ds (number_said e))
code_step ds (CompiledStmt-F.AssignTruth i c) = syntax.Assign (name_at ds i) (expr_of_truth ds (truth_said c))
code_step ds (CompiledStmt-F.If cs others) = syntax.If (syntax.choices cs) (syntax.stmts others)
code_step ds (CompiledStmt-F.Case e bs others) = syntax.Case (expr_of_number ds (number_said e)) (syntax.branches bs) (syntax.stmts others)
code_step ds (CompiledStmt-F.For c body) = syntax.For (name_at ds c.slot) (expr_of_number ds (number_said c.start)) (expr_of_number ds (number_said c.end)) (expr_of_number ds (number_said c.step)) (syntax.stmts body)
code_step ds (CompiledStmt-F.While c body) = syntax.While (expr_of_truth ds (truth_said c)) (syntax.stmts body)
code_step ds (CompiledStmt-F.Repeat body c) = syntax.Repeat (syntax.stmts body) (expr_of_truth ds (truth_said c))

abbrev pub fork_step : List Declared → CompiledBranch-F syntax.Stmt (List Label × syntax.Stmts) (syntax.Expr × syntax.Stmts) → List Label × syntax.Stmts
fork_step ds b = (b.labels, syntax.stmts b.body)

abbrev pub arm_step : List Declared → CompiledChoice-F syntax.Stmt (List Label × syntax.Stmts) (syntax.Expr × syntax.Stmts) → syntax.Expr × syntax.Stmts
arm_step ds c = (expr_of_truth ds (truth_said c.condition), syntax.stmts c.body)

-- what a statement that runs says
abbrev pub code_said : List Declared → code.CompiledStmt → syntax.Stmt
code_said ds = code.fold-CompiledStmt syntax.Stmt (List Label × syntax.Stmts) (syntax.Expr × syntax.Stmts) (code_step ds) (fork_step ds) (arm_step ds)

abbrev pub fork_said : List Declared → CompiledBranch → List Label × syntax.Stmts
fork_said ds = fold-CompiledBranch syntax.Stmt (List Label × syntax.Stmts) (syntax.Expr × syntax.Stmts) (code_step ds) (fork_step ds) (arm_step ds)

abbrev pub arm_said : List Declared → CompiledChoice → syntax.Expr × syntax.Stmts
arm_said ds = fold-CompiledChoice syntax.Stmt (List Label × syntax.Stmts) (syntax.Expr × syntax.Stmts) (code_step ds) (fork_step ds) (arm_step ds)

abbrev pub codes_said : List Declared → List code.CompiledStmt → syntax.Stmts
codes_said ds ss = syntax.stmts (map (code_said ds) ss)

abbrev pub forks_said : List Declared → List CompiledBranch → syntax.Branches
forks_said ds bs = syntax.branches (map (fork_said ds) bs)

abbrev pub arms_said : List Declared → List CompiledChoice → syntax.Choices
arms_said ds cs = syntax.choices (map (arm_said ds) cs)

-- the type holds each number of 64 bits, and no others
abbrev pub is_long : Ty → Bool
is_long Lint = true
is_long Time = true
is_long _ = false

abbrev pub is_long_type : Option Declared → Bool
is_long_type None = false
is_long_type (Some d) = is_long d.1

-- those are the least and the greatest number of 64 bits that the type holds
abbrev pub is_within : ℤ → ℤ → Ty → Bool
is_within least most Boolean = false
is_within least most t = same_whole least (least_of t) && same_whole most (most_of t)

abbrev pub is_within_type : ℤ → ℤ → Option Declared → Bool
is_within_type least most None = false
is_within_type least most (Some d) = is_within least most d.1

abbrev pub all_right : List Bool → Bool
all_right bs = list_all (λ b. b) bs

-- the start, the end and the step of FOR are right, and so is the range of its variable
abbrev pub count_right : List Declared → CountExpr → Bool
count_right ds c = is_within_type c.least c.most (slice_get ds c.slot) && right_number ds (number_said c.start) && right_number ds (number_said c.end) && right_number ds (number_said c.step)

abbrev pub right_step : List Declared → CompiledStmt-F Bool Bool Bool → Bool
right_step ds CompiledStmt-F.Empty = true
right_step ds CompiledStmt-F.Exit = true
right_step ds CompiledStmt-F.Return = true
right_step ds (CompiledStmt-F.AssignLong i e) = is_long_type (slice_get ds i) && right_number ds (number_said e)
right_step ds (CompiledStmt-F.AssignWithin i least most e) = is_within_type least most (slice_get ds i) && right_number ds (number_said e)
right_step ds (CompiledStmt-F.AssignTruth i c) = is_truth_type (slice_get ds i) && right_truth ds (truth_said c)
right_step ds (CompiledStmt-F.If cs others) = all_right cs && all_right others
right_step ds (CompiledStmt-F.Case e bs others) = right_number ds (number_said e) && all_right bs && all_right others
right_step ds (CompiledStmt-F.For c body) = count_right ds c && all_right body
right_step ds (CompiledStmt-F.While c body) = right_truth ds (truth_said c) && all_right body
right_step ds (CompiledStmt-F.Repeat body c) = all_right body && right_truth ds (truth_said c)

abbrev pub fork_right_step : List Declared → CompiledBranch-F Bool Bool Bool → Bool
fork_right_step ds b = all_right b.body

abbrev pub arm_right_step : List Declared → CompiledChoice-F Bool Bool Bool → Bool
arm_right_step ds c = right_truth ds (truth_said c.condition) && all_right c.body

-- whether a statement fits the layout
abbrev pub code_right : List Declared → code.CompiledStmt → Bool
code_right ds = code.fold-CompiledStmt Bool Bool Bool (right_step ds) (fork_right_step ds) (arm_right_step ds)

abbrev pub fork_right : List Declared → CompiledBranch → Bool
fork_right ds = fold-CompiledBranch Bool Bool Bool (right_step ds) (fork_right_step ds) (arm_right_step ds)

abbrev pub arm_right : List Declared → CompiledChoice → Bool
arm_right ds = fold-CompiledChoice Bool Bool Bool (right_step ds) (fork_right_step ds) (arm_right_step ds)

abbrev pub codes_right : List Declared → List code.CompiledStmt → Bool
codes_right ds ss = all_right (map (code_right ds) ss)

abbrev pub forks_right : List Declared → List CompiledBranch → Bool
forks_right ds bs = all_right (map (fork_right ds) bs)

abbrev pub arms_right : List Declared → List CompiledChoice → Bool
arms_right ds cs = all_right (map (arm_right ds) cs)
