-- Where the kinds in an expression do not fit (IEC 61131-3, 7.3.2; what is marked is this project's own).
use Rattle.std.specs.Prelude.{◌≡◌, ◌⊎◌, ℕ, zero, suc, Bool, true, false, List, map, take, slice_get, Option, Some, None}
use Rattle.fb_types.specs.Kinds.{is_value_kind, value_kind_of}
use Rattle.fb_types.specs.Names.{Name}
use Rattle.fb_types.specs.Syntax.{expr_of}
use Rattle.fb_types.specs.Values.{Types}
use Rattle.fb_types.specs.declared.function.Function.{Function}
use Rattle.fb_types.specs.declared.function.Function.TheVariants.{Sel}
use Rattle.fb_types.specs.declared.text.BinaryOperator.{BinaryOperator}
use Rattle.fb_types.specs.declared.text.BinaryOperator.TheVariants.{Or, Xor, And, Equal, NotEqual}
use Rattle.fb_types.specs.declared.text.Expr as read
use Rattle.fb_types.specs.declared.text.UnaryOperator.{UnaryOperator}
use Rattle.fb_types.specs.declared.value_kind.ValueKind.{ValueKind}
use Rattle.fb_types.specs.declared.value_kind.ValueKind.TheVariants.{TruthValue, WholeNumber}
use Rattle.fb_why.specs.Tokens.{next, past, past_each}
use Rattle.fb_why.specs.declared.mismatch.PairFault.{PairFault}
use Rattle.fb_why.specs.declared.mismatch.PairFault.TheVariants as fault

abbrev pub HasKind : Types → read.Expr → Type 0
HasKind types e = (k : ValueKind) × (value_kind_of types (expr_of e) ≡ Some k)

abbrev pub HasNoKind : Types → read.Expr → Type 0
HasNoKind types e = value_kind_of types (expr_of e) ≡ None

-- ---- Parts of an expression, by the tokens at which they begin

-- The second expression is an operand or an argument of the first one, or what its parentheses hold.
pub data IsOperand : read.Expr → ℕ → read.Expr → ℕ → Type 0 where
  inside : (e : read.Expr) (n : ℕ) → IsOperand (read.Group e) n e (next n)
  operand : (o : UnaryOperator) (e : read.Expr) (n : ℕ) → IsOperand (read.Unary o e) n e (next n)
  left : (o : BinaryOperator) (e f : read.Expr) (n : ℕ) → IsOperand (read.Binary o e f) n e n
  right : (o : BinaryOperator) (e f : read.Expr) (n : ℕ) → IsOperand (read.Binary o e f) n f (next (past e n))
  argument : (f : Name) (args : List read.Expr) (k : ℕ) (e : read.Expr) (n : ℕ) → slice_get args k ≡ Some e
      → IsOperand (read.Call f args) n e (past_each (map past (take k args)) (next (next n)))

-- The second expression is the first one, or is in it.
pub data IsIn : read.Expr → ℕ → read.Expr → ℕ → Type 0 where
  itself : (e : read.Expr) (n : ℕ) → IsIn e n e n
  deeper : (e : read.Expr) (n : ℕ) (d : read.Expr) (k : ℕ) (x : read.Expr) (m : ℕ) → IsOperand e n d k → IsIn d k x m → IsIn e n x m

-- The second expression is an operand of the first one, has a kind, and is of a kind that the operation does not take there:
-- it has no kind, whatever its other operands are.
pub data IsUnfit (types : Types) : read.Expr → ℕ → read.Expr → ℕ → Type 0 where
  unfit_operand : (o : UnaryOperator) (e : read.Expr) (n : ℕ) → HasKind types e → HasNoKind types (read.Unary o e) → IsUnfit types (read.Unary o e) n e (next n)
  unfit_left : (o : BinaryOperator) (e f : read.Expr) (n : ℕ) → HasKind types e → ((g : read.Expr) → HasNoKind types (read.Binary o e g)) → IsUnfit types (read.Binary o e f) n e n
  unfit_right : (o : BinaryOperator) (e f : read.Expr) (n : ℕ) → HasKind types f → ((g : read.Expr) → HasNoKind types (read.Binary o g f)) → IsUnfit types (read.Binary o e f) n f (next (past e n))
  unfit_argument : (f : Name) (args : List read.Expr) (k : ℕ) (e : read.Expr) (n : ℕ) → slice_get args k ≡ Some e → HasKind types e
      → ((others : List read.Expr) → slice_get others k ≡ Some e → HasNoKind types (read.Call f others))
      → IsUnfit types (read.Call f args) n e (past_each (map past (take k args)) (next (next n)))

-- ---- What an operation takes

-- the kind of both operands, if the operator takes one kind only
abbrev pub kind_of_operands : BinaryOperator → Option ValueKind
kind_of_operands Or = Some TruthValue
kind_of_operands Xor = Some TruthValue
kind_of_operands And = Some TruthValue
kind_of_operands Equal = None
kind_of_operands NotEqual = None
kind_of_operands _ = Some WholeNumber

-- a function takes this kind as its argument at an index, whatever the others are
abbrev pub fits : Function → ℕ → Option ValueKind → Bool
fits Sel zero kind = is_value_kind TruthValue kind
fits Sel (suc k) kind = true
fits _ k kind = is_value_kind WholeNumber kind

-- what is wrong with two operands, of which this is the left one
abbrev pub IsPairFault : Types → BinaryOperator → read.Expr → PairFault → Type 0
IsPairFault types o e fault.Left = (k : ValueKind) × (kind_of_operands o ≡ Some k) × (is_value_kind k (value_kind_of types (expr_of e)) ≡ false)
IsPairFault types o e fault.Right = (k : ValueKind) × (kind_of_operands o ≡ Some k) × (is_value_kind k (value_kind_of types (expr_of e)) ≡ true)
IsPairFault types o e fault.Both = Unit {0}

-- ---- What is marked

-- an operation, or an operand of it that does not fit
abbrev pub IsOfOperation : Types → read.Expr → ℕ → read.Expr → ℕ → Type 0
IsOfOperation types y k x m = ((x ≡ y) × (m ≡ k)) ⊎ IsUnfit types y k x m

-- The operation is in the expression and has no kind, and the mark is of it.
pub record IsMismatch (types : Types) (e : read.Expr) (n : ℕ) (operation x : read.Expr) (m : ℕ) : Type 0 where
  pub from : ℕ
  pub there : IsIn e n operation from
  pub without : HasNoKind types operation
  pub marked : IsOfOperation types operation from x m

-- An expression that has a kind is marked itself.
abbrev pub IsMarked : Types → read.Expr → ℕ → read.Expr → ℕ → Type 0
IsMarked types e n x m = (HasKind types e × (x ≡ e) × (m ≡ n)) ⊎ ((operation : read.Expr) × IsMismatch types e n operation x m)
