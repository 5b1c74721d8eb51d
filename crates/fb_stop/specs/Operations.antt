-- At which operation an expression has no value (IEC 61131-3, 7.3.2; that it has a place is this project's profile).
use Rattle.std.specs.Prelude.{◌≡◌, ◌<◌, ◌⊎◌, ℕ, ℤ, Bool, List, map, take, slice_get, Option, Some, None, Result, Ok, Err}
use Rattle.fb_types.specs.Names.{Name}
use Rattle.fb_types.specs.Syntax.{expr_of}
use Rattle.fb_types.specs.Values.{Values, value_of}
use Rattle.fb_types.specs.declared.text.BinaryOperator.{BinaryOperator}
use Rattle.fb_types.specs.declared.text.Expr as read
use Rattle.fb_types.specs.declared.text.UnaryOperator.{UnaryOperator}
use Rattle.fb_types.specs.declared.value.Reason.{Reason}
use Rattle.fb_types.specs.declared.value.Reason.TheVariants as reason
use Rattle.fb_types.specs.declared.value.Value.{Value}
use Rattle.fb_stop.specs.Numbers.{next}
use Rattle.fb_stop.specs.Tokens.{past, past_each}
use Rattle.fb_stop.specs.declared.operation.Operands.{Operands}
use Rattle.fb_stop.specs.declared.operation.Operation.{Operation}

abbrev pub HasValue : Values → read.Expr → Type 0
HasValue vars e = (v : Value) × (value_of (expr_of e) vars ≡ Ok v)

abbrev pub HasNoValue : Values → read.Expr → Type 0
HasNoValue vars e = HasValue vars e → ⊥

-- ---- The values of operands

-- the value of an expression, if it has one
abbrev pub ok_of : Result Value Reason → Option Value
ok_of (Ok v) = Some v
ok_of (Err r) = None

abbrev pub value_in : Values → read.Expr → Option Value
value_in vars e = ok_of (value_of (expr_of e) vars)

abbrev pub value_if : Values → Option read.Expr → Option Value
value_if vars None = None
value_if vars (Some e) = value_in vars e

-- the value of the expression at an index
abbrev pub nth_value : Values → List read.Expr → ℕ → Option Value
nth_value vars es k = value_if vars (slice_get es k)

abbrev pub of_none : Operands
of_none = record { first = None; second = None; third = None }

abbrev pub of_one : Values → read.Expr → Operands
of_one vars e = record { first = value_in vars e; second = None; third = None }

abbrev pub of_two : Values → (left right : read.Expr) → Operands
of_two vars e f = record { first = value_in vars e; second = value_in vars f; third = None }

-- those of the first arguments
abbrev pub of_call : Values → List read.Expr → Operands
of_call vars args = record { first = nth_value vars args 0; second = nth_value vars args 1; third = nth_value vars args 2 }

-- ---- Operations without a value

-- The argument at this index is the first one that has no value.
pub record IsFirstWithout (vars : Values) (args : List read.Expr) (index : ℕ) : Type 0 where
  pub argument : read.Expr
  pub at : slice_get args index ≡ Some argument
  pub before : (k : ℕ) (e : read.Expr) → k < index → slice_get args k ≡ Some e → HasValue vars e
  pub without : HasNoValue vars argument

-- each argument has one
abbrev pub AllHaveValues : Values → List read.Expr → Type 0
AllHaveValues vars args = (k : ℕ) (e : read.Expr) → slice_get args k ≡ Some e → HasValue vars e

abbrev pub IsWithout : Values → Reason → read.Expr → Type 0
IsWithout vars r e = value_of (expr_of e) vars ≡ Err r

-- It has a value, or none for another reason. So have all calls with these arguments.
abbrev pub IsOtherwise : Values → Reason → read.Expr → Type 0
IsOtherwise vars r e = IsWithout vars r e → ⊥

abbrev pub IsCallOtherwise : Values → Reason → List read.Expr → Type 0
IsCallOtherwise vars r args = (f : Name) → IsOtherwise vars r (read.Call f args)

-- The expression that begins at the token has no value for the reason, and that is so by the operation: the operands of
-- the operation have values, and so has what is evaluated before it.
pub data FaultIn (vars : Values) (r : Reason) : read.Expr → ℕ → Operation → Type 0 where
  in_group : (e : read.Expr) (n : ℕ) (x : Operation) → FaultIn vars r e (next n) x → FaultIn vars r (read.Group e) n x
  in_operand : (o : UnaryOperator) (e : read.Expr) (n : ℕ) (x : Operation) → FaultIn vars r e (next n) x → FaultIn vars r (read.Unary o e) n x
  at_unary : (o : UnaryOperator) (e : read.Expr) (n : ℕ) → IsWithout vars r (read.Unary o e) → HasValue vars e
      → FaultIn vars r (read.Unary o e) n (record { first = n; operator = n; end = past (read.Unary o e) n; operands = of_one vars e })
  in_left : (o : BinaryOperator) (e f : read.Expr) (n : ℕ) (x : Operation) → FaultIn vars r e n x → FaultIn vars r (read.Binary o e f) n x
  in_right : (o : BinaryOperator) (e f : read.Expr) (n : ℕ) (x : Operation) → HasValue vars e → FaultIn vars r f (next (past e n)) x → FaultIn vars r (read.Binary o e f) n x
  at_binary : (o : BinaryOperator) (e f : read.Expr) (n : ℕ) → IsWithout vars r (read.Binary o e f) → HasValue vars e → HasValue vars f
      → FaultIn vars r (read.Binary o e f) n (record { first = n; operator = past e n; end = past (read.Binary o e f) n; operands = of_two vars e f })
  in_argument : (f : Name) (args : List read.Expr) (n index : ℕ) (x : Operation) → (h : IsFirstWithout vars args index)
      → FaultIn vars r h.argument (past_each (map past (take index args)) (next (next n))) x → FaultIn vars r (read.Call f args) n x
  at_call : (f : Name) (args : List read.Expr) (n : ℕ) → IsWithout vars r (read.Call f args) → AllHaveValues vars args
      → FaultIn vars r (read.Call f args) n (record { first = n; operator = n; end = past (read.Call f args) n; operands = of_call vars args })

-- The same of a call that ends before a token, if it has no value for the reason.
abbrev pub IsOfCall : Values → Reason → List read.Expr → (first end : ℕ) → Operation → Type 0
IsOfCall vars r args n end x = (f : Name) → IsWithout vars r (read.Call f args) → end ≡ past (read.Call f args) n → FaultIn vars r (read.Call f args) n x

-- ---- Expressions with a value

-- The expression that begins at the token, with the values of its operands; of one in parentheses that inside.
pub data IsOutermost (vars : Values) : read.Expr → ℕ → Operation → Type 0 where
  whole : (z : ℤ) (n : ℕ) → IsOutermost vars (read.Whole z) n (record { first = n; operator = n; end = past (read.Whole z) n; operands = of_none })
  truth : (b : Bool) (n : ℕ) → IsOutermost vars (read.Truth b) n (record { first = n; operator = n; end = past (read.Truth b) n; operands = of_none })
  variable : (v : Name) (n : ℕ) → IsOutermost vars (read.Variable v) n (record { first = n; operator = n; end = past (read.Variable v) n; operands = of_none })
  group : (e : read.Expr) (n : ℕ) (x : Operation) → IsOutermost vars e (next n) x → IsOutermost vars (read.Group e) n x
  unary : (o : UnaryOperator) (e : read.Expr) (n : ℕ)
      → IsOutermost vars (read.Unary o e) n (record { first = n; operator = n; end = past (read.Unary o e) n; operands = of_one vars e })
  binary : (o : BinaryOperator) (e f : read.Expr) (n : ℕ)
      → IsOutermost vars (read.Binary o e f) n (record { first = n; operator = past e n; end = past (read.Binary o e f) n; operands = of_two vars e f })
  call : (f : Name) (args : List read.Expr) (n : ℕ)
      → IsOutermost vars (read.Call f args) n (record { first = n; operator = n; end = past (read.Call f args) n; operands = of_call vars args })

-- The reason is that a value does not fit, and the operation is the outermost one of the expression, which is not at fault.
abbrev pub IsUnfit : Values → Reason → read.Expr → ℕ → Operation → Type 0
IsUnfit vars r e n x = (r ≡ reason.Range) × IsOtherwise vars r e × IsOutermost vars e n x
