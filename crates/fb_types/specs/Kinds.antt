-- E22: an expression, a statement or a value has the wrong kind (IEC 61131-3, 7.3).
use Rattle.std.specs.Prelude.{◌≡◌, ◌⊎◌, List, [], ◌∷◌, map, Bool, true, false, not, ◌&&◌, Option, Some, None, Contains, option_map, option_and_then}
use Rattle.std.specs.List.{list_all}
use Rattle.fb_types.specs.Names.{Name}
use Rattle.fb_types.specs.Syntax.{Expr, Whole, Truth, Variable, Unary, Binary, Call, Exprs, no_expr, then_exprs, Stmt, Empty, Exit, Return, Assign, If, Case, For, While, Repeat, Stmts, no_stmt, then_stmts, Choices, no_choice, then_choices, Branches, no_branch, then_branches, body_of}
use Rattle.fb_types.specs.Values.{Types, fits, function_named}
use Rattle.fb_types.specs.Blocks.{named, ports_of, is_input, types_of}
use Rattle.fb_types.specs.Flat.{kind_of, kind_of_instance, variables_in}
use Rattle.fb_types.specs.Repeated.{OwnedNetwork, networks, basics}
use Rattle.fb_types.specs.Unknown.{guards_of}
use Rattle.fb_types.specs.declared.function.Function.{Function}
use Rattle.fb_types.specs.declared.function.Function.TheVariants.{Min, Max, Abs, Limit, Sel}
use Rattle.fb_types.specs.declared.value_kind.ValueKind.{ValueKind}
use Rattle.fb_types.specs.declared.value_kind.ValueKind.TheVariants.{TruthValue, WholeNumber}
use Rattle.fb_types.specs.declared.text.UnaryOperator.{UnaryOperator}
use Rattle.fb_types.specs.declared.text.UnaryOperator.TheVariants.{Negate, Not}
use Rattle.fb_types.specs.declared.text.BinaryOperator.{BinaryOperator}
use Rattle.fb_types.specs.declared.text.BinaryOperator.TheVariants.{Or, Xor, And, Equal, NotEqual, Less, Greater, LessOrEqual, GreaterOrEqual}
use Rattle.fb_types.specs.declared.value.Ty.{Ty}
use Rattle.fb_types.specs.declared.value.Ty.TheVariants.{Bool as Boolean}
use Rattle.fb_types.specs.declared.library.Library.{Library}
use Rattle.fb_types.specs.declared.library.BlockType.{BlockType}
use Rattle.fb_types.specs.declared.library.BasicType.{BasicType}
use Rattle.fb_types.specs.declared.library.Instance.{Instance}
use Rattle.fb_types.specs.declared.library.Parameter.{Parameter}
use Rattle.fb_types.specs.declared.library.Ports.{Ports}
use Rattle.fb_types.specs.declared.library.Variable as declared

-- the kind of the values of a type
abbrev pub value_kind_of_type : Ty → ValueKind
value_kind_of_type Boolean = TruthValue
value_kind_of_type _ = WholeNumber

abbrev pub same_value_kind : ValueKind → ValueKind → Bool
same_value_kind TruthValue TruthValue = true
same_value_kind WholeNumber WholeNumber = true
same_value_kind _ _ = false

-- the kind of a value, if its operands have the right ones
abbrev pub if_right : Bool → ValueKind → Option ValueKind
if_right true s = Some s
if_right false s = None

abbrev pub are_truths : ValueKind → ValueKind → Bool
are_truths s t = same_value_kind s TruthValue && same_value_kind t TruthValue

abbrev pub are_whole : ValueKind → ValueKind → Bool
are_whole s t = same_value_kind s WholeNumber && same_value_kind t WholeNumber

abbrev pub unary_value_kind : UnaryOperator → ValueKind → Option ValueKind
unary_value_kind Negate s = if_right (same_value_kind s WholeNumber) WholeNumber
unary_value_kind Not s = if_right (same_value_kind s TruthValue) TruthValue

abbrev pub binary_value_kind : BinaryOperator → ValueKind → ValueKind → Option ValueKind
binary_value_kind Or s t = if_right (are_truths s t) TruthValue
binary_value_kind Xor s t = if_right (are_truths s t) TruthValue
binary_value_kind And s t = if_right (are_truths s t) TruthValue
binary_value_kind Equal s t = if_right (same_value_kind s t) TruthValue
binary_value_kind NotEqual s t = if_right (same_value_kind s t) TruthValue
binary_value_kind Less s t = if_right (are_whole s t) TruthValue
binary_value_kind Greater s t = if_right (are_whole s t) TruthValue
binary_value_kind LessOrEqual s t = if_right (are_whole s t) TruthValue
binary_value_kind GreaterOrEqual s t = if_right (are_whole s t) TruthValue
binary_value_kind _ s t = if_right (are_whole s t) WholeNumber

-- A wrong number of arguments has no kind.
abbrev pub function_value_kind : Function → List ValueKind → Option ValueKind
function_value_kind Min (s ∷ t ∷ []) = if_right (are_whole s t) WholeNumber
function_value_kind Max (s ∷ t ∷ []) = if_right (are_whole s t) WholeNumber
function_value_kind Abs (s ∷ []) = if_right (same_value_kind s WholeNumber) WholeNumber
function_value_kind Limit (s ∷ t ∷ u ∷ []) = if_right (same_value_kind s WholeNumber && are_whole t u) WholeNumber
function_value_kind Sel (s ∷ t ∷ u ∷ []) = if_right (same_value_kind s TruthValue && same_value_kind t u) t
function_value_kind _ _ = None

-- the kind of an expression, or none if an operand or the number of arguments is wrong
abbrev mutual
  pub value_kind_of : Types → Expr → Option ValueKind
  value_kind_of types (Whole z) = Some WholeNumber
  value_kind_of types (Truth b) = Some TruthValue
  value_kind_of types (Variable n) = Some (value_kind_of_type (types n))
  value_kind_of types (Unary o e) = option_and_then (unary_value_kind o) (value_kind_of types e)
  value_kind_of types (Binary o e f) = option_and_then (λ s. option_and_then (binary_value_kind o s) (value_kind_of types f)) (value_kind_of types e)
  value_kind_of types (Call f args) =
      option_and_then (λ g. option_and_then (function_value_kind g) (value_kinds_of types args)) (function_named f)

  pub value_kinds_of : Types → Exprs → Option (List ValueKind)
  value_kinds_of types no_expr = Some []
  value_kinds_of types (then_exprs e rest) = option_and_then (λ s. option_map (λ ss. s ∷ ss) (value_kinds_of types rest)) (value_kind_of types e)

abbrev pub is_value_kind : ValueKind → Option ValueKind → Bool
is_value_kind s None = false
is_value_kind s (Some t) = same_value_kind s t

-- ---- Statements

-- What surrounds a statement: the types of the variables, those that it may not assign, and whether it is in a loop.
pub record Context : Type 0 where
  pub types : Types
  pub fixed : Name → Bool
  pub in_loop : Bool

abbrev pub looped : Context → Context
looped p = record p { in_loop = true }

abbrev pub is_whole : Context → Expr → Bool
is_whole p e = is_value_kind WholeNumber (value_kind_of p.types e)

abbrev pub is_condition : Context → Expr → Bool
is_condition p e = is_value_kind TruthValue (value_kind_of p.types e)

abbrev mutual
  pub is_right : Context → Stmt → Bool
  is_right p Empty = true
  is_right p Exit = p.in_loop
  is_right p Return = true
  is_right p (Assign n e) = not (p.fixed n) && is_value_kind (value_kind_of_type (p.types n)) (value_kind_of p.types e)
  is_right p (If cs others) = choices_right p cs && body_right p others
  is_right p (Case e bs others) = is_whole p e && branches_right p bs && body_right p others
  is_right p (For n a b c body) =
      not (p.fixed n) && same_value_kind WholeNumber (value_kind_of_type (p.types n))
      && is_whole p a && is_whole p b && is_whole p c && body_right (looped p) body
  is_right p (While c body) = is_condition p c && body_right (looped p) body
  is_right p (Repeat body c) = body_right (looped p) body && is_condition p c

  pub body_right : Context → Stmts → Bool
  body_right p no_stmt = true
  body_right p (then_stmts s rest) = is_right p s && body_right p rest

  pub choices_right : Context → Choices → Bool
  choices_right p no_choice = true
  choices_right p (then_choices c body rest) = is_condition p c && body_right p body && choices_right p rest

  pub branches_right : Context → Branches → Bool
  branches_right p no_branch = true
  branches_right p (then_branches ls body rest) = body_right p body && branches_right p rest

-- an algorithm or a guard of a type: its input variables may not be assigned
abbrev pub context_in : BasicType → Context
context_in t = record { types = types_of t; fixed = is_input t.ports; in_loop = false }

-- ---- Declared values and parameters

abbrev pub declared_right : declared.Variable → Bool
declared_right v = elim v.initial [ None ↦ true | Some w ↦ fits v.ty w ]

abbrev pub parameter_right : Ports → Parameter → Bool
parameter_right its x = elim (named (λ v. v.name) x.name its.inputs) [ None ↦ true | Some v ↦ fits v.ty x.value ]

-- a parameter is a value of its input's type
abbrev pub parameters_right : Library → Instance → Bool
parameters_right lib i =
    elim (kind_of_instance lib i) [ None ↦ true | Some k ↦ list_all (parameter_right (ports_of k)) i.parameters ]

-- ---- The refusal

abbrev pub ChartWrong : BasicType → Type 0
ChartWrong t =
    ((e : Expr) × Contains (guards_of t) e × (is_condition (context_in t) e ≡ false))
    ⊎ ((s : Stmts) × Contains (map (λ a. body_of a.body) t.algorithms) s × (body_right (context_in t) s ≡ false))

abbrev pub KindWrong : Library → Type 0
KindWrong lib =
    ((t : BasicType) × Contains (basics lib) t × ChartWrong t)
    ⊎ ((t : BlockType) × (v : declared.Variable) × Contains lib.blocks t × Contains (variables_in (kind_of t)) v × (declared_right v ≡ false))
    ⊎ ((n : OwnedNetwork) × (i : Instance) × Contains (networks lib) n × Contains n.1.instances i × (parameters_right lib i ≡ false))
