-- Whether some values of the types of variables meet a condition (docs/FORMATS.md, "The report (TAP)"; this project's own).
use Rattle.std.specs.Prelude.{ℕ, ◌^◌, ℤ, pos, neg_ℤ, ◌-◌, int_le, int_lt, Bool, true, false, not, ◌&&◌, ◌||◌, List, Option, Some, None, option_map}
use Rattle.std.specs.List.{find, list_all, list_any}
use Rattle.fb_types.specs.Names.{Name, same_name}
use Rattle.fb_types.specs.Values.{in_range}
use Rattle.fb_types.specs.declared.library.Variable.{Variable}
use Rattle.fb_types.specs.declared.value.Ty.{Ty}
use Rattle.fb_types.specs.declared.value.Ty.TheVariants.{Sint, Int, Dint, Lint, Usint, Uint, Udint, Ulint, Time, Bool as Boolean}
use Rattle.fb_types.specs.declared.value.Value.{Value}
use Rattle.fb_types.specs.declared.value.Value.TheVariants as value
use Rattle.fb_expect.specs.Contradictions.{some_value, suits}
use Rattle.fb_expect.specs.Written.{is_equation}
use Rattle.fb_expect.specs.declared.pattern.Comparison.{Comparison}
use Rattle.fb_expect.specs.declared.pattern.Comparison.TheVariants.{Equal, Unequal, Less, AtMost, Greater, AtLeast}
use Rattle.fb_expect.specs.declared.pattern.Condition.{Condition}
use Rattle.fb_expect.specs.declared.pattern.Operand.{Operand}
use Rattle.fb_expect.specs.declared.pattern.Operand.TheVariants as operand

-- the least and the greatest number of a type
abbrev pub least_of : Ty → ℤ
least_of Sint = neg_ℤ (pos (2 ^ 7))
least_of Int = neg_ℤ (pos (2 ^ 15))
least_of Dint = neg_ℤ (pos (2 ^ 31))
least_of Lint = neg_ℤ (pos (2 ^ 63))
least_of Time = neg_ℤ (pos (2 ^ 63))
least_of _ = pos 0

abbrev pub most_of : Ty → ℤ
most_of Sint = pos (2 ^ 7 - 1)
most_of Int = pos (2 ^ 15 - 1)
most_of Dint = pos (2 ^ 31 - 1)
most_of Lint = pos (2 ^ 63 - 1)
most_of Time = pos (2 ^ 63 - 1)
most_of Usint = pos (2 ^ 8 - 1)
most_of Uint = pos (2 ^ 16 - 1)
most_of Udint = pos (2 ^ 32 - 1)
most_of Ulint = pos (2 ^ 64 - 1)
most_of Boolean = pos 0

-- whether some number of a type compares so with a number
abbrev pub can_be_number : Ty → Comparison → ℤ → Bool
can_be_number t Equal n = in_range t n
can_be_number t Unequal n = true
can_be_number t Less n = int_lt (least_of t) n
can_be_number t AtMost n = int_le (least_of t) n
can_be_number t Greater n = int_lt n (most_of t)
can_be_number t AtLeast n = int_le n (most_of t)

abbrev pub is_truth : Ty → Bool
is_truth Boolean = true
is_truth _ = false

-- whether some value of a type compares so with a value
abbrev pub can_be : Ty → Comparison → Value → Bool
can_be t c (value.Bool b) = is_truth t && is_equation c
can_be t c (value.Whole n) = not (is_truth t) && can_be_number t c n

-- Whether some values of two types compare so. All number types have the numbers from 0 to 127, so numbers always do.
abbrev pub can_be_both : (a b : Ty) → Comparison → Bool
can_be_both a b c = (is_truth a && (is_truth b && is_equation c)) || (not (is_truth a) && not (is_truth b))

-- whether a value compares so with itself
abbrev pub is_reflexive : Comparison → Bool
is_reflexive Equal = true
is_reflexive AtMost = true
is_reflexive AtLeast = true
is_reflexive Unequal = false
is_reflexive Less = false
is_reflexive Greater = false

-- ---- Conditions

abbrev pub type_of : List Variable → Name → Option Ty
type_of vs name = option_map (λ v. v.ty) (find (λ v. same_name v.name name) vs)

abbrev pub can_be_of : Option Ty → Comparison → Value → Bool
can_be_of (Some t) c v = can_be t c v
can_be_of None c v = false

abbrev pub can_be_of_both : (a b : Option Ty) → Comparison → Bool
can_be_of_both (Some a) (Some b) c = can_be_both a b c
can_be_of_both (Some a) None c = false
can_be_of_both None b c = false

abbrev pub is_among : Name → List Name → Bool
is_among name names = list_any (λ n. same_name n name) names

-- whether some values of the variables meet a condition, where an event has these of an interface
abbrev pub can_meet : List Variable → List Name → (variable : Name) → Comparison → Operand → Bool
can_meet vs names variable c (operand.Value v) = can_be_of (type_of vs variable) c v
can_meet vs names variable c (operand.Variable other) =
    is_among other names && (can_be_of_both (type_of vs variable) (type_of vs other) c && (not (same_name variable other) || is_reflexive c))

-- whether an event that has these variables of an interface can meet a condition
abbrev pub is_possible : List Variable → List Name → Condition → Bool
is_possible vs names c = is_among c.variable names && can_meet vs names c.variable c.comparison c.operand

-- ---- Conditions on one variable

-- whether a value is one of a type
abbrev pub is_of_type : Ty → Value → Bool
is_of_type t (value.Bool b) = is_truth t
is_of_type t (value.Whole n) = not (is_truth t) && (int_le (least_of t) n && int_le n (most_of t))

-- whether some value of a type suits all conditions on a variable
abbrev pub can_suit : Ty → Name → List Condition → Bool
can_suit t variable cs = some_value (λ v. is_of_type t v && list_all (suits variable v) cs)

-- the same of each variable of an interface
abbrev pub can_suit_all : List Variable → List Condition → Bool
can_suit_all vs cs = list_all (λ v. can_suit v.ty v.name cs) vs
