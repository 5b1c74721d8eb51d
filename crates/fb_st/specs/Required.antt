-- What a value is where a whole number, or a truth value, is required.
use Rattle.std.specs.Prelude.{ℤ, Bool, true, false, Result, Ok}
use Rattle.fb_types.specs.Values.{and_then, whole}
use Rattle.fb_types.specs.declared.text.BinaryOperator.{BinaryOperator}
use Rattle.fb_types.specs.declared.text.BinaryOperator.TheVariants.{Add, Subtract, Multiply, Divide, Modulo}
use Rattle.fb_types.specs.declared.value.Value.{Value}
use Rattle.fb_types.specs.declared.value.Value.TheVariants as value
use Rattle.fb_types.specs.declared.value.Reason.{Reason}

-- the whole number, or the reason why there is none
abbrev pub wholes : Result Value Reason → Result ℤ Reason
wholes r = and_then r (λ v. Ok (whole v))

-- the value that a whole number is, or the reason why there is none
abbrev pub as_whole : Result ℤ Reason → Result Value Reason
as_whole r = and_then r (λ z. Ok (value.Whole z))

-- the value that a truth value is, or the reason why there is none
abbrev pub as_bool : Result Bool Reason → Result Value Reason
as_bool r = and_then r (λ b. Ok (value.Bool b))

-- one and another, or the first reason
abbrev pub both : {A B : Type 0} → Result A Reason → Result B Reason → Result (A × B) Reason
both r s = and_then r (λ a. and_then s (λ b. Ok (a, b)))

-- whether an operator gives a whole number, and no truth value
abbrev pub gives_number : BinaryOperator → Bool
gives_number Add = true
gives_number Subtract = true
gives_number Multiply = true
gives_number Divide = true
gives_number Modulo = true
gives_number _ = false
