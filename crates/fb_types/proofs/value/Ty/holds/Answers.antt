use Rattle.fb_types.proofs.Common.{◌≡◌, ℕ, ℤ, Result, Ok, Err, is_ok, rules, arith, sym, ap, ◌∙◌, to_z-of_z, ints, fits}
use Rattle.std.specs.Int.{FitsUnsigned}
use Rattle.std.specs.Result.{OkIff}
use mir.Syntax.{w64, w128}
use mir.Val.{SFits}
use Rattle.fb_types.specs.Values.{within_unsigned}
use Rattle.fb_types.proofs.value.Ty.holds.Goals as goal

in_64_bits : {E : Type 0} (z : ℤ) (n : ℕ) (r : Result ℕ E) → OkIff r (FitsUnsigned w64 z) n → is_ok r ≡ within_unsigned 64 z
in_64_bits z n (Ok x) is = let range = is.0 in grind (arith, ints, range)
in_64_bits z n (Err e) outside = grind (arith, ints, outside)

pub returns-in-Ulint : goal.returns-in-Ulint
returns-in-Ulint c =
    let range : SFits w128 c.in-Whole.number = search rules in
    c.is_ok-in-Ulint.ensures.value ∙ in_64_bits _ _ c.try_from-in-Ulint.result c.try_from-in-Ulint.ensures ∙ ap (within_unsigned 64) (to_z-of_z range)
    ∙ (λ i. fits (sym c.in-Ulint.is i) (sym c.in-Whole.is i))
