-- Calls whose number of arguments no function has.
use Rattle.fb_types.proofs.Common.{◌≡◌, List, [], ◌∷◌, ◌≤◌, length, Option, Some, None, refl, arith, option_map, option_and_then, expr_of, Types}
use Rattle.fb_types.specs.declared.function.Function.{Function}
use Rattle.fb_types.specs.declared.text.Expr.{Expr}
use Rattle.fb_types.specs.Kinds.{value_kind_of, value_kinds_of, function_value_kind}
use Rattle.fb_types.specs.declared.function.Function.TheVariants.{Min, Max, Abs, Limit, Sel}
use Rattle.fb_types.specs.declared.value_kind.ValueKind.{ValueKind}
use Rattle.fb_check.specs.types.Trees.{arguments_of}

abbrev pub put : Option ValueKind → Option (List ValueKind) → Option (List ValueKind)
put o rest = option_and_then (λ s. option_map (λ ss. s ∷ ss) rest) o

more : (g : Function) (s t u v : ValueKind) (ss : List ValueKind) → None ≡ function_value_kind g (s ∷ t ∷ u ∷ v ∷ ss)
more Min s t u v ss = refl
more Max s t u v ss = refl
more Abs s t u v ss = refl
more Limit s t u v ss = refl
more Sel s t u v ss = refl

four : (g : Function) (a b c d : Option ValueKind) (rest : Option (List ValueKind)) → None ≡ option_and_then (function_value_kind g) (put a (put b (put c (put d rest))))
four g None b c d rest = refl
four g (Some s) None c d rest = refl
four g (Some s) (Some t) None d rest = refl
four g (Some s) (Some t) (Some u) None rest = refl
four g (Some s) (Some t) (Some u) (Some v) None = refl
four g (Some s) (Some t) (Some u) (Some v) (Some ss) = more g s t u v ss

pub no_value_kind :
    (types : Types) (g : Function) (es : List Expr) → 4 ≤ length es → None ≡ option_and_then (function_value_kind g) (value_kinds_of types (arguments_of es))
no_value_kind types g [] h = absurd (omega (arith, h))
no_value_kind types g (a ∷ []) h = absurd (omega (arith, h))
no_value_kind types g (a ∷ b ∷ []) h = absurd (omega (arith, h))
no_value_kind types g (a ∷ b ∷ c ∷ []) h = absurd (omega (arith, h))
no_value_kind types g (a ∷ b ∷ c ∷ d ∷ rest) h =
    four g (value_kind_of types (expr_of a)) (value_kind_of types (expr_of b)) (value_kind_of types (expr_of c)) (value_kind_of types (expr_of d)) (value_kinds_of types (arguments_of rest))
