-- The kinds of expressions, each by its parts.
use Rattle.fb_types.proofs.Common.{◌≡◌, ◌≤◌, ◌<◌, List, [], ◌∷◌, get_or, length, Option, Some, None, refl, sym, ◌∙◌, ap, arith, option_and_then, Name, expr_of, Types, function_named}
use Rattle.fb_types.specs.declared.function.Function.{Function}
use Rattle.fb_types.specs.declared.text.BinaryOperator.{BinaryOperator}
use Rattle.fb_types.specs.declared.text.Expr.{Expr}
use Rattle.fb_types.specs.declared.text.UnaryOperator.{UnaryOperator}
use Rattle.fb_types.specs.Kinds.{binary_value_kind, function_value_kind, value_kind_of, value_kind_of_type, value_kinds_of, unary_value_kind}
use Rattle.fb_types.specs.declared.value_kind.ValueKind.{ValueKind}
use Rattle.fb_types.specs.declared.text.Expr as expr
use Rattle.fb_check.specs.types.Trees.{arguments_of}
use Rattle.fb_check.proofs.lemmas.types.Meanings.{binary_says, call_says, group_says, unary_says, variable_says}
use Rattle.fb_check.proofs.lemmas.types.Arguments.{put}

abbrev value_kind_in : Types → Expr → Option ValueKind
value_kind_in types e = value_kind_of types (expr_of e)

-- the operands are those that the code uses
pub variable_value_kind : (types : Types) (e : Expr) (n v : Name) → e ≡ expr.Variable v → n ≡ v → value_kind_in types e ≡ Some (value_kind_of_type (types n))
variable_value_kind types e n v is same =
    ap (value_kind_in types) is ∙ ap (value_kind_of types) (variable_says v) ∙ ap (λ (n : Name). Some (value_kind_of_type (types n))) (sym same)

pub group_value_kind : (types : Types) (e a b : Expr) → e ≡ expr.Group b → a ≡ b → value_kind_in types e ≡ value_kind_in types a
group_value_kind types e a b is same = ap (value_kind_in types) is ∙ ap (value_kind_of types) (group_says b) ∙ ap (value_kind_in types) (sym same)

pub unary_is :
    (types : Types) (e : Expr) (o : UnaryOperator) (a b : Expr) → e ≡ expr.Unary o b → a ≡ b → value_kind_in types e ≡ option_and_then (unary_value_kind o) (value_kind_in types a)
unary_is types e o a b is same =
    ap (value_kind_in types) is ∙ ap (value_kind_of types) (unary_says o b) ∙ ap (λ (a : Expr). option_and_then (unary_value_kind o) (value_kind_in types a)) (sym same)

pub binary_is :
    (types : Types) (e : Expr) (o : BinaryOperator) (a b c d : Expr) → e ≡ expr.Binary o b d → a ≡ b → c ≡ d
    → value_kind_in types e ≡ option_and_then (λ s. option_and_then (binary_value_kind o s) (value_kind_in types c)) (value_kind_in types a)
binary_is types e o a b c d is left right =
    ap (value_kind_in types) is ∙ ap (value_kind_of types) (binary_says o b d)
    ∙ (λ i. option_and_then (λ s. option_and_then (binary_value_kind o s) (value_kind_in types (sym right i))) (value_kind_in types (sym left i)))

pub call_is :
    (types : Types) (e : Expr) (f : Name) (es fs : List Expr) → e ≡ expr.Call f fs → es ≡ fs
    → value_kind_in types e ≡ option_and_then (λ g. option_and_then (function_value_kind g) (value_kinds_of types (arguments_of es))) (function_named f)
call_is types e f es fs is arguments =
    ap (value_kind_in types) is ∙ ap (value_kind_of types) (call_says f fs)
    ∙ ap (λ (es : List Expr). option_and_then (λ g. option_and_then (function_value_kind g) (value_kinds_of types (arguments_of es))) (function_named f)) (sym arguments)

-- ---- From what the code found of the parts

pub unary_from :
    (types : Types) (e : Expr) (o : UnaryOperator) (a b : Expr) (s r : Option ValueKind) → e ≡ expr.Unary o b → a ≡ b → s ≡ value_kind_in types a
    → r ≡ option_and_then (unary_value_kind o) s → r ≡ value_kind_in types e
unary_from types e o a b s r is same operand result = result ∙ ap (option_and_then (unary_value_kind o)) operand ∙ sym (unary_is types e o a b is same)

pub binary_from :
    (types : Types) (e : Expr) (o : BinaryOperator) (a b c d : Expr) (s u r : Option ValueKind) → e ≡ expr.Binary o b d → a ≡ b → c ≡ d → s ≡ value_kind_in types a
    → u ≡ value_kind_in types c → r ≡ option_and_then (λ x. option_and_then (binary_value_kind o x) u) s → r ≡ value_kind_in types e
binary_from types e o a b c d s u r is left right first second result =
    result ∙ ap (λ (u : Option ValueKind). option_and_then (λ x. option_and_then (binary_value_kind o x) u) s) second
    ∙ ap (option_and_then (λ x. option_and_then (binary_value_kind o x) (value_kind_in types c))) first ∙ sym (binary_is types e o a b c d is left right)

pub call_from :
    (types : Types) (e : Expr) (f : Name) (es fs : List Expr) (g : Option Function) (r : Option ValueKind) → e ≡ expr.Call f fs → es ≡ fs → g ≡ function_named f
    → r ≡ option_and_then (λ g. option_and_then (function_value_kind g) (value_kinds_of types (arguments_of es))) g → r ≡ value_kind_in types e
call_from types e f es fs g r is arguments named result =
    result ∙ ap (option_and_then (λ g. option_and_then (function_value_kind g) (value_kinds_of types (arguments_of es)))) named ∙ sym (call_is types e f es fs is arguments)

-- ---- One, two or three arguments

pub one_is : {A : Type 0} (xs : List A) (a : A) → 1 ≤ length xs → length xs < 2 → a ≡ get_or xs 0 a → xs ≡ a ∷ []
one_is [] a least below is = absurd (omega (arith, least))
one_is (x ∷ []) a least below is = ap (λ y. y ∷ []) (sym is)
one_is (x ∷ y ∷ ys) a least below is = absurd (omega (arith, below))

pub two_are :
    {A : Type 0} (xs : List A) (a b : A) → 2 ≤ length xs → length xs < 3 → a ≡ get_or xs 0 a → b ≡ get_or xs 1 b → xs ≡ a ∷ b ∷ []
two_are [] a b least below first second = absurd (omega (arith, least))
two_are (x ∷ []) a b least below first second = absurd (omega (arith, least))
two_are (x ∷ y ∷ []) a b least below first second = λ i. sym first i ∷ sym second i ∷ []
two_are (x ∷ y ∷ z ∷ zs) a b least below first second = absurd (omega (arith, below))

pub three_are :
    {A : Type 0} (xs : List A) (a b c : A) → 3 ≤ length xs → length xs < 4 → a ≡ get_or xs 0 a → b ≡ get_or xs 1 b → c ≡ get_or xs 2 c
    → xs ≡ a ∷ b ∷ c ∷ []
three_are [] a b c least below first second third = absurd (omega (arith, least))
three_are (x ∷ []) a b c least below first second third = absurd (omega (arith, least))
three_are (x ∷ y ∷ []) a b c least below first second third = absurd (omega (arith, least))
three_are (x ∷ y ∷ z ∷ []) a b c least below first second third = λ i. sym first i ∷ sym second i ∷ sym third i ∷ []
three_are (x ∷ y ∷ z ∷ w ∷ ws) a b c least below first second third = absurd (omega (arith, below))

abbrev value_kind_of_call : Types → Function → List Expr → Option ValueKind
value_kind_of_call types g es = option_and_then (function_value_kind g) (value_kinds_of types (arguments_of es))

one_put : (g : Function) (s : Option ValueKind) → option_and_then (λ x. function_value_kind g (x ∷ [])) s ≡ option_and_then (function_value_kind g) (put s (Some []))
one_put g None = refl
one_put g (Some x) = refl

two_put :
    (g : Function) (s t : Option ValueKind)
    → option_and_then (λ x. option_and_then (λ y. function_value_kind g (x ∷ y ∷ [])) t) s ≡ option_and_then (function_value_kind g) (put s (put t (Some [])))
two_put g None t = refl
two_put g (Some x) None = refl
two_put g (Some x) (Some y) = refl

three_put :
    (g : Function) (s t u : Option ValueKind)
    → option_and_then (λ x. option_and_then (λ y. option_and_then (λ z. function_value_kind g (x ∷ y ∷ z ∷ [])) u) t) s
    ≡ option_and_then (function_value_kind g) (put s (put t (put u (Some []))))
three_put g None t u = refl
three_put g (Some x) None u = refl
three_put g (Some x) (Some y) None = refl
three_put g (Some x) (Some y) (Some z) = refl

pub one_from :
    (types : Types) (g : Function) (es : List Expr) (a : Expr) (s r : Option ValueKind) → es ≡ a ∷ [] → s ≡ value_kind_in types a
    → r ≡ option_and_then (λ x. function_value_kind g (x ∷ [])) s → r ≡ value_kind_of_call types g es
one_from types g es a s r is first result =
    result ∙ one_put g s ∙ ap (λ (s : Option ValueKind). option_and_then (function_value_kind g) (put s (Some []))) first ∙ sym (ap (value_kind_of_call types g) is)

pub two_from :
    (types : Types) (g : Function) (es : List Expr) (a b : Expr) (s t r : Option ValueKind) → es ≡ a ∷ b ∷ [] → s ≡ value_kind_in types a → t ≡ value_kind_in types b
    → r ≡ option_and_then (λ x. option_and_then (λ y. function_value_kind g (x ∷ y ∷ [])) t) s → r ≡ value_kind_of_call types g es
two_from types g es a b s t r is first second result =
    result ∙ two_put g s t ∙ (λ i. option_and_then (function_value_kind g) (put (first i) (put (second i) (Some [])))) ∙ sym (ap (value_kind_of_call types g) is)

pub three_from :
    (types : Types) (g : Function) (es : List Expr) (a b c : Expr) (s t u r : Option ValueKind) → es ≡ a ∷ b ∷ c ∷ [] → s ≡ value_kind_in types a → t ≡ value_kind_in types b
    → u ≡ value_kind_in types c → r ≡ option_and_then (λ x. option_and_then (λ y. option_and_then (λ z. function_value_kind g (x ∷ y ∷ z ∷ [])) u) t) s
    → r ≡ value_kind_of_call types g es
three_from types g es a b c s t u r is first second third result =
    result ∙ three_put g s t u ∙ (λ i. option_and_then (function_value_kind g) (put (first i) (put (second i) (put (third i) (Some [])))))
    ∙ sym (ap (value_kind_of_call types g) is)
