-- An operator and its right operand, after a left one.
use Rattle.fb_read.proofs.lemmas.Common.{◌≡◌, ◌<◌, ℕ, suc, ◌+◌, ◌-◌, max, leb, Bool, true, false, if◌then◌else◌, Some, None, Ok, Err, refl, ap, ◌∙◌, BinaryOperator, Tokens, Parser, Outcome, RuleFault, too_deep, and_then, rest_of, Nested, next_operator, climb, around}
use Rattle.fb_types.specs.declared.text.Expr.TheVariants as e
use Rattle.fb_read.specs.Expressions.{joined, operated}
use Rattle.fb_read.proofs.lemmas.rules.CountedLoops.{one_more}

grouped : {A B C : Type 0} (r : Outcome A) (f : A → Parser B) (g : B → Parser C) → and_then r (λ a ts. and_then (f a ts) g) ≡ and_then (and_then r f) g
grouped (Ok p) f g = refl
grouped (Err e) f g = refl

grouped_if : {A B C : Type 0} (b : Bool) (e : RuleFault) (r : Outcome A) (f : A → Parser B) (g : B → Parser C)
    → (if b then and_then r (λ a ts. and_then (f a ts) g) else Err e) ≡ and_then (if b then and_then r f else Err e) g
grouped_if true e r f g = grouped r f g
grouped_if false e r f g = refl

operated_is : (below : ℕ) (inner : ℕ → Parser Nested) (go : Nested → Parser Nested) (operand : Parser Nested) (left : Nested) (op : BinaryOperator) (ts : Tokens)
    → operated below inner go operand left (Some op) ts ≡ and_then (joined below operand left op ts) go
unfolding joined
operated_is below inner go operand left op ts =
    grouped_if {A = Nested} (leb left.nesting below) too_deep (operand (rest_of ts)) (λ right. around below (max left.nesting right.nesting) (e.Binary op left.expr right.expr)) go

climb_operated : (below : ℕ) (inner : ℕ → Parser Nested) (level : ℕ) (operand : Parser Nested) (n : ℕ) (left : Nested) (ts : Tokens)
    → climb below inner level operand (suc n) left ts ≡ operated below inner (climb below inner level operand n) operand left (next_operator level ts) ts
unfolding climb
climb_operated below inner level operand n left ts = refl

-- the end of the loop, where no operator is next
pub climb_over : (below : ℕ) (inner : ℕ → Parser Nested) (level : ℕ) (operand : Parser Nested) (n : ℕ) (left : Nested) (ts : Tokens)
    → next_operator level ts ≡ None → climb below inner level operand (suc n) left ts ≡ Ok (left, ts)
climb_over below inner level operand n left ts none =
    climb_operated below inner level operand n left ts
    ∙ ap (λ o. operated below inner (climb below inner level operand n) operand left o ts) none

-- an iteration of the loop at an operator
pub joined_more : {x : Outcome Nested} (below : ℕ) (inner : ℕ → Parser Nested) (level : ℕ) (operand : Parser Nested) (left : Nested) (op : BinaryOperator) (ts : Tokens) (n at : ℕ)
    → at < n → x ≡ climb below inner level operand (n - at) left ts → next_operator level ts ≡ Some op
    → x ≡ and_then (joined below operand left op ts) (climb below inner level operand (n - (at + 1)))
joined_more below inner level operand left op ts n at more e found =
    let go = climb below inner level operand (n - (at + 1)) in
    one_more (λ m. climb below inner level operand m left ts) n at more e
    ∙ climb_operated below inner level operand (n - (at + 1)) left ts
    ∙ ap (λ o. operated below inner go operand left o ts) found
    ∙ operated_is below inner go operand left op ts
