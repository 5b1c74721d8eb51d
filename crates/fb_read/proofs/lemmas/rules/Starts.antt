-- Which token a rule begins with, and which may follow an expression.
use Rattle.fb_read.proofs.lemmas.Common.{◌≡◌, ℕ, suc, true, false, List, [], ◌∷◌, Some, Err, refl, arith, BinaryOperator, Expr, eq-eqb, Mark, Tokens, arguments, arguments_from, nested_expression, same_mark, sees, rest_of, too_deep, IsMark, is_mark, is_name, is_whole, is_time, operator_of, next_operator, begins_expression, Stops, IsLevel, is_unary, is_chain, IsChain, ends, goes_on, IsUnary, negated, inverted, is_primary, IsPrimary, is_number, is_duration, is_true, is_false, is_variable, is_group, is_bare_call, is_call, AreArguments, another}
use Rattle.fb_types.proofs.Common.{ne_eqb}
use Rattle.fb_read.specs.declared.token.Mark.TheVariants as mark
use Rattle.fb_read.specs.ExpressionGrammar.{one}

pub stops-weaker : (n : ℕ) (ts : Tokens) → Stops (suc n) ts → Stops n ts
stops-weaker n ts h = record { no_call = h.no_call; no_operator = λ m le. h.no_operator m (omega arith) }

not_open : (k : Mark) (p : ℕ × BinaryOperator) → operator_of k ≡ Some p → same_mark k mark.Open ≡ false
unfolding same_mark
not_open mark.Open p e = absurd cc
not_open _ p e = refl

pub stops-operator : {k : Mark} {ts rest : Tokens} (n : ℕ) (op : BinaryOperator) → IsMark k ts rest → operator_of k ≡ Some (suc n, op) → Stops n ts
stops-operator {k = k} n op is_mark e = record {
  no_call = not_open k (suc n, op) e;
  no_operator = λ m le. rw (e, ne_eqb (suc n) m (λ q. absurd (omega arith))) refl;
}

pub next-operator : {k : Mark} {ts rest : Tokens} (n : ℕ) (op : BinaryOperator) → IsMark k ts rest → operator_of k ≡ Some (n, op) → next_operator n ts ≡ Some op
next-operator n op is_mark e = rw (e, eq-eqb n n refl) refl

pub rest-is : {k : Mark} {ts rest : Tokens} → IsMark k ts rest → rest_of ts ≡ rest
rest-is is_mark = refl

pub chain-stops : {n : ℕ} {first x : Expr} {ts rest : Tokens} → IsChain n first x ts rest → Stops (suc n) rest → Stops n ts
chain-stops {n = n} {ts = ts} ends h = stops-weaker n ts h
chain-stops {n = n} (goes_on {op = op} k o r c) h = stops-operator n op k o

abbrev no_sign : Tokens → Type 0
no_sign ts = (sees mark.Minus ts ≡ false) × (sees mark.Not ts ≡ false)

pub primary-starts : {x : Expr} {ts rest : Tokens} → IsPrimary x ts rest → no_sign ts
unfolding same_mark
primary-starts (is_number is_whole) = (refl, refl)
primary-starts (is_duration is_time) = (refl, refl)
primary-starts (is_true is_mark) = (refl, refl)
primary-starts (is_false is_mark) = (refl, refl)
primary-starts (is_variable is_name) = (refl, refl)
primary-starts (is_group is_mark x l) = (refl, refl)
primary-starts (is_bare_call is_name k l) = (refl, refl)
primary-starts (is_call is_name k a l) = (refl, refl)

-- what an expression begins with closes no call
abbrev opens : Tokens → Type 0
opens ts = (begins_expression ts ≡ true) × (sees mark.Close ts ≡ false)

primary-opens : {x : Expr} {ts rest : Tokens} → IsPrimary x ts rest → opens ts
unfolding same_mark
primary-opens (is_number is_whole) = (refl, refl)
primary-opens (is_duration is_time) = (refl, refl)
primary-opens (is_true is_mark) = (refl, refl)
primary-opens (is_false is_mark) = (refl, refl)
primary-opens (is_variable is_name) = (refl, refl)
primary-opens (is_group is_mark x l) = (refl, refl)
primary-opens (is_bare_call is_name k l) = (refl, refl)
primary-opens (is_call is_name k a l) = (refl, refl)

unary-opens : {x : Expr} {ts rest : Tokens} → IsUnary x ts rest → opens ts
unfolding same_mark
unary-opens (negated is_mark u) = (refl, refl)
unary-opens (inverted is_mark u) = (refl, refl)
unary-opens (is_primary p) = primary-opens p

level-opens : {n : ℕ} {x : Expr} {ts rest : Tokens} → IsLevel n x ts rest → opens ts
level-opens (is_unary u) = unary-opens u
level-opens (is_chain a c) = level-opens a

pub arguments-open : {xs : List Expr} {ts rest : Tokens} → AreArguments xs ts rest → opens ts
arguments-open (one x) = level-opens x
arguments-open (another x k a) = level-opens x

-- arguments at the limit of nesting
pub arguments_at_limit : (below : ℕ) (ts : Tokens) → below ≡ 0 → begins_expression ts ≡ true → arguments below (nested_expression below) ts ≡ Err too_deep
unfolding arguments arguments_from nested_expression
arguments_at_limit below [] none b = absurd cc
arguments_at_limit below (t ∷ ts) none b = rw (none, b) refl
