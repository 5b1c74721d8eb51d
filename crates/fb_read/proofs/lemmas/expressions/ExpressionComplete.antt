-- Expressions that the grammar derives are read if they keep the limit of nesting, and are refused for their nesting if
-- they do not.
use Rattle.fb_read.proofs.lemmas.Common.{◌≡◌, ℕ, zero, suc, ℤ, pos, ◌<◌, ◌≤◌, max, Bool, true, false, cond, leb, List, [], ◌∷◌, ◌++◌, length, map, Ok, Err, Some, None, refl, sym, ◌∙◌, append_assoc, arith, leb-true, le-leb, lt-leb, Name, BinaryOperator, Expr, Mark, Nested, Tokens, Parser, Outcome, too_deep, and_then, same_mark, sees, rest_of, after, expect, name, literal, nesting, deepest, most_nesting, operator_of, next_operator, begins_expression, Stops, loosest, is_mark, is_name, is_whole, is_time, IsLevel, is_unary, is_chain, IsChain, ends, goes_on, IsUnary, negated, inverted, is_primary, IsPrimary, is_number, is_duration, is_true, is_false, is_variable, is_group, is_bare_call, is_call, AreArguments, another, IsExpression, expression, nested_expression, level_at, climb, unary, primary, arguments, arguments_from, around}
use Rattle.fb_types.proofs.Common.{leb-false}
use Rattle.fb_types.specs.declared.text.UnaryOperator.TheVariants as sign
use Rattle.fb_types.specs.declared.text.Expr.TheVariants as e
use Rattle.fb_read.specs.declared.token.Mark.TheVariants as mark
use Rattle.fb_read.specs.declared.token.Token.TheVariants as token
use Rattle.fb_read.specs.Nesting.{fits_expression}
use Rattle.fb_read.specs.ExpressionGrammar.{one}
use Rattle.fb_read.specs.Expressions.{prefixed, named, call, group}
use Rattle.fb_read.proofs.lemmas.rules.Steps.{after-unseen, mark-shorter}
use Rattle.fb_read.proofs.lemmas.expressions.NestingLaws.{nesting-Group, nesting-Unary, nesting-Binary, nesting-Variable, nesting-Call, nesting-Whole, nesting-Truth}
use Rattle.fb_read.proofs.lemmas.rules.Lengths.{level-shorter}
use Rattle.fb_read.proofs.lemmas.rules.Lists.{IsComplete, picked}
use Rattle.fb_read.proofs.lemmas.expressions.LimitedExpressions.{sized, within, within-fits, within-over, within-zero, bind-within, around-is, leaf-is, one-part}
use Rattle.fb_read.proofs.lemmas.rules.Starts.{next-operator, rest-is, chain-stops, primary-starts, arguments-open}

-- an expression is read to the depth that the limit allows
at_depth : (d n : ℕ) (x : Expr) (ts rest : Tokens) → ((below : ℕ) → level_at below (nested_expression below) n ts ≡ within (suc below) x rest) → nested_expression d n ts ≡ within d x rest
unfolding nested_expression
at_depth zero n x ts rest h = sym (within-zero x rest)
at_depth (suc below) n x ts rest h = h below

chain-grows : {n : ℕ} {first x : Expr} {ts rest : Tokens} → IsChain n first x ts rest → nesting first ≤ nesting x
chain-grows ends = omega arith
chain-grows (goes_on {op = op} {left = left} {right = right} k o r c) = omega (arith, chain-grows c, nesting-Binary op left right)

-- one more operator, if the operand after it is known
climb-step : (below n fuel : ℕ) (op : BinaryOperator) (left right x : Expr) (ts before mid rest : Tokens)
    → next_operator n ts ≡ Some op → rest_of ts ≡ before → (operand : Parser Nested) → operand before ≡ within below right mid
    → nesting (e.Binary op left right) ≤ nesting x
    → (nesting (e.Binary op left right) ≤ suc below → climb below (nested_expression below) n operand fuel (sized (e.Binary op left right)) mid ≡ within (suc below) x rest)
    → climb below (nested_expression below) n operand (suc fuel) (sized left) ts ≡ within (suc below) x rest
unfolding climb
climb-step below n fuel op left right x ts before mid rest next-is before-is operand read grows more =
    rw (next-is, before-is, read) (go (leb (nesting left) below) refl)
  where
    go : (b : Bool) → leb (nesting left) below ≡ b
        → cond b (and_then (within below right mid) (λ y. λ s. and_then (around below (max (nesting left) y.nesting) (e.Binary op left y.expr) s) (λ z. climb below (nested_expression below) n operand fuel z))) (Err too_deep) ≡ within (suc below) x rest
    go true room =
        let b = nesting-Binary op left right in
        bind-within below right mid _ (within (suc below) x rest)
        (λ le. rw (around-is below (max (nesting left) (nesting right)) (e.Binary op left right) mid b)
        (bind-within (suc below) (e.Binary op left right) mid _ (within (suc below) x rest) more (λ lt. within-over (suc below) x rest (omega arith))))
        (λ lt. within-over (suc below) x rest (omega (arith, b, grows)))
    go false full =
        let k = leb-false _ _ full in
        sym (within-over (suc below) x rest (omega (arith, k, nesting-Binary op left right, grows)))

climb-end : (below n fuel : ℕ) (operand : Parser Nested) (x : Expr) (ts : Tokens) → next_operator n ts ≡ None → nesting x ≤ suc below
    → climb below (nested_expression below) n operand fuel (sized x) ts ≡ within (suc below) x ts
unfolding climb
climb-end below n zero operand x ts none fits = sym (within-fits (suc below) x ts fits)
climb-end below n (suc fuel) operand x ts none fits = rw none (sym (within-fits (suc below) x ts fits))

-- ---- a rule, if its parts are known

abbrev Inner : Type 0
Inner = ℕ → Parser Nested

level-step : (below n : ℕ) (first x : Expr) (ts mid rest : Tokens) → level_at below (nested_expression below) n ts ≡ within (suc below) first mid → nesting first ≤ nesting x
    → (nesting first ≤ suc below → climb below (nested_expression below) (suc n) (nested_expression below n) (length mid) (sized first) mid ≡ within (suc below) x rest)
    → level_at below (nested_expression below) (suc n) ts ≡ within (suc below) x rest
unfolding level_at
level-step below n first x ts mid rest read grows go =
    rw read (bind-within (suc below) first mid _ (within (suc below) x rest) go (λ lt. within-over (suc below) x rest (omega arith)))

level-zero : (below : ℕ) (ts : Tokens) → level_at below (nested_expression below) zero ts ≡ unary below (nested_expression below) ts
unfolding level_at
level-zero below ts = refl

negate-step : (below : ℕ) (inner : Inner) (x : Expr) (mid rest : Tokens) → inner 0 mid ≡ within below x rest → unary below inner (token.Mark mark.Minus ∷ mid) ≡ within (suc below) (e.Unary sign.Negate x) rest
unfolding unary prefixed same_mark after
negate-step below inner x mid rest read = rw read (one-part below x (e.Unary sign.Negate x) rest rest _ (nesting-Unary sign.Negate x) refl)

not-step : (below : ℕ) (inner : Inner) (x : Expr) (mid rest : Tokens) → inner 0 mid ≡ within below x rest → unary below inner (token.Mark mark.Not ∷ mid) ≡ within (suc below) (e.Unary sign.Not x) rest
unfolding unary prefixed same_mark after
not-step below inner x mid rest read = rw read (one-part below x (e.Unary sign.Not x) rest rest _ (nesting-Unary sign.Not x) refl)

primary-step : (below : ℕ) (inner : Inner) (ts : Tokens) → (sees mark.Minus ts ≡ false) × (sees mark.Not ts ≡ false) → unary below inner ts ≡ primary below inner ts
unfolding unary
primary-step below inner ts h = rw (h.0, after-unseen mark.Minus ts h.0, h.1, after-unseen mark.Not ts h.1) refl

group-step : (below : ℕ) (inner : Inner) (x : Expr) (before rest : Tokens) → inner 7 before ≡ within below x (token.Mark mark.Close ∷ rest) → primary below inner (token.Mark mark.Open ∷ before) ≡ within (suc below) (e.Group x) rest
unfolding primary group same_mark after expect
group-step below inner x before rest read = rw read (one-part below x (e.Group x) (token.Mark mark.Close ∷ rest) rest _ (nesting-Group x) refl)

whole-step : (below : ℕ) (inner : Inner) (n : ℕ) (rest : Tokens) → primary below inner (token.Whole n ∷ rest) ≡ within (suc below) (e.Whole (pos n)) rest
unfolding primary after literal
whole-step below inner n rest = sym (leaf-is below (e.Whole (pos n)) rest (nesting-Whole (pos n)))

time-step : (below : ℕ) (inner : Inner) (n : ℤ) (rest : Tokens) → primary below inner (token.Time n ∷ rest) ≡ within (suc below) (e.Whole n) rest
unfolding primary after literal
time-step below inner n rest = sym (leaf-is below (e.Whole n) rest (nesting-Whole n))

true-step : (below : ℕ) (inner : Inner) (rest : Tokens) → primary below inner (token.Mark mark.True ∷ rest) ≡ within (suc below) (e.Truth true) rest
unfolding primary same_mark after
true-step below inner rest = sym (leaf-is below (e.Truth true) rest (nesting-Truth true))

false-step : (below : ℕ) (inner : Inner) (rest : Tokens) → primary below inner (token.Mark mark.False ∷ rest) ≡ within (suc below) (e.Truth false) rest
unfolding primary same_mark after
false-step below inner rest = sym (leaf-is below (e.Truth false) rest (nesting-Truth false))

variable-step : (below : ℕ) (inner : Inner) (t : Name) (rest : Tokens) → sees mark.Open rest ≡ false → primary below inner (token.Name t ∷ rest) ≡ within (suc below) (e.Variable t) rest
unfolding primary named after name
variable-step below inner t rest h = rw h (sym (leaf-is below (e.Variable t) rest (nesting-Variable t)))

bare_call-step : (below : ℕ) (inner : Inner) (t : Name) (rest : Tokens) → primary below inner (token.Name t ∷ (token.Mark mark.Open ∷ (token.Mark mark.Close ∷ rest))) ≡ within (suc below) (e.Call t []) rest
unfolding primary named call same_mark after name
bare_call-step below inner t rest = sym (leaf-is below (e.Call t []) rest (nesting-Call t []))

-- what the arguments so far and these become
abbrev all_found : List Expr → ℕ → Tokens → Outcome (List Expr × ℕ)
all_found xs depth rest = Ok ((xs, depth), rest)

unfoldable within_all : ℕ → List Expr → ℕ → List Expr → Tokens → Outcome (List Expr × ℕ)
within_all below found depth xs rest = cond (leb (deepest (map nesting xs)) below) (all_found (found ++ xs) (max depth (deepest (map nesting xs))) rest) (Err too_deep)

within_all-over : (below : ℕ) (found : List Expr) (depth : ℕ) (xs : List Expr) (rest : Tokens) → below < deepest (map nesting xs) → within_all below found depth xs rest ≡ Err too_deep
unfolding within_all
within_all-over below found depth xs rest lt = rw (lt-leb _ _ lt) refl

within_all-more : (below : ℕ) (found : List Expr) (depth : ℕ) (x : Expr) (xs : List Expr) (rest : Tokens) → nesting x ≤ below
    → within_all below (found ++ x ∷ []) (max depth (nesting x)) xs rest ≡ within_all below found depth (x ∷ xs) rest
unfolding within_all
within_all-more below found depth x xs rest le = go (leb (deepest (map nesting xs)) below) refl
  where
    go : (b : Bool) → leb (deepest (map nesting xs)) below ≡ b
        → cond b (all_found ((found ++ x ∷ []) ++ xs) (max (max depth (nesting x)) (deepest (map nesting xs))) rest) (Err too_deep)
        ≡ cond (leb (deepest (map nesting (x ∷ xs))) below) (all_found (found ++ x ∷ xs) (max depth (deepest (map nesting (x ∷ xs)))) rest) (Err too_deep)
    go true h =
        let k = leb-true _ _ h in
        let m : max (max depth (nesting x)) (deepest (map nesting xs)) ≡ max depth (max (nesting x) (deepest (map nesting xs))) = omega arith in
        rw (append_assoc, m, le-leb (max (nesting x) (deepest (map nesting xs))) below (omega arith)) refl
    go false h = let k = leb-false _ _ h in rw (lt-leb (max (nesting x) (deepest (map nesting xs))) below (omega arith)) refl

within_all-none : (below : ℕ) (found : List Expr) (depth : ℕ) (x : Expr) (rest : Tokens) → nesting x ≤ below
    → all_found (found ++ x ∷ []) (max depth (nesting x)) rest ≡ within_all below found depth (x ∷ []) rest
unfolding within_all
within_all-none below found depth x rest le =
    let m : max (nesting x) 0 ≡ nesting x = omega arith in rw (m, le-leb (nesting x) below le) refl

one-step : (below fuel : ℕ) (inner : Inner) (found : List Expr) (depth : ℕ) (x : Expr) (ts rest : Tokens) → inner 7 ts ≡ within below x rest → sees mark.Comma rest ≡ false
    → arguments_from below inner (suc fuel) found depth ts ≡ within_all below found depth (x ∷ []) rest
unfolding arguments_from
one-step below fuel inner found depth x ts rest read last =
    rw read (bind-within below x rest _ (within_all below found depth (x ∷ []) rest)
    (λ le. rw (last, after-unseen mark.Comma rest last) (within_all-none below found depth x rest le))
    (λ lt. within_all-over below found depth (x ∷ []) rest (omega arith)))

another-step : (below fuel : ℕ) (inner : Inner) (found : List Expr) (depth : ℕ) (x : Expr) (xs : List Expr) (ts after' rest : Tokens) → inner 7 ts ≡ within below x (token.Mark mark.Comma ∷ after')
    → arguments_from below inner fuel (found ++ x ∷ []) (max depth (nesting x)) after' ≡ within_all below (found ++ x ∷ []) (max depth (nesting x)) xs rest
    → arguments_from below inner (suc fuel) found depth ts ≡ within_all below found depth (x ∷ xs) rest
unfolding arguments_from same_mark after
another-step below fuel inner found depth x xs ts after' rest read go =
    rw read (bind-within below x (token.Mark mark.Comma ∷ after') _ (within_all below found depth (x ∷ xs) rest)
    (λ le. go ∙ within_all-more below found depth x xs rest le)
    (λ lt. within_all-over below found depth (x ∷ xs) rest (omega arith)))

call-step : (below : ℕ) (inner : Inner) (t : Name) (xs : List Expr) (opened rest : Tokens) → begins_expression opened ≡ true → sees mark.Close opened ≡ false
    → arguments_from below inner (length opened) [] 0 opened ≡ within_all below [] 0 xs (token.Mark mark.Close ∷ rest)
    → primary below inner (token.Name t ∷ (token.Mark mark.Open ∷ opened)) ≡ within (suc below) (e.Call t xs) rest
unfolding primary named call arguments same_mark after name expect within_all
call-step below inner t xs opened rest begins some read =
    rw (some, begins, read) (go (leb (deepest (map nesting xs)) below) refl)
  where
    go : (b : Bool) → leb (deepest (map nesting xs)) below ≡ b
        → and_then (cond b (all_found xs (max 0 (deepest (map nesting xs))) (token.Mark mark.Close ∷ rest)) (Err too_deep)) (λ found. λ ts. and_then (expect mark.Close ts) (λ _. around below found.1 (e.Call t found.0))) ≡ within (suc below) (e.Call t xs) rest
    go true h = let m : max 0 (deepest (map nesting xs)) ≡ deepest (map nesting xs) = omega arith in rw m (around-is below (deepest (map nesting xs)) (e.Call t xs) rest (nesting-Call t xs))
    go false h = let k = leb-false _ _ h in sym (within-over (suc below) (e.Call t xs) rest (omega (arith, nesting-Call t xs)))

pub stops-mark : (k : Mark) (n : ℕ) (rest : Tokens) → same_mark k mark.Open ≡ false → operator_of k ≡ None → Stops n (token.Mark k ∷ rest)
stops-mark k n rest c o = record { no_call = c; no_operator = λ m le. rw o refl }

closed : same_mark mark.Close mark.Open ≡ false
unfolding same_mark
closed = refl

comma : same_mark mark.Comma mark.Open ≡ false
unfolding same_mark
comma = refl

closed-comma : (rest : Tokens) → sees mark.Comma (token.Mark mark.Close ∷ rest) ≡ false
unfolding same_mark
closed-comma rest = refl

-- ---- every derivation

mutual
  pub level-complete : {n : ℕ} {x : Expr} {ts rest : Tokens} (below : ℕ) → IsLevel n x ts rest → Stops n rest → level_at below (nested_expression below) n ts ≡ within (suc below) x rest
  level-complete {ts = ts} below (is_unary u) h = level-zero below ts ∙ unary-complete below u h.no_call
  level-complete {x = x} {ts = ts} {rest = rest} below (is_chain {n = n} {first = first} {mid = mid} a c) h =
      level-step below n first x ts mid rest (level-complete below a (chain-stops c h)) (chain-grows c) (λ le. chain-complete below (length mid) c h le (omega arith))

  chain-complete : {n : ℕ} {first x : Expr} {ts rest : Tokens} (below fuel : ℕ) → IsChain n first x ts rest → Stops (suc n) rest → nesting first ≤ suc below → length ts ≤ fuel
      → climb below (nested_expression below) (suc n) (nested_expression below n) fuel (sized first) ts ≡ within (suc below) x rest
  chain-complete {n = n} {x = x} {ts = ts} below fuel ends h le long = climb-end below (suc n) fuel (nested_expression below n) x ts (h.no_operator (suc n) (omega arith)) le
  chain-complete below zero (goes_on k o r c) h le long = absurd (omega (arith, mark-shorter k))
  chain-complete {n = n} {first = left} {x = x} {ts = ts} {rest = rest} below (suc fuel) (goes_on {op = op} {right = right} {before = before} {following = mid} k o r c) h le long =
      climb-step below (suc n) fuel op left right x ts before mid rest (next-operator (suc n) op k o) (rest-is k) (nested_expression below n) (at_depth below n right before mid (λ b. level-complete b r (chain-stops c h))) (chain-grows c)
      (λ fits. chain-complete below fuel c h fits (omega (arith, mark-shorter k, level-shorter r)))

  unary-complete : {x : Expr} {ts rest : Tokens} (below : ℕ) → IsUnary x ts rest → sees mark.Open rest ≡ false → unary below (nested_expression below) ts ≡ within (suc below) x rest
  unary-complete {rest = rest} below (negated {x = x} {mid = mid} is_mark u) h = negate-step below (nested_expression below) x mid rest (at_depth below 0 x mid rest (λ b. level-zero b mid ∙ unary-complete b u h))
  unary-complete {rest = rest} below (inverted {x = x} {mid = mid} is_mark u) h = not-step below (nested_expression below) x mid rest (at_depth below 0 x mid rest (λ b. level-zero b mid ∙ unary-complete b u h))
  unary-complete {ts = ts} below (is_primary p) h = primary-step below (nested_expression below) ts (primary-starts p) ∙ primary-complete below p h

  primary-complete : {x : Expr} {ts rest : Tokens} (below : ℕ) → IsPrimary x ts rest → sees mark.Open rest ≡ false → primary below (nested_expression below) ts ≡ within (suc below) x rest
  primary-complete {rest = rest} below (is_number (is_whole {n = n})) h = whole-step below (nested_expression below) n rest
  primary-complete {rest = rest} below (is_duration (is_time {ticks = n})) h = time-step below (nested_expression below) n rest
  primary-complete {rest = rest} below (is_true is_mark) h = true-step below (nested_expression below) rest
  primary-complete {rest = rest} below (is_false is_mark) h = false-step below (nested_expression below) rest
  primary-complete {rest = rest} below (is_variable {name = t} is_name) h = variable-step below (nested_expression below) t rest h
  primary-complete {rest = rest} below (is_group {x = x} {before = before} is_mark l is_mark) h =
      group-step below (nested_expression below) x before rest (at_depth below 7 x before (token.Mark mark.Close ∷ rest) (λ b. level-complete b l (stops-mark mark.Close 7 rest closed refl)))
  primary-complete {rest = rest} below (is_bare_call {name = t} is_name is_mark is_mark) h = bare_call-step below (nested_expression below) t rest
  primary-complete {rest = rest} below (is_call {name = t} {xs = xs} {opened = opened} is_name is_mark a is_mark) h =
      call-step below (nested_expression below) t xs opened rest (arguments-open a).0 (arguments-open a).1 (arguments-complete below (length opened) [] 0 a (closed-comma rest) (stops-mark mark.Close 7 rest closed refl) (omega arith))

  arguments-complete : {xs : List Expr} {ts rest : Tokens} (below fuel : ℕ) (found : List Expr) (depth : ℕ) → AreArguments xs ts rest → sees mark.Comma rest ≡ false → Stops 7 rest → length ts ≤ fuel
      → arguments_from below (nested_expression below) fuel found depth ts ≡ within_all below found depth xs rest
  arguments-complete below zero found depth (one l) last h long = absurd (omega (arith, level-shorter l))
  arguments-complete below zero found depth (another l k a) last h long = absurd (omega (arith, level-shorter l))
  arguments-complete {ts = ts} {rest = rest} below (suc fuel) found depth (one {x = x} l) last h long =
      one-step below fuel (nested_expression below) found depth x ts rest (at_depth below 7 x ts rest (λ b. level-complete b l h)) last
  arguments-complete {ts = ts} {rest = rest} below (suc fuel) found depth (another {x = x} {xs = xs} {following = after'} l is_mark a) last h long =
      another-step below fuel (nested_expression below) found depth x xs ts after' rest (at_depth below 7 x ts (token.Mark mark.Comma ∷ after') (λ b. level-complete b l (stops-mark mark.Comma 7 after' comma refl)))
      (arguments-complete below fuel (found ++ x ∷ []) (max depth (nesting x)) a last h (omega (arith, level-shorter l)))

-- what is derived is read, or nests too deep
nested-complete : (d n : ℕ) (x : Expr) (ts rest : Tokens) → IsLevel n x ts rest → Stops n rest → nested_expression d n ts ≡ within d x rest
nested-complete d n x ts rest l h = at_depth d n x ts rest (λ b. level-complete b l h)

pub expression-complete : IsComplete expression IsExpression (Stops loosest) fits_expression
unfolding expression within
expression-complete x ts rest l h = rw (nested-complete most_nesting loosest x ts rest l h) (go (leb (nesting x) most_nesting))
  where
    go : (b : Bool) → and_then (cond b (Ok (sized x, rest)) (Err too_deep)) (λ y. λ s. Ok (y.expr, s)) ≡ picked b x rest
    go true = refl
    go false = refl
