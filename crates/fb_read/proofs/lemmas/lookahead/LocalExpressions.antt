-- The rules of expressions look one token ahead.
use Rattle.fb_read.proofs.lemmas.Common.{◌≡◌, ℕ, zero, suc, ◌<◌, ◌≤◌, Bool, true, false, cond, List, [], ◌∷◌, ◌++◌, length, Option, Some, None, Ok, Err, refl, sym, ap, ◌∙◌, leb, arith, max, Name, Expr, BinaryOperator, le-leb, leb-true, Mark, Nested, Tokens, Outcome, Parser, too_deep, and_then, ◌>>=◌, pure, refuse, eat, expect, name, literal, rest_of, after, sees, next_operator, begins_expression, loosest, around, arguments_from, arguments, primary, unary, climb, level_at, nested_expression, expression, most_nesting}
use Rattle.fb_types.specs.declared.text.UnaryOperator.{UnaryOperator}
use Rattle.fb_types.specs.declared.text.Expr.TheVariants as e
use Rattle.fb_types.specs.declared.text.UnaryOperator.TheVariants as sign
use Rattle.fb_read.specs.declared.token.Token.TheVariants as token
use Rattle.fb_read.specs.declared.token.Mark.TheVariants as mark
use Rattle.fb_read.specs.Parser.{sees_name}
use Rattle.fb_read.specs.Expressions.{leaf, group, prefixed, call, named, operated}
use Rattle.fb_read.proofs.lemmas.rules.Steps.{after-seen, mark-shorter, seen}
use Rattle.fb_read.proofs.lemmas.rules.Lengths.{level-shorter}
use Rattle.fb_read.proofs.lemmas.expressions.ExpressionSound.{nested-right}
use Rattle.fb_read.proofs.lemmas.lookahead.OneTokenAhead.{left-length, IsFlat, Local, Nests, nests-of, local-bind, looks-bind, flat-bind, nests-bind, taken, kept, stepped, local-step, looks-as, local-pure, local-refuse, nests-deep, HeadOnly, local-by, local-cond, local-if, local-if-nests}
use Rattle.fb_read.proofs.lemmas.lookahead.LocalSteps.{Advances, local-eat, local-eat-then, local-expect-then, local-name, local-literal, local-turns}
use Rattle.fb_read.proofs.lemmas.lookahead.LocalLoops.{bind-same}

-- refused for its nesting, or read
nests-around : (below depth : ℕ) (x : Expr) → Nests (around below depth x)
unfolding around
nests-around below depth x = go (leb depth below)
  where
    go : (b : Bool) → Nests {A = Nested} (λ ts. cond b (Ok (record { expr = x; nesting = suc depth }, ts)) (Err too_deep))
    go true = nests-of (local-pure (record { expr = x; nesting = suc depth }))
    go false = nests-deep

-- what is no deeper than the limit is read
abbrev around_end : ℕ → Expr → Outcome Nested
around_end depth x = Ok (record { expr = x; nesting = suc depth }, [])

abbrev too_deep_end : Outcome Nested
too_deep_end = Err too_deep

flat-around : (below depth : ℕ) (x : Expr) → depth ≤ below → IsFlat (around below depth x)
unfolding around
flat-around below depth x le h = no-end (sym (ap (λ (b : Bool). cond b (around_end depth x) too_deep_end) (le-leb depth below le)) ∙ h)
  where
    no-end : around_end depth x ≡ too_deep_end → ⊥
    no-end e = cc

operator-head : (n : ℕ) → HeadOnly (next_operator n)
operator-head n (token.Mark k) ts = refl
operator-head n (token.Name t) ts = refl
operator-head n (token.Whole m) ts = refl
operator-head n (token.Time m) ts = refl

expression-head : HeadOnly begins_expression
expression-head (token.Mark k) ts = refl
expression-head (token.Name t) ts = refl
expression-head (token.Whole m) ts = refl
expression-head (token.Time m) ts = refl

name-head : HeadOnly sees_name
name-head (token.Mark k) ts = refl
name-head (token.Name t) ts = refl
name-head (token.Whole m) ts = refl
name-head (token.Time m) ts = refl

-- the next token is taken, and what follows is read
abbrev next : Parser (Unit {0})
next = stepped (kept (tt {0})) (λ t. taken (tt {0}))

local-next : Local next
local-next = local-step (kept (tt {0})) (λ t. taken (tt {0}))

nests-following : {A : Type 0} (p : Parser A) → Nests p → Nests (λ ts. p (rest_of ts))
nests-following p l = record {
  looks = looks-as (λ ts. p (rest_of ts)) (next >>= (λ _. p)) go (looks-bind next (λ _. p) local-next.looks (λ _. l.looks));
  deep = deep-of;
}
  where
    go : (ts : Tokens) → p (rest_of ts) ≡ (next >>= (λ _. p)) ts
    go [] = refl
    go (t ∷ ts) = refl

    deep-of : (ts more : Tokens) → p (rest_of ts) ≡ Err too_deep → p (rest_of (ts ++ more)) ≡ Err too_deep
    deep-of [] more h = l.deep [] (rest_of more) h
    deep-of (t ∷ ts) more h = l.deep ts more h

after-shorter : (k : Mark) (ts : Tokens) → sees k ts ≡ true → length (after k ts) < length ts
after-shorter k ts e = rw (after-seen k ts e) (mark-shorter (seen k ts e))

-- what is read of a part is no deeper than this
abbrev IsBelow : ℕ → Parser Nested → Type 0
IsBelow below p = (ts rest : Tokens) (x : Nested) → p ts ≡ Ok (x, rest) → x.nesting ≤ below

module _ (below : ℕ) (inner : ℕ → Parser Nested) (l : (n : ℕ) → Nests (inner n)) (adv : (n : ℕ) → Advances (inner n)) (le : (n : ℕ) → IsBelow below (inner n)) where
  local-closed : (depth : ℕ) (x : Expr) → Local (expect mark.Close >>= (λ _. around below depth x))
  local-closed depth x = local-expect-then mark.Close (around below depth x) (nests-around below depth x)

  nests-group : Nests (group below inner)
  unfolding group
  nests-group = nests-bind (inner loosest) _ (l loosest) (λ x. nests-of (local-closed x.nesting (e.Group x.expr))) (λ x ts rest h. (local-closed x.nesting (e.Group x.expr)).flat)

  nests-prefixed : (op : UnaryOperator) → Nests (prefixed below inner op)
  unfolding prefixed
  nests-prefixed op = nests-bind (inner 0) _ (l 0) (λ x. nests-around below x.nesting (e.Unary op x.expr)) (λ x ts rest h. flat-around below x.nesting (e.Unary op x.expr) (le 0 ts rest x h))

  -- the next arguments, if a comma follows
  local-comma : (n : ℕ) (found : List Expr) (depth : ℕ) → Nests (arguments_from below inner n found depth) → Local (eat mark.Comma >>= (λ b. cond b (arguments_from below inner n found depth) (pure (found, depth))))
  local-comma n found depth g = local-eat-then mark.Comma (arguments_from below inner n found depth) (pure (found, depth)) g (local-pure (found, depth))

  nests-arguments_from : (n : ℕ) (found : List Expr) (depth : ℕ) → Nests (arguments_from below inner n found depth)
  unfolding arguments_from
  nests-arguments_from zero found depth = nests-of local-refuse
  nests-arguments_from (suc n) found depth =
      nests-bind (inner loosest) _ (l loosest)
      (λ x. nests-of (local-comma n (found ++ x.expr ∷ []) (max depth x.nesting) (nests-arguments_from n (found ++ x.expr ∷ []) (max depth x.nesting))))
      (λ x ts rest h. (local-comma n (found ++ x.expr ∷ []) (max depth x.nesting) (nests-arguments_from n (found ++ x.expr ∷ []) (max depth x.nesting))).flat)

  -- the iterations after a comma
  turn-same : (n m : ℕ) (found : List Expr) (depth : ℕ) (x : Nested) (r : Tokens)
      → (sees mark.Comma r ≡ true → arguments_from below inner n (found ++ x.expr ∷ []) (max depth x.nesting) (after mark.Comma r) ≡ arguments_from below inner m (found ++ x.expr ∷ []) (max depth x.nesting) (after mark.Comma r))
      → (c : Bool) → sees mark.Comma r ≡ c
      → (cond c (arguments_from below inner n (found ++ x.expr ∷ []) (max depth x.nesting)) (pure (found ++ x.expr ∷ [], max depth x.nesting))) (after mark.Comma r)
      ≡ (cond c (arguments_from below inner m (found ++ x.expr ∷ []) (max depth x.nesting)) (pure (found ++ x.expr ∷ [], max depth x.nesting))) (after mark.Comma r)
  turn-same n m found depth x r h true c = h c
  turn-same n m found depth x r h false c = refl

  arguments-fuel : (n m : ℕ) (found : List Expr) (depth : ℕ) (ts : Tokens) → length ts < n → length ts < m → arguments_from below inner n found depth ts ≡ arguments_from below inner m found depth ts
  unfolding arguments_from
  arguments-fuel zero m found depth ts a b = absurd (omega arith)
  arguments-fuel (suc n) zero found depth ts a b = absurd (omega arith)
  arguments-fuel (suc n) (suc m) found depth ts a b = go (λ xs d r. arguments-fuel n m xs d r)
    where
      go : ((xs : List Expr) (d : ℕ) (r : Tokens) → length r < n → length r < m → arguments_from below inner n xs d r ≡ arguments_from below inner m xs d r)
          → and_then (inner loosest ts) (λ x. λ r. (cond (sees mark.Comma r) (arguments_from below inner n (found ++ x.expr ∷ []) (max depth x.nesting)) (pure (found ++ x.expr ∷ [], max depth x.nesting))) (after mark.Comma r))
          ≡ and_then (inner loosest ts) (λ x. λ r. (cond (sees mark.Comma r) (arguments_from below inner m (found ++ x.expr ∷ []) (max depth x.nesting)) (pure (found ++ x.expr ∷ [], max depth x.nesting))) (after mark.Comma r))
      go more = bind-same (inner loosest ts) _ _ (λ x r e.
          let shorter = adv loosest ts r x e in
          turn-same n m found depth x r
          (λ s. let following = after-shorter mark.Comma r s in more (found ++ x.expr ∷ []) (max depth x.nesting) (after mark.Comma r) (omega arith) (omega arith)) (sees mark.Comma r) refl)

  -- the first iteration, for which there are as many as tokens
  arguments-first : (n m : ℕ) (ts : Tokens) → length ts ≤ suc n → length ts ≤ suc m → arguments_from below inner (suc n) [] 0 ts ≡ arguments_from below inner (suc m) [] 0 ts
  unfolding arguments_from
  arguments-first n m ts a b = bind-same (inner loosest ts) _ _ (λ x r e.
      let shorter = adv loosest ts r x e in
      turn-same n m [] 0 x r
      (λ s. let following = after-shorter mark.Comma r s in arguments-fuel n m ([] ++ x.expr ∷ []) (max 0 x.nesting) (after mark.Comma r) (omega arith) (omega arith)) (sees mark.Comma r) refl)

  abbrev guarded : ℕ → Parser (List Expr × ℕ)
  guarded n = λ ts. cond (begins_expression ts) (arguments_from below inner n [] 0 ts) (refuse ts)

  local-guarded : (n : ℕ) → Local (guarded n)
  local-guarded n = local-if-nests begins_expression (arguments_from below inner n [] 0) refuse expression-head refl (nests-arguments_from n [] 0) local-refuse

  guarded-fuel : (n m : ℕ) (ts : Tokens) → length ts ≤ n → length ts ≤ m → guarded n ts ≡ guarded m ts
  guarded-fuel n m [] a b = refl
  guarded-fuel zero m (t ∷ ts) a b = absurd (omega arith)
  guarded-fuel (suc n) zero (t ∷ ts) a b = absurd (omega arith)
  guarded-fuel (suc n) (suc m) (t ∷ ts) a b = ap (λ o. cond (begins_expression (t ∷ ts)) o (refuse (t ∷ ts))) (arguments-first n m (t ∷ ts) a b)

  local-arguments : Local (arguments below inner)
  unfolding arguments
  local-arguments = local-turns guarded local-guarded guarded-fuel

  local-call : (function : Name) → Local (call below inner function)
  unfolding call
  local-call function =
      local-bind (eat mark.Close) _ (local-eat mark.Close) (λ b. local-cond b _ _ (local-pure (leaf (e.Call function [])))
      (local-bind (arguments below inner) _ local-arguments (λ found. local-closed found.1 (e.Call function found.0))))

  local-named : Local (named below inner)
  unfolding named
  local-named =
      local-bind name _ local-name (λ first. local-bind (eat mark.Open) _ (local-eat mark.Open) (λ b. local-cond b _ _ (local-call first) (local-pure (leaf (e.Variable first)))))

  local-primary : Local (primary below inner)
  unfolding primary
  local-primary =
      local-eat-then mark.Open _ _ nests-group
      (local-bind (eat mark.True) _ (local-eat mark.True) (λ b. local-cond b _ _ (local-pure (leaf (e.Truth true)))
      (local-bind (eat mark.False) _ (local-eat mark.False) (λ c. local-cond c _ _ (local-pure (leaf (e.Truth false)))
      (local-if sees_name (named below inner) (literal >>= (λ n. pure (leaf (e.Whole n)))) name-head local-named (local-bind literal _ local-literal (λ n. local-pure (leaf (e.Whole n)))))))))

  local-unary : Local (unary below inner)
  unfolding unary
  local-unary =
      local-eat-then mark.Minus _ _ (nests-prefixed sign.Negate) (local-eat-then mark.Not _ _ (nests-prefixed sign.Not) local-primary)

  nests-operated : (go : Nested → Parser Nested) → ((x : Nested) → Local (go x)) → (operand : Parser Nested) → Nests operand → IsBelow below operand → (left : Nested) (o : Option BinaryOperator)
      → Nests (operated below inner go operand left o)
  nests-operated go g operand m low left None = nests-of (local-pure left)
  nests-operated go g operand m low left (Some op) = by (leb left.nesting below) refl
    where
      longer : Nested → Parser Nested
      longer right = around below (max left.nesting right.nesting) (e.Binary op left.expr right.expr)

      joins : (right : Nested) → Nests (longer right >>= go)
      joins right = nests-bind (longer right) go (nests-around below (max left.nesting right.nesting) (e.Binary op left.expr right.expr)) (λ x. nests-of (g x)) (λ x ts rest h. (g x).flat)

      flat-joins : (right : Nested) → left.nesting ≤ below → right.nesting ≤ below → IsFlat (longer right >>= go)
      flat-joins right a b = flat-bind (longer right) go (nests-around below (max left.nesting right.nesting) (e.Binary op left.expr right.expr)).looks
          (flat-around below (max left.nesting right.nesting) (e.Binary op left.expr right.expr) (omega arith)) (λ x. (g x).flat)

      by : (b : Bool) → leb left.nesting below ≡ b → Nests (λ ts. cond b ((operand >>= (λ right. longer right >>= go)) (rest_of ts)) (Err too_deep))
      by true k =
          nests-following (operand >>= (λ right. longer right >>= go))
          (nests-bind operand _ m joins (λ right ts rest h. flat-joins right (leb-true _ _ k) (low ts rest right h)))
      by false k = nests-deep

  local-climb : (level : ℕ) (operand : Parser Nested) → Nests operand → IsBelow below operand → (n : ℕ) (left : Nested) → Local (climb below inner level operand n left)
  unfolding climb
  local-climb level operand m low zero left = local-pure left
  local-climb level operand m low (suc n) left =
      local-by (next_operator level) (λ o. operated below inner (climb below inner level operand n) operand left o) (operator-head level)
      (λ o. nests-operated (climb below inner level operand n) (λ x. local-climb level operand m low n x) operand m low left o) (local-pure left).flat

  climb-fuel : (level : ℕ) (operand : Parser Nested) → Nests operand → (n m : ℕ) (left : Nested) (ts : Tokens) → length ts ≤ n → length ts ≤ m
      → climb below inner level operand n left ts ≡ climb below inner level operand m left ts
  unfolding climb
  climb-fuel level operand g zero zero left ts a b = refl
  climb-fuel level operand g zero (suc m) left [] a b = refl
  climb-fuel level operand g zero (suc m) left (t ∷ ts) a b = absurd (omega arith)
  climb-fuel level operand g (suc n) zero left [] a b = refl
  climb-fuel level operand g (suc n) zero left (t ∷ ts) a b = absurd (omega arith)
  climb-fuel level operand g (suc n) (suc m) left [] a b = refl
  climb-fuel level operand g (suc n) (suc m) left (t ∷ ts) a b = go (λ x r. climb-fuel level operand g n m x r) (next_operator level (t ∷ ts))
    where
      again : ((x : Nested) (r : Tokens) → length r ≤ n → length r ≤ m → climb below inner level operand n x r ≡ climb below inner level operand m x r) → (op : BinaryOperator) (c : Bool)
          → cond c (and_then (operand ts) (λ right. λ s. and_then (around below (max left.nesting right.nesting) (e.Binary op left.expr right.expr) s) (climb below inner level operand n))) (Err too_deep)
          ≡ cond c (and_then (operand ts) (λ right. λ s. and_then (around below (max left.nesting right.nesting) (e.Binary op left.expr right.expr) s) (climb below inner level operand m))) (Err too_deep)
      again more op true = bind-same (operand ts) _ _ (λ right r read.
          let first = left-length r ts (g.looks.left ts r right read) in
          bind-same (around below (max left.nesting right.nesting) (e.Binary op left.expr right.expr) r) _ _ (λ longer s k.
          let second = left-length s r ((nests-around below (max left.nesting right.nesting) (e.Binary op left.expr right.expr)).looks.left r s longer k) in
          more longer s (omega arith) (omega arith)))
      again more op false = refl

      go : ((x : Nested) (r : Tokens) → length r ≤ n → length r ≤ m → climb below inner level operand n x r ≡ climb below inner level operand m x r) → (o : Option BinaryOperator)
          → operated below inner (climb below inner level operand n) operand left o (t ∷ ts) ≡ operated below inner (climb below inner level operand m) operand left o (t ∷ ts)
      go more None = refl
      go more (Some op) = again more op (leb left.nesting below)

  local-level_at : (n : ℕ) → Local (level_at below inner n)
  unfolding level_at
  local-level_at zero = local-unary
  local-level_at (suc n) =
      local-bind (level_at below inner n) _ (local-level_at n) (λ first.
      local-turns (λ k. climb below inner (suc n) (inner n) k first) (λ k. local-climb (suc n) (inner n) (l n) (le n) k first) (λ k m ts a b. climb-fuel (suc n) (inner n) (l n) k m first ts a b))

advances-nested : (d level : ℕ) → Advances (nested_expression d level)
advances-nested d level ts rest x h = level-shorter (nested-right d level ts x rest h).derived

below-nested : (d level : ℕ) → IsBelow d (nested_expression d level)
below-nested d level ts rest x h = (nested-right d level ts x rest h).fits

nests-nested : (d level : ℕ) → Nests (nested_expression d level)
unfolding nested_expression
nests-nested zero level = nests-deep
nests-nested (suc d) level = nests-of (local-level_at d (nested_expression d) (nests-nested d) (advances-nested d) (below-nested d) level)

-- an expression that may nest
local-nested : (d level : ℕ) → Local (nested_expression (suc d) level)
unfolding nested_expression
local-nested d level = local-level_at d (nested_expression d) (nests-nested d) (advances-nested d) (below-nested d) level

pub local-expression : Local expression
unfolding expression
local-expression = local-bind (nested_expression most_nesting loosest) _ (local-nested 63 loosest) (λ x. local-pure x.expr)
