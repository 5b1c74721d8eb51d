-- Expressions that are read are derived by the grammar, with their nesting counted.
use Rattle.fb_read.proofs.lemmas.Common.{◌≡◌, ℕ, zero, suc, ℤ, ◌≤◌, max, Bool, true, false, cond, eqb, leb, List, [], ◌∷◌, ◌++◌, length, map, Ok, Err, Option, Some, None, refl, sym, ap, subst, ◌∙◌, append_assoc, inl, inr, arith, leb-true, eqb-true, Name, BinaryOperator, Expr, Mark, Nested, Tokens, Parser, Outcome, syntax, too_deep, and_then, sees, rest_of, after, expect, name, literal, nesting, deepest, most_nesting, operator_of, next_operator, begins_expression, loosest, IsMark, is_mark, IsName, IsLevel, is_unary, is_chain, IsChain, ends, goes_on, IsUnary, negated, inverted, is_primary, IsPrimary, is_number, is_duration, is_true, is_false, is_variable, is_group, is_bare_call, is_call, AreArguments, another, IsExpression, expression, nested_expression, level_at, climb, unary, primary, arguments, arguments_from, around}
use Rattle.fb_types.specs.declared.text.UnaryOperator.{UnaryOperator}
use Rattle.fb_types.specs.declared.text.UnaryOperator.TheVariants as sign
use Rattle.fb_types.specs.declared.text.Expr.TheVariants as e
use Rattle.fb_read.specs.declared.token.Mark.TheVariants as mark
use Rattle.fb_read.specs.declared.token.Token.TheVariants as token
use Rattle.fb_read.specs.Parser.{sees_name}
use Rattle.fb_read.specs.Operators.{at_level}
use Rattle.fb_read.specs.ExpressionGrammar.{one}
use Rattle.fb_read.specs.Expressions.{operated, prefixed, named, call, group, leaf}
use Rattle.fb_read.proofs.lemmas.rules.Steps as steps
use Rattle.fb_read.proofs.lemmas.rules.Steps.{chosen, both_ok, pair_is, made, seen, expected, after-seen, after-unseen, eaten, written, IsLiteral, of_whole, of_time}
use Rattle.fb_read.proofs.lemmas.rules.Chained.{both_done}
use Rattle.fb_read.proofs.lemmas.expressions.NestingLaws.{nesting-Group, nesting-Unary, nesting-Binary, nesting-Variable, nesting-Call, nesting-Whole, nesting-Truth}

-- what was read is derived, and its number is how deep it nests
pub record Right (R : Expr → Tokens → Tokens → Type 0) (limit : ℕ) (x : Nested) (ts rest : Tokens) : Type 0 where
  pub derived : R x.expr ts rest
  pub counted : x.nesting ≡ nesting x.expr
  pub fits : x.nesting ≤ limit

abbrev Inner : Type 0
Inner = ℕ → Parser Nested

-- the parser of the parts is right
abbrev IsRight : ℕ → Inner → Type 0
IsRight below inner = (n : ℕ) (ts : Tokens) (x : Nested) (rest : Tokens) → inner n ts ≡ Ok (x, rest) → Right (IsLevel n) below x ts rest

around-right : (below depth : ℕ) (x : Expr) (ts rest : Tokens) (y : Nested) → around below depth x ts ≡ Ok (y, rest)
    → (depth ≤ below) × (record { expr = x; nesting = suc depth } ≡ y) × (ts ≡ rest)
unfolding around
around-right below depth x ts rest y h =
    elim (chosen (leb depth below) (Ok (record { expr = x; nesting = suc depth }, ts)) (Err too_deep) (Ok (y, rest)) h) [
      | inl w ↦ let p = pair_is (record { expr = x; nesting = suc depth }, ts) (y, rest) w.1 in (leb-true _ _ w.0, ap (λ (q : Nested × Tokens). q.0) p, ap (λ (q : Nested × Tokens). q.1) p)
      | inr w ↦ absurd cc
    ]

-- a parser that makes one node of one part
node-right : (R : Expr → Tokens → Tokens → Type 0) (below depth : ℕ) (x : Expr) (ts mid rest : Tokens) (y : Nested) → around below depth x mid ≡ Ok (y, rest) → R x ts mid → nesting x ≡ suc depth → Right R (suc below) y ts rest
node-right R below depth x ts mid rest y h r counts =
    let w = around-right below depth x mid rest y h in
    subst (λ (q : Nested). Right R (suc below) q ts rest) w.1 (subst (λ (t : Tokens). Right R (suc below) (record { expr = x; nesting = suc depth }) ts t) w.2 (record { derived = r; counted = sym counts; fits = omega (arith, w.0) }))

leaf-right : (R : Expr → Tokens → Tokens → Type 0) (below : ℕ) (x : Expr) (ts mid rest : Tokens) (y : Nested) (o : Outcome Nested) → o ≡ Ok (leaf x, mid) → o ≡ Ok (y, rest) → R x ts mid → nesting x ≡ 1 → Right R (suc below) y ts rest
leaf-right R below x ts mid rest y o made h r counts =
    let p = pair_is (leaf x, mid) (y, rest) (sym made ∙ h) in
    subst (λ (q : Nested × Tokens). Right R (suc below) q.0 ts q.1) p (record { derived = r; counted = sym counts; fits = omega arith })

group-right : (below : ℕ) (inner : Inner) (i : IsRight below inner) (start ts : Tokens) (x : Nested) (rest : Tokens) → IsMark mark.Open start ts → group below inner ts ≡ Ok (x, rest) → Right IsPrimary (suc below) x start rest
unfolding group
group-right below inner i start ts x rest k h =
    both_done (inner 7 ts) _ (x, rest) h (λ a a_end a_is a_then.
    both_done (expect mark.Close a_end) _ (x, rest) a_then (λ b b_end b_is b_then.
    let r = i 7 ts a a_end a_is in
    node-right IsPrimary below a.nesting (e.Group a.expr) start b_end rest x b_then (is_group k r.derived (expected mark.Close a_end b_end b_is)) (nesting-Group a.expr ∙ ap suc (sym r.counted))))

prefixed-right : (below : ℕ) (inner : Inner) (i : IsRight below inner) (op : UnaryOperator) (start ts : Tokens) (x : Nested) (rest : Tokens)
    → ((y : Expr) (after' : Tokens) → IsUnary y ts after' → IsUnary (e.Unary op y) start after') → prefixed below inner op ts ≡ Ok (x, rest) → Right IsUnary (suc below) x start rest
unfolding prefixed
prefixed-right below inner i op start ts x rest make h =
    let a = both_ok (inner 0 ts) _ (x, rest) h in
    let r = i 0 ts a.0 a.1 a.2 in
    node-right IsUnary below a.0.nesting (e.Unary op a.0.expr) start a.1 rest x a.3 (make a.0.expr a.1 (at_zero r.derived)) (nesting-Unary op a.0.expr ∙ ap suc (sym r.counted))
  where
    at_zero : {y : Expr} {s t : Tokens} → IsLevel zero y s t → IsUnary y s t
    at_zero (is_unary u) = u

-- what the arguments that are read add to those that were found
pub record AllRight (below : ℕ) (found : List Expr) (depth : ℕ) (read : List Expr × ℕ) (ts rest : Tokens) : Type 0 where
  pub more : List Expr
  pub read_is : read.0 ≡ found ++ more
  pub depth_is : read.1 ≡ max depth (deepest (map nesting more))
  pub derived : AreArguments more ts rest

arguments-right : (below : ℕ) (inner : Inner) (i : IsRight below inner) (fuel : ℕ) (found : List Expr) (depth : ℕ) (ts : Tokens) (read : List Expr × ℕ) (rest : Tokens)
    → arguments_from below inner fuel found depth ts ≡ Ok (read, rest) → AllRight below found depth read ts rest
unfolding arguments_from
arguments-right below inner i zero found depth ts read rest h = absurd cc
arguments-right below inner i (suc fuel) found depth ts read rest h =
    both_done (inner 7 ts) _ (read, rest) h (λ a a_end a_is a_then.
    let r = i 7 ts a a_end a_is in
    elim (chosen (sees mark.Comma a_end) (arguments_from below inner fuel (found ++ a.expr ∷ []) (max depth a.nesting) (after mark.Comma a_end)) (Ok ((found ++ a.expr ∷ [], max depth a.nesting), after mark.Comma a_end)) (Ok (read, rest)) (split (sees mark.Comma a_end) _ _ _ _ a_then)) [
      | inl w ↦
          let l = arguments-right below inner i fuel (found ++ a.expr ∷ []) (max depth a.nesting) (after mark.Comma a_end) read rest w.1 in
          let k : IsMark mark.Comma a_end (after mark.Comma a_end) = rw (after-seen mark.Comma a_end w.0) (seen mark.Comma a_end w.0) in
          record {
            more = a.expr ∷ l.more;
            read_is = l.read_is ∙ append_assoc found (a.expr ∷ []) l.more;
            depth_is = omega (arith, l.depth_is, r.counted);
            derived = another r.derived k l.derived;
          }
      | inr w ↦
          let p = pair_is ((found ++ a.expr ∷ [], max depth a.nesting), after mark.Comma a_end) (read, rest) w.1 in
          let ended : after mark.Comma a_end ≡ rest = ap (λ (q : (List Expr × ℕ) × Tokens). q.1) p in
          let unchanged = after-unseen mark.Comma a_end w.0 in
          record {
            more = a.expr ∷ [];
            read_is = sym (ap (λ (q : (List Expr × ℕ) × Tokens). q.0.0) p);
            depth_is = omega (arith, ap (λ (q : (List Expr × ℕ) × Tokens). q.0.1) p, r.counted);
            derived = one (subst (λ (t : Tokens). IsLevel 7 a.expr ts t) (sym unchanged ∙ ended) r.derived);
          }
    ])
  where
    split : {A : Type 0} (b : Bool) (p q : Parser A) (ts : Tokens) (o : Outcome A) → (cond b p q) ts ≡ o → cond b (p ts) (q ts) ≡ o
    split true p q ts o h = h
    split false p q ts o h = h

-- arguments begin as an expression does
open-arguments : (below : ℕ) (inner : Inner) (ts : Tokens) (y : (List Expr × ℕ) × Tokens) → arguments below inner ts ≡ Ok y → arguments_from below inner (length ts) [] 0 ts ≡ Ok y
unfolding arguments
open-arguments below inner ts y h = elim (chosen (begins_expression ts) (arguments_from below inner (length ts) [] 0 ts) (Err (syntax ts)) (Ok y) h) [
  | inl w ↦ w.1
  | inr w ↦ absurd cc
]

call-right : (below : ℕ) (inner : Inner) (i : IsRight below inner) (t : Name) (start named' ts : Tokens) (x : Nested) (rest : Tokens) → IsName t start named' → IsMark mark.Open named' ts
    → call below inner t ts ≡ Ok (x, rest) → Right IsPrimary (suc below) x start rest
unfolding call
call-right below inner i t start named' ts x rest n k h =
    elim (eaten mark.Close _ _ ts (x, rest) h) [
      | inl w ↦ leaf-right IsPrimary below (e.Call t []) start (after mark.Close ts) rest x _ refl w.1 (is_bare_call n k w.0) (nesting-Call t [])
      | inr w ↦
          both_done (arguments below inner ts) _ (x, rest) w.1 (λ a a_end a_is a_then.
          both_done (expect mark.Close a_end) _ (x, rest) a_then (λ b b_end b_is b_then.
          let r = arguments-right below inner i (length ts) [] 0 ts a a_end (open-arguments below inner ts (a, a_end) a_is) in
          node-right IsPrimary below a.1 (e.Call t a.0) start b_end rest x b_then
          (is_call n k (subst (λ (xs : List Expr). AreArguments xs ts a_end) (sym r.read_is) r.derived) (expected mark.Close a_end b_end b_is))
          (nesting-Call t a.0 ∙ ap (λ (xs : List Expr). suc (deepest (map nesting xs))) r.read_is ∙ omega (arith, r.depth_is))))
    ]

named-right : (below : ℕ) (inner : Inner) (i : IsRight below inner) (ts : Tokens) (x : Nested) (rest : Tokens) → named below inner ts ≡ Ok (x, rest) → Right IsPrimary (suc below) x ts rest
unfolding named
named-right below inner i ts x rest h =
    let a = both_ok (name ts) _ (x, rest) h in
    let n = steps.named ts a.0 a.1 a.2 in
    elim (eaten mark.Open _ _ a.1 (x, rest) a.3) [
      | inl w ↦ call-right below inner i a.0 ts a.1 (after mark.Open a.1) x rest n w.0 w.1
      | inr w ↦ leaf-right IsPrimary below (e.Variable a.0) ts a.1 rest x _ refl w.1 (is_variable n) (nesting-Variable a.0)
    ]

literal-right : (n : ℤ) (ts rest : Tokens) → IsLiteral n ts rest → IsPrimary (e.Whole n) ts rest
literal-right n ts rest (of_whole w) = is_number w
literal-right n ts rest (of_time t) = is_duration t

whole-right : (below : ℕ) (ts : Tokens) (x : Nested) (rest : Tokens) → and_then (literal ts) (λ n. λ ts. Ok (leaf (e.Whole n), ts)) ≡ Ok (x, rest) → Right IsPrimary (suc below) x ts rest
whole-right below ts x rest h =
    let a = both_ok (literal ts) _ (x, rest) h in
    leaf-right IsPrimary below (e.Whole a.0) ts a.1 rest x _ refl a.3 (literal-right a.0 ts a.1 (written ts a.0 a.1 a.2)) (nesting-Whole a.0)

primary-right : (below : ℕ) (inner : Inner) (i : IsRight below inner) (ts : Tokens) (x : Nested) (rest : Tokens) → primary below inner ts ≡ Ok (x, rest) → Right IsPrimary (suc below) x ts rest
unfolding primary
primary-right below inner i ts x rest h =
    elim (eaten mark.Open _ _ ts (x, rest) h) [
      | inl w ↦ group-right below inner i ts (after mark.Open ts) x rest w.0 w.1
      | inr w ↦ elim (eaten mark.True _ _ ts (x, rest) w.1) [
        | inl v ↦ leaf-right IsPrimary below (e.Truth true) ts (after mark.True ts) rest x _ refl v.1 (is_true v.0) (nesting-Truth true)
        | inr v ↦ elim (eaten mark.False _ _ ts (x, rest) v.1) [
          | inl u ↦ leaf-right IsPrimary below (e.Truth false) ts (after mark.False ts) rest x _ refl u.1 (is_false u.0) (nesting-Truth false)
          | inr u ↦ elim (chosen (sees_name ts) (named below inner ts) _ (Ok (x, rest)) u.1) [
            | inl s ↦ named-right below inner i ts x rest s.1
            | inr s ↦ whole-right below ts x rest s.1
          ]
        ]
      ]
    ]

unary-right : (below : ℕ) (inner : Inner) (i : IsRight below inner) (ts : Tokens) (x : Nested) (rest : Tokens) → unary below inner ts ≡ Ok (x, rest) → Right IsUnary (suc below) x ts rest
unfolding unary
unary-right below inner i ts x rest h =
    elim (eaten mark.Minus _ _ ts (x, rest) h) [
      | inl w ↦ prefixed-right below inner i sign.Negate ts (after mark.Minus ts) x rest (λ y t u. negated w.0 u) w.1
      | inr w ↦ elim (eaten mark.Not _ _ ts (x, rest) w.1) [
        | inl v ↦ prefixed-right below inner i sign.Not ts (after mark.Not ts) x rest (λ y t u. inverted v.0 u) v.1
        | inr v ↦ let r = primary-right below inner i ts x rest v.1 in record { derived = is_primary r.derived; counted = r.counted; fits = r.fits }
      ]
    ]

-- the mark of an operator that is next
at_level-is : (n : ℕ) (o : Option (ℕ × BinaryOperator)) (op : BinaryOperator) → at_level n o ≡ Some op → o ≡ Some (n, op)
at_level-is n None op h = absurd cc
at_level-is n (Some p) op h = go (eqb p.0 n) refl h
  where
    go : (b : Bool) → eqb p.0 n ≡ b → cond b (Some p.1) None ≡ Some op → Some p ≡ Some (n, op)
    go true e r = let q : p.1 ≡ op = cc in let s = eqb-true _ _ e in rw (← q, ← s) refl
    go false e r = absurd cc

operator-is : (n : ℕ) (ts : Tokens) (op : BinaryOperator) → next_operator n ts ≡ Some op → (k : Mark) × IsMark k ts (rest_of ts) × (operator_of k ≡ Some (n, op))
operator-is n [] op h = absurd cc
operator-is n (token.Mark k ∷ ts) op h = (k, is_mark, at_level-is n (operator_of k) op h)
operator-is n (token.Name k ∷ ts) op h = absurd cc
operator-is n (token.Whole k ∷ ts) op h = absurd cc
operator-is n (token.Time k ∷ ts) op h = absurd cc

pub record ChainRight (n : ℕ) (limit : ℕ) (first : Expr) (x : Nested) (ts rest : Tokens) : Type 0 where
  pub derived : IsChain n first x.expr ts rest
  pub counted : x.nesting ≡ nesting x.expr
  pub fits : x.nesting ≤ limit

-- how deep a binary operation nests
abbrev binary : BinaryOperator → Nested → Nested → Nested
binary op left right = record { expr = e.Binary op left.expr right.expr; nesting = suc (max left.nesting right.nesting) }

binary-counted : (op : BinaryOperator) (left right whole : Nested) → binary op left right ≡ whole → left.nesting ≡ nesting left.expr → right.nesting ≡ nesting right.expr → whole.nesting ≡ nesting whole.expr
binary-counted op left right whole is l r = subst (λ (q : Nested). q.nesting ≡ nesting q.expr) is (omega (arith, nesting-Binary op left.expr right.expr, l, r))

binary-fits : (below : ℕ) (op : BinaryOperator) (left right whole : Nested) → binary op left right ≡ whole → max left.nesting right.nesting ≤ below → whole.nesting ≤ suc below
binary-fits below op left right whole is fits = subst (λ (q : Nested). q.nesting ≤ suc below) is (omega (arith, fits))

climb-right : (below : ℕ) (inner : Inner) (n : ℕ) (operand : Parser Nested) (o : (ts : Tokens) (x : Nested) (rest : Tokens) → operand ts ≡ Ok (x, rest) → Right (IsLevel n) below x ts rest)
    (fuel : ℕ) (left : Nested) (ts : Tokens) (x : Nested) (rest : Tokens) → left.nesting ≡ nesting left.expr → left.nesting ≤ suc below
    → climb below inner (suc n) operand fuel left ts ≡ Ok (x, rest) → ChainRight n (suc below) left.expr x ts rest
unfolding climb
climb-right below inner n operand o zero left ts x rest counted fits h =
    let p = pair_is (left, ts) (x, rest) h in
    subst (λ (q : Nested × Tokens). ChainRight n (suc below) left.expr q.0 ts q.1) p (record { derived = ends; counted = counted; fits = fits })
climb-right below inner n operand o (suc fuel) left ts x rest counted fits h = go (λ l s c f. climb-right below inner n operand o fuel l s x rest c f) (next_operator (suc n) ts) refl h
  where
    go : (again : (l : Nested) (s : Tokens) → l.nesting ≡ nesting l.expr → l.nesting ≤ suc below → climb below inner (suc n) operand fuel l s ≡ Ok (x, rest) → ChainRight n (suc below) l.expr x s rest)
        → (b : Option BinaryOperator) → next_operator (suc n) ts ≡ b → operated below inner (climb below inner (suc n) operand fuel) operand left b ts ≡ Ok (x, rest) → ChainRight n (suc below) left.expr x ts rest
    go again None e r =
        let p = pair_is (left, ts) (x, rest) r in
        subst (λ (q : Nested × Tokens). ChainRight n (suc below) left.expr q.0 ts q.1) p (record { derived = ends; counted = counted; fits = fits })
    go again (Some op) h' r = elim (chosen (leb left.nesting below) _ (Err too_deep) (Ok (x, rest)) r) [
      | inr w ↦ absurd cc
      | inl w ↦
          let k = operator-is (suc n) ts op h' in
          both_done (operand (rest_of ts)) _ (x, rest) w.1 (λ a a_end a_is a_then.
          both_done (around below (max left.nesting a.nesting) (e.Binary op left.expr a.expr) a_end) _ (x, rest) a_then (λ b b_end b_is b_then.
          let right = o (rest_of ts) a a_end a_is in
          let v = around-right below (max left.nesting a.nesting) (e.Binary op left.expr a.expr) a_end b_end b b_is in
          let expr-is = ap (λ (q : Nested). q.expr) (sym v.1) in
          let now = again b b_end (binary-counted op left a b v.1 counted right.counted) (binary-fits below op left a b v.1 v.0) b_then in
          record {
            derived = goes_on k.1 k.2 right.derived (subst (λ (y : Expr). IsChain n y x.expr a_end rest) expr-is (subst (λ (t : Tokens). IsChain n b.expr x.expr t rest) (sym v.2) now.derived));
            counted = now.counted;
            fits = now.fits;
          }))
    ]

level-right : (below : ℕ) (inner : Inner) (i : IsRight below inner) (n : ℕ) (ts : Tokens) (x : Nested) (rest : Tokens) → level_at below inner n ts ≡ Ok (x, rest) → Right (IsLevel n) (suc below) x ts rest
unfolding level_at
level-right below inner i zero ts x rest h =
    let r = unary-right below inner i ts x rest h in record { derived = is_unary r.derived; counted = r.counted; fits = r.fits }
level-right below inner i (suc n) ts x rest h =
    both_done (level_at below inner n ts) _ (x, rest) h (λ a a_end a_is a_then.
    let first = level-right below inner i n ts a a_end a_is in
    let c = climb-right below inner n (inner n) (i n) (length a_end) a a_end x rest first.counted first.fits a_then in
    record { derived = is_chain first.derived c.derived; counted = c.counted; fits = c.fits })

pub nested-right : (d : ℕ) → IsRight d (nested_expression d)
unfolding nested_expression
nested-right zero n ts x rest h = absurd cc
nested-right (suc below) n ts x rest h = level-right below (nested_expression below) (nested-right below) n ts x rest h

-- an expression that is read is derived, and nests no deeper than is allowed
pub record ExpressionRight (x : Expr) (ts rest : Tokens) : Type 0 where
  pub derived : IsExpression x ts rest
  pub fits : nesting x ≤ most_nesting

pub expression-right : (ts : Tokens) (x : Expr) (rest : Tokens) → expression ts ≡ Ok (x, rest) → ExpressionRight x ts rest
unfolding expression
expression-right ts x rest h =
    let a = both_ok (nested_expression most_nesting loosest ts) _ (x, rest) h in
    let r = nested-right most_nesting loosest ts a.0 a.1 a.2 in
    made ExpressionRight a.0.expr x ts a.1 rest a.3 (record { derived = r.derived; fits = omega (arith, r.counted, r.fits) })
