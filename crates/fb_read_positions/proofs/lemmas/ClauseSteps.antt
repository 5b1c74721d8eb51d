-- Clauses of IFs and REPEATs, token by token.
use Rattle.fb_types.proofs.Common.{◌≡◌, ◌<◌, ◌≤◌, ◌+◌, ◌-◌, ℕ, suc, Bool, true, false, cond, eqb, ◌||◌, List, [], ◌∷◌, drop, get_or, length, Ok, refl, sym, ◌∙◌, ap, arith, ◌&&◌, eqb-true, false≢true, at_drop_more, length-drop, length-map}
use denote.Enum.Declared.{tag_of}
use Rattle.fb_read.specs.Parser.{same_mark}
use Rattle.fb_read.specs.Tokens.{Tokens, tokens_of}
use Rattle.fb_read.specs.contracts.token.Mark.{the_type}
use Rattle.fb_read.specs.declared.token.Located.{Located}
use Rattle.fb_read.specs.declared.token.Mark.TheVariants as mark
use Rattle.fb_read.specs.declared.token.Token.{Token}
use Rattle.fb_read.specs.declared.token.Token.TheVariants as token
use Rattle.fb_read_positions.specs.Walks.{begins_another, begins_clause, begins_clauses, depth_after, depth_at, ends_clauses, is_of_clauses, to_clause}
use Rattle.fb_read_positions.proofs.lemmas.ReadingLoops.{at_clause, past_clause, past_no_clause}

-- ---- How deep a clause is that begins

-- a number that is one of two is none of two others
exclusive :
    (n a b c d : ℕ) → eqb a c ≡ false → eqb a d ≡ false → eqb b c ≡ false → eqb b d ≡ false → (eqb n a || eqb n b) ≡ true → (eqb n c || eqb n d) ≡ false
exclusive n a b c d ac ad bc bd e = go (eqb n a) (eqb n b) refl refl e
  where
    none : (k : ℕ) → n ≡ k → eqb k c ≡ false → eqb k d ≡ false → (eqb n c || eqb n d) ≡ false
    none k is kc kd = ap (λ (m : ℕ). eqb m c || eqb m d) is ∙ ap (λ (x : Bool). x || eqb k d) kc ∙ kd

    go : (p q : Bool) → eqb n a ≡ p → eqb n b ≡ q → (p || q) ≡ true → (eqb n c || eqb n d) ≡ false
    go true q x y h = none a (eqb-true n a x) ac ad
    go false true x y h = none b (eqb-true n b y) bc bd
    go false false x y h = absurd (false≢true h)

-- the first clause of an IF or a REPEAT is no further one
first_clause : (ts : Tokens) → begins_clauses ts ≡ true → begins_another ts ≡ false
unfolding same_mark
first_clause [] e = refl
first_clause (token.Mark k ∷ ts) e = exclusive (tag_of the_type k) (tag_of the_type mark.If) (tag_of the_type mark.Repeat) (tag_of the_type mark.Elsif) (tag_of the_type mark.Until) refl refl refl refl e
first_clause (token.Name text ∷ ts) e = refl
first_clause (token.Whole n ∷ ts) e = refl
first_clause (token.Time n ∷ ts) e = refl

pub depth_there : (ts : Tokens) (depth : ℕ) → begins_clause ts depth ≡ true → depth_at ts ≡ depth
depth_there ts depth e = go (begins_clauses ts) (begins_another ts) refl refl e
  where
    outside : (p q : Bool) → eqb depth 0 ≡ p → ((p && true) || (q && false)) ≡ true → 0 ≡ depth
    outside true q x h = sym (eqb-true depth 0 x)
    outside false true x h = absurd (false≢true h)
    outside false false x h = absurd (false≢true h)

    inside : (p q : Bool) → eqb depth 1 ≡ q → ((p && false) || (q && true)) ≡ true → 1 ≡ depth
    inside p true x h = sym (eqb-true depth 1 x)
    inside true false x h = absurd (false≢true h)
    inside false false x h = absurd (false≢true h)

    nowhere : (p q : Bool) → ((p && false) || (q && false)) ≡ true → ⊥
    nowhere true true h = false≢true h
    nowhere true false h = false≢true h
    nowhere false true h = false≢true h
    nowhere false false h = false≢true h

    go : (a b : Bool) → begins_clauses ts ≡ a → begins_another ts ≡ b → ((eqb depth 0 && a) || (eqb depth 1 && b)) ≡ true → cond b 1 0 ≡ depth
    go true true p q h = absurd (false≢true (sym (first_clause ts p) ∙ q))
    go true false p q h = outside (eqb depth 0) (eqb depth 1) refl h
    go false true p q h = inside (eqb depth 0) (eqb depth 1) refl h
    go false false p q h = absurd (nowhere (eqb depth 0) (eqb depth 1) h)

pub depth_at_most : (ts : Tokens) → depth_at ts ≤ 1
depth_at_most ts = go (begins_another ts)
  where
    go : (b : Bool) → cond b 1 0 ≤ 1
    go true = omega arith
    go false = omega arith

-- a token that is none of clauses changes nothing
none_of_clauses : (ts : Tokens) (depth : ℕ) → is_of_clauses ts ≡ false → (begins_clause ts depth ≡ false) × (depth_after ts depth ≡ depth)
none_of_clauses ts depth e = go (begins_clauses ts) (begins_another ts) (ends_clauses ts) e
  where
    nowhere : (p q : Bool) → ((p && false) || (q && false)) ≡ false
    nowhere true true = refl
    nowhere true false = refl
    nowhere false true = refl
    nowhere false false = refl

    go : (a b c : Bool) → (a || (b || c)) ≡ false → (((eqb depth 0 && a) || (eqb depth 1 && b)) ≡ false) × (cond a (suc depth) (cond c (depth - 1) depth) ≡ depth)
    go true b c h = absurd (false≢true (sym h))
    go false true c h = absurd (false≢true (sym h))
    go false false true h = absurd (false≢true (sym h))
    go false false false h = (nowhere (eqb depth 0) (eqb depth 1), refl)

-- ---- One token

module _ (ps : List Located) (i : ℕ) (x : Located) (within : i < length ps) (is : x ≡ get_or ps i x) where
  pub next_is : tokens_of (drop i ps) ≡ x.token ∷ tokens_of (drop (i + 1) ps)
  next_is = at_drop_more tokens_of ps i x within ∙ ap (λ (y : Located). y.token ∷ tokens_of (drop (i + 1) ps)) (sym is)

  pub clause_here : (depth : ℕ) → begins_clause (x.token ∷ []) depth ≡ true → to_clause (tokens_of (drop i ps)) depth 0 ≡ Ok (tt, tokens_of (drop i ps))
  clause_here depth e = at_clause (tokens_of (drop i ps)) depth (ap (λ (us : Tokens). begins_clause us depth) next_is ∙ e)

  pub clause_passed :
      (depth n : ℕ) → begins_clause (x.token ∷ []) depth ≡ true → to_clause (tokens_of (drop i ps)) depth (suc n) ≡ to_clause (tokens_of (drop (i + 1) ps)) (depth_after (x.token ∷ []) depth) n
  clause_passed depth n e = ap (λ (us : Tokens). to_clause us depth (suc n)) next_is ∙ past_clause (x.token ∷ tokens_of (drop (i + 1) ps)) depth n e

  pub no_clause_passed :
      (depth n : ℕ) → begins_clause (x.token ∷ []) depth ≡ false → to_clause (tokens_of (drop i ps)) depth n ≡ to_clause (tokens_of (drop (i + 1) ps)) (depth_after (x.token ∷ []) depth) n
  no_clause_passed depth n e = ap (λ (us : Tokens). to_clause us depth n) next_is ∙ past_no_clause (x.token ∷ tokens_of (drop (i + 1) ps)) depth n e

  pub other_passed : (depth n : ℕ) → is_of_clauses (x.token ∷ []) ≡ false → to_clause (tokens_of (drop i ps)) depth n ≡ to_clause (tokens_of (drop (i + 1) ps)) depth n
  other_passed depth n e =
      let none = none_of_clauses (x.token ∷ []) depth e in
      no_clause_passed depth n none.0 ∙ ap (λ d. to_clause (tokens_of (drop (i + 1) ps)) d n) none.1

pub moved_clause : (ts : Tokens) (d e m n : ℕ) → e ≡ d → n ≡ m → to_clause ts d m ≡ to_clause ts e n
moved_clause ts d e m n o k = ap (λ (x : ℕ). to_clause ts x m) (sym o) ∙ ap (λ (x : ℕ). to_clause ts e x) (sym k)

-- the tokens from an index on
pub left_from : (ps : List Located) (i : ℕ) → length (tokens_of (drop i ps)) ≡ length ps - i
left_from ps i =
    let f : Located → Token = λ p. p.token in
    length-map (drop i ps) f ∙ length-drop i ps
