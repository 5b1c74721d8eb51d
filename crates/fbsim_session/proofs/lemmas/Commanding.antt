-- Words of a line, and what they ask for.
use Rattle.fb_types.proofs.Common.{◌≡◌, ℕ, ◌+◌, ◌-◌, ◌^◌, ◌<◌, ◌≤◌, Bool, true, false, [], ◌∷◌, ◌++◌, length, take, drop, get_or, Option, Some, None, refl, sym, ap, ◌∙◌, subst, arith, eqb-true, take_more, drop-cons, ◌==◌, if◌then◌else◌, min, nat_lt, nat_le, option_map, ◌&&◌, nat_tests}
use Rattle.std.proofs.Math.Numerals.{add-one}
use Rattle.fb_inputs.specs.Words.{Text}
use Rattle.fbsim_session.specs.Commands.{after_blanks, before_blanks, before_text, Clear, clear_by, tick_by, Wrong}
use Rattle.fbsim_session.specs.declared.command.Usage.TheVariants as usage

-- ---- Blanks at the beginning

after_blank : (b : ℕ) (bs : Text) → b ≡ 32 → after_blanks (b ∷ bs) ≡ after_blanks bs
after_blank b bs e = subst (λ (x : ℕ). after_blanks (x ∷ bs) ≡ after_blanks bs) (sym e) refl

pub after_next : (xs : Text) (i : ℕ) → i < length xs → get_or xs i 0 ≡ 32 → after_blanks (drop (i + 1) xs) ≡ after_blanks (drop i xs)
after_next xs i lt e =
    let d : drop i xs ≡ get_or xs i 0 ∷ drop (i + 1) xs = (rw add-one (drop-cons xs i 0 lt)) in
    sym (ap after_blanks d ∙ after_blank (get_or xs i 0) (drop (i + 1) xs) e)

-- ---- Blanks at the end

before_blank : (xs : Text) (b : ℕ) → b ≡ 32 → before_blanks (xs ++ b ∷ []) ≡ before_blanks xs
before_blank [] b e = subst (λ (x : ℕ). before_text x [] ≡ []) (sym e) refl
before_blank (x ∷ xs) b e = ap (before_text x) (before_blank xs b e)

before_more : (x : ℕ) (xs : Text) (b : ℕ) → before_text x (xs ++ b ∷ []) ≡ x ∷ (xs ++ b ∷ [])
before_more x [] b = refl
before_more x (y ∷ ys) b = refl

before_other : (xs : Text) (b : ℕ) → (b ≡ 32 → ⊥) → before_blanks (xs ++ b ∷ []) ≡ xs ++ b ∷ []
before_other [] b other = by (b == 32) refl
  where
    by : (t : Bool) → (b == 32) ≡ t → (if t then [] else b ∷ []) ≡ b ∷ []
    by true e = absurd (other (eqb-true b 32 e))
    by false e = refl
before_other (x ∷ xs) b other = ap (before_text x) (before_other xs b other) ∙ before_more x xs b

pub before_next : (xs : Text) (i end : ℕ) → i < length xs → get_or xs i 0 ≡ 32 → before_blanks (take i xs) ≡ take end xs → before_blanks (take (i + 1) xs) ≡ take end xs
before_next xs i end lt e h = ap before_blanks (take_more xs i 0 lt) ∙ before_blank (take i xs) (get_or xs i 0) e ∙ h

pub before_here : (xs : Text) (i : ℕ) → i < length xs → (get_or xs i 0 ≡ 32 → ⊥) → before_blanks (take (i + 1) xs) ≡ take (i + 1) xs
before_here xs i lt other = ap before_blanks (take_more xs i 0 lt) ∙ before_other (take i xs) (get_or xs i 0) other ∙ sym (take_more xs i 0 lt)

-- ---- Numbers

-- a tick from a number that is at most one over the greatest
tick_by_tests : (n k : ℕ) → k ≡ n → 0 < k → k ≤ 10 ^ 12 → (a b : Bool) → nat_lt 0 n ≡ a → nat_le n (10 ^ 12) ≡ b → Some k ≡ (if a && b then Some n else None)
tick_by_tests n k m some most true true x y = ap Some m
tick_by_tests n k m some most true false x y = absurd (grind (arith, nat_tests))
tick_by_tests n k m some most false b x y = absurd (grind (arith, nat_tests))

pub tick_some : (o : Option ℕ) (most k : ℕ) → most ≡ 10 ^ 12 → Some k ≡ option_map (λ n. min n (most + 1)) o → 0 < k → k ≤ 10 ^ 12 → Some k ≡ tick_by o
tick_some None most k m e some early = absurd cc
tick_some (Some n) most k m e some early =
    let q : k ≡ min n (most + 1) = cc in
    tick_by_tests n k (omega (arith, q, m)) some early (nat_lt 0 n) (nat_le n (10 ^ 12)) refl refl

pub no_number : (o : Option ℕ) (f : ℕ → ℕ) → None ≡ option_map f o → None ≡ o
no_number None f e = refl
no_number (Some n) f e = absurd cc

-- a number that is at most one over the greatest of 64 bits
clear_tests : (n m : ℕ) → m ≡ min n (2 ^ 64) → (a b : Bool) → nat_lt m (2 ^ 64) ≡ a → nat_lt n (2 ^ 64) ≡ b → (if a then Clear m else Wrong usage.Clear) ≡ (if b then Clear n else Wrong usage.Clear)
clear_tests n m e true true x y = let q : m ≡ n = grind (arith, nat_tests) in ap Clear q
clear_tests n m e true false x y = absurd (grind (arith, nat_tests))
clear_tests n m e false true x y = absurd (grind (arith, nat_tests))
clear_tests n m e false false x y = refl

pub clear_equal : (o : Option ℕ) (most m : ℕ) → most ≡ 18446744073709551615 → Some m ≡ option_map (λ n. min n (most + 1)) o → clear_by (Some m) ≡ clear_by o
clear_equal None most m k e = absurd cc
clear_equal (Some n) most m k e =
    let q : m ≡ min n (most + 1) = cc in
    clear_tests n m (omega (arith, q, k)) (nat_lt m (2 ^ 64)) (nat_lt n (2 ^ 64)) refl refl
