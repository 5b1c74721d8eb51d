-- The loops of rules look one token ahead.
use Rattle.fb_read.proofs.lemmas.Common.{◌≡◌, ℕ, zero, suc, ◌≤◌, Bool, true, false, cond, List, [], ◌∷◌, ◌++◌, length, Ok, Err, refl, arith, Mark, Tokens, Outcome, Parser, syntax, and_then, pure, eat, sees, after, many_from, many_after, many, section, run_from, run_after, separated_from, separated, several_from, several}
use Rattle.fb_read.specs.declared.token.Mark.TheVariants as mark
use Rattle.fb_read.proofs.lemmas.lookahead.OneTokenAhead.{left-length, Local, Nests, nests-of, local-bind, nests-bind, local-as, local-pure, local-refuse, HeadOnly, local-cond, local-if-nests}
use Rattle.fb_read.proofs.lemmas.lookahead.LocalSteps.{local-eat, Advances, local-turns}

-- what follows is the same if it is the same after what was read
pub bind-same : {A B : Type 0} (o : Outcome A) (f g : A → Parser B) → ((x : A) (r : Tokens) → o ≡ Ok (x, r) → f x r ≡ g x r) → and_then o f ≡ and_then o g
bind-same (Ok p) f g h = h p.0 p.1 refl
bind-same (Err e) f g h = refl

after-length : (k : Mark) (ts : Tokens) → length (after k ts) ≤ length ts
after-length k ts = left-length (after k ts) ts ((local-eat k).looks.left ts (after k ts) (sees k ts) refl)

pub sees-head : (k : Mark) → HeadOnly (sees k)
sees-head k t ts = refl

-- nothing is read at the end of the tokens
abbrev pub IsNoneAtEnd : {A : Type 0} → Parser A → Type 0
IsNoneAtEnd p = p [] ≡ Err (syntax [])

-- ---- up to a mark

local-many_from : {A : Type 0} (item : Parser A) (end : Mark) → Local item → (n : ℕ) (found : List A) → Local (many_from item end n found)
unfolding many_from
local-many_from item end l zero found = local-refuse
local-many_from item end l (suc n) found =
    local-bind (eat end) _ (local-eat end) (λ b. local-cond b _ _ (local-pure found) (local-bind item _ l (λ x. local-many_from item end l n (found ++ x ∷ []))))

many-fuel : {A : Type 0} (item : Parser A) (end : Mark) → Advances item → IsNoneAtEnd item → (n m : ℕ) (found : List A) (ts : Tokens) → length ts ≤ n → length ts ≤ m
    → many_from item end n found ts ≡ many_from item end m found ts
unfolding many_from after
many-fuel item end adv none zero zero found ts a b = refl
many-fuel item end adv none zero (suc m) found [] a b = rw none refl
many-fuel item end adv none zero (suc m) found (t ∷ ts) a b = absurd (omega arith)
many-fuel item end adv none (suc n) zero found [] a b = rw none refl
many-fuel item end adv none (suc n) zero found (t ∷ ts) a b = absurd (omega arith)
many-fuel {A = A} item end adv none (suc n) (suc m) found ts a b = go (λ xs r. many-fuel item end adv none n m xs r) (sees end ts)
  where
    go : ((xs : List A) (r : Tokens) → length r ≤ n → length r ≤ m → many_from item end n xs r ≡ many_from item end m xs r) → (c : Bool)
        → (cond c (pure found) (λ us. and_then (item us) (λ x. many_from item end n (found ++ x ∷ [])))) (after end ts)
        ≡ (cond c (pure found) (λ us. and_then (item us) (λ x. many_from item end m (found ++ x ∷ [])))) (after end ts)
    go more true = refl
    go more false = bind-same (item (after end ts)) _ _ (λ x r e.
        let shorter = adv (after end ts) r x e in let whole = after-length end ts in more (found ++ x ∷ []) r (omega arith) (omega arith))

pub local-many_after : {A : Type 0} (item : Parser A) (end : Mark) → Local item → Advances item → IsNoneAtEnd item → (found : List A) → Local (many_after item end found)
unfolding many_after
local-many_after item end l adv none found =
    local-turns (λ n. many_from item end n found) (λ n. local-many_from item end l n found) (λ n m ts a b. many-fuel item end adv none n m found ts a b)

pub local-many : {A : Type 0} (item : Parser A) (end : Mark) → Local item → Advances item → IsNoneAtEnd item → Local (many item end)
unfolding many
local-many item end l adv none = local-turns (λ n. many_from item end n []) (λ n. local-many_from item end l n []) (λ n m ts a b. many-fuel item end adv none n m [] ts a b)

pub local-section : {A : Type 0} (item : Parser A) (begin end : Mark) → Local item → Advances item → IsNoneAtEnd item → Local (section item begin end)
unfolding section
local-section item begin end l adv none = local-bind (eat begin) _ (local-eat begin) (λ b. local-cond b _ _ (local-many item end l adv none) (local-pure []))

-- ---- as long as something begins

local-several_from : {A : Type 0} (begins : Tokens → Bool) (item : Parser A) → HeadOnly begins → begins [] ≡ false → Nests item → (n : ℕ) (found : List A) → Local (several_from begins item n found)
unfolding several_from
local-several_from begins item only none l zero found = local-pure found
local-several_from begins item only none l (suc n) found =
    local-if-nests begins (λ ts. and_then (item ts) (λ x. several_from begins item n (found ++ x ∷ []))) (pure found) only none
    (nests-bind item _ l (λ x. nests-of (local-several_from begins item only none l n (found ++ x ∷ []))) (λ x ts rest e. (local-several_from begins item only none l n (found ++ x ∷ [])).flat)) (local-pure found)

several-fuel : {A : Type 0} (begins : Tokens → Bool) (item : Parser A) → Advances item → begins [] ≡ false → (n m : ℕ) (found : List A) (ts : Tokens) → length ts ≤ n → length ts ≤ m
    → several_from begins item n found ts ≡ several_from begins item m found ts
unfolding several_from
several-fuel begins item adv none zero zero found ts a b = refl
several-fuel begins item adv none zero (suc m) found [] a b = rw none refl
several-fuel begins item adv none zero (suc m) found (t ∷ ts) a b = absurd (omega arith)
several-fuel begins item adv none (suc n) zero found [] a b = rw none refl
several-fuel begins item adv none (suc n) zero found (t ∷ ts) a b = absurd (omega arith)
several-fuel {A = A} begins item adv none (suc n) (suc m) found ts a b = go (λ xs r. several-fuel begins item adv none n m xs r) (begins ts)
  where
    go : ((xs : List A) (r : Tokens) → length r ≤ n → length r ≤ m → several_from begins item n xs r ≡ several_from begins item m xs r) → (c : Bool)
        → cond c (and_then (item ts) (λ x. several_from begins item n (found ++ x ∷ []))) (Ok (found, ts)) ≡ cond c (and_then (item ts) (λ x. several_from begins item m (found ++ x ∷ []))) (Ok (found, ts))
    go more true = bind-same (item ts) _ _ (λ x r e. let shorter = adv ts r x e in more (found ++ x ∷ []) r (omega arith) (omega arith))
    go more false = refl

pub local-several : {A : Type 0} (begins : Tokens → Bool) (item : Parser A) → HeadOnly begins → begins [] ≡ false → Nests item → Advances item → (found : List A) → Local (several begins item found)
unfolding several
local-several begins item only none l adv found =
    local-turns (λ n. several_from begins item n found) (λ n. local-several_from begins item only none l n found) (λ n m ts a b. several-fuel begins item adv none n m found ts a b)

-- a run is the same as several that this mark begins
run-several : {A : Type 0} (item : Parser A) (begin : Mark) (n : ℕ) (found : List A) (ts : Tokens) → run_from item begin n found ts ≡ several_from (sees begin) item n found ts
unfolding run_from several_from
run-several item begin zero found ts = refl
run-several {A = A} item begin (suc n) found ts = go (λ xs r. run-several item begin n xs r) (sees begin ts)
  where
    go : ((xs : List A) (r : Tokens) → run_from item begin n xs r ≡ several_from (sees begin) item n xs r) → (c : Bool)
        → cond c (and_then (item ts) (λ x. run_from item begin n (found ++ x ∷ []))) (Ok (found, ts)) ≡ cond c (and_then (item ts) (λ x. several_from (sees begin) item n (found ++ x ∷ []))) (Ok (found, ts))
    go more true = bind-same (item ts) _ _ (λ x r e. more (found ++ x ∷ []) r)
    go more false = refl

pub local-run_after : {A : Type 0} (item : Parser A) (begin : Mark) → Local item → Advances item → (found : List A) → Local (run_after item begin found)
unfolding run_after several
local-run_after item begin l adv found =
    local-as (run_after item begin found) (several (sees begin) item found) (λ ts. run-several item begin (length ts) found ts) (local-several (sees begin) item (sees-head begin) refl (nests-of l) adv found)

-- ---- with commas between them

pub local-separated_from : {A : Type 0} (item : Parser A) → Local item → (n : ℕ) (found : List A) → Local (separated_from item n found)
unfolding separated_from
local-separated_from item l zero found = local-refuse
local-separated_from item l (suc n) found =
    local-bind item _ l (λ x. local-bind (eat mark.Comma) _ (local-eat mark.Comma) (λ b. local-cond b _ _ (local-separated_from item l n (found ++ x ∷ [])) (local-pure (found ++ x ∷ []))))

separated-fuel : {A : Type 0} (item : Parser A) → Advances item → IsNoneAtEnd item → (n m : ℕ) (found : List A) (ts : Tokens) → length ts ≤ n → length ts ≤ m
    → separated_from item n found ts ≡ separated_from item m found ts
unfolding separated_from
separated-fuel item adv none zero zero found ts a b = refl
separated-fuel item adv none zero (suc m) found [] a b = rw none refl
separated-fuel item adv none zero (suc m) found (t ∷ ts) a b = absurd (omega arith)
separated-fuel item adv none (suc n) zero found [] a b = rw none refl
separated-fuel item adv none (suc n) zero found (t ∷ ts) a b = absurd (omega arith)
separated-fuel {A = A} item adv none (suc n) (suc m) found ts a b = go (λ xs r. separated-fuel item adv none n m xs r)
  where
    turn : ((xs : List A) (r : Tokens) → length r ≤ n → length r ≤ m → separated_from item n xs r ≡ separated_from item m xs r) → (xs : List A) (r : Tokens) → length r ≤ n → length r ≤ m → (c : Bool)
        → (cond c (separated_from item n xs) (pure xs)) r ≡ (cond c (separated_from item m xs) (pure xs)) r
    turn more xs r a b true = more xs r a b
    turn more xs r a b false = refl

    go : ((xs : List A) (r : Tokens) → length r ≤ n → length r ≤ m → separated_from item n xs r ≡ separated_from item m xs r)
        → and_then (item ts) (λ x. λ r. (cond (sees mark.Comma r) (separated_from item n (found ++ x ∷ [])) (pure (found ++ x ∷ []))) (after mark.Comma r))
        ≡ and_then (item ts) (λ x. λ r. (cond (sees mark.Comma r) (separated_from item m (found ++ x ∷ [])) (pure (found ++ x ∷ []))) (after mark.Comma r))
    go more = bind-same (item ts) _ _ (λ x r e.
        let shorter = adv ts r x e in let whole = after-length mark.Comma r in turn more (found ++ x ∷ []) (after mark.Comma r) (omega arith) (omega arith) (sees mark.Comma r))

pub local-separated : {A : Type 0} (item : Parser A) → Local item → Advances item → IsNoneAtEnd item → Local (separated item)
unfolding separated
local-separated item l adv none = local-turns (λ n. separated_from item n []) (λ n. local-separated_from item l n []) (λ n m ts a b. separated-fuel item adv none n m [] ts a b)
