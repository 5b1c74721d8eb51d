-- Blanks and comments are skipped, all of them and nothing else.
use Rattle.fb_types.proofs.Common.{◌≡◌, ℕ, zero, suc, ◌≤◌, Bool, true, false, eqb, [], ◌∷◌, ◌++◌, length, Option, Some, None, refl, sym, ap, subst, ◌∙◌, inl, inr, append_assoc, append-nil, arith, ◌&&◌, codes, cases_Bool, and_parts, eqb-true, true≢false, false_from_ne_true, length-append}
use Rattle.fb_read.specs.declared.blank.BlankState.TheVariants.{Between, Inside, Line}
use Rattle.fb_read.specs.Blank.{Text, at, is_blank, skip}
use Rattle.fb_read.specs.Pauses.{HasNo, IsPause, a_blank, a_comment, a_line, ArePauses, no_more, one_more, BeginsNone, Leaves, a_rest, a_last_line, not_closed, SkipsExactly}

abbrev close : Text
close = codes "*)"

abbrev feed : Text
feed = codes "\n"

-- ---- what occurs nowhere

later : (bytes : Text) (b : ℕ) (z : Text) → HasNo bytes (b ∷ z) → HasNo bytes z
later bytes b z h before following e = h (b ∷ before) following (ap (λ (y : Text). b ∷ y) e)

-- no byte and the one after it close a comment
not-closing : (b : ℕ) (z rest : Text) → HasNo close (b ∷ z) → eqb (at rest 0) 41 ≡ false → (eqb b 42 && eqb (at (z ++ rest) 0) 41) ≡ false
not-closing b z rest h r = false_from_ne_true _ (λ t. let p = and_parts (eqb b 42) (eqb (at (z ++ rest) 0) 41) t in go z h (eqb-true b 42 p.0) p.1)
  where
    go : (z : Text) → HasNo close (b ∷ z) → b ≡ 42 → eqb (at (z ++ rest) 0) 41 ≡ true → ⊥
    go [] h e f = true≢false (sym f ∙ r)
    go (c ∷ z) h e f = let g : c ≡ 41 = eqb-true c 41 f in h [] z (rw (e, g) refl)

skip-inside : (z rest : Text) → HasNo close z → eqb (at rest 0) 41 ≡ false → skip Inside (z ++ rest) ≡ skip Inside rest
unfolding skip
skip-inside [] rest h r = refl
skip-inside (b ∷ z) rest h r = rw (not-closing b z rest h r) (skip-inside z rest (later close b z h) r)

not-feed : (b : ℕ) (z : Text) → HasNo feed (b ∷ z) → eqb b 10 ≡ false
not-feed b z h = false_from_ne_true (eqb b 10) (λ t. let e : b ≡ 10 = eqb-true b 10 t in h [] z (rw e refl))

skip-line : (z rest : Text) → HasNo feed z → skip Line (z ++ rest) ≡ skip Line rest
unfolding skip
skip-line [] rest h = refl
skip-line (b ∷ z) rest h = rw (not-feed b z h) (skip-line z rest (later feed b z h))

-- ---- what is left is what skipping leaves

skip-comment : (inside z : Text) → HasNo close inside → skip Between (codes "(*" ++ (inside ++ (close ++ z))) ≡ skip Between z
unfolding skip
skip-comment inside z h = skip-inside inside (close ++ z) h refl

skip-feed : (inside z : Text) → HasNo feed inside → skip Between (codes "//" ++ (inside ++ (feed ++ z))) ≡ skip Between z
unfolding skip
skip-feed inside z h = skip-line inside (feed ++ z) h

skip-blank : (b : ℕ) (z : Text) → is_blank b ≡ true → skip Between (b ∷ z) ≡ skip Between z
unfolding skip
skip-blank b z e = rw e refl

skip-pause : (a z : Text) → IsPause a → skip Between (a ++ z) ≡ skip Between z
skip-pause a z (a_blank b e) = skip-blank b z e
skip-pause a z (a_comment inside h) = ap (λ (y : Text). skip Between (codes "(*" ++ y)) (append_assoc inside close z) ∙ skip-comment inside z h
skip-pause a z (a_line inside h) = ap (λ (y : Text). skip Between (codes "//" ++ y)) (append_assoc inside feed z) ∙ skip-feed inside z h

skip-pauses : (a z : Text) → ArePauses a → skip Between (a ++ z) ≡ skip Between z
skip-pauses a z no_more = refl
skip-pauses a z (one_more x y p q) = rw append_assoc (skip-pause x (y ++ z) p ∙ skip-pauses y z q)

-- two bytes are not at the front
not-begun : (b x y : ℕ) (z : Text) → ((rest : Text) → x ∷ (y ∷ rest) ≡ b ∷ z → ⊥) → eqb y 0 ≡ false → (eqb b x && eqb (at z 0) y) ≡ false
not-begun b x y z h r = false_from_ne_true _ (λ t. let p = and_parts (eqb b x) (eqb (at z 0) y) t in go z h (eqb-true b x p.0) (eqb-true (at z 0) y p.1))
  where
    go : (z : Text) → ((rest : Text) → x ∷ (y ∷ rest) ≡ b ∷ z → ⊥) → b ≡ x → at z 0 ≡ y → ⊥
    go [] h e f = true≢false (sym (let g : eqb y 0 ≡ true = subst (λ (k : ℕ). eqb k 0 ≡ true) f refl in g) ∙ r)
    go (c ∷ z) h e f = h z (rw (e, f) refl)

skip-none : (z : Text) → BeginsNone z → skip Between z ≡ Some z
unfolding skip
skip-none [] n = refl
skip-none (b ∷ z) n = rw (n.no_blank b z refl, not-begun b 40 42 z n.no_comment refl, not-begun b 47 47 z n.no_line refl) refl

skip-last : (inside : Text) → HasNo feed inside → skip Between (codes "//" ++ inside) ≡ Some []
unfolding skip
skip-last inside h = ap (λ (y : Text). skip Line y) (sym (append-nil inside)) ∙ skip-line inside [] h

skip-open : (inside : Text) → HasNo close inside → skip Between (codes "(*" ++ inside) ≡ None
unfolding skip
skip-open inside h = ap (λ (y : Text). skip Inside y) (sym (append-nil inside)) ∙ skip-inside inside [] h refl

left-is : (z : Text) (left : Option Text) → Leaves z left → skip Between z ≡ left
left-is z left (a_rest a rest p n) = skip-pauses a rest p ∙ skip-none rest n
left-is z left (a_last_line a inside p h) = skip-pauses a (codes "//" ++ inside) p ∙ skip-last inside h
left-is z left (not_closed a inside p h) = skip-pauses a (codes "(*" ++ inside) p ∙ skip-open inside h

-- ---- something is left of every text

record Left (z : Text) : Type 0 where
  left : Option Text
  leaves : Leaves z left

before : (a z : Text) → IsPause a → Left z → Left (a ++ z)
before a z p l = record { left = l.left; leaves = go z l.left l.leaves }
  where
    go : (z : Text) (left : Option Text) → Leaves z left → Leaves (a ++ z) left
    go z left (a_rest b rest q n) = subst (λ (y : Text). Leaves y (Some rest)) (append_assoc a b rest) (a_rest (a ++ b) rest (one_more a b p q) n)
    go z left (a_last_line b inside q h) = subst (λ (y : Text). Leaves y (Some [])) (append_assoc a b (codes "//" ++ inside)) (a_last_line (a ++ b) inside (one_more a b p q) h)
    go z left (not_closed b inside q h) = subst (λ (y : Text). Leaves y None) (append_assoc a b (codes "(*" ++ inside)) (not_closed (a ++ b) inside (one_more a b p q) h)

-- where bytes occur first
data Search (bytes : Text) (z : Text) : Type 0 where
  there : (front rest : Text) → HasNo bytes front → front ++ (bytes ++ rest) ≡ z → Search bytes z
  nowhere : HasNo bytes z → Search bytes z

no-close-nil : HasNo close []
no-close-nil [] following e = cc
no-close-nil (x ∷ before) following e = cc

no-feed-nil : HasNo feed []
no-feed-nil [] following e = cc
no-feed-nil (x ∷ before) following e = cc

-- a byte before a text that has them nowhere
no-close-cons : (b : ℕ) (z : Text) → HasNo close z → (eqb b 42 && eqb (at z 0) 41) ≡ false → HasNo close (b ∷ z)
no-close-cons b z h f [] following e =
    let first : b ≡ 42 = cc in
    let rest : 41 ∷ following ≡ z = cc in
    let closes : (eqb 42 42 && eqb (at (41 ∷ following) 0) 41) ≡ true = refl in
    true≢false (sym closes ∙ rw (first, sym rest) at f)
no-close-cons b z h f (x ∷ before) following e = let rest : before ++ (close ++ following) ≡ z = cc in h before following rest

no-feed-cons : (b : ℕ) (z : Text) → HasNo feed z → eqb b 10 ≡ false → HasNo feed (b ∷ z)
no-feed-cons b z h f [] following e = let first : b ≡ 10 = cc in true≢false (rw first at f)
no-feed-cons b z h f (x ∷ before) following e = let rest : before ++ (feed ++ following) ≡ z = cc in h before following rest

closing : (z : Text) → Search close z
closing [] = nowhere no-close-nil
closing (b ∷ z) = go (closing z) (eqb b 42 && eqb (at z 0) 41) refl
  where
    first : (z : Text) → b ≡ 42 → at z 0 ≡ 41 → Search close (b ∷ z)
    first [] e f = absurd cc
    first (c ∷ z) e f = there [] z no-close-nil (rw (e, f) refl)

    -- (the front may be empty, and its first byte is then that of the sign)
    in-front : (front rest : Text) → front ++ (close ++ rest) ≡ z → (eqb b 42 && eqb (at z 0) 41) ≡ false → (eqb b 42 && eqb (at front 0) 41) ≡ false
    in-front [] rest e f = false_from_ne_true (eqb b 42 && eqb (at [] 0) 41) (λ t. true≢false (sym (and_parts (eqb b 42) (eqb (at [] 0) 41) t).1))
    in-front (x ∷ front) rest e f = let g : at z 0 ≡ x = ap (λ (y : Text). at y 0) (sym e) in rw g at f

    go : Search close z → (t : Bool) → (eqb b 42 && eqb (at z 0) 41) ≡ t → Search close (b ∷ z)
    go s true t = let p = and_parts (eqb b 42) (eqb (at z 0) 41) t in first z (eqb-true b 42 p.0) (eqb-true (at z 0) 41 p.1)
    go (there front rest h e) false t = there (b ∷ front) rest (no-close-cons b front h (in-front front rest e t)) (ap (λ (y : Text). b ∷ y) e)
    go (nowhere h) false t = nowhere (no-close-cons b z h t)

feeding : (z : Text) → Search feed z
feeding [] = nowhere no-feed-nil
feeding (b ∷ z) = go (feeding z) (eqb b 10) refl
  where
    go : Search feed z → (t : Bool) → eqb b 10 ≡ t → Search feed (b ∷ z)
    go s true t = let e : b ≡ 10 = eqb-true b 10 t in there [] z no-feed-nil (rw e refl)
    go (there front rest h e) false t = there (b ∷ front) rest (no-feed-cons b front h t) (ap (λ (y : Text). b ∷ y) e)
    go (nowhere h) false t = nowhere (no-feed-cons b z h t)

abbrev Again : ℕ → Type 0
Again n = (z : Text) → length z ≤ n → Left z

commented : (n : ℕ) (y : Text) → Again n → length y ≤ n → Left (codes "(*" ++ y)
commented n y again le = go (closing y)
  where
    go : Search close y → Left (codes "(*" ++ y)
    go (there front rest h e) =
        let len = length-append front (close ++ rest) in
        let all : length (front ++ (close ++ rest)) ≡ length y = ap length e in
        let whole = before (codes "(*" ++ (front ++ close)) rest (a_comment front h) (again rest (omega arith)) in
        subst (λ (w : Text). Left (codes "(*" ++ w)) (append_assoc front close rest ∙ e) whole
    go (nowhere h) = record { left = None; leaves = not_closed [] y no_more h }

lined : (n : ℕ) (y : Text) → Again n → length y ≤ n → Left (codes "//" ++ y)
lined n y again le = go (feeding y)
  where
    go : Search feed y → Left (codes "//" ++ y)
    go (there front rest h e) =
        let len = length-append front (feed ++ rest) in
        let all : length (front ++ (feed ++ rest)) ≡ length y = ap length e in
        let whole = before (codes "//" ++ (front ++ feed)) rest (a_line front h) (again rest (omega arith)) in
        subst (λ (w : Text). Left (codes "//" ++ w)) (append_assoc front feed rest ∙ e) whole
    go (nowhere h) = record { left = Some []; leaves = a_last_line [] y no_more h }

two-there : (b x y : ℕ) (z : Text) → (eqb b x && eqb (at z 0) y) ≡ false → (rest : Text) → x ∷ (y ∷ rest) ≡ b ∷ z → ⊥
two-there b x y z f rest e =
    let first : b ≡ x = cc in
    let same : at z 0 ≡ y = ap (λ (w : Text). at w 1) (sym e) in
    let one : eqb x x ≡ true = grind arith in
    let two : eqb y y ≡ true = grind arith in
    true≢false (sym (let both : (eqb x x && eqb y y) ≡ true = rw (one, two) refl in both) ∙ rw (first, same) at f)

no-blank : (b : ℕ) (z : Text) → is_blank b ≡ false → (c : ℕ) (rest : Text) → c ∷ rest ≡ b ∷ z → is_blank c ≡ false
no-blank b z f c rest e = let same : c ≡ b = cc in rw same f

left : (n : ℕ) → Again n
left n [] le = record { left = Some []; leaves = a_rest [] [] no_more (record { no_blank = λ b rest e. absurd cc; no_comment = λ rest e. cc; no_line = λ rest e. cc }) }
left zero (b ∷ z) le = absurd (omega arith)
left (suc n) (b ∷ z) le = go (left n) (omega arith)
  where
    comment : (z : Text) → Again n → length z ≤ n → b ≡ 40 → at z 0 ≡ 42 → Left (b ∷ z)
    comment [] again le e f = absurd cc
    comment (c ∷ y) again le e f = rw (e, f) (commented n y again (omega arith))

    line : (z : Text) → Again n → length z ≤ n → b ≡ 47 → at z 0 ≡ 47 → Left (b ∷ z)
    line [] again le e f = absurd cc
    line (c ∷ y) again le e f = rw (e, f) (lined n y again (omega arith))

    go : Again n → length z ≤ n → Left (b ∷ z)
    go again le = elim (cases_Bool (is_blank b)) [
      | inl k ↦ before (b ∷ []) z (a_blank b k) (again z le)
      | inr k ↦ elim (cases_Bool (eqb b 40 && eqb (at z 0) 42)) [
        | inl t ↦ let p = and_parts (eqb b 40) (eqb (at z 0) 42) t in comment z again le (eqb-true b 40 p.0) (eqb-true (at z 0) 42 p.1)
        | inr t ↦ elim (cases_Bool (eqb b 47 && eqb (at z 0) 47)) [
          | inl u ↦ let p = and_parts (eqb b 47) (eqb (at z 0) 47) u in line z again le (eqb-true b 47 p.0) (eqb-true (at z 0) 47 p.1)
          | inr u ↦ record {
            left = Some (b ∷ z);
            leaves = a_rest [] (b ∷ z) no_more (record { no_blank = no-blank b z k; no_comment = two-there b 40 42 z t; no_line = two-there b 47 47 z u });
          }
        ]
      ]
    ]

pub skips-exactly : SkipsExactly
skips-exactly z o = (λ e. let l = left (length z) z (omega arith) in subst (Leaves z) (sym (left-is z l.left l.leaves) ∙ e) l.leaves, left-is z o)
