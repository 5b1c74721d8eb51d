-- Names as reports show them, byte by byte.
use Rattle.fb_expect.proofs.lemmas.Common.{◌≡◌, ℕ, zero, suc, ◌+◌, ◌-◌, ◌<◌, ◌≤◌, List, [], ◌∷◌, ◌++◌, length, get_or, drop, refl, sym, ap, ◌∙◌, arith, append_assoc, append-nil, Text}
use Rattle.fb_types.proofs.Common.{drop_all, drop_more}
use Rattle.fb_expect.specs.Shown.{hidden_by, shown_after, shown_byte}

-- the first byte of a character
pub shown-more :
    (part : Text) (i : ℕ) (text more : Text) (skipped hidden left : ℕ) → i < length part → skipped ≡ 0 → hidden ≡ hidden_by (get_or part i 0) (drop (i + 1) part) → left ≡ hidden - 1
    → more ≡ text ++ shown_byte hidden (get_or part i 0) ∷ []
    → more ++ shown_after left (drop (i + 1) part) ≡ text ++ shown_after skipped (drop i part)
shown-more part i text more skipped hidden left lt none is left-is put =
    let b = get_or part i 0 in
    let rest = drop (i + 1) part in
    ap (λ (t : Text). t ++ shown_after left rest) put ∙ append_assoc text (shown_byte hidden b ∷ []) (shown_after left rest)
    ∙ ap (λ (n : ℕ). text ++ (shown_byte hidden b ∷ shown_after n rest)) left-is
    ∙ ap (λ (n : ℕ). text ++ (shown_byte n b ∷ shown_after (n - 1) rest)) is
    ∙ ap (λ (z : Text). text ++ shown_after 0 z) (sym (drop_more part i 0 lt)) ∙ ap (λ (n : ℕ). text ++ shown_after n (drop i part)) (sym none)

-- a further byte
pub shown-skips :
    (part : Text) (i : ℕ) (text : Text) (skipped left : ℕ) → i < length part → left + 1 ≡ skipped
    → text ++ shown_after left (drop (i + 1) part) ≡ text ++ shown_after skipped (drop i part)
shown-skips part i text skipped left lt is =
    let next : suc left ≡ skipped = omega (arith, is) in
    ap (λ (z : Text). text ++ z)
    (sym (ap (shown_after (suc left)) (drop_more part i 0 lt))
    ∙ ap (λ (n : ℕ). shown_after n (drop i part)) next)

-- no more
pub shown-all : (part : Text) (i : ℕ) (text : Text) (skipped : ℕ) → length part ≤ i → text ++ shown_after skipped (drop i part) ≡ text
shown-all part i text skipped le =
    ap (λ (z : Text). text ++ shown_after skipped z) (drop_all i part le) ∙ ap (λ (z : Text). text ++ z) (nothing skipped) ∙ append-nil text
  where
    nothing : (k : ℕ) → shown_after k [] ≡ []
    nothing k = refl
