-- Numbers that are read digit by digit.
use Rattle.fb_types.proofs.Common.{◌≡◌, ℕ, ◌+◌, ◌-◌, ◌*◌, ◌<◌, ◌≤◌, Bool, true, false, [], ◌∷◌, length, take, drop, get_or, None, refl, sym, ap, ◌∙◌, arith, take-append-drop, ◌&&◌, nat_le, lt-leb}
use Rattle.std.specs.Prelude.{fold}
use Rattle.std.proofs.lemmas.List.Sums.{fold-append, fold_more}
use Rattle.fb_expect.specs.Words.{Text, is_numeral, natural, with_digit}

fold-grows : (n : ℕ) (z : Text) → n ≤ fold with_digit n z
fold-grows n [] = omega arith
fold-grows n (b ∷ z) = let more = fold-grows (with_digit n b) z in omega arith

and-right : (a b : Bool) → b ≡ false → (a && b) ≡ false
and-right true b off = off
and-right false b off = refl

-- a front of the digits is too great already
pub over : (most : ℕ) (z : Text) (i value : ℕ) → i < length z → fold with_digit 0 (take i z) ≡ value → most < 10 * value + (get_or z i 0 - 48) → None ≡ natural most z
unfolding natural
over most z i value lt is great =
    let one : fold with_digit 0 (take (i + 1) z) ≡ 10 * value + (get_or z i 0 - 48) =
    fold_more with_digit 0 z i 0 lt ∙ ap (λ (v : ℕ). 10 * v + (get_or z i 0 - 48)) is
    in
    let all : fold with_digit 0 z ≡ fold with_digit (fold with_digit 0 (take (i + 1) z)) (drop (i + 1) z) =
    ap (fold with_digit 0) (sym (take-append-drop (i + 1) z)) ∙ fold-append with_digit 0 (take (i + 1) z) (drop (i + 1) z)
    in
    let grows = fold-grows (fold with_digit 0 (take (i + 1) z)) (drop (i + 1) z) in
    let big : most < fold with_digit 0 z = omega (arith, one, all, grows, great) in
    rw (and-right (is_numeral z) (nat_le (fold with_digit 0 z) most) (lt-leb (fold with_digit 0 z) most big)) refl
