-- Decimal digits, read one after another: the number that they make, or one more than a limit.
use Rattle.fb_types.proofs.Common.{◌≡◌, ◌==◌, ℕ, ◌+◌, ◌-◌, ◌*◌, ◌/◌, ◌<◌, ◌≤◌, min, true, false, [], ◌∷◌, length, get_or, take, drop, Option, Some, None, refl, sym, ap, ◌∙◌, arith, is_ascii_digit, fold, list_all, nat_le, option_map, and_parts, leb-true, at_drop_more, drop_all, take_all, take_more}
use Rattle.std.proofs.lemmas.List.Sums.{fold-append}
use Rattle.fb_inputs.specs.Numbers.{natural, with_digit}
use Rattle.fb_inputs.specs.Words.{Text}

-- a number as it is read: itself, or one more than the limit
abbrev up_to : ℕ → Option ℕ → Option ℕ
up_to most o = option_map (λ n. min n (most + 1)) o

pub none_read : (most : ℕ) (z : Text) → (length z == 0) ≡ true → None ≡ up_to most (natural z)
unfolding natural
none_read most z empty = rw empty refl

pub not_digits : (most : ℕ) (z : Text) → (length z == 0) ≡ false → list_all is_ascii_digit z ≡ false → None ≡ up_to most (natural z)
unfolding natural
not_digits most z some other = rw (some, other) refl

pub no_digit : (z : Text) (i d : ℕ) → i < length z → list_all is_ascii_digit (drop i z) ≡ list_all is_ascii_digit z → is_ascii_digit (get_or z i d) ≡ false → list_all is_ascii_digit z ≡ false
no_digit z i d within before here = sym before ∙ at_drop_more (list_all is_ascii_digit) z i d within ∙ rw here refl

pub digits_on : (z : Text) (i d : ℕ) → i < length z → list_all is_ascii_digit (drop i z) ≡ list_all is_ascii_digit z → is_ascii_digit (get_or z i d) ≡ true
    → list_all is_ascii_digit (drop (i + 1) z) ≡ list_all is_ascii_digit z
digits_on z i d within before here = sym (at_drop_more (list_all is_ascii_digit) z i d within ∙ rw here refl) ∙ before

pub read_on : (z : Text) (i d : ℕ) → i < length z → fold with_digit 0 (take (i + 1) z) ≡ 10 * fold with_digit 0 (take i z) + (get_or z i d - 48)
read_on z i d within = ap (λ (y : Text). fold with_digit 0 y) (take_more z i d within) ∙ fold-append with_digit 0 (take i z) (get_or z i d ∷ [])

pub all_read : (most : ℕ) (z : Text) (i value : ℕ) → (length z == 0) ≡ false → length z ≤ i → value ≡ min (fold with_digit 0 (take i z)) (most + 1)
    → list_all is_ascii_digit (drop i z) ≡ list_all is_ascii_digit z → Some value ≡ up_to most (natural z)
unfolding natural
all_read most z i value some past sum digits =
    let all : list_all is_ascii_digit z ≡ true = sym digits ∙ ap (λ (y : Text). list_all is_ascii_digit y) (drop_all i z past) in
    rw (some, all) (ap (λ (n : ℕ). Some n) (sum ∙ ap (λ (y : Text). min (fold with_digit 0 y) (most + 1)) (take_all i z past)))

pub digit_within : (b : ℕ) → is_ascii_digit b ≡ true → b - 48 ≤ 9
digit_within b is = let (low, high) = and_parts (nat_le 48 b) (nat_le b 57) is in omega (arith, leb-true b 57 high)

-- a digit more, or the limit is passed
pub one_digit : (most n m d : ℕ) → d ≤ 9 → 9 ≤ most → m ≡ min n (most + 1) → m ≤ (most - d) / 10 → 10 * m + d ≡ min (10 * n + d) (most + 1)
one_digit most n m d digit low is within = omega (arith, digit, low, is, within)

pub limit_passed : (most n m d : ℕ) → d ≤ 9 → 9 ≤ most → m ≡ min n (most + 1) → (most - d) / 10 < m → most + 1 ≡ min (10 * n + d) (most + 1)
limit_passed most n m d digit low is over = omega (arith, digit, low, is, over)
