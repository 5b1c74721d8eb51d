-- The parts of a text.
use Rattle.fb_types.proofs.Common.{◌≡◌, ℕ, ◌+◌, ◌-◌, ◌<◌, ◌≤◌, ltb, nat_eq, true, false, length, get_or, take, drop, Some, None, refl, arith, take_all, length-drop, lt-ltb, position_or_len}
use Rattle.std.proofs.lemmas.List.Sums.{position_or_len_is}
use Rattle.fb_inputs.specs.Words.{Text, parted}

-- the text from an offset on, as a slice has it
pub from_there : (z : Text) (i : ℕ) → take (length z - i) (drop i z) ≡ drop i z
from_there z i = take_all (length z - i) (drop i z) (omega (arith, length-drop i z))

-- ---- Before and after a mark

pub parted_at : (mark : ℕ) (z : Text) (i : ℕ) → i < length z → ((k : ℕ) → k < i → nat_eq mark (get_or z k 0) ≡ false) → nat_eq mark (get_or z i 0) ≡ true
    → Some (take i z, take (length z - (i + 1)) (drop (i + 1) z)) ≡ parted mark z
unfolding parted
parted_at mark z i lt before here =
    let e : position_or_len (nat_eq mark) z ≡ i = position_or_len_is (nat_eq mark) z i 0 (omega arith) before (λ _. here) in
    let short : length (drop (i + 1) z) ≤ length z - (i + 1) = omega (arith, length-drop (i + 1) z) in
    rw (e, lt-ltb i (length z) lt, take_all (length z - (i + 1)) (drop (i + 1) z) short) refl

pub parted_none : (mark : ℕ) (z : Text) → ((k : ℕ) → k < length z → nat_eq mark (get_or z k 0) ≡ false) → None ≡ parted mark z
unfolding parted
parted_none mark z before =
    let e : position_or_len (nat_eq mark) z ≡ length z = position_or_len_is (nat_eq mark) z (length z) 0 (omega arith) before (λ lt. absurd (omega arith)) in
    let never : ltb (length z) (length z) ≡ false = grind arith in
    rw (e, never) refl
