-- The number of a name: how great it is, and that no other name has it.
use Rattle.fb_types.proofs.Common.{◌≡◌, ◌≤◌, ◌<◌, ◌+◌, ◌*◌, ◌^◌, ℕ, zero, suc, true, false, cond, List, [], ◌∷◌, length, refl, sym, ◌∙◌, arith, nat_le, nat_tests}
use Rattle.fb_types.specs.ShortNumbers.{digit, packed, most, short_number_of}

-- ---- Digits

pub digit-most : (b : ℕ) → digit b ≤ 37
digit-most b = grind (arith, nat_tests)

digit-once : (b c : ℕ) → ¬ (digit b ≡ 0) → digit b ≡ digit c → b ≡ c
digit-once b c apart same = grind (arith, nat_tests, apart, same)

-- ---- Numbers

-- the number of a name with one letter more, if all its bytes have digits
cons-is : (b : ℕ) (bs : List ℕ) → ¬ (packed (b ∷ bs) ≡ 0) → (¬ (digit b ≡ 0)) × (¬ (packed bs ≡ 0)) × (packed (b ∷ bs) ≡ digit b + 38 * packed bs)
cons-is b bs apart = grind (arith, nat_tests, apart)

-- the numbers of this many letters are below
abbrev room : ℕ → ℕ
room zero = 2
room (suc n) = 38 * room n

cons-below : (b : ℕ) (bs : List ℕ) (n : ℕ) → packed bs < n → packed (b ∷ bs) < 38 * n
cons-below b bs n below = let most_digit = digit-most b in grind (arith, nat_tests, below, most_digit)

packed-below : (bs : List ℕ) (n : ℕ) → length bs ≤ n → packed bs < room n
packed-below [] zero at = omega arith
packed-below [] (suc n) at = let rest = packed-below [] n (omega arith) in omega arith
packed-below (b ∷ bs) zero at = absurd (omega arith)
packed-below (b ∷ bs) (suc n) at = cons-below b bs (room n) (packed-below bs n (omega arith))

pub packed-fits : (bs : List ℕ) → length bs ≤ 11 → packed bs < 2 * 38 ^ 11
packed-fits bs few = packed-below bs 11 few

-- two names with one number are the same
packed-once : (bs cs : List ℕ) → ¬ (packed bs ≡ 0) → packed bs ≡ packed cs → bs ≡ cs
packed-once [] [] apart e = refl
packed-once [] (c ∷ cs) apart e = absurd (let more = cons-is c cs (λ z. apart (e ∙ z)) in let last = more.1 in let is = more.2 in omega arith)
packed-once (b ∷ bs) [] apart e = absurd (let more = cons-is b bs apart in let last = more.1 in let is = more.2 in omega arith)
packed-once (b ∷ bs) (c ∷ cs) apart e =
    let one = cons-is b bs apart in
    let other = cons-is c cs (λ z. apart (e ∙ z)) in
    let one_is = one.2 in
    let other_is = other.2 in
    let one_digit = digit-most b in
    let other_digit = digit-most c in
    let one_digit_not = one.0 in
    let other_digit_not = other.0 in
    let rest : packed bs ≡ packed cs = omega arith in
    let first : digit b ≡ digit c = omega arith in
    λ i. digit-once b c one.0 first i ∷ packed-once bs cs one.1 rest i

short : (bs : List ℕ) → ¬ (short_number_of bs ≡ 0) → short_number_of bs ≡ packed bs
short bs apart =
    elim (nat_le (length bs) most) as (λ b. ¬ (cond b (packed bs) 0 ≡ 0) → cond b (packed bs) 0 ≡ packed bs) [
      | true ↦ λ e. refl
      | false ↦ λ e. absurd (e refl)
    ] apart

-- two names that one number represents are the same
pub is_the_name : (bs cs : List ℕ) (w v : ℕ) → w ≡ short_number_of bs → v ≡ short_number_of cs → ¬ (w ≡ 0) → w ≡ v → bs ≡ cs
is_the_name bs cs w v is other apart same =
    let first = short bs (λ e. apart (is ∙ e)) in
    let second = short cs (λ e. apart (same ∙ other ∙ e)) in
    packed-once bs cs (λ e. apart (is ∙ first ∙ e)) (sym first ∙ sym is ∙ same ∙ other ∙ second)
