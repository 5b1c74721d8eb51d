-- Points of rules at one trace after the other are numbered, and the numbers fit.
use Rattle.std.proofs.Common.{ℕ, ◌+◌, ◌*◌, ◌^◌, ◌<◌, ◌≤◌, arith, mul-le-mul_left}

pub room : (n i : ℕ) → n < 2 ^ 64 → i < 2 ^ 64 → n * i + n < 2 ^ 128
room n i few low =
    let most = mul-le-mul_left n (let le : i + 1 ≤ 2 ^ 64 = omega arith in le) in
    omega (arith, most)

pub product : (n i : ℕ) → n < 2 ^ 64 → i < 2 ^ 64 → n * i < 2 ^ 128
product n i few low = let all = room n i few low in omega arith
