use mir.Syntax.{w64}
use Rattle.fb_types.proofs.Common.{◌≡◌, ◌<◌, ◌≤◌, ◌^◌, ◌&&◌, ◌⊎◌, ℕ, ℤ, pos, negsuc, false, Some, None, unsigned_abs, inl, inr, refl, sym, ap, ◌∙◌, arith, if◌then◌else◌, nat_le, and_right, lt-leb}
use Rattle.std.proofs.lemmas.Bool.{and_left}
use Rattle.std.proofs.lemmas.Int.{to_z-of_z}
use Rattle.fb_expect.specs.Needs.{within}
use Rattle.fb_expect.proofs.rules.within.Goals as goal

out_of_range : (least n : ℕ) (z : ℤ) → n ≡ unsigned_abs z → ((least ≤ n) × (10 ^ 12 < n)) ⊎ (n < least) → None ≡ within least z
out_of_range least n (pos k) is (inl late) =
    let past : false ≡ (nat_le least k && nat_le k (10 ^ 12)) = sym (and_right (nat_le least k) (nat_le k (10 ^ 12)) (lt-leb k (10 ^ 12) (omega (arith, is, late.1)))) in
    λ i. if past i then Some k else None
out_of_range least n (pos k) is (inr low) =
    let below : false ≡ (nat_le least k && nat_le k (10 ^ 12)) = sym (and_left (nat_le least k) (nat_le k (10 ^ 12)) (lt-leb least k (omega (arith, is, low)))) in
    λ i. if below i then Some k else None
out_of_range least n (negsuc k) is either = refl

pub returns-else-least-number : goal.returns-else-least-number
returns-else-least-number c =
    out_of_range c.args.least c.unsigned_abs-number.result c.args.number (c.unsigned_abs-number.ensures.value ∙ ap unsigned_abs (to_z-of_z w64 c.args.number c.ranges.number)) c.else-least-number.either
