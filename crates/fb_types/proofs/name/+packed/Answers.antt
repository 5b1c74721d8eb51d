use Rattle.fb_types.proofs.Common.{◌≡◌, ◌≤◌, ◌<◌, ◌*◌, ◌-◌, ◌^◌, ℕ, List, length, take, drop, get_or, arith, common_steps}
use Rattle.fb_types.specs.ShortNumbers.{packed, digit}
use Rattle.fb_types.proofs.lemmas.names.NameNumbers.{packed-fits, digit-most}
use Rattle.fb_types.proofs.name.+packed.Goals as goal

pub overflow_mul-result : goal.overflow_mul-result
overflow_mul-result t c =
    let rest : List ℕ = take (length c.args.bytes.now - 1) (drop 1 c.args.bytes.now) in
    let few : length rest ≤ 11 = grind (arith, common_steps, c.requires, c.in-len1-up.len_at_least) in
    let below : packed rest < 2 * 38 ^ 11 = packed-fits rest few in
    let is : c.packed-others.result ≡ packed rest = c.packed-others.ensures in
    record { fits = omega arith }

pub overflow_add-result : goal.overflow_add-result
overflow_add-result t c =
    let rest : List ℕ = take (length c.args.bytes.now - 1) (drop 1 c.args.bytes.now) in
    let few : length rest ≤ 11 = grind (arith, common_steps, c.requires, c.in-len1-up.len_at_least) in
    let below : packed rest < 2 * 38 ^ 11 = packed-fits rest few in
    let is : c.packed-others.result ≡ packed rest = c.packed-others.ensures in
    let first = digit-most (get_or c.args.bytes.now 0 0) in
    let is_digit : c.digit_of-digit.result ≡ digit (get_or c.args.bytes.now 0 0) = c.digit_of-digit.ensures in
    record { fits = omega arith }
