use Rattle.std.proofs.Common.{ap, rules, to_z-of_z}
use mir.Syntax.{w128}
use mir.Val.{SFits, of_z}
use Rattle.fb_st.proofs.lemmas.Divided.{modulus_is}
use Rattle.fb_st.proofs.operator.remainder.Goals as goal

pub returns-in-Some : goal.returns-in-Some
returns-in-Some c =
    let fit : SFits w128 c.in-Some.z = search rules in
    let is = rw (c.in-Some.is, to_z-of_z c.ranges.x, to_z-of_z c.ranges.y) at c.remainder_at_once.ensures in
    rw (to_z-of_z fit) (modulus_is c.args.x c.args.y c.in-Some.z (λ e. c.if-y-eq0.false (ap (of_z w128) e)) fit is)

pub returns-in-Some-checked_rem : goal.returns-in-Some-checked_rem
returns-in-Some-checked_rem c =
    let fit : SFits w128 c.in-Some-checked_rem.z = search rules in
    let is = rw (c.in-Some-checked_rem.is, to_z-of_z c.ranges.x, to_z-of_z c.ranges.y) at c.checked_rem.ensures in
    rw (to_z-of_z fit) (modulus_is c.args.x c.args.y c.in-Some-checked_rem.z (λ e. c.if-y-eq0.false (ap (of_z w128) e)) fit is.1)
