use mir.Syntax.{w128}
use Rattle.std.proofs.Common.{sym}
use Rattle.std.proofs.lemmas.Int.{to_z-of_z}
use Rattle.fb_expect.proofs.lemmas.patterns.Contradicting.{number-none, same-bounds}
use Rattle.fb_expect.proofs.contradiction.has_number_within.Goals as goal

pub returns-clause-some : goal.returns-clause-some
returns-clause-some c = λ is.
    let found = c.has_number.ensures.some is in
    let least = to_z-of_z w128 c.args.least c.ranges.least in
    let most = to_z-of_z w128 c.args.most c.ranges.most in
    (found.0, same-bounds _ c.args.least _ c.args.most found.0 least most (c.span_of-span.ensures.part found.0 found.1), found.2)

pub returns-clause-none : goal.returns-clause-none
returns-clause-none c = λ is z at.
    let least = to_z-of_z w128 c.args.least c.ranges.least in
    let most = to_z-of_z w128 c.args.most c.ranges.most in
    number-none c.args.conditions.now c.args.variable.now c.span_of-span.result z
    (c.span_of-span.ensures.all z (same-bounds c.args.least _ c.args.most _ z (sym least) (sym most) at)) (c.has_number.ensures.none is z)
