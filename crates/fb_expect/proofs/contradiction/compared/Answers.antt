use mir.Syntax.{w128}
use Rattle.std.proofs.Common.{ℤ, ◌≤ℤ◌, sym, subst}
use Rattle.std.proofs.lemmas.Int.{to_z-of_z}
use Rattle.fb_expect.proofs.lemmas.patterns.Contradicting.{equal-in}
use Rattle.fb_expect.proofs.contradiction.compared.Goals as goal

pub returns-in-Equal-clause-all : goal.returns-in-Equal-clause-all
returns-in-Equal-clause-all c = λ z at is.
    let n = c.args.number in
    let same = sym (to_z-of_z w128 n c.ranges.number) in
    let order = equal-in c.args.comparison z n c.in-Equal.is is in
    c.only.ensures.all z at (subst (λ (k : ℤ). k ≤ℤ z) same order.0) (subst (λ (k : ℤ). z ≤ℤ k) same order.1)
