use Rattle.fb_types.proofs.Common.{Option, ℕ, sym, subst, ◌↔◌, IsTrue, nat_lt, ltb-true, lt-ltb}
use Rattle.fb_expect.specs.Rules.{IsOver}
use Rattle.fb_expect.proofs.watch.is_over.Goals as goal

pub returns-in-Some : goal.returns-in-Some
returns-in-Some c =
    let m = c.in-Some.most in
    let n = c.args.count in
    subst (λ (o : Option ℕ). IsTrue (nat_lt m n) ↔ IsOver o n) (sym c.in-Some.is) (ltb-true m n, lt-ltb m n)
