use Rattle.fb_types.proofs.Common.{◌≡◌, ◌≢◌, ◌∙◌, ◌==◌, ℕ, Bool, true, false, ◌&&◌, sym, ap, arith, nat_tests}
use Rattle.fb_stop.proofs.spent.is_there.Goals as goal

same_number : (a b : ℕ) → a ≡ b → (a == b) ≡ true
same_number a b e = grind (arith, nat_tests)

other_number : (a b : ℕ) → a ≢ b → (a == b) ≡ false
other_number a b e = grind (arith, nat_tests)

not_both : (a b : Bool) → a ≡ false → a ≡ (a && b)
not_both a b is = is ∙ ap (λ (x : Bool). x && b) (sym is)

pub returns-then-key-moment : goal.returns-then-key-moment
returns-then-key-moment c =
    let key = c.args.key.now in
    let moment = c.args.moment in
    ap (λ (b : Bool). b && (key.resource == moment.resource)) (sym (same_number key.tick moment.tick c.if-key-moment.true))

pub returns-else-key-moment : goal.returns-else-key-moment
returns-else-key-moment c =
    let key = c.args.key.now in
    let moment = c.args.moment in
    not_both (key.tick == moment.tick) (key.resource == moment.resource) (other_number key.tick moment.tick c.if-key-moment.false)
