use Rattle.fb_types.proofs.Common.{◌≡◌, ◌≢◌, ℕ, Bool, List, [], length, nat_eq, true, false, refl, sym, ap, ◌∙◌, vec_len, eqb-true, true≢false, nil_from_length}
use Rattle.fb_check.proofs.refusal.passed.Goals as goal

-- what the test says of a list that it finds empty
none : {A : Type 0} (xs : List A) (n : ℕ) (b : Bool) → n ≡ length xs → b ≡ nat_eq n 0 → b ≡ true → xs ≡ []
none xs n b counted is h = nil_from_length xs (sym counted ∙ eqb-true n 0 (sym is ∙ h))

some : {A : Type 0} (xs : List A) (n : ℕ) (b : Bool) → n ≡ length xs → b ≡ nat_eq n 0 → b ≡ false → xs ≢ []
some xs n b counted is h empty = true≢false (sym (ap (λ m. nat_eq m 0) (counted ∙ ap length empty)) ∙ sym is ∙ h)

pub returns-then-is_empty-clause-ok : goal.returns-then-is_empty-clause-ok
returns-then-is_empty-clause-ok g c =
    (refl, none c.args.locations.items (vec_len c.args.locations) c.is_empty.result c.args.locations.ok.0 c.is_empty.ensures c.if-is_empty.true)

pub returns-else-is_empty-clause-refused : goal.returns-else-is_empty-clause-refused
returns-else-is_empty-clause-refused g c =
    (refl, some c.args.locations.items (vec_len c.args.locations) c.is_empty.result c.args.locations.ok.0 c.is_empty.ensures c.if-is_empty.false)
