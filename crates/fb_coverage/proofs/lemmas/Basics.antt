-- What is said of instances that are no basic blocks.
use Rattle.fb_types.proofs.Common.{◌≡◌, List, [], true, false, Bor, Option, Some, None, is_some, option_map, sym, ap, true≢false}
use Rattle.fb_types.specs.declared.library.BasicType.{BasicType}
use Rattle.fb_coverage.specs.Openings.{unless_basic}

-- a basic block has none of it
pub none_unless :
    {A : Type 0} (o : Option (Bor BasicType)) (k : Option BasicType) → option_map (λ (b : Bor BasicType). b.now) o ≡ k → is_some o ≡ true → (xs : List A)
    → unless_basic k xs ≡ []
none_unless None k is some xs = absurd (true≢false (sym some))
none_unless (Some b) k is some xs = ap (λ (q : Option BasicType). unless_basic q xs) (sym is)

-- any other has all of it
pub some_unless :
    {A : Type 0} (o : Option (Bor BasicType)) (k : Option BasicType) → option_map (λ (b : Bor BasicType). b.now) o ≡ k → is_some o ≡ false → (xs : List A)
    → unless_basic k xs ≡ xs
some_unless None k is none xs = ap (λ (q : Option BasicType). unless_basic q xs) (sym is)
some_unless (Some b) k is none xs = absurd (true≢false none)
