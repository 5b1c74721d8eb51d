use Rattle.fb_types.proofs.Common.{◌≡◌, ℕ, if◌then◌else◌, Bool, true, false, Option, Some, None, is_some, refl, sym, ap, ◌∙◌, option_map}
use Rattle.toml.specs.View.{view}
use Rattle.fb_inputs.proofs.document.known_keys.Goals as goal

some_mapped : {A B : Type 0} (f : A → B) (o : Option A) → is_some (option_map f o) ≡ is_some o
some_mapped f None = refl
some_mapped f (Some x) = refl

abbrev known : Bool → ℕ
known has_second = if has_second then 2 else 1

-- how many keys are known, by whether there is a value at the second one
by_value :
    {A B : Type 0} (f : A → B) (o : Option A) (p : Option B) (found test : Bool) → found ≡ is_some o → option_map f o ≡ p → found ≡ test
    → known test ≡ known (is_some p)
by_value {B = B} f o p found test is same tested = ap known (sym tested ∙ is ∙ sym (some_mapped f o) ∙ ap (λ (q : Option B). is_some q) same)

pub returns-then-is_some : goal.returns-then-is_some
returns-then-is_some c = by_value (λ v. view v.now) c.value_at.result _ c.is_some.result true c.is_some.ensures c.value_at.ensures c.if-is_some.true

pub returns-else-is_some : goal.returns-else-is_some
returns-else-is_some c = by_value (λ v. view v.now) c.value_at.result _ c.is_some.result false c.is_some.ensures c.value_at.ensures c.if-is_some.false
