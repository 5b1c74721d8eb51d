-- Values that may be none.
use Rattle.fb_types.proofs.Common.{◌≡◌, true, false, Some, None, Option, refl, is_some, option_map, option_and_then, same_Some}

-- ---- Whether there is one

pub some_from_is_some : {A : Type 0} (o : Option A) → is_some o ≡ true → (x : A) × (o ≡ Some x)
some_from_is_some None h = absurd (cc)
some_from_is_some (Some x) h = (x, refl)

pub none_from_is_some : {A : Type 0} (o : Option A) → is_some o ≡ false → o ≡ None
none_from_is_some None h = refl
none_from_is_some (Some x) h = absurd (cc)

pub is_some-option_map : {A B : Type 0} (f : A → B) (o : Option A) → is_some o ≡ is_some (option_map f o)
is_some-option_map f None = refl
is_some-option_map f (Some x) = refl

-- ---- What holds of it

-- ---- What it was made of

pub map_parts : {A B : Type 0} (f : A → B) (o : Option A) (y : B) → option_map f o ≡ Some y → (x : A) × (o ≡ Some x) × (f x ≡ y)
map_parts f None y h = absurd (cc)
map_parts f (Some x) y h = (x, refl, same_Some (f x) y h)

pub and_then_parts :
    {A B : Type 0} (f : A → Option B) (o : Option A) (y : B) → option_and_then f o ≡ Some y → (x : A) × (o ≡ Some x) × (f x ≡ Some y)
and_then_parts f None y h = absurd (cc)
and_then_parts f (Some x) y h = (x, refl, h)
