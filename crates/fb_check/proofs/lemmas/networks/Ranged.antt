-- Which types contain all values of another, by their ranges.
use Rattle.fb_types.proofs.Common.{◌≡◌, Bool, true, false, ◌&&◌, Option, Some, None, refl, sym, ◌∙◌, arith, ℤ, pos, int_le, int_lt, ◌-ℤ◌, Decides, true≢false, and_parts, and_from, ints, fits}
use Rattle.fb_types.specs.declared.value.Value.{Value}
use Rattle.fb_types.specs.declared.value.Ty.{Ty}
use Rattle.fb_types.specs.Joined.{IsWithin}
use Rattle.fb_types.specs.declared.value.Value.TheVariants as value
use Rattle.fb_types.specs.declared.value.Ty.TheVariants as ty
use Rattle.fb_check.specs.networks.Ranges.{Range, range_of, is_range_within, is_within}

-- ---- Values by ranges

abbrev fits_by : Option Range → Value → Bool
fits_by None (value.Bool b) = true
fits_by None (value.Whole z) = false
fits_by (Some r) (value.Bool b) = false
fits_by (Some r) (value.Whole z) = int_le r.0 z && int_lt z r.1

fits_is : (t : Ty) (v : Value) → fits t v ≡ fits_by (range_of t) v
fits_is ty.Sint (value.Bool b) = refl
fits_is ty.Sint (value.Whole z) = refl
fits_is ty.Int (value.Bool b) = refl
fits_is ty.Int (value.Whole z) = refl
fits_is ty.Dint (value.Bool b) = refl
fits_is ty.Dint (value.Whole z) = refl
fits_is ty.Lint (value.Bool b) = refl
fits_is ty.Lint (value.Whole z) = refl
fits_is ty.Usint (value.Bool b) = refl
fits_is ty.Usint (value.Whole z) = refl
fits_is ty.Uint (value.Bool b) = refl
fits_is ty.Uint (value.Whole z) = refl
fits_is ty.Udint (value.Bool b) = refl
fits_is ty.Udint (value.Whole z) = refl
fits_is ty.Ulint (value.Bool b) = refl
fits_is ty.Ulint (value.Whole z) = refl
fits_is ty.Time (value.Bool b) = refl
fits_is ty.Time (value.Whole z) = refl
fits_is ty.Bool (value.Bool b) = refl
fits_is ty.Bool (value.Whole z) = refl

abbrev has_first : Option Range → Bool
has_first None = true
has_first (Some r) = int_lt r.0 r.1

-- no range is empty
first_of_range : (t : Ty) → has_first (range_of t) ≡ true
first_of_range ty.Sint = refl
first_of_range ty.Int = refl
first_of_range ty.Dint = refl
first_of_range ty.Lint = refl
first_of_range ty.Usint = refl
first_of_range ty.Uint = refl
first_of_range ty.Udint = refl
first_of_range ty.Ulint = refl
first_of_range ty.Time = refl
first_of_range ty.Bool = refl

-- ---- Numbers

le_itself : (a : ℤ) → int_le a a ≡ true
le_itself a = grind (arith, ints)

le_through : (a b c : ℤ) → int_le a b ≡ true → int_le b c ≡ true → int_le a c ≡ true
le_through a b c h g = grind (arith, ints)

lt_through : (a b c : ℤ) → int_lt a b ≡ true → int_le b c ≡ true → int_lt a c ≡ true
lt_through a b c h g = grind (arith, ints)

le_last : (a b : ℤ) → int_lt a b ≡ true → int_le a (b -ℤ pos 1) ≡ true
le_last a b h = grind (arith, ints)

lt_last : (b : ℤ) → int_lt (b -ℤ pos 1) b ≡ true
lt_last b = grind (arith, ints)

le_from_last : (b d : ℤ) → int_lt (b -ℤ pos 1) d ≡ true → int_le b d ≡ true
le_from_last b d h = grind (arith, ints)

-- ---- Ranges within ranges

abbrev HoldsAll : Option Range → Option Range → Type 0
HoldsAll o p = (v : Value) → fits_by o v ≡ true → fits_by p v ≡ true

holds_range : (r q : Range) → is_range_within (Some r) (Some q) ≡ true → HoldsAll (Some r) (Some q)
holds_range r q h (value.Bool b) g = g
holds_range r q h (value.Whole z) g =
    and_from (int_le q.0 z) (int_lt z q.1)
    (le_through q.0 r.0 z (and_parts (int_le q.0 r.0) (int_le r.1 q.1) h).0 (and_parts (int_le r.0 z) (int_lt z r.1) g).0)
    (lt_through z r.1 q.1 (and_parts (int_le r.0 z) (int_lt z r.1) g).1 (and_parts (int_le q.0 r.0) (int_le r.1 q.1) h).1)

within_range : (r q : Range) → int_lt r.0 r.1 ≡ true → HoldsAll (Some r) (Some q) → is_range_within (Some r) (Some q) ≡ true
within_range r q some h =
    let last = r.1 -ℤ pos 1 in
    let least_held = h (value.Whole r.0) (and_from (int_le r.0 r.0) (int_lt r.0 r.1) (le_itself r.0) some) in
    let last_held = h (value.Whole last) (and_from (int_le r.0 last) (int_lt last r.1) (le_last r.0 r.1 some) (lt_last r.1)) in
    and_from (int_le q.0 r.0) (int_le r.1 q.1)
    (and_parts (int_le q.0 r.0) (int_lt r.0 q.1) least_held).0
    (le_from_last r.1 q.1 (and_parts (int_le q.0 last) (int_lt last q.1) last_held).1)

range-Decides : (o p : Option Range) → has_first o ≡ true → Decides (is_range_within o p) (HoldsAll o p)
range-Decides None None some = (λ _ v h. h, λ _. refl)
range-Decides None (Some q) some = (λ h. absurd (true≢false (sym h)), λ h. absurd (true≢false (sym (h (value.Bool true) refl))))
range-Decides (Some r) None some = (
  λ h. absurd (true≢false (sym h)),
  λ h. absurd (true≢false (sym (h (value.Whole r.0) (and_from (int_le r.0 r.0) (int_lt r.0 r.1) (le_itself r.0) some)))),
)
range-Decides (Some r) (Some q) some = (holds_range r q, within_range r q some)

-- the table says which types contain all values of another
pub within-Decides : (s t : Ty) → Decides (is_within s t) (IsWithin s t)
within-Decides s t =
    let d = range-Decides (range_of s) (range_of t) (first_of_range s) in (
      λ h v g. fits_is t v ∙ d.0 h v (sym (fits_is s v) ∙ g),
      λ h. d.1 (λ v g. sym (fits_is t v) ∙ h v (fits_is s v ∙ g)),
    )
