-- Ranges of whole numbers by their ends, and which are within which (IEC 61131-3, 6.4.2; TIME with the range of LINT is this project's profile).
use Rattle.std.specs.Prelude.{ℕ, ℤ, pos, neg_ℤ, ◌^◌, int_le, Bool, true, false, ◌&&◌, Option, Some, None}
use Rattle.fb_types.specs.declared.value.Ty.{Ty}
use Rattle.fb_types.specs.declared.value.Ty.TheVariants.{Sint, Int, Dint, Lint, Usint, Uint, Udint, Ulint, Time, Bool as Boolean}

-- The least number, and the one past the greatest.
abbrev pub Range : Type 0
Range = ℤ × ℤ

abbrev pub signed : ℕ → Option Range
signed b = Some (neg_ℤ (pos (2 ^ b)), pos (2 ^ b))

abbrev pub unsigned : ℕ → Option Range
unsigned b = Some (pos 0, pos (2 ^ b))

-- the range of a type, none of BOOL
abbrev pub range_of : Ty → Option Range
range_of Sint = signed 7
range_of Int = signed 15
range_of Dint = signed 31
range_of Lint = signed 63
range_of Usint = unsigned 8
range_of Uint = unsigned 16
range_of Udint = unsigned 32
range_of Ulint = unsigned 64
range_of Time = signed 63
range_of Boolean = None

abbrev pub is_range_within : Option Range → Option Range → Bool
is_range_within None None = true
is_range_within None (Some q) = false
is_range_within (Some r) None = false
is_range_within (Some r) (Some q) = int_le q.0 r.0 && int_le r.1 q.1

-- whether each value of the one type is one of the other
abbrev pub is_within : Ty → Ty → Bool
is_within s t = is_range_within (range_of s) (range_of t)
