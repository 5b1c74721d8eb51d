-- The numbers of 64 bits that a type holds (this project's own).
use Rattle.std.specs.Prelude.{ℤ, pos, neg_ℤ, ◌-ℤ◌, ◌^◌}
use Rattle.fb_types.specs.declared.value.Ty.{Ty}
use Rattle.fb_types.specs.declared.value.Ty.TheVariants.{Sint, Int, Dint, Lint, Usint, Uint, Udint, Time, Bool as Boolean}

-- the least number of 64 bits that a type holds
abbrev pub least_of : Ty → ℤ
least_of Sint = neg_ℤ (pos (2 ^ 7))
least_of Int = neg_ℤ (pos (2 ^ 15))
least_of Dint = neg_ℤ (pos (2 ^ 31))
least_of Lint = neg_ℤ (pos (2 ^ 63))
least_of Time = neg_ℤ (pos (2 ^ 63))
least_of Boolean = pos 1
least_of _ = pos 0

-- the greatest number of 64 bits that a type holds
abbrev pub most_of : Ty → ℤ
most_of Sint = pos (2 ^ 7) -ℤ pos 1
most_of Int = pos (2 ^ 15) -ℤ pos 1
most_of Dint = pos (2 ^ 31) -ℤ pos 1
most_of Usint = pos (2 ^ 8) -ℤ pos 1
most_of Uint = pos (2 ^ 16) -ℤ pos 1
most_of Udint = pos (2 ^ 32) -ℤ pos 1
most_of Boolean = pos 0
most_of _ = pos (2 ^ 63) -ℤ pos 1
