-- The number of instances inside a type, counted no further than is needed (IEC 61499-1, 5.3; the limit is this project's
-- profile).
use Rattle.std.specs.Prelude.{◌+◌, ℕ, zero, suc, List, map, min, Option, Some, None, slice_get, unwrap_or}
use Rattle.std.specs.List.{sum_by}
use Rattle.fb_check_names.specs.declared.numbers.TypeNumber.{TypeNumber}
use Rattle.fb_check_names.specs.declared.numbers.TypeNumber.TheVariants as number
use Rattle.fb_check_names.specs.declared.numbers.NetworkNumbers.{NetworkNumbers}

-- the number of instances inside one of a type; none inside an event block
abbrev pub inside_count : List ℕ → TypeNumber → ℕ
inside_count counts (number.Event k) = 0
inside_count counts (number.Declared t) = unwrap_or (slice_get counts t) 0

-- instances, including all inside them: at most one past the limit
abbrev pub count_of : List ℕ → List TypeNumber → ℕ
count_of counts ts = min (sum_by (λ t. inside_count counts t + 1) ts) 4097

abbrev pub count_inside : List ℕ → Option NetworkNumbers → ℕ
count_inside counts None = 0
count_inside counts (Some x) = count_of counts x.types

abbrev pub no_count : Option NetworkNumbers → ℕ
no_count o = 0

-- the numbers after these rounds: of instances at most that many names deep
abbrev pub counts_after : ℕ → List (Option NetworkNumbers) → List ℕ
counts_after zero xs = map no_count xs
counts_after (suc n) xs = map (count_inside (counts_after n xs)) xs
