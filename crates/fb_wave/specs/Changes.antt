-- The lines of a value change dump after its head (IEEE 1364-2005, 18.2).
use Rattle.std.specs.Prelude.{ℕ, pos, negsuc, ◌-◌, ◌%◌, ◌^◌, ◌==◌, List, [], ◌∷◌, ◌++◌, true, false, if◌then◌else◌, decimal, codes}
use Rattle.std.specs.List.{flat_map}
use Rattle.std.specs.Fmt.{digits}
use Rattle.fb_types.specs.declared.value.Value.{Value}
use Rattle.fb_types.specs.declared.value.Value.TheVariants as value
use Rattle.fb_wave.specs.Levels.{shown_of, marked}
use Rattle.fb_wave.specs.declared.levels.Level.{Level}
use Rattle.fb_wave.specs.declared.levels.Level.TheVariants.{Count, Last}

-- a line of the dump
abbrev pub line : List ℕ → List ℕ
line text = text ++ 10 ∷ []

-- how a signal is called in the dump: the event of an event port, the count of its events, and a variable
abbrev pub event_code : (signal : ℕ) → List ℕ
event_code s = codes "e" ++ decimal s

abbrev pub count_code : (signal : ℕ) → List ℕ
count_code s = codes "n" ++ decimal s

abbrev pub variable_code : (signal : ℕ) → List ℕ
variable_code s = codes "v" ++ decimal s

-- ---- Values

-- a number in 64 bits, one below 0 as its complement to 2^64
abbrev pub in_bits : Value → ℕ
in_bits (value.Bool true) = 1
in_bits (value.Bool false) = 0
in_bits (value.Whole (pos n)) = n % 2 ^ 64
in_bits (value.Whole (negsuc n)) = 2 ^ 64 - 1 - n % 2 ^ 64

abbrev pub binary : ℕ → List ℕ
binary n = digits 2 false n

-- a number of a signal that is called so
abbrev pub number_changed : (bits : ℕ) → (code : List ℕ) → List ℕ
number_changed n code = line (codes "b" ++ binary n ++ codes " " ++ code)

abbrev pub value_changed : (signal : ℕ) → Value → List ℕ
value_changed s (value.Bool true) = line (codes "1" ++ variable_code s)
value_changed s (value.Bool false) = line (codes "0" ++ variable_code s)
value_changed s (value.Whole z) = number_changed (in_bits (value.Whole z)) (variable_code s)

-- an event fires, and its count is reported
abbrev pub event_changed : (signal count : ℕ) → List ℕ
event_changed s n = line (codes "1" ++ event_code s) ++ number_changed n (count_code s)

abbrev pub changed : (signal : ℕ) → Level → List ℕ
changed s (Last v) = value_changed s v
changed s (Count n) = event_changed s n

-- ---- Ticks

-- What changes in a tick: each signal that its lines touch, once, with what it shows by then.
abbrev pub changes : (fires : List ℕ) → (sets : List (ℕ × Value)) → (touches : List ℕ) → List ℕ
changes fires sets touches = flat_map (λ s. changed s (shown_of s fires sets)) (marked [] touches)

-- the time, unless it is reported already
abbrev pub time_text : (shown tick : ℕ) → List ℕ
time_text shown tick = if tick == shown then [] else line (codes "#" ++ decimal tick)
