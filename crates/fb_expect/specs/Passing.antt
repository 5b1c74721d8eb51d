-- Which lines can't change what is known of a rule, by the prints of their ports (this project's own).
use Rattle.std.specs.Prelude.{◌≡◌, ℕ, ◌%◌, Bool, true, false, List, Option, Some, None, slice_index_or}
use Rattle.fb_expect.specs.Events.{Event}
use Rattle.fb_expect.specs.Patterns.{is_at}
use Rattle.fb_expect.specs.Fingerprints.{fingerprint}
use Rattle.fb_expect.specs.Words.{Text}
use Rattle.fb_expect.specs.declared.pattern.Pattern.{Pattern}
use Rattle.fb_expect.specs.declared.rule.Need.{Need}
use Rattle.fb_expect.specs.declared.rule.Need.TheVariants.{See, Not, Before, Never, Count}
use Rattle.fb_expect.specs.declared.rule.Rule.{Rule}

-- whether ports with the print of this one may matter
abbrev pub is_marked : List Bool → Text → Bool
is_marked marks port = slice_index_or marks (fingerprint port % 64) true

-- The line is not of the pattern's ports.
abbrev pub IsElsewhere : Pattern → Event → Type 0
IsElsewhere p e = is_at p e ≡ false

abbrev pub IsElsewhereOf : Option Pattern → Event → Type 0
IsElsewhereOf None e = Unit {0}
IsElsewhereOf (Some p) e = IsElsewhere p e

-- A line that is not marked now was not marked before, and is not of the pattern.
abbrev pub Adds : (old : List Bool) → Pattern → (new : List Bool) → Type 0
Adds old p new = (e : Event) → is_marked new e.port ≡ false → (is_marked old e.port ≡ false) × IsElsewhere p e

abbrev pub AddsOptional : (old : List Bool) → Option Pattern → (new : List Bool) → Type 0
AddsOptional old o new = (e : Event) → is_marked new e.port ≡ false → (is_marked old e.port ≡ false) × IsElsewhereOf o e

-- No line matters to the rule by its tick alone.
abbrev pub IsTimeless : Need → Type 0
IsTimeless (See within) = Unit {0}
IsTimeless (Not within) = Unit {0}
IsTimeless (Before within) = Unit {0}
IsTimeless (Never from_start) = Unit {0}
IsTimeless (Count least most every) = every ≡ None

-- The line does not matter to the rule.
pub record PassesOver (r : Rule) (e : Event) : Type 0 where
  pub timeless : IsTimeless r.need
  pub first : IsElsewhere r.first e
  pub second : IsElsewhereOf r.second e
  pub third : IsElsewhereOf r.third e

-- A line whose port is not marked does not matter to the rule.
abbrev pub Covers : List Bool → Rule → Type 0
Covers marks r = (e : Event) → is_marked marks e.port ≡ false → PassesOver r e
