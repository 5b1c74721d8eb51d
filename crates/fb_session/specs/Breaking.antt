-- Setting and removing breaks (this project's profile).
use Rattle.std.specs.Prelude.{◌≡◌, ◌⊎◌, ◌+◌, ◌^◌, ◌<◌, ◌≤◌, ◌++◌, ◌∷◌, ℕ, Bool, true, false, List, [], length, remove, slice_get, Some, Result, Ok, Err}
use Rattle.std.specs.Str.{IsUtf8}
use Rattle.fb_types.specs.Machines.{Each}
use Rattle.fb_expect.specs.Written.{pattern_of}
use Rattle.fb_expect.specs.declared.pattern.Pattern.{Pattern}
use Rattle.fb_session.specs.Pasts.{Talk}
use Rattle.fb_session.specs.declared.breaks.Break.{Break}
use Rattle.fb_session.specs.declared.breaks.BreakFault.{BreakFault}
use Rattle.fb_session.specs.declared.breaks.BreakFault.TheVariants as fault
use Rattle.fb_session.specs.declared.breaks.TheConstants.{MOST_BREAKS}
use Rattle.fb_session.specs.declared.stage.Stage.TheVariants as stage

-- At most the breaks are other ones.
abbrev pub OnlyBreaks : (old new : Talk) → Type 0
OnlyBreaks old new = new ≡ record old { breaks = new.breaks; set = new.set }

-- these bytes are a pattern, as those of rules
abbrev pub IsPattern : (text : List ℕ) → Pattern → Type 0
IsPattern text pattern = IsUtf8 text × (pattern_of text ≡ Some pattern)

-- One break more is set, with the next number, where the session goes on and there was room for it; or there are as before, and why.
-- Memory runs out only where there is room for a break and a number for it.
abbrev pub SetsBreak : (text : List ℕ) → (old new : Talk) → Result ℕ BreakFault → Type 0
SetsBreak text old new (Ok number) =
    (number ≡ old.set + 1) × (new.set ≡ number)
    × ((pattern : Pattern) × IsPattern text pattern × (new.breaks ≡ old.breaks ++ record { number = number; pattern = pattern } ∷ []))
    × (old.stage ≡ stage.Running) × (length old.breaks < MOST_BREAKS)
SetsBreak text old new (Err fault.NotGoing) = (old.stage ≡ stage.Running → ⊥) × (new ≡ old)
SetsBreak text old new (Err fault.Pattern) = ((pattern : Pattern) → IsPattern text pattern → ⊥) × (new ≡ old)
SetsBreak text old new (Err fault.Many) = ((MOST_BREAKS ≤ length old.breaks) ⊎ (2 ^ 64 ≤ old.set + 1)) × (new ≡ old)
SetsBreak text old new (Err fault.Memory) =
    (old.stage ≡ stage.Running) × (length old.breaks < MOST_BREAKS) × (old.set + 1 < 2 ^ 64) × (new ≡ old)

-- The break with this number is there no more, and the others are as before; or none has the number.
abbrev pub ClearsBreak : (number : ℕ) → (old new : Talk) → (is_found : Bool) → Type 0
ClearsBreak number old new true =
    (new.set ≡ old.set)
    × ((k : ℕ) × (b : Break) × (slice_get old.breaks k ≡ Some b) × (b.number ≡ number) × (new.breaks ≡ remove old.breaks k))
ClearsBreak number old new false = Each (λ b. b.number ≡ number → ⊥) old.breaks × (new ≡ old)
