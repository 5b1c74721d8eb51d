-- What a refusal is about, by its number (this project's own).
use Rattle.std.specs.Prelude.{◌≡◌, ◌≢◌, ◌≤◌, ℕ, Bool, true, false}
use Rattle.fb_check.specs.Faults.{number_of}
use Rattle.fb_check.specs.declared.fault.Fault.{Fault}
use Rattle.fb_check.specs.declared.fault.Fault.TheVariants as check
use Rattle.fb_why.specs.declared.cause.Cause.{Cause}
use Rattle.fb_why.specs.declared.cause.Cause.TheVariants as cause

-- a refusal is about the stimuli too
abbrev pub is_of_stimuli : Fault → Bool
is_of_stimuli check.BadStimulus = true
is_of_stimuli check.OverLimit = true
is_of_stimuli _ = false

abbrev pub IsOfText : ℕ → Type 0
IsOfText n = (1 ≤ n) × (n ≤ 5)

abbrev pub IsOfBytes : ℕ → Type 0
IsOfBytes n = (10 ≤ n) × (n ≤ 16)

-- The refusal of this number is about this.
abbrev pub IsCause : ℕ → Cause → Type 0
IsCause n cause.Text = IsOfText n
IsCause n cause.Bytes = IsOfBytes n
IsCause n (cause.Check f) = n ≡ number_of f
IsCause n cause.Other = (¬ (IsOfText n)) × (¬ (IsOfBytes n)) × ((f : Fault) → n ≢ number_of f)
