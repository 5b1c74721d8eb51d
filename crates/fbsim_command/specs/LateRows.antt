-- Rows of stimuli that a run never comes to (docs/FORMATS.md, "What to look at"; this project's own).
use Rattle.std.specs.Prelude.{◌≡◌, ◌⊎◌, ◌<◌, ◌++◌, ℕ, nat_le, Bool, List, [], length, count_by, IsTrue, IfSome, true, false, ◌&&◌, if◌then◌else◌, Option, Some, None, Ok, codes, decimal}
use Rattle.clap.specs.Words.{Text}
use Rattle.fb_inputs.specs.Stimuli.{stimuli_of}
use Rattle.fb_types.specs.declared.deploy.Stimulus.{Stimulus}
use Rattle.fbsim_command.specs.Outcomes.{End}
use Rattle.fbsim_command.specs.declared.statuses.Done.TheVariants.{Ended, Stopped}
use Rattle.fbsim_line.specs.declared.line.Action.{Action}
use Rattle.fbsim_line.specs.declared.line.Action.TheVariants.{Check, Run}
use Rattle.fbsim_line.specs.declared.line.Task.{Task}

-- how many rows are at or beyond the horizon
abbrev pub late_count : (horizon : ℕ) → List Stimulus → ℕ
late_count horizon rows = count_by (λ s. nat_le horizon s.tick) rows

abbrev pub late_line : (horizon late rows : ℕ) → Text
late_line horizon late rows =
    codes "stimuli: rows at or beyond the horizon " ++ (decimal horizon ++ (codes ": " ++ (decimal late ++ (codes " of " ++ (decimal rows ++ codes "; the run does not take them\n")))))

-- The stimuli have rows at or beyond the horizon, and the line says how many.
pub record IsLateLine (bytes : Text) (horizon : ℕ) (line : Text) : Type 0 where
  pub rows : List Stimulus
  pub read : stimuli_of bytes ≡ Ok rows
  pub some : 0 < late_count horizon rows
  pub is : line ≡ late_line horizon (late_count horizon rows) (length rows)

-- The stimuli have no such rows.
pub record HasNoLate (bytes : Text) (horizon : ℕ) : Type 0 where
  pub rows : List Stimulus
  pub read : stimuli_of bytes ≡ Ok rows
  pub none : late_count horizon rows ≡ 0

-- there is such a line exactly if there are such rows
abbrev pub SaysLate : (bytes : Text) → (horizon : ℕ) → (line : Option Text) → Type 0
SaysLate bytes horizon None = HasNoLate bytes horizon
SaysLate bytes horizon (Some line) = IsLateLine bytes horizon line

-- a run has ended or stopped
abbrev pub has_run : End → Bool
has_run (Ok Ended) = true
has_run (Ok Stopped) = true
has_run _ = false

-- the horizon of a run
abbrev pub horizon_of : Action → Option ℕ
horizon_of (Run n limit workers serial form progress) = Some n
horizon_of (Check lint) = None

-- the horizon of a run that has ended or stopped, if it is asked how many rows it did not come to
abbrev pub asked_horizon : Task → End → Option ℕ
asked_horizon c end = if c.why && has_run end then horizon_of c.action else None

-- it is asked, and there are such rows
pub record ReportsLate (c : Task) (stimuli : Option Text) (end : End) (report : Text) : Type 0 where
  pub horizon : ℕ
  pub asks : asked_horizon c end ≡ Some horizon
  pub bytes : Text
  pub given : stimuli ≡ Some bytes
  pub is : IsLateLine bytes horizon report

-- it is not asked, or there are no such rows
abbrev pub HasNoRows : Task → (stimuli : Option Text) → End → Type 0
HasNoRows c stimuli end = (horizon : ℕ) → asked_horizon c end ≡ Some horizon → IfSome stimuli (λ bytes. HasNoLate bytes horizon)

-- What is reported after a run: the rows that it did not come to, exactly if that is asked for and there are some, where all that is
-- to be reported is.
abbrev pub ReportsRows : Task → (stimuli : Option Text) → End → (is_whole : Bool) → (report : Text) → Type 0
ReportsRows c stimuli end is_whole report = ((report ≡ []) × (IsTrue is_whole → HasNoRows c stimuli end)) ⊎ ReportsLate c stimuli end report
