-- What the refusal of a trace says: of the line, or of a path (this project's own).
use Rattle.std.specs.Prelude.{◌≡◌, ◌≤◌, ℕ, List, Contains, IfSome}
use Rattle.fb_types.specs.Headline.{Inputs, system_of}
use Rattle.fb_types.specs.Names.{Name}
use Rattle.fb_inspect.specs.Refusals.{IsWrongAt}
use Rattle.fb_inspect.specs.refused.LineFaults.{IsNoInstance}
use Rattle.fb_inspect.specs.walk.Looks.{most}
use Rattle.fb_wave.specs.CutOff.{IsUncut}
use Rattle.fb_wave.specs.declared.truncation.Cut.{Cut}
use Rattle.fb_wave.specs.declared.truncation.Cut.TheVariants as cut
use Rattle.fbsim_command.specs.Outcomes.{Held}
use Rattle.fbsim_command.specs.declared.failure.RefusalLine.{RefusalLine}
use Rattle.fbsim_command.specs.declared.failure.RefusalLine.TheVariants.{Numbered, Syntax, Trace}

-- The line of this number is not what the reactions of the blocks give after the lines before it, or the text ends too early.
-- No line is refused because the trace is cut off, where it may be. The limit of steps is one that a call may have.
abbrev pub IsWrongIn : Cut → Inputs → (steps : ℕ) → (trace : Held) → (line : ℕ) → Type 0
IsWrongIn may i steps trace line =
    steps ≤ most → IfSome trace (IsWrongAt (system_of i) steps line) × (may ≡ cut.Allowed → IfSome trace (IsUncut (system_of i) line))

-- No instance has one of the paths that are to be shown.
abbrev pub HasNoPath : Inputs → (only : List Name) → Type 0
HasNoPath i only = (path : Name) × Contains only path × IsNoInstance (system_of i) path

-- A trace is refused for a line that is wrong, or an instance that is to be shown is unknown.
abbrev pub IsRefusalIn : Cut → Inputs → (only : List Name) → (steps : ℕ) → (trace : Held) → RefusalLine → Type 0
IsRefusalIn may i only steps trace (Trace line) = IsWrongIn may i steps trace line
IsRefusalIn may i only steps trace (Numbered n) = (n ≡ 21) × HasNoPath i only
IsRefusalIn may i only steps trace (Syntax line) = ⊥
