-- What contracts say of the names of rules and the lines of a trace in a system: its value is the accepted inputs, and each of these is of the flat system.
use Rattle.std.specs.Prelude.{ℕ, Bool, List, Option, Result}
use Rattle.clap.specs.Words.{Text}
use Rattle.fb_types.specs.Headline.{Inputs, system_of}
use Rattle.fb_types.specs.declared.library.Ports.{Ports}
use Rattle.fb_expect.specs.Events.{Event}
use Rattle.fb_expect.specs.declared.location.RuleKey.{RuleKey}
use Rattle.fb_expect.specs.declared.pattern.Pattern.{Pattern}
use Rattle.fb_expect.specs.declared.rule.Rule.{Rule}
use Rattle.fb_wave.specs.declared.current_line.CurrentLine.{CurrentLine}
use Rattle.fb_wave.specs.declared.error.WaveError.{WaveError}
use Rattle.fbsim_command.specs.Known as known
use Rattle.fbsim_command.specs.LineNotes as line_notes

-- ---- The names of rules

abbrev pub ports_of : Inputs → (instance : ℕ) → Ports
ports_of i = known.ports_of (system_of i)

abbrev pub event_there : Inputs → (instance : ℕ) → (taken : Bool) → (event : ℕ) → Event
event_there i = known.event_there (system_of i)

abbrev pub is_fitting : Inputs → Pattern → (instance : ℕ) → (taken : Bool) → (event : ℕ) → Bool
is_fitting i = known.is_fitting (system_of i)

abbrev pub is_of : Inputs → Pattern → (instance : ℕ) → (taken : Bool) → (event : ℕ) → Bool
is_of i = known.is_of (system_of i)

abbrev pub any_event : Inputs → Pattern → (instance : ℕ) → (taken : Bool) → Bool
any_event i = known.any_event (system_of i)

abbrev pub has_port : Inputs → Pattern → Bool
has_port i = known.has_port (system_of i)

abbrev pub may_have_port : Inputs → Option Pattern → Bool
may_have_port i = known.may_have_port (system_of i)

abbrev pub has_rule : Inputs → Rule → Bool
has_rule i = known.has_rule (system_of i)

abbrev pub has_names : Inputs → List Rule → Bool
has_names i = known.has_names (system_of i)

abbrev pub IsUnknownKey : Inputs → Rule → RuleKey → Type 0
IsUnknownKey i = known.IsUnknownKey (system_of i)

abbrev pub IsUnknownAt : Inputs → List Rule → (index : ℕ) → RuleKey → Type 0
IsUnknownAt i = known.IsUnknownAt (system_of i)

-- ---- The lines of a trace

abbrev pub SaysWritten : Inputs → CurrentLine → Result (Unit {0}) WaveError → Option Text → Type 0
SaysWritten i = line_notes.SaysWritten (system_of i)

abbrev pub SaysLine : Inputs → CurrentLine → (line : ℕ) → Option Text → Type 0
SaysLine i = line_notes.SaysLine (system_of i)
