-- What a call came to, and why its inputs are refused (this project's own).
use Rattle.std.specs.Prelude.{◌≡◌, Option, Result}
use Rattle.clap.specs.Words.{Text}
use Rattle.fb_sim.specs.Given.{Given}
use Rattle.fb_sim.specs.Serial.{IsRefusal}
use Rattle.fb_sim.specs.declared.outcome.RunError.{RunError}
use Rattle.fbsim_command.specs.Failures.{failure_of}
use Rattle.fbsim_command.specs.declared.failure.Failure.{Failure}
use Rattle.fbsim_command.specs.declared.failure.Failure.TheVariants.{Refused, RefusedTrace, File, Write, Memory, Line, BadOption}
use Rattle.fbsim_command.specs.declared.failure.RefusalLine.{RefusalLine}
use Rattle.fbsim_command.specs.declared.statuses.Done.{Done}

-- what a call came to
abbrev pub End : Type 0
End = Result Done Failure

-- what a writer holds, where that is known
abbrev pub Held : Type 0
Held = Option Text

-- the inputs are refused, for this reason
pub record IsRefused (given : Given) (refusal : RefusalLine) : Type 0 where
  pub error : RunError
  pub refused : IsRefusal given error
  pub reported : failure_of error ≡ Refused refusal

-- the inputs are refused, or memory ran out
abbrev pub IsUndeclared : Given → Failure → Type 0
IsUndeclared given (Refused refusal) = IsRefused given refusal
IsUndeclared given Memory = Unit {0}
IsUndeclared given (RefusedTrace text) = ⊥
IsUndeclared given File = ⊥
IsUndeclared given (Write n) = ⊥
IsUndeclared given (Line message) = ⊥
IsUndeclared given BadOption = ⊥

-- the inputs are refused
abbrev pub HasRefusal : Given → Type 0
HasRefusal given = (refusal : RefusalLine) × IsRefused given refusal
