-- How a call that checks its inputs ends.
use Rattle.fbsim_command.proofs.lemmas.Common.{◌≡◌, ℕ, Bool, Option, Some, None, Ok, Err, codes, refl, sym, subst, IsErrAnd, Given, WritesPart, End, Held, Failure, Refused, RefusedTrace, File, Write, Memory, Line, BadOption}
use Rattle.fbsim_command.specs.Outcomes.{IsUndeclared}
use Rattle.fb_sim.specs.Serial.{IsDeclared}
use Rattle.fbsim_command.specs.Command.{Checks}

-- a failure that is passed on
pub checked : (lint : Bool) (given : Given) (old new : Held) (r : End) (f : Failure) → IsErrAnd r (λ g. g ≡ f) → Checks lint given old new (Err f) → Checks lint given old new r
checked lint given old new (Ok x) f bad is = absurd bad
checked lint given old new (Err g) f same is = subst (λ (h : Failure). Checks lint given old new (Err h)) (sym same) is

-- the writer fails
pub checks_part : (lint : Bool) (given : Given) (old new : Held) (f : Failure) → IsDeclared given → WritesPart old new (codes "accepted\n") f → Checks lint given old new (Err f)
checks_part lint given old new (Write n) declared part = (declared, part)
checks_part lint given old new (Refused refusal) declared part = absurd part
checks_part lint given old new (RefusedTrace message) declared part = absurd part
checks_part lint given old new File declared part = absurd part
checks_part lint given old new Memory declared part = absurd part
checks_part lint given old new (Line message) declared part = absurd part
checks_part lint given old new BadOption declared part = absurd part

-- nothing is written where the inputs are refused
pub checks_none : (lint : Bool) (given : Given) (old : Held) (f : Failure) → IsUndeclared given f → Checks lint given old old (Err f)
checks_none lint given old (Refused refusal) is = (is, refl)
checks_none lint given old Memory is = refl
checks_none lint given old (RefusedTrace text) is = absurd is
checks_none lint given old File is = absurd is
checks_none lint given old (Write n) is = absurd is
checks_none lint given old (Line message) is = absurd is
checks_none lint given old BadOption is = absurd is
