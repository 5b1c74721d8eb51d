-- How a call for waveforms with the inside of basic blocks ends where there are none, or no whole ones.
use Rattle.fbsim_command.proofs.lemmas.Common.{◌≡◌, ◌≤◌, ℕ, IfSome, Option, Some, None, Err, inl, inr, refl, sym, subst, Inputs, system_of, Given, Declares, Cut, Held, OfRefusal, IsWrongIn, Failure, Refused, File, Write, Memory, RefusedTrace, Line, BadOption}
use Rattle.fbsim_command.specs.Outcomes.{IsUndeclared}
use Rattle.fb_inspect.specs.declared.error.InspectError.{InspectError}
use Rattle.fb_inspect.specs.declared.error.InspectError.TheVariants as inspection
use Rattle.fb_inspect.specs.StateWaves.{WritesBefore, WritesRead}
use Rattle.fb_inspect.specs.walk.Looks.{most}
use Rattle.fbsim_command.specs.Failures.{IsInspectionFailure}
use Rattle.fbsim_command.specs.StateDumping.{DumpsStates}
use Rattle.fbsim_command.specs.declared.failure.RefusalLine.TheVariants.{Trace}

-- nothing is written where the inputs are refused
pub states_none : (may : Cut) (steps : ℕ) (given : Given) (trace old : Held) (f : Failure) → IsUndeclared given f → DumpsStates may steps given trace old old (Err f)
states_none may steps given trace old (Refused refusal) is = inl (is, refl)
states_none may steps given trace old Memory is = inl refl
states_none may steps given trace old (RefusedTrace text) is = absurd is
states_none may steps given trace old File is = absurd is
states_none may steps given trace old (Write n) is = absurd is
states_none may steps given trace old (Line message) is = absurd is
states_none may steps given trace old BadOption is = absurd is

-- a beginning is written where the trace is refused, or where reading it, writing or memory fails
pub states_front :
    (may : Cut) (steps : ℕ) (given : Given) (trace old new : Held) (i : Inputs) → Declares given i → (e : InspectError) (f : Failure) → IsInspectionFailure e f → WritesRead (system_of i) steps trace old new
    → OfRefusal (IsWrongIn may i steps trace) e → (e ≡ inspection.Unknown → ⊥)
    → OfRefusal (λ n. steps ≤ most → IfSome trace (λ text. WritesBefore (system_of i) n text old new)) e → DumpsStates may steps given trace old new (Err f)
states_front may steps given trace old new i is e f reported front wrong unknown before = by e reported wrong unknown before
  where
    to : (g : Failure) → f ≡ g → DumpsStates may steps given trace old new (Err g) → DumpsStates may steps given trace old new (Err f)
    to g same it = subst (λ (h : Failure). DumpsStates may steps given trace old new (Err h)) (sym same) it

    by : (e : InspectError) → IsInspectionFailure e f → OfRefusal (IsWrongIn may i steps trace) e → (e ≡ inspection.Unknown → ⊥)
        → OfRefusal (λ n. steps ≤ most → IfSome trace (λ text. WritesBefore (system_of i) n text old new)) e → DumpsStates may steps given trace old new (Err f)
    by (inspection.Refused line) reported wrong unknown before = to (Refused (Trace line)) reported (inr (i, is, front, (line, refl, wrong, before)))
    by inspection.Names reported wrong unknown before = absurd reported
    by inspection.Unknown reported wrong unknown before = absurd (unknown refl)
    by inspection.Memory reported wrong unknown before = to Memory reported (inr (i, is, front))
    by inspection.Read reported wrong unknown before = to File reported (i, is, front)
    by (inspection.Write n) reported wrong unknown before = to (Write n) reported (i, is, front)
