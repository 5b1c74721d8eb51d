use Rattle.std.proofs.Common.{refl, subst, sym}
use Rattle.fb_inspect.specs.declared.error.InspectError.{InspectError}
use Rattle.fbsim_command.specs.Failures.{IsInspectionFailure}
use Rattle.fbsim_command.specs.declared.failure.Failure.TheVariants.{Refused, File, Write, Memory}
use Rattle.fbsim_command.specs.declared.failure.RefusalLine.TheVariants.{Numbered, Trace}
use Rattle.fbsim_command.proofs.failure.failure_of_inspection.Goals as goal

pub returns-in-Refused : goal.returns-in-Refused
returns-in-Refused c = subst (λ (e : InspectError). IsInspectionFailure e (Refused (Trace c.in-Refused.line))) (sym c.in-Refused.is) refl

pub returns-in-Unknown : goal.returns-in-Unknown
returns-in-Unknown c = subst (λ (e : InspectError). IsInspectionFailure e (Refused (Numbered 21))) (sym c.in-Unknown.is) refl

pub returns-in-Memory : goal.returns-in-Memory
returns-in-Memory c = subst (λ (e : InspectError). IsInspectionFailure e Memory) (sym c.in-Memory.is) refl

pub returns-in-Read : goal.returns-in-Read
returns-in-Read c = subst (λ (e : InspectError). IsInspectionFailure e File) (sym c.in-Read.is) refl

pub returns-in-Write : goal.returns-in-Write
returns-in-Write c = subst (λ (e : InspectError). IsInspectionFailure e (Write c.in-Write.written)) (sym c.in-Write.is) refl
