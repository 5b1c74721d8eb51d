-- How a call that talks to a session ends.
use Rattle.fbsim_command.proofs.lemmas.Common.{◌≡◌, ℕ, Option, Some, None, Result, Ok, Err, inl, inr, refl, Inputs, Given, Declares, Held, Failure, Refused, RefusedTrace, File, Write, Memory, Line, BadOption, IsErrAnd, subst, sym, End}
use Rattle.fbsim_command.specs.Outcomes.{IsUndeclared}
use Rattle.fb_trace.specs.declared.last.Outcome.{Outcome}
use Rattle.fb_trace.specs.declared.last.Outcome.TheVariants as outcome
use Rattle.fbsim_command.specs.Sessions.{Answers, end_of_talk}
use Rattle.fbsim_line.specs.declared.session_line.SessionCall.{SessionCall}
use Rattle.fbsim_session.specs.Talks.{Talks}
use Rattle.fbsim_session.specs.declared.talking.TalkFault.{TalkFault}
use Rattle.fbsim_session.specs.declared.talking.TalkFault.TheVariants as fault

-- nothing is written where the inputs are refused
pub answers_none : (given : Given) (x : SessionCall) (old : Held) (end : End) (f : Failure) → IsErrAnd end (λ g. g ≡ f) → IsUndeclared given f → Answers given x old old end
answers_none given x old (Ok d) f bad is = absurd bad
answers_none given x old (Err g) f same is = by g (subst (IsUndeclared given) (sym same) is)
  where
    by : (g : Failure) → IsUndeclared given g → Answers given x old old (Err g)
    by (Refused refusal) is = (is, refl)
    by Memory is = inl refl
    by (RefusedTrace text) is = absurd is
    by File is = absurd is
    by (Write n) is = absurd is
    by (Line message) is = absurd is
    by BadOption is = absurd is

-- the session of accepted inputs ended
pub answers_so : (given : Given) (x : SessionCall) (old new : Held) (i : Inputs) → Declares given i → (r : Result Outcome TalkFault) → Talks i x.steps x.form old new r
    → Answers given x old new (end_of_talk r)
answers_so given x old new i is (Ok (outcome.End h)) talks = (i, is, h, talks)
answers_so given x old new i is (Ok (outcome.Stop m)) talks = (i, is, m, talks)
answers_so given x old new i is (Err fault.Memory) talks = inr (i, is, talks)
answers_so given x old new i is (Err fault.Read) talks = (i, is, talks)
answers_so given x old new i is (Err (fault.Write n)) talks = (i, is, talks)
