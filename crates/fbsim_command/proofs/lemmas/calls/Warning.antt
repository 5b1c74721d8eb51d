-- Warnings about inputs that are accepted.
use Rattle.fbsim_command.proofs.lemmas.Common.{◌≡◌, ℕ, ◌≤◌, List, [], ◌∷◌, Bool, true, length, take, drop, take-append-drop, Option, Some, None, refl, sym, subst, arith, IsTrue, Appends, ReadError, Given, Hears, IsRefusal, IsRightly, RunError, failure_of, numbered_input, Held}
use Rattle.std.proofs.Common.{drop_of_length-le}
use Rattle.fb_read.specs.declared.error.ReadError.TheVariants as read
use Rattle.fb_check.specs.Refusals as check
use Rattle.fb_inputs.specs.Refusals as input
use Rattle.fb_sim.specs.declared.outcome.Refusal as sim
use Rattle.fb_sim.specs.declared.outcome.Refusal.TheVariants as of
use Rattle.fb_sim.specs.declared.outcome.RunError.TheVariants as run
use Rattle.fbsim_command.specs.Outcomes.{IsUndeclared}
use Rattle.fbsim_command.proofs.lemmas.calls.Reporting.{quiet}

-- the inputs are refused
pub undeclared : (given : Given) (error : RunError) → IsRefusal given error → IsUndeclared given (failure_of error)
undeclared given (run.Refused r) is = refusal r is
  where
    numbered : (r : sim.Refusal) → IsRightly given r → (o : Option ℕ) → failure_of (run.Refused r) ≡ numbered_input o → IsUndeclared given (numbered_input o)
    numbered r is (Some n) reported = record { error = run.Refused r; refused = is; reported = reported }
    numbered r is None reported = tt

    unread : (e : ReadError) → IsRightly given (of.Declaration e) → IsUndeclared given (failure_of (run.Refused (of.Declaration e)))
    unread read.Memory is = tt
    unread read.Byte is = record { error = run.Refused (of.Declaration read.Byte); refused = is; reported = refl }
    unread read.Token is = record { error = run.Refused (of.Declaration read.Token); refused = is; reported = refl }
    unread (read.Syntax line) is = record { error = run.Refused (of.Declaration (read.Syntax line)); refused = is; reported = refl }
    unread read.TooLong is = record { error = run.Refused (of.Declaration read.TooLong); refused = is; reported = refl }
    unread read.Nesting is = record { error = run.Refused (of.Declaration read.Nesting); refused = is; reported = refl }

    refusal : (r : sim.Refusal) → IsRightly given r → IsUndeclared given (failure_of (run.Refused r))
    refusal (of.Declaration e) is = unread e is
    refusal (of.Deployment e) is = numbered (of.Deployment e) is (input.number_of e) refl
    refusal (of.Stimuli e) is = numbered (of.Stimuli e) is (input.number_of e) refl
    refusal (of.Check e) is = numbered (of.Check e) is (check.number_of e) refl
undeclared given run.Memory is = tt
undeclared given (run.Write n) is = absurd is
undeclared given run.BadOption is = absurd is
undeclared given run.Failed is = absurd is

-- where there is no warning
pub heard_none : (err : Held) (lines : List ℕ) → lines ≡ [] → Hears true err err lines
heard_none err lines none = subst (λ (l : List ℕ). Hears true err err l) (sym none) (quiet err)

-- where a writer took as many bytes of the lines as it says
pub heard_lines :
    (old new : Held) (lines : List ℕ) (n : ℕ) (b : Bool) → (lines ≡ [] → ⊥) → n ≤ length lines → Appends old new (take n lines) → (IsTrue b → n ≡ length lines) → Hears b old new lines
heard_lines old new lines n b some few got all = record {
  front = take n lines;
  rest = drop n lines;
  parts = sym (take-append-drop n lines);
  got = got;
  all = λ t. let e : n ≡ length lines = all t in drop_of_length-le lines {i = n} (omega (arith, e));
  none = λ e. absurd (some e);
}

pub no_lines : (lines : List ℕ) → length lines ≡ 0 → lines ≡ []
no_lines [] none = refl
no_lines (l ∷ ls) none = absurd (omega (arith, none))
