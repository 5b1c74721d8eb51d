-- What is reported of the progress of a run, and then of how a call ends.
use Rattle.fbsim_command.proofs.lemmas.Common.{Noted, noted_of, ◌≡◌, ◌∙◌, ◌&&◌, ◌++◌, Bool, true, false, List, [], ℕ, Option, Some, None, inl, option_map, refl, sym, ap, subst, append-nil, string_bytes, IsTrue, IfErr, IfOk, OnOk, Result, Ok, Err, Appends, ReadError, Given, RunError, Hears, IsRightly, WritesPart, failure_of, numbered_input, Failure, End, Held, Refused, RefusedTrace, File, Write, Memory, Line, BadOption}
use Rattle.fb_types.proofs.Common.{Appends-nil, Appends-trans, is_ok}
use Rattle.clap.specs.Words.{Text}
use Rattle.fbsim_line.specs.Line.{AskHelp}
use Rattle.fb_read.specs.declared.error.ReadError.TheVariants as read
use Rattle.fb_check.specs.Refusals as check
use Rattle.fb_inputs.specs.Refusals as input
use Rattle.fb_sim.specs.Rounds.{FailsRun}
use Rattle.fb_sim.specs.declared.outcome.Refusal as sim
use Rattle.fb_sim.specs.declared.outcome.Refusal.TheVariants as of
use Rattle.fb_sim.specs.declared.outcome.RunError.TheVariants as run
use Rattle.fb_sim.specs.declared.options.Options.{Options}
use Rattle.fb_trace.specs.declared.last.Outcome.{Outcome}
use Rattle.fb_trace.specs.declared.last.Outcome.TheVariants as sim_end
use Rattle.fb_sim.specs.Reports.{AreReports}
use Rattle.fb_trace.specs.End.{ending_of}
use Rattle.fb_sim.specs.Serial.{AreWithin, Writes}
use Rattle.fbsim_command.specs.Command.{Explains, IsDoneOf, IsEndOf, IsReported, ReportsOn, Runs}
use Rattle.fbsim_command.specs.Failures.{reported_of}
use Rattle.fbsim_command.specs.declared.program.Answer.{Answer}
use Rattle.fbsim_command.specs.declared.statuses.Done.{Done}
use Rattle.fbsim_command.specs.declared.statuses.Done.TheVariants.{Helped}

-- where nothing is reported
pub quiet : (err : Held) → Hears true err err []
quiet err = record { front = []; rest = []; parts = refl; got = Appends-nil err; all = λ t. refl; none = λ e. refl }

-- ---- A run

pub ran :
    (serial : Bool) (given : Given) (options : Options) (old new : Held) (o : Outcome) (d : Done) → IsDoneOf o d → Writes given options old new (ending_of o)
    → Runs serial given options old new (Ok d)
ran serial given options old new (sim_end.End h) d is writes = subst (λ (x : Done). Runs serial given options old new (Ok x)) (sym is) (h, writes)
ran serial given options old new (sim_end.Stop mark) d is writes =
    subst (λ (x : Done). Runs serial given options old new (Ok x)) (sym is) (mark.tick, mark.resource, mark.reason, writes)

-- a run that fails
module _ (serial : Bool) (given : Given) (options : Options) (old new : Held) where
  numbered :
      (r : sim.Refusal) → AreWithin options → IsRightly given r → new ≡ old → (n : Option ℕ) → failure_of (run.Refused r) ≡ numbered_input n
      → Runs serial given options old new (Err (numbered_input n))
  numbered r within is same (Some n) reported = (within, record { error = run.Refused r; refused = is; reported = reported }, same)
  numbered r within is same None reported = inl (within, same)

  unread : (e : ReadError) → AreWithin options → IsRightly given (of.Declaration e) → new ≡ old → Runs serial given options old new (Err (failure_of (run.Refused (of.Declaration e))))
  unread read.Memory within is same = inl (within, same)
  unread read.Byte within is same = (within, record { error = run.Refused (of.Declaration read.Byte); refused = is; reported = refl }, same)
  unread read.Token within is same = (within, record { error = run.Refused (of.Declaration read.Token); refused = is; reported = refl }, same)
  unread (read.Syntax line) within is same = (within, record { error = run.Refused (of.Declaration (read.Syntax line)); refused = is; reported = refl }, same)
  unread read.TooLong within is same = (within, record { error = run.Refused (of.Declaration read.TooLong); refused = is; reported = refl }, same)
  unread read.Nesting within is same = (within, record { error = run.Refused (of.Declaration read.Nesting); refused = is; reported = refl }, same)

  refused : (r : sim.Refusal) → AreWithin options → IsRightly given r → new ≡ old → Runs serial given options old new (Err (failure_of (run.Refused r)))
  refused (of.Declaration e) within is same = unread e within is same
  refused (of.Deployment e) within is same = numbered (of.Deployment e) within is same (input.number_of e) refl
  refused (of.Stimuli e) within is same = numbered (of.Stimuli e) within is same (input.number_of e) refl
  refused (of.Check e) within is same = numbered (of.Check e) within is same (check.number_of e) refl

  fails : (e : RunError) → FailsRun given options old new e → Runs serial given options old new (Err (failure_of e))
  fails (run.Refused r) is = refused r is.0 is.1 is.2
  fails run.Memory is = is
  fails (run.Write n) is = is
  fails run.BadOption is = is
  fails run.Failed is = absurd is

  pub runs_so :
      (r : Result Outcome RunError) (end : End) → IsEndOf r end → IfOk r (λ o. Writes given options old new (ending_of o)) → IfErr r (FailsRun given options old new)
      → Runs serial given options old new end
  runs_so (Ok o) end is writes failed = subst (λ (e : End). Runs serial given options old new e) (sym is.2) (ran serial given options old new o is.0 is.1 writes)
  runs_so (Err e) end is writes failed = subst (λ (f : End). Runs serial given options old new f) (sym is) (fails e failed)

-- a run answers no use after a failure
pub none_failed : (given : Given) (options : Options) (old new : Held) (r : Result Outcome RunError) → IfErr r (FailsRun given options old new) → IfErr r (λ e. e ≡ run.Failed → ⊥)
none_failed given options old new (Ok o) failed = tt
none_failed given options old new (Err e) failed = λ is. subst (FailsRun given options old new) is failed

pub has_reported :
    (given : Given) (options : Options) (out_old out_new : Held) (r : Result Outcome RunError) (end : End) (heard : Bool) (old new : Held) → IsEndOf r end
    → (x : Text) × AreReports given options out_old out_new r x × Hears heard old new x → (x : Text) × ReportsOn false true given options out_old out_new end x × Hears heard old new x
has_reported given options out_old out_new r end heard old new is reported = (reported.0, (r, is, reported.1), reported.2)

pub ends_as : (r : Result Outcome RunError) (o : Outcome) (d : Done) → r ≡ Ok o → IsDoneOf o d → IsEndOf r (Ok d)
ends_as r o d is done = subst (λ (x : Result Outcome RunError). IsEndOf x (Ok d)) (sym is) (d, done, refl)

pub fails_as : (r : Result Outcome RunError) (e : RunError) (f : Failure) → r ≡ Err e → f ≡ failure_of e → IsEndOf r (Err f)
fails_as r e f is from = subst (λ (x : Result Outcome RunError). IsEndOf x (Err f)) (sym is) (ap (λ (x : Failure). let y : Result Done Failure = Err x in y) from)

-- ---- A call that is no run

pub ended_so :
    (a : Answer) (e : End) → a ≡ record { end = e; is_heard = true; note = Ok None } → (err : Held) (P : End → Text → Noted → Type 0) → P e [] (Ok None)
    → (x : Text) × Hears a.is_heard err err x × P a.end x (noted_of a.note)
ended_so a e is err P p = subst (λ (b : Answer). (x : Text) × Hears b.is_heard err err x × P b.end x (noted_of b.note)) (sym is) ([], quiet err, p)

pub noted_so :
    (a b : Answer) → a ≡ b → b.is_heard ≡ true → (err : Held) (P : End → Text → Noted → Type 0) → P b.end [] (noted_of b.note)
    → (x : Text) × Hears a.is_heard err err x × P a.end x (noted_of a.note)
noted_so a b is heard err P p =
    subst (λ (d : Answer). (x : Text) × Hears d.is_heard err err x × P d.end x (noted_of d.note)) (sym is) ([], subst (λ (h : Bool). Hears h err err []) (sym heard) (quiet err), p)

pub helped : (words : List Text) (old new : Held) (help : Text) → AskHelp words → (r : End) → IfOk r (λ d. (d ≡ Helped) × Appends old new help) → IfErr r (WritesPart old new help) → Explains words old new r
helped words old new help asked (Ok d) whole part = subst (λ (x : Done). Explains words old new (Ok x)) (sym whole.0) (asked, (help, whole.1))
helped words old new help asked (Err (Write n)) whole part = (asked, (help, part))
helped words old new help asked (Err (Refused refusal)) whole bad = absurd bad
helped words old new help asked (Err (RefusedTrace text)) whole bad = absurd bad
helped words old new help asked (Err File) whole bad = absurd bad
helped words old new help asked (Err Memory) whole bad = absurd bad
helped words old new help asked (Err (Line text)) whole bad = absurd bad
helped words old new help asked (Err BadOption) whole bad = absurd bad

-- ---- The end

pub reported_all :
    (h t : Bool) (old mid new : Held) (x : Text) (end : End) (note : Noted) → Hears h old mid x → (IsTrue t → IsReported [] end note mid new) → IsTrue (h && t) → IsTrue h × IsReported x end note old new
reported_all true true old mid new x end (Ok note) hears reported is =
    let e : hears.rest ≡ [] = hears.all refl in
    let whole : x ≡ hears.front = hears.parts ∙ ap (λ (t : Text). hears.front ++ t) e ∙ append-nil hears.front in
    (refl, Appends-trans old mid new x (reported_of end note) (subst (λ (t : Text). Appends old mid t) (sym whole) hears.got) (reported refl))
reported_all true true old mid new x end (Err e) hears reported is = absurd (reported refl)
reported_all true false old mid new x end note hears reported is = absurd (let f : false ≡ true = is in cc)
reported_all false t old mid new x end note hears reported is = absurd (let f : false ≡ true = is in cc)

-- a call that has not failed reports nothing at its end
pub no_end : (err : Held) (end : End) (d : Done) (note : Noted) (there : Bool) → end ≡ Ok d → there ≡ is_ok note → IsTrue there → IsReported [] end note err err
no_end err end d (Ok note) there is same so = subst (λ (e : End). Appends err err (reported_of e note)) (sym is) (Appends-nil err)
no_end err end d (Err e) there is same so = absurd (let f : false ≡ true = sym same ∙ so in cc)

pub quiet_all : (h : Bool) (old mid new : Held) (x : Text) (end : End) → Hears h old mid x → OnOk end (new ≡ mid) → OnOk end (x ≡ [] → new ≡ old)
quiet_all h old mid new x (Ok d) hears same = λ e. same ∙ hears.none e
quiet_all h old mid new x (Err failure) hears same = tt
