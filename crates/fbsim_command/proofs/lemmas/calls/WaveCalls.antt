-- How a call for waveforms ends where there are none, or no whole ones.
use Rattle.fbsim_command.proofs.lemmas.Common.{◌≡◌, ◌⊎◌, ℕ, List, Option, Some, None, Ok, Err, inl, inr, refl, sym, ap, subst, Inputs, system_of, Given, Declares, Cut, Task, failure_of_source, Failure, Refused, File, Write, Memory, End, Held, IfOk, IsFirstOf, Noted, NotesInput, NotesOf, EndsIn, Reading, AreRead, IsUnread, Opening, SourceFault, Part, RefusedTrace, Line, BadOption}
use Rattle.fbsim_command.specs.Outcomes.{IsUndeclared}
use Rattle.fb_wave.specs.CutOff.{BlamesShown, FailsCut, FailsShown}
use Rattle.fb_wave.specs.Fronts.{WritesBefore}
use Rattle.fb_wave.specs.Refusals.{Blames}
use Rattle.fb_wave.specs.Waves.{WritesFront}
use Rattle.fb_wave.specs.declared.error.WaveError.{WaveError}
use Rattle.fb_wave.specs.declared.error.WaveError.TheVariants as wave
use Rattle.fb_wave.specs.declared.truncation.Cut.TheVariants as cut
use Rattle.clap.specs.Words.{Text}
use Rattle.fbsim_line.specs.declared.line.Wave.{Wave}
use Rattle.fbsim_command.specs.Failures.{IsWaveFailure}
use Rattle.fbsim_command.specs.Notes.{Follows, NotesRest}
use Rattle.fbsim_command.specs.Showing.{Dumps, DumpsAs, NotesAs, NotesTraceFile, Shows, cut_of, files_of}
use Rattle.fbsim_command.proofs.lemmas.notes.Noting.{first-or, first-then}
use Rattle.fbsim_command.specs.declared.join.FileLines.{FileLines}
use Rattle.fbsim_command.specs.declared.failure.RefusalLine.TheVariants.{Trace}
use Rattle.fbsim_command.proofs.lemmas.names.ReadNames.{read-names}

-- nothing is written where the inputs are refused
pub dumps_none : (may : Cut) (given : Given) (trace old : Held) (f : Failure) → IsUndeclared given f → Dumps may given trace old old (Err f)
dumps_none may given trace old (Refused refusal) is = inl (is, refl)
dumps_none may given trace old Memory is = inl refl
dumps_none may given trace old (RefusedTrace text) is = absurd is
dumps_none may given trace old File is = absurd is
dumps_none may given trace old (Write n) is = absurd is
dumps_none may given trace old (Line message) is = absurd is
dumps_none may given trace old BadOption is = absurd is

-- what a writer got where it did not fail
front_of : (may : Cut) (i : Inputs) (old new : Held) (e : WaveError) → (FailsShown cut.Refused (system_of i) old new e → WritesFront (system_of i) old new) → ¬ (FailsCut (system_of i) old new e)
    → FailsShown may (system_of i) old new e → WritesFront (system_of i) old new
front_of cut.Refused i old new e front other fails = front fails
front_of cut.Allowed i old new e front other (inl fails) = front fails
front_of cut.Allowed i old new e front other (inr fails) = absurd (other fails)

-- names are not at fault in what was read
pub no_names : (may : Cut) (given : Given) (i : Inputs) (trace : Held) → Declares given i → (e : WaveError) → BlamesShown may (system_of i) trace e → e ≡ wave.Names → ⊥
no_names cut.Refused given i trace is e blames same = subst (Blames (system_of i) trace) same blames (read-names given i is)
no_names cut.Allowed given i trace is e blames same = subst (Blames (system_of i) trace) same blames.0 (read-names given i is)

-- a beginning is written where the trace is refused, or where reading it, writing or memory fails
pub dumps_front :
    (may : Cut) (given : Given) (trace old new : Held) (i : Inputs) → Declares given i → (e : WaveError) (f : Failure) → IsWaveFailure e f → FailsShown may (system_of i) old new e
    → BlamesShown may (system_of i) trace e → WritesBefore (system_of i) trace old new e → Dumps may given trace old new (Err f)
dumps_front may given trace old new i is e f reported fails blames before = by e reported fails blames before
  where
    to : (g : Failure) → f ≡ g → Dumps may given trace old new (Err g) → Dumps may given trace old new (Err f)
    to g same it = subst (λ (h : Failure). Dumps may given trace old new (Err h)) (sym same) it

    by : (e : WaveError) → IsWaveFailure e f → FailsShown may (system_of i) old new e → BlamesShown may (system_of i) trace e → WritesBefore (system_of i) trace old new e
        → Dumps may given trace old new (Err f)
    by (wave.Refused line) reported fails blames before =
        to (Refused (Trace line)) reported (inr (line, refl, (i, is, front_of may i old new (wave.Refused line) (λ f. f) (λ f. f) fails, blames, before)))
    by wave.Memory reported fails blames before = to Memory reported (inr (i, is, front_of may i old new wave.Memory (λ f. f) (λ f. f) fails))
    by wave.Read reported fails blames before = to File reported (i, is, front_of may i old new wave.Read (λ f. f) (λ f. f) fails)
    by (wave.Write n) reported fails blames before = to (Write n) reported (i, is, fails)
    by wave.Names reported fails blames before = absurd reported

-- ---- What was read

-- the trace is opened, and its dump is written
pub read_and_shown :
    {S : Type 0} (reads : Reading S) (opens : Opening S) (from between to : S) (types : List Text) (w : Wave) (old new : Held) (lines : List FileLines) (given : Given) (task : Task) (may : Cut)
    (trace : Held) (x : Given) (inner end : End) (note : Noted) → task ≡ files_of w → may ≡ cut_of w → x ≡ given → AreRead reads types task from between lines given
    → opens between w.trace.now (Ok trace) to → DumpsAs w.has_states w.steps may x trace old new inner → (rest line first : Noted) → IfOk line (NotesAs w.has_states w.why w.steps x trace inner)
    → IfOk rest (NotesRest w.why w.trace.now inner) → Follows rest (λ n. line ≡ Ok n) first → Follows first (NotesOf types task lines given inner) note → EndsIn types w.declaration.now lines inner end
    → Shows reads opens from to types w old new end note
read_and_shown reads opens from between to types w old new lines given task may trace x inner end note as_task as_cut as_given was_read opened done rest line first of_line of_rest one last ends =
    let says = NotesAs w.has_states w.why w.steps given trace inner in
    let says_rest = NotesRest w.why w.trace.now inner in
    let said : IfOk line says = subst (λ (z : Given). IfOk line (NotesAs w.has_states w.why w.steps z trace inner)) as_given of_line in
    let last_of : Follows first (NotesOf types (files_of w) lines given inner) note = subst (λ (k : Task). Follows first (NotesOf types k lines given inner) note) as_task last in
    inl
    (record {
      lines = lines;
      given = given;
      between = between;
      read = subst (λ (k : Task). AreRead reads types k from between lines given) as_task was_read;
      trace = trace;
      opened = opened;
      inner = inner;
      done = subst (λ (m : Cut). DumpsAs w.has_states w.steps m given trace old new inner) as_cut (subst (λ (z : Given). DumpsAs w.has_states w.steps may z trace old new inner) as_given done);
      noted = first-then (IsFirstOf says_rest says) (NotesOf types (files_of w) lines given inner) first note (first-or says_rest says rest line first of_rest said one) last_of;
      ends = ends;
    })

-- a file is not read that the trace is of
pub unread_for :
    {S : Type 0} (reads : Reading S) (opens : Opening S) (from to : S) (types : List Text) (w : Wave) (same : Held) (task : Task) (part : Part) (fault : SourceFault) (failed : Failure)
    (note : Noted) → task ≡ files_of w → failed ≡ failure_of_source fault → IsUnread reads types task from to part fault
    → IfOk note (NotesInput types task part fault) → Shows reads opens from to types w same same (Err failed) note
unread_for reads opens from to types w same task part fault failed note as_task is unread noted =
    let reported : ◌≡◌ {A = End} (Err failed) (Err (failure_of_source fault)) = ap (λ (f : Failure). Err f) is in
    inr (
      fault,
      inl
          (record {
            part = part;
            unread = subst (λ (k : Task). IsUnread reads types k from to part fault) as_task unread;
            noted = subst (λ (k : Task). IfOk note (NotesInput types k part fault)) as_task noted;
          }),
      reported,
      refl,
    )

-- the trace is not opened
pub unopened :
    {S : Type 0} (reads : Reading S) (opens : Opening S) (from between to : S) (types : List Text) (w : Wave) (same : Held) (lines : List FileLines) (given : Given) (task : Task) (fault : SourceFault)
    (failed : Failure) (note : Noted) → task ≡ files_of w → failed ≡ failure_of_source fault → AreRead reads types task from between lines given
    → opens between w.trace.now (Err fault) to → IfOk note (NotesTraceFile w fault) → Shows reads opens from to types w same same (Err failed) note
unopened reads opens from between to types w same lines given task fault failed note as_task is was_read unread noted =
    let reported : ◌≡◌ {A = End} (Err failed) (Err (failure_of_source fault)) = ap (λ (f : Failure). Err f) is in
    inr (
      fault,
      inr
          (record {
            lines = lines;
            given = given;
            between = between;
            read = subst (λ (k : Task). AreRead reads types k from between lines given) as_task was_read;
            unread = unread;
            noted = noted;
          }),
      reported,
      refl,
    )
