-- How a call that inspects a trace ends.
use Rattle.fbsim_command.proofs.lemmas.Common.{◌≡◌, ◌≤◌, ◌⊎◌, ℕ, Bool, List, Option, Some, None, Result, Ok, Err, codes, option_map, inl, inr, refl, sym, ap, subst, ◌∙◌, IfErr, IfSome, IsTrue, OnErr, Inputs, system_of, IsErrAnd, OfRefusal, Given, Declares, failure_of_source, IsFirstOf, Noted, Notes, NotesInput, NotesOf, SaysUnread, End, Held, IsWrongIn, EndsIn, Reading, AreRead, IsUnread, Opening, Failure, Refused, File, Write, Memory, Task, SourceFault, Part, RefusedTrace, Line, BadOption}
use Rattle.fbsim_command.specs.Outcomes.{IsUndeclared}
use Rattle.fb_types.proofs.Common.{IfNone, IfOk}
use Rattle.fb_types.specs.Names.{Name}
use Rattle.fb_types.specs.Systems.{System}
use Rattle.fb_inspect.specs.Refusals.{IsPathFault, IsWrongAt}
use Rattle.fb_inspect.specs.walk.Looks.{most}
use Rattle.fb_wave.specs.CutOff.{IsUncut}
use Rattle.fb_wave.specs.Named.{HasNames}
use Rattle.fb_wave.specs.declared.truncation.Cut.{Cut}
use Rattle.fb_wave.specs.declared.truncation.Cut.TheVariants as cut
use Rattle.fb_inspect.specs.Inspections.{ShowsBefore, ShowsRead}
use Rattle.fb_inspect.specs.OfSystem.{Applies, CanGoOn, fault_text, finding_text}
use Rattle.fb_inspect.specs.declared.refused.finding.RefusedLine.{RefusedLine}
use Rattle.fb_inspect.specs.declared.refused.line_fault.LineFault.{LineFault}
use Rattle.fb_inspect.specs.declared.error.InspectError.{InspectError}
use Rattle.fb_inspect.specs.declared.error.InspectError.TheVariants as inspection
use Rattle.clap.specs.Words.{Text}
use Rattle.fbsim_command.specs.Failures.{IsInspectionFailure}
use Rattle.fbsim_command.specs.InsideNotes.{IsWordsOf, NotesInside}
use Rattle.fbsim_command.specs.Inspecting.{Inspects, NotesPaths, ShowsInsides, cut_of, files_of, selection_of}
use Rattle.fbsim_command.specs.Notes.{Follows, NotesRest}
use Rattle.fbsim_command.proofs.lemmas.notes.Noting.{first-or, first-then}
use Rattle.fbsim_line.specs.declared.inspect_line.Inspect.{Inspect}
use Rattle.fbsim_command.specs.declared.join.FileLines.{FileLines}
use Rattle.fbsim_command.specs.declared.failure.RefusalLine.TheVariants.{Numbered, Trace}

-- whatever the call answers
pub on_err_any : {A E : Type 0} (r : Result A E) (P : Type 0) → P → OnErr r P
on_err_any (Ok x) P p = tt
on_err_any (Err e) P p = p

-- nothing is written where the inputs are refused
pub inspects_none : (given : Given) (x : Inspect) (trace old : Held) (f : Failure) → IsUndeclared given f → Inspects given x trace old old (Err f)
inspects_none given x trace old (Refused refusal) is = inl (is, refl)
inspects_none given x trace old Memory is = inl refl
inspects_none given x trace old (RefusedTrace text) is = absurd is
inspects_none given x trace old File is = absurd is
inspects_none given x trace old (Write n) is = absurd is
inspects_none given x trace old (Line message) is = absurd is
inspects_none given x trace old BadOption is = absurd is

-- a beginning is written where the trace is refused, or where reading it, writing or memory fails
pub inspects_front :
    (given : Given) (x : Inspect) (trace old new : Held) (i : Inputs) → Declares given i → (e : InspectError) (f : Failure) → IsInspectionFailure e f
    → ShowsRead (system_of i) (selection_of x) x.steps trace old new → OfRefusal (IsWrongIn (cut_of x) i x.steps trace) e → IsPathFault (system_of i) (selection_of x).only e
    → OfRefusal (λ n. x.steps ≤ most → IfSome trace (λ text. ShowsBefore (system_of i) (selection_of x) n text old new)) e → Inspects given x trace old new (Err f)
inspects_front given x trace old new i is e f reported front wrong unknown before = by e reported wrong unknown before
  where
    to : (g : Failure) → f ≡ g → Inspects given x trace old new (Err g) → Inspects given x trace old new (Err f)
    to g same it = subst (λ (h : Failure). Inspects given x trace old new (Err h)) (sym same) it

    by : (e : InspectError) → IsInspectionFailure e f → OfRefusal (IsWrongIn (cut_of x) i x.steps trace) e → IsPathFault (system_of i) (selection_of x).only e
        → OfRefusal (λ n. x.steps ≤ most → IfSome trace (λ text. ShowsBefore (system_of i) (selection_of x) n text old new)) e → Inspects given x trace old new (Err f)
    by (inspection.Refused line) reported wrong unknown before = to (Refused (Trace line)) reported (inr (i, is, front, wrong, before))
    by inspection.Names reported wrong unknown before = absurd reported
    by inspection.Unknown reported wrong unknown before = to (Refused (Numbered 21)) reported (inr (i, is, front, (refl, unknown refl), tt))
    by inspection.Memory reported wrong unknown before = to Memory reported (inr (i, is, front))
    by inspection.Read reported wrong unknown before = to File reported (i, is, front)
    by (inspection.Write n) reported wrong unknown before = to (Write n) reported (i, is, front)

-- ---- Names and lines

-- names are not at fault in a system that has them
pub no_names : {A : Type 0} (H : Type 0) → H → (r : Result A InspectError) → IfErr r (λ e. e ≡ inspection.Names → H → ⊥) → IfErr r (λ e. e ≡ inspection.Names → ⊥)
no_names H has (Ok x) is = tt
no_names H has (Err e) is = λ same. is same has

-- no names and no path are at fault where memory runs out
pub memory_only : {A : Type 0} (r : Result A InspectError) (P : InspectError → Type 0) → IsErrAnd r (λ e. e ≡ inspection.Memory) → P inspection.Memory → IfErr r P
memory_only (Ok x) P bad p = absurd bad
memory_only (Err e) P is p = subst P (sym is) p

pub memory_is_named : inspection.Memory ≡ inspection.Names → ⊥
memory_is_named same = absurd cc

pub memory_is_known : (i : System) (only : List Name) → IsPathFault i only inspection.Memory
memory_is_known i only = λ same. absurd cc

-- a line that is refused is wrong, under the premise of the call below
pub wrong_so :
    {A : Type 0} (H L M : Type 0) (W U : ℕ → Type 0) (r : Result A InspectError) → H → (H → L → IfErr r (OfRefusal W)) → (H → L → M → IfErr r (OfRefusal U))
    → IfErr r (OfRefusal (λ n. L → W n × (M → U n)))
wrong_so H L M W U (Ok x) has is uncut = tt
wrong_so H L M W U (Err (inspection.Refused n)) has is uncut = λ few. (is has few, uncut has few)
wrong_so H L M W U (Err inspection.Names) has is uncut = tt
wrong_so H L M W U (Err inspection.Unknown) has is uncut = tt
wrong_so H L M W U (Err inspection.Memory) has is uncut = tt
wrong_so H L M W U (Err inspection.Read) has is uncut = tt
wrong_so H L M W U (Err (inspection.Write n)) has is uncut = tt

-- the line for which a walk refuses a trace is wrong
pub wrong-covered :
    {A : Type 0} (may : Cut) (i : Inputs) (steps : ℕ) (trace : Held) (r : Result A InspectError) (e : InspectError) → HasNames (system_of i) → r ≡ Err e
    → (HasNames (system_of i) → steps ≤ most → IfErr r (OfRefusal (λ n. IfSome trace (IsWrongAt (system_of i) steps n))))
    → (HasNames (system_of i) → steps ≤ most → may ≡ cut.Allowed → IfErr r (OfRefusal (λ n. IfSome trace (IsUncut (system_of i) n)))) → OfRefusal (IsWrongIn may i steps trace) e
wrong-covered {A} may i steps trace r e names is wrong uncut =
    subst (λ (s : Result A InspectError). IfErr s (OfRefusal (IsWrongIn may i steps trace))) is
    (wrong_so (HasNames (system_of i)) (steps ≤ most) (may ≡ cut.Allowed) (λ n. IfSome trace (IsWrongAt (system_of i) steps n)) (λ n. IfSome trace (IsUncut (system_of i) n)) r names wrong uncut)

-- a walk of a system that has names does not end for them
pub never_names : {A : Type 0} (H : Type 0) (r : Result A InspectError) → H → r ≡ Err inspection.Names → IfErr r (λ e. e ≡ inspection.Names → H → ⊥) → ⊥
never_names {A} H r has is says = subst (λ (s : Result A InspectError). IfErr s (λ e. e ≡ inspection.Names → H → ⊥)) is says refl has

pub never_unknown : {A : Type 0} (r : Result A InspectError) → r ≡ Err inspection.Unknown → IfErr r (λ e. e ≡ inspection.Unknown → ⊥) → ⊥
never_unknown {A} r is says = subst (λ (s : Result A InspectError). IfErr s (λ e. e ≡ inspection.Unknown → ⊥)) is says refl

-- a failure of memory is no refusal
pub no_refusal : {A : Type 0} (r : Result A InspectError) (W : ℕ → Type 0) → IsErrAnd r (λ e. e ≡ inspection.Memory) → IfErr r (OfRefusal W)
no_refusal (Ok x) W bad = tt
no_refusal (Err e) W is = subst (OfRefusal W) (sym is) tt

-- ---- What was read

-- what is wrong with a line of the system
pub words_wrong :
    {S E : Type 0} (bytes : S → Text) (i : Inputs) (r : RefusedLine) (fault : LineFault) (words : Result S E) → Applies i r.current fault → IfOk words (λ w. bytes w ≡ fault_text i r.current.tick fault)
    → IfOk words (λ w. IsWordsOf i r (bytes w))
words_wrong bytes i r fault (Ok w) applies is = record { fault = Some fault; applies = applies; is = is }
words_wrong bytes i r fault (Err e) applies is = tt

-- what was found in another one
pub words_found :
    {S E : Type 0} (bytes : S → Text) (i : Inputs) (r : RefusedLine) (words : Result S E) → CanGoOn i r.current → IfOk words (λ w. bytes w ≡ finding_text i r.finding) → IfOk words (λ w. IsWordsOf i r (bytes w))
words_found bytes i r (Ok w) right is = record { fault = None; applies = right; is = is }
words_found bytes i r (Err e) right is = tt

-- the trace is opened, and it is inspected
pub read_and_inspected :
    {S : Type 0} (reads : Reading S) (opens : Opening S) (from between to : S) (types : List Text) (x : Inspect) (old new : Held) (lines : List FileLines) (given : Given) (task : Task)
    (trace : Held) (own : Given) (inner end : End) (note : Noted) → task ≡ files_of x → own ≡ given → AreRead reads types task from between lines given
    → opens between x.trace.now (Ok trace) to → Inspects own x trace old new inner → (path rest line second first : Noted) → IfOk line (NotesInside x.why own x.steps trace inner)
    → IfOk rest (NotesRest x.why x.trace.now inner) → IfOk path (NotesPaths x own inner) → Follows rest (λ n. line ≡ Ok n) second → Follows path (λ n. second ≡ Ok n) first
    → Follows first (NotesOf types task lines given inner) note → EndsIn types x.declaration.now lines inner end → ShowsInsides reads opens from to types x old new end note
read_and_inspected reads opens from between to types x old new lines given task trace own inner end note as_task as_given was_read opened done path rest line second first of_line of_rest of_path one two last ends =
    let says = NotesInside x.why given x.steps trace inner in
    let says_rest = NotesRest x.why x.trace.now inner in
    let says_path = NotesPaths x given inner in
    let said : IfOk line says = subst (λ (z : Given). IfOk line (NotesInside x.why z x.steps trace inner)) as_given of_line in
    let said_path : IfOk path says_path = subst (λ (z : Given). IfOk path (NotesPaths x z inner)) as_given of_path in
    let last_of : Follows first (NotesOf types (files_of x) lines given inner) note = subst (λ (k : Task). Follows first (NotesOf types k lines given inner) note) as_task last in
    inl
    (record {
      lines = lines;
      given = given;
      between = between;
      read = subst (λ (k : Task). AreRead reads types k from between lines given) as_task was_read;
      trace = trace;
      opened = opened;
      inner = inner;
      done = subst (λ (z : Given). Inspects z x trace old new inner) as_given done;
      noted = first-then (IsFirstOf says_path (IsFirstOf says_rest says)) (NotesOf types (files_of x) lines given inner) first note
          (first-or says_path (IsFirstOf says_rest says) path second first said_path (first-or says_rest says rest line second of_rest said one) two) last_of;
      ends = ends;
    })

-- a file is not read that the trace is of
pub not_read :
    {S : Type 0} (reads : Reading S) (opens : Opening S) (from to : S) (types : List Text) (x : Inspect) (same : Held) (task : Task) (part : Part) (fault : SourceFault) (failed : Failure)
    (note : Noted) → task ≡ files_of x → failed ≡ failure_of_source fault → IsUnread reads types task from to part fault
    → IfOk note (NotesInput types task part fault) → ShowsInsides reads opens from to types x same same (Err failed) note
not_read reads opens from to types x same task part fault failed note as_task is unread noted =
    let reported : ◌≡◌ {A = End} (Err failed) (Err (failure_of_source fault)) = ap (λ (f : Failure). Err f) is in
    inr (
      fault,
      inl
          (record {
            part = part;
            unread = subst (λ (k : Task). IsUnread reads types k from to part fault) as_task unread;
            noted = subst (λ (k : Task). IfOk note (NotesInput types k part fault)) as_task noted;
          }),
      reported,
      refl,
    )

-- the trace is not opened
pub not_opened :
    {S : Type 0} (reads : Reading S) (opens : Opening S) (from between to : S) (types : List Text) (x : Inspect) (same : Held) (lines : List FileLines) (given : Given) (task : Task) (fault : SourceFault)
    (failed : Failure) (note : Noted) → task ≡ files_of x → failed ≡ failure_of_source fault → AreRead reads types task from between lines given
    → opens between x.trace.now (Err fault) to → IfOk note (Notes x.why (SaysUnread (codes "trace") x.trace.now fault)) → ShowsInsides reads opens from to types x same same (Err failed) note
not_opened reads opens from between to types x same lines given task fault failed note as_task is was_read unread noted =
    let reported : ◌≡◌ {A = End} (Err failed) (Err (failure_of_source fault)) = ap (λ (f : Failure). Err f) is in
    inr (
      fault,
      inr
          (record {
            lines = lines;
            given = given;
            between = between;
            read = subst (λ (k : Task). AreRead reads types k from between lines given) as_task was_read;
            unread = unread;
            noted = noted;
          }),
      reported,
      refl,
    )
