-- Traces that are gone through one after the other, and how the report of what they cover ends.
use Rattle.fbsim_command.proofs.lemmas.Common.{◌≡◌, ◌<◌, ◌≤◌, ◌+◌, ℕ, Bool, true, false, Bor, List, [], ◌∷◌, ◌++◌, drop, get_or, length, map, take, codes, Some, None, Ok, Err, refl, sym, ◌∙◌, ap, subst, inl, inr, arith, Appends, IfOk, IfSome, drop_more, map-append, take-append-drop, take_all, take_more, Inputs, system_of, IsErrAnd, OfRefusal, Given, Declares, Cut, WritesPart, failure_of_source, Notes, End, Held, IsWrongIn, Opening, Failure, Refused, RefusedTrace, File, Write, Memory, Line, BadOption, SourceFault}
use Rattle.fbsim_command.specs.Outcomes.{IsUndeclared}
use Rattle.clap.specs.Words.{Text}
use Rattle.fb_coverage.specs.Reports.{report_text}
use Rattle.fb_coverage.specs.declared.marks.Marks.{Marks}
use Rattle.fb_inspect.specs.Covering.{Covers}
use Rattle.fb_inspect.specs.declared.error.InspectError.{InspectError}
use Rattle.fb_inspect.specs.declared.error.InspectError.TheVariants as inspection
use Rattle.fb_inspect.specs.declared.walk.Extent.{Extent}
use Rattle.fb_inspect.specs.declared.walk.Extent.TheVariants as extent
use Rattle.fbsim_command.specs.Covering.{AreGoneThrough, AreStopped, GoThrough, GoesThrough, IsFirst, IsReport, IsStopped, IsTraceFailure, IsUnreported, NotesRefusal, NotesWalk, RefusesAt, RefusesOne, StopsAt, WritesReport, are_several, cut_count, coverage_text, covered_by, cut_line, cut_of, is_too_little, note_front}
use Rattle.fb_inspect.specs.declared.refused.finding.RefusedLine.{RefusedLine}
use Rattle.fbsim_command.specs.InsideNotes.{IsFoundAt, SaysInside}
use Rattle.fbsim_command.specs.Notes.{IsUnnoted, Noted, NotesEnd, SaysUnread}
use Rattle.fbsim_line.specs.declared.coverage_line.Coverage.{Coverage}
use Rattle.fbsim_command.specs.declared.coverage.Gleaned.{Gleaned}
use Rattle.fbsim_command.specs.declared.statuses.Done.{Done}
use Rattle.fbsim_command.specs.declared.sources.SourceFault.TheVariants as source

abbrev pub now : Bor Text → Text
now t = t.now

-- ---- A trace

-- nothing was noted of it
nothing-said : (x : Coverage) (name : Text) (note : Noted) → IfOk note (Notes x.why (SaysUnread (codes "trace") name source.Memory)) → IsUnnoted note
nothing-said x name (Err e) said = tt
nothing-said x name (Ok None) said = refl
nothing-said x name (Ok (Some n)) said = absurd said.1.is_matter

-- it is not opened
pub unopened :
    {S : Type 0} (opens : Opening S) (i : Inputs) (x : Coverage) (name : Text) (from to : S) (note : Noted) (fault : SourceFault) → opens from name (Err fault) to
    → IfOk note (Notes x.why (SaysUnread (codes "trace") name fault)) → IsStopped opens i x name from to note (failure_of_source fault)
unopened opens i x name from to note source.File is said = inl (record { fault = source.File; of_file = refl; unopened = is; noted = said })
unopened opens i x name from to note source.Folder is said = inl (record { fault = source.Folder; of_file = refl; unopened = is; noted = said })
unopened opens i x name from to note source.Memory is said = inl (nothing-said x name note said)

-- what was found at the line is what the note says
found-noted :
    (i : Inputs) (x : Coverage) (name : Text) (r : RefusedLine) (trace : Held) (line : ℕ) (note : Noted) → IsFoundAt i x.steps trace line r
    → IfOk note (Notes x.why (SaysInside i r (note_front (are_several x) name) line)) → NotesRefusal i x name trace line note
found-noted i x name r trace line (Err e) found said = tt
found-noted i x name r trace line (Ok None) found said = λ asked. (r, found, said asked)
found-noted i x name r trace line (Ok (Some n)) found said = (said.0, (r, found, said.1))

-- it is refused
pub refused-at :
    {S : Type 0} (opens : Opening S) (i : Inputs) (x : Coverage) (name : Text) (from to : S) (line : ℕ) (trace : Held) (note : Noted) (f : Failure) → opens from name (Ok trace) to → IsWrongIn (cut_of x) i x.steps trace line
    → NotesRefusal i x name trace line note → RefusesAt (are_several x) name line f → IsStopped opens i x name from to note f
refused-at {S} opens i x name from to line trace note f is bad_line noted reported = by f reported
  where
    one : (g : Failure) → RefusesAt (are_several x) name line g → RefusesOne opens i x name from to note g
    one g at = record { trace = trace; opened = is; line = line; is_wrong = bad_line; reported = at; noted = noted }

    never : (b : Bool) (g : Failure) → RefusesAt b name line g → (RefusesAt true name line g → ⊥) → (RefusesAt false name line g → ⊥) → ⊥
    never true g at named unnamed = named at
    never false g at named unnamed = unnamed at

    by : (g : Failure) → RefusesAt (are_several x) name line g → IsStopped opens i x name from to note g
    by (Refused refusal) at = one (Refused refusal) at
    by (RefusedTrace text) at = one (RefusedTrace text) at
    by Memory at = inr (one Memory at)
    by File at = absurd (never (are_several x) File at (λ bad. bad) (λ bad. bad))
    by (Write n) at = absurd (never (are_several x) (Write n) at (λ bad. bad) (λ bad. bad))
    by (Line message) at = absurd (never (are_several x) (Line message) at (λ bad. bad) (λ bad. bad))
    by BadOption at = absurd (never (are_several x) BadOption at (λ bad. bad) (λ bad. bad))

-- the same for each error
pub failed-at :
    {S : Type 0} (opens : Opening S) (i : Inputs) (x : Coverage) (name : Text) (from to : S) (trace : Held) (r : RefusedLine) (note : Noted) (e : InspectError) (f : Failure) → opens from name (Ok trace) to
    → OfRefusal (IsWrongIn (cut_of x) i x.steps trace) e → OfRefusal (λ line. IsFoundAt i x.steps trace line r) e → NotesWalk i x name r e note → IsTraceFailure (are_several x) name e f → IsStopped opens i x name from to note f
failed-at opens i x name from to trace r note (inspection.Refused line) f is bad found said reported =
    refused-at opens i x name from to line trace note f is bad (found-noted i x name r trace line note found said) reported
failed-at opens i x name from to trace r note inspection.Memory f is bad found said reported = subst (IsStopped opens i x name from to note) (sym reported) (inl said)
failed-at opens i x name from to trace r note inspection.Read f is bad found said reported =
    subst (IsStopped opens i x name from to note) (sym reported) (inr (record { trace = trace; opened = is; noted = said }))
failed-at opens i x name from to trace r note (inspection.Write n) f is bad found said reported = subst (IsStopped opens i x name from to note) (sym reported) (inl said)
failed-at opens i x name from to trace r note inspection.Names f is bad found said reported = absurd reported
failed-at opens i x name from to trace r note inspection.Unknown f is bad found said reported = absurd reported

-- the note to a trace that is opened and not gone through, by its error
pub refusal-noted :
    (i : Inputs) (x : Coverage) (name : Text) (r : RefusedLine) (e : InspectError) (line : ℕ) (note : Noted) → e ≡ inspection.Refused line
    → IfOk note (Notes x.why (SaysInside i r (note_front (are_several x) name) line)) → NotesWalk i x name r e note
refusal-noted i x name r e line note is said = subst (λ (d : InspectError). NotesWalk i x name r d note) (sym is) said

pub end-noted : (i : Inputs) (x : Coverage) (name : Text) (r : RefusedLine) (e : InspectError) (note : Noted) → e ≡ inspection.Read → IfOk note (NotesEnd x.why name) → NotesWalk i x name r e note
end-noted i x name r e note is said = subst (λ (d : InspectError). NotesWalk i x name r d note) (sym is) said

pub walk-unnoted : (i : Inputs) (x : Coverage) (name : Text) (r : RefusedLine) (e : InspectError) (note : Noted) → ((line : ℕ) → e ≡ inspection.Refused line → ⊥) → (e ≡ inspection.Read → ⊥) → IsUnnoted note → NotesWalk i x name r e note
walk-unnoted i x name r (inspection.Refused line) note refused read none = absurd (refused line refl)
walk-unnoted i x name r inspection.Read note refused read none = absurd (read refl)
walk-unnoted i x name r inspection.Memory note refused read none = none
walk-unnoted i x name r (inspection.Write n) note refused read none = none
walk-unnoted i x name r inspection.Names note refused read none = none
walk-unnoted i x name r inspection.Unknown note refused read none = none

-- it is gone through
pub goes-through :
    {S : Type 0} (opens : Opening S) (i : Inputs) (x : Coverage) (name : Text) (from to : S) (trace : Held) (may : Cut) (old : Gleaned) (marks last : Marks) (extent : Extent) (k : ℕ) (new : Gleaned)
    → opens from name (Ok trace) to → may ≡ cut_of x → marks ≡ old.marks → k ≡ old.cut → IfSome trace (λ text. Covers may i x.steps text marks last extent) → new.marks ≡ last
    → new.cut ≡ cut_count extent k → GoesThrough opens i x name from to old new
goes-through opens i x name from to trace may old marks last extent k new opened cuts first count covers ends counts = record {
  trace = trace;
  opened = opened;
  extent = extent;
  covers =
      subst (λ (m : Cut). IfSome trace (λ text. Covers m i x.steps text old.marks new.marks extent)) cuts
      (subst (λ (m : Marks). IfSome trace (λ text. Covers may i x.steps text m new.marks extent)) first
      (subst (λ (m : Marks). IfSome trace (λ text. Covers may i x.steps text marks m extent)) (sym ends) covers));
  cuts = counts ∙ ap (cut_count extent) count;
}

-- at most one more trace is cut off
cut-by : (extent : Extent) (n k : ℕ) → n ≤ k → cut_count extent n ≤ k + 1
cut-by extent.Whole n k few = omega (arith, few)
cut-by extent.CutOff n k few = omega (arith, few)

pub cut-rises :
    {S : Type 0} (opens : Opening S) (i : Inputs) (x : Coverage) (name : Text) (from to : S) (old new : Gleaned) (k : ℕ) → GoesThrough opens i x name from to old new → old.cut ≤ k → new.cut ≤ k + 1
cut-rises opens i x name from to old new k gone few = subst (λ (n : ℕ). n ≤ k + 1) (sym gone.cuts) (cut-by gone.extent old.cut k few)

-- ---- All traces

through-more :
    {S : Type 0} (opens : Opening S) (i : Inputs) (x : Coverage) (names : List Text) (name : Text) (from mid to : S) (old m new : Gleaned) → GoThrough opens i x names from mid old m
    → GoesThrough opens i x name mid to m new → GoThrough opens i x (names ++ name ∷ []) from to old new
through-more {S} opens i x [] name from mid to old m new gone one = (
  to,
  new,
  subst (λ (s : S). GoesThrough opens i x name s to old new) gone.0 (subst (λ (k : Gleaned). GoesThrough opens i x name mid to k new) gone.1 one),
  (refl, refl),
)
through-more opens i x (n ∷ names) name from mid to old m new gone one = (gone.0, gone.1, gone.2, through-more opens i x names name gone.0 mid to gone.1 m new gone.3 one)

module _ {S : Type 0} (opens : Opening S) (i : Inputs) (x : Coverage) (first : Gleaned) (is_first : IsFirst i first) where
  abbrev own : List (Bor Text)
  own = x.traces.items

  -- one more trace
  pub gone-more :
      (k : ℕ) (d : Bor Text) (from mid to : S) (m new : Gleaned) → k < length own → GoThrough opens i x (map now (take k own)) from mid first m
      → GoesThrough opens i x (get_or own k d).now mid to m new → GoThrough opens i x (map now (take (k + 1) own)) from to first new
  gone-more k d from mid to m new within gone one =
      subst (λ (names : List Text). GoThrough opens i x names from to first new)
      (sym (ap (map now) (take_more own k d within) ∙ map-append now (take k own) (get_or own k d ∷ [])))
      (through-more opens i x (map now (take k own)) (get_or own k d).now from mid to first m new gone one)

  -- a trace that is not gone through
  pub stops-at :
      (k : ℕ) (d : Bor Text) (from mid to : S) (m : Gleaned) (note : Noted) (f : Failure) → k < length own → GoThrough opens i x (map now (take k own)) from mid first m
      → IsStopped opens i x (get_or own k d).now mid to note f → AreStopped opens i x from to note f
  stops-at k d from mid to m note f within gone is = by f is
    where
      all : (g : Failure) → IsStopped opens i x (get_or own k d).now mid to note g → StopsAt opens i x from to note g
      all g stopped = record {
        before = map now (take k own);
        name = (get_or own k d).now;
        following = map now (drop (k + 1) own);
        parts =
            sym (ap (map now) (take-append-drop k own)) ∙ map-append now (take k own) (drop k own)
            ∙ ap (λ (zs : List Text). map now (take k own) ++ zs) (ap (map now) (drop_more own k d within));
        between = mid;
        first = first;
        is_first = is_first;
        gleaned = m;
        gone = gone;
        stopped = stopped;
      }

      by : (g : Failure) → IsStopped opens i x (get_or own k d).now mid to note g → AreStopped opens i x from to note g
      by (Refused refusal) is = all (Refused refusal) is
      by (RefusedTrace text) is = all (RefusedTrace text) is
      by File is = all File is
      by Memory is = inr (all Memory is)
      by (Write n) is = absurd is
      by (Line message) is = absurd is
      by BadOption is = absurd is

  -- the same of a list that is these traces
  pub gone-more-of :
      (us : List (Bor Text)) (k : ℕ) (d : Bor Text) (from mid to : S) (m new : Gleaned) → us ≡ own → k < length us → GoThrough opens i x (map now (take k own)) from mid first m
      → GoesThrough opens i x (get_or us k d).now mid to m new → GoThrough opens i x (map now (take (k + 1) own)) from to first new
  gone-more-of us k d from mid to m new same within gone one =
      gone-more k d from mid to m new (subst (λ (vs : List (Bor Text)). k < length vs) same within) gone
      (subst (λ (vs : List (Bor Text)). GoesThrough opens i x (get_or vs k d).now mid to m new) same one)

  pub stops-at-of :
      (us : List (Bor Text)) (k : ℕ) (d : Bor Text) (from mid to : S) (m : Gleaned) (note : Noted) (f : Failure) → us ≡ own → k < length us
      → GoThrough opens i x (map now (take k own)) from mid first m → IsStopped opens i x (get_or us k d).now mid to note f → AreStopped opens i x from to note f
  stops-at-of us k d from mid to m note f same within gone is =
      stops-at k d from mid to m note f (subst (λ (vs : List (Bor Text)). k < length vs) same within) gone
      (subst (λ (vs : List (Bor Text)). IsStopped opens i x (get_or vs k d).now mid to note f) same is)

  -- after the last
  pub gone-all :
      (us : List (Bor Text)) (k : ℕ) (from to : S) (m : Gleaned) → us ≡ own → length us ≤ k → GoThrough opens i x (map now (take k own)) from to first m
      → AreGoneThrough opens i x from to m
  gone-all us k from to m same past gone = (
    first,
    is_first,
    subst (λ (vs : List (Bor Text)). GoThrough opens i x (map now vs) from to first m)
        (take_all k own (subst (λ (vs : List (Bor Text)). length vs ≤ k) same past)) gone,
  )

-- ---- The report

pub report_is :
    (i : Inputs) (x : Coverage) (g : Gleaned) (front text : Text) (n : ℕ) → front ≡ report_text i.library (system_of i) g.marks → text ≡ front ++ cut_line g.cut n
    → n ≡ length x.traces.items → text ≡ coverage_text i x g
report_is i x g front text n reported put many =
    put ∙ ap (λ (t : Text). t ++ cut_line g.cut n) reported ∙ ap (λ (k : ℕ). report_text i.library (system_of i) g.marks ++ cut_line g.cut k) many

-- ---- Ends

module _ {S : Type 0} (opens : Opening S) (given : Given) (x : Coverage) where
  -- nothing is reported where the inputs are refused
  pub refused : (from : S) (note : Noted) (f : Failure) → IsUnnoted note → IsUndeclared given f → IsUnreported opens given x from from note f
  refused from note (Refused refusal) none is = inl (is, refl, none)
  refused from note Memory none is = inl none
  refused from note (RefusedTrace text) none is = absurd is
  refused from note File none is = absurd is
  refused from note (Write n) none is = absurd is
  refused from note (Line message) none is = absurd is
  refused from note BadOption none is = absurd is

  -- nothing is reported where a trace is not gone through
  pub may-stop : (i : Inputs) (from to : S) (note : Noted) (f : Failure) → Declares given i → AreStopped opens i x from to note f → IsUnreported opens given x from to note f
  may-stop i from to note (Refused refusal) declared is = inr (i, declared, is)
  may-stop i from to note (RefusedTrace text) declared is = (i, declared, is)
  may-stop i from to note File declared is = (i, declared, is)
  may-stop i from to note Memory declared is = inr (i, declared, is)
  may-stop i from to note (Write n) declared is = absurd is
  may-stop i from to note (Line message) declared is = absurd is
  may-stop i from to note BadOption declared is = absurd is

  pub reported :
      (i : Inputs) (from to : S) (text : Text) (less : Bool) → Declares given i
      → (g : Gleaned) × AreGoneThrough opens i x from to g × (text ≡ coverage_text i x g) × (less ≡ is_too_little i x.least g.marks) → IsReport opens given x from to text less
  reported i from to text less declared is = record { inputs = i; declared = declared; gleaned = is.0; gone = is.1; is = is.2; less = is.3 }

  -- the report is written
  pub written :
      (from to : S) (old new : Held) (note : Noted) (text bytes : Text) (less : Bool) (d : Done) → IsUnnoted note → IsReport opens given x from to text less → bytes ≡ text → Appends old new bytes → d ≡ covered_by less
      → WritesReport opens given x from to old new note (Ok d)
  written from to old new note text bytes true d none is same got by =
      subst (λ (e : Done). WritesReport opens given x from to old new note (Ok e)) (sym by) (text, is, subst (Appends old new) same got, none)
  written from to old new note text bytes false d none is same got by =
      subst (λ (e : Done). WritesReport opens given x from to old new note (Ok e)) (sym by) (text, is, subst (Appends old new) same got, none)

  -- a failure that is passed on writes nothing
  pub unreported : (from to : S) (old : Held) (note : Noted) (end : End) (f : Failure) → IsErrAnd end (λ g. g ≡ f) → IsUnreported opens given x from to note f → WritesReport opens given x from to old old note end
  unreported from to old note (Ok d) f bad is = absurd bad
  unreported from to old note (Err g) f same is = by g (subst (IsUnreported opens given x from to note) (sym same) is)
    where
      by : (g : Failure) → IsUnreported opens given x from to note g → WritesReport opens given x from to old old note (Err g)
      by (Refused refusal) is = (is, refl)
      by (RefusedTrace text) is = (is, refl)
      by File is = (is, refl)
      by Memory is = (is, refl)
      by (Write n) is = absurd is
      by (Line message) is = absurd is
      by BadOption is = absurd is

  -- a report of which a part is written
  pub unwritten :
      (from to : S) (old new : Held) (note : Noted) (text bytes : Text) (less : Bool) (end : End) (f : Failure) → IsUnnoted note → IsReport opens given x from to text less → bytes ≡ text → IsErrAnd end (λ g. g ≡ f)
      → WritesPart old new bytes f → WritesReport opens given x from to old new note end
  unwritten from to old new note text bytes less (Ok d) f none is same bad part = absurd bad
  unwritten from to old new note text bytes less (Err g) f none is same passed part = by g (subst (WritesPart old new bytes) (sym passed) part)
    where
      by : (g : Failure) → WritesPart old new bytes g → WritesReport opens given x from to old new note (Err g)
      by (Write n) part = (bytes, less, subst (λ (z : Text). IsReport opens given x from to z less) (sym same) is, part, none)
      by (Refused refusal) part = absurd part
      by (RefusedTrace message) part = absurd part
      by File part = absurd part
      by Memory part = absurd part
      by (Line message) part = absurd part
      by BadOption part = absurd part

-- the failure of a file that is not read
pub reported-failure : (failed : Failure) (fault : SourceFault) → failed ≡ failure_of_source fault → ◌≡◌ {A = End} (Err failed) (Err (failure_of_source fault))
reported-failure failed fault is = ap (λ (f : Failure). Err f) is

-- the note to a line of a trace, which is named where there are several
pub trace-noted :
    (x : Coverage) (i : Inputs) (r : RefusedLine) (several : Bool) (front name : Text) (line : ℕ) (note : Noted) → several ≡ are_several x → front ≡ note_front several name
    → IfOk note (Notes x.why (SaysInside i r front line)) → IfOk note (Notes x.why (SaysInside i r (note_front (are_several x) name) line))
trace-noted x i r several front name line note same is said =
    subst (λ (f : Text). IfOk note (Notes x.why (SaysInside i r f line))) (is ∙ ap (λ (b : Bool). note_front b name) same) said
