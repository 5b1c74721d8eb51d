-- The note to the line at which a trace is refused.
use Rattle.fbsim_command.proofs.lemmas.Common.{◌≡◌, ◌≤◌, ℕ, Bool, Option, Some, None, Result, Ok, Err, sym, ap, subst, ◌∙◌, refl, IfErr, IfOk, IfSome, Inputs, system_of, Given, Declares, End, Held, Failure, Noted, Notes, OfRefusal, RunError, ReadError, Refused, File, Memory, Write}
use Rattle.fb_types.proofs.Common.{MatchOption, codes, true}
use Rattle.clap.specs.Words.{Text}
use Rattle.fb_read.specs.Errors.{number_of as read_number}
use Rattle.fb_read.specs.declared.error.ReadError.TheVariants as read
use Rattle.fb_check.specs.Refusals as check
use Rattle.fb_inputs.specs.Refusals as input
use Rattle.fb_inspect.specs.OfSystem.{IsWrongFor}
use Rattle.fb_inspect.specs.walk.Looks.{most}
use Rattle.fb_wave.specs.Named.{HasNames}
use Rattle.fb_inspect.specs.declared.error.InspectError.{InspectError}
use Rattle.fb_inspect.specs.declared.error.InspectError.TheVariants as inspection
use Rattle.fb_inspect.specs.declared.refused.finding.RefusedLine.{RefusedLine}
use Rattle.fb_sim.specs.declared.outcome.Refusal.TheVariants as of
use Rattle.fb_sim.specs.declared.outcome.RunError.TheVariants as run
use Rattle.fb_wave.specs.CurrentLines.{IsRefusedLine}
use Rattle.fb_wave.specs.declared.current_line.CurrentLine.{CurrentLine}
use Rattle.fb_wave.specs.declared.error.WaveError.{WaveError}
use Rattle.fb_wave.specs.declared.error.WaveError.TheVariants as wave
use Rattle.fbsim_command.specs.Failures.{IsInspectionFailure, IsWaveFailure, failure_of, failure_of_read, numbered_input}
use Rattle.fbsim_command.specs.InsideNotes as inside
use Rattle.fbsim_command.specs.InsideNotes.{IsFoundAt, NotesInside, SaysGone, SaysInside}
use Rattle.fbsim_command.specs.LineNotes as line_notes
use Rattle.fbsim_command.specs.LineNotes.{NotesLine}
use Rattle.fbsim_command.specs.Outcomes.{IsUndeclared}
use Rattle.fbsim_command.specs.OfSystem.{SaysLine, SaysWritten}
use Rattle.fbsim_command.specs.declared.statuses.Done.{Done}
use Rattle.fbsim_command.proofs.lemmas.notes.Noting.{asked-for}
use Rattle.fbsim_command.specs.declared.failure.RefusalLine.TheVariants.{Numbered, Trace}

-- ---- Inputs that are refused

no_number : (o : Option ℕ) (line : ℕ) → numbered_input o ≡ Refused (Trace line) → ⊥
no_number (Some n) line is = absurd cc
no_number None line is = absurd cc

no_reading : (e : ReadError) (line : ℕ) → failure_of_read e ≡ Refused (Trace line) → ⊥
no_reading read.Memory line is = no_number (read_number read.Memory) line is
no_reading read.Byte line is = no_number (read_number read.Byte) line is
no_reading read.Token line is = no_number (read_number read.Token) line is
no_reading (read.Syntax n) line is = absurd cc
no_reading read.TooLong line is = no_number (read_number read.TooLong) line is
no_reading read.Nesting line is = no_number (read_number read.Nesting) line is

no_trace : (e : RunError) (line : ℕ) → failure_of e ≡ Refused (Trace line) → ⊥
no_trace (run.Refused (of.Declaration e)) line is = no_reading e line is
no_trace (run.Refused (of.Deployment e)) line is = no_number (input.number_of e) line is
no_trace (run.Refused (of.Stimuli e)) line is = no_number (input.number_of e) line is
no_trace (run.Refused (of.Check e)) line is = no_number (check.number_of e) line is
no_trace run.Memory line is = absurd cc
no_trace (run.Write n) line is = absurd cc
no_trace run.BadOption line is = absurd cc
no_trace run.Failed line is = absurd cc

-- no line of a trace is at fault where the inputs are refused
pub undeclared-line : (given : Given) (f : Failure) (line : ℕ) → IsUndeclared given f → ◌≡◌ {A = End} (Err f) (Err (Refused (Trace line))) → ⊥
undeclared-line given f line is same =
    let failed : f ≡ Refused (Trace line) = cc in
    let refused = subst (IsUndeclared given) failed is in
    no_trace refused.error line refused.reported

-- ---- Lines of a walk

-- the note to a walk that has refused a trace
pub gone-noted :
    (why : Bool) (i : Inputs) (r : RefusedLine) (gone : Result (Unit {0}) InspectError) (o : Option ℕ) (line : ℕ) (note : Noted) → o ≡ inside.refused_at gone → o ≡ Some line
    → IfOk note (Notes why (SaysInside i r (codes "trace") line)) → IfOk note (Notes why (SaysGone i r gone))
gone-noted why i r gone o line note at is said =
    subst (λ (p : Option ℕ). IfOk note (Notes why (λ (n : Option Text). MatchOption p (n ≡ None) (λ l. SaysInside i r (codes "trace") l n)))) (sym is ∙ at) said

-- there is none to another one
pub gone-unnoted :
    (why : Bool) (i : Inputs) (r : RefusedLine) (gone : Result (Unit {0}) InspectError) (o : Option ℕ) → o ≡ inside.refused_at gone → o ≡ None → Notes why (SaysGone i r gone) None
gone-unnoted why i r gone o at is = λ asked.
    subst (λ (p : Option ℕ). MatchOption p (◌≡◌ {A = Option Text} None None) (λ l. SaysInside i r (codes "trace") l None)) (sym is ∙ at) refl

-- nothing is said of a trace that is not refused
none-inside :
    (why : Bool) (given : Given) (steps : ℕ) (trace : Held) (end : End) (note : Noted) → ((line : ℕ) → end ≡ Err (Refused (Trace line)) → ⊥) → IfOk note (Notes why (λ n. n ≡ None))
    → IfOk note (NotesInside why given steps trace end)
none-inside why given steps trace end (Err e) other said = tt
none-inside why given steps trace end (Ok None) other said = λ asked line same. absurd (other line same)
none-inside why given steps trace end (Ok (Some n)) other said = absurd (let bad : ◌≡◌ {A = Option Text} (Some n) None = said.1 in cc)

the-same : {f g h : Failure} → f ≡ g → ◌≡◌ {A = End} (Err f) (Err h) → g ≡ h
the-same {f} {g} {h} is same = let b : f ≡ h = cc in sym is ∙ b

-- what is said of a line at which it is
inside-line :
    (why : Bool) (given : Given) (steps : ℕ) (trace : Held) (i : Inputs) (r : RefusedLine) (line : ℕ) (failed : Failure) (note : Noted) → Declares given i → failed ≡ Refused (Trace line) → IsFoundAt i steps trace line r
    → IfOk note (Notes why (SaysInside i r (codes "trace") line)) → IfOk note (NotesInside why given steps trace (Err failed))
inside-line why given steps trace i r line failed (Err e) declares is found said = tt
inside-line why given steps trace i r line failed (Ok None) declares is found said = λ asked other same.
    let both : Refused (Trace line) ≡ Refused (Trace other) = the-same is same in
    let here : line ≡ other = cc in
    (i, declares, (r, subst (λ (k : ℕ). IsFoundAt i steps trace k r) here found, said asked))
inside-line why given steps trace i r line failed (Ok (Some n)) declares is found said =
    (said.0, (line, ap (λ (f : Failure). let e : End = Err f in e) is, (i, declares, (r, found, said.1))))

pub inside-noted :
    (why : Bool) (given : Given) (steps : ℕ) (trace : Held) (i : Inputs) (r : RefusedLine) (gone : Result (Unit {0}) InspectError) (e : InspectError) (failed : Failure) (note : Noted) → Declares given i → gone ≡ Err e
    → IfErr gone (OfRefusal (λ line. IsFoundAt i steps trace line r)) → IsInspectionFailure e failed → IfOk note (Notes why (SaysGone i r gone)) → IfOk note (NotesInside why given steps trace (Err failed))
inside-noted why given steps trace i r gone e failed note declares is found reported said =
    by e (subst (λ (g : Result (Unit {0}) InspectError). IfErr g (OfRefusal (λ line. IsFoundAt i steps trace line r))) is found) reported
    (subst (λ (g : Result (Unit {0}) InspectError). IfOk note (Notes why (SaysGone i r g))) is said)
  where
    other : (f : Failure) → failed ≡ f → ((line : ℕ) → f ≡ Refused (Trace line) → ⊥) → IfOk note (Notes why (λ n. n ≡ None)) → IfOk note (NotesInside why given steps trace (Err failed))
    other f same none = none-inside why given steps trace (Err failed) note (λ line bad. none line (the-same same bad))

    by : (e : InspectError) → OfRefusal (λ line. IsFoundAt i steps trace line r) e → IsInspectionFailure e failed → IfOk note (Notes why (SaysGone i r (Err e))) → IfOk note (NotesInside why given steps trace (Err failed))
    by (inspection.Refused line) found reported said = inside-line why given steps trace i r line failed note declares reported found said
    by inspection.Names found reported said = absurd reported
    by inspection.Unknown found reported said = other (Refused (Numbered 21)) reported (λ line bad. absurd cc) said
    by inspection.Memory found reported said = other Memory reported (λ line bad. absurd cc) said
    by inspection.Read found reported said = other File reported (λ line bad. absurd cc) said
    by (inspection.Write n) found reported said = other (Write n) reported (λ line bad. absurd cc) said

-- nothing is said of a trace that is gone through
pub inside-unnoted :
    (why : Bool) (given : Given) (steps : ℕ) (trace : Held) (i : Inputs) (r : RefusedLine) (gone : Result (Unit {0}) InspectError) (u : Unit {0}) (d : Done) (note : Noted) → gone ≡ Ok u
    → IfOk note (Notes why (SaysGone i r gone)) → IfOk note (NotesInside why given steps trace (Ok d))
inside-unnoted why given steps trace i r gone u d note is said =
    none-inside why given steps trace (Ok d) note (λ line bad. absurd cc) (subst (λ (g : Result (Unit {0}) InspectError). IfOk note (Notes why (SaysGone i r g))) is said)

-- nothing is said where the inputs are refused
pub inside-undeclared : (why : Bool) (given : Given) (steps : ℕ) (trace : Held) (failed : Failure) → IsUndeclared given failed → NotesInside why given steps trace (Err failed) None
inside-undeclared why given steps trace failed is = λ asked line same. absurd (undeclared-line given failed line is same)

-- what was found holds under the premise of the walk
pub found-so : {A : Type 0} (H L : Type 0) (W : ℕ → Type 0) (r : Result A InspectError) → H → (H → L → IfErr r (OfRefusal W)) → IfErr r (OfRefusal (λ n. L → W n))
found-so H L W (Ok x) has found = tt
found-so H L W (Err (inspection.Refused n)) has found = λ few. found has few
found-so H L W (Err inspection.Names) has found = tt
found-so H L W (Err inspection.Unknown) has found = tt
found-so H L W (Err inspection.Memory) has found = tt
found-so H L W (Err inspection.Read) has found = tt
found-so H L W (Err (inspection.Write n)) has found = tt

-- what was found at the line for which a walk refuses a trace
pub found-covered :
    {A : Type 0} (i : Inputs) (steps : ℕ) (trace : Held) (found : RefusedLine) (r : Result A InspectError) (e : InspectError) → HasNames (system_of i) → r ≡ Err e
    → (HasNames (system_of i) → steps ≤ most → IfErr r (OfRefusal (λ n. IfSome trace (IsWrongFor i steps (record { number = n; finding = found.finding }) found.current.text.items))))
    → OfRefusal (λ n. IsFoundAt i steps trace n found) e
found-covered {A} i steps trace found r e names is says =
    subst (λ (s : Result A InspectError). IfErr s (OfRefusal (λ n. IsFoundAt i steps trace n found))) is
    (found-so (HasNames (system_of i)) (steps ≤ most) (λ n. IfSome trace (IsWrongFor i steps (record { number = n; finding = found.finding }) found.current.text.items)) r names says)

-- ---- Lines of a dump

-- the note to a trace that was refused
pub written-noted :
    (why : Bool) (i : Inputs) (x : CurrentLine) (written : Result (Unit {0}) WaveError) (o : Option ℕ) (line : ℕ) (note : Noted) → o ≡ line_notes.refused_at written → o ≡ Some line → why ≡ true
    → IfOk note (SaysLine i x line) → IfOk note (Notes why (SaysWritten i x written))
written-noted why i x written o line note at is asked said =
    subst (λ (p : Option ℕ). IfOk note (Notes why (λ (n : Option Text). MatchOption p (n ≡ None) (λ l. SaysLine i x l n)))) (sym is ∙ at) (asked-for why (SaysLine i x line) note asked said)

-- there is none to another one
pub written-unnoted :
    (why : Bool) (i : Inputs) (x : CurrentLine) (written : Result (Unit {0}) WaveError) (o : Option ℕ) → o ≡ line_notes.refused_at written → o ≡ None → Notes why (SaysWritten i x written) None
written-unnoted why i x written o at is = λ asked.
    subst (λ (p : Option ℕ). MatchOption p (◌≡◌ {A = Option Text} None None) (λ l. SaysLine i x l None)) (sym is ∙ at) refl

none-line :
    (why : Bool) (given : Given) (trace : Held) (end : End) (note : Noted) → ((line : ℕ) → end ≡ Err (Refused (Trace line)) → ⊥) → IfOk note (Notes why (λ n. n ≡ None)) → IfOk note (NotesLine why given trace end)
none-line why given trace end (Err e) other said = tt
none-line why given trace end (Ok None) other said = λ asked line same. absurd (other line same)
none-line why given trace end (Ok (Some n)) other said = absurd (let bad : ◌≡◌ {A = Option Text} (Some n) None = said.1 in cc)

refused-line :
    (why : Bool) (given : Given) (trace : Held) (i : Inputs) (x : CurrentLine) (line : ℕ) (failed : Failure) (note : Noted) → Declares given i → failed ≡ Refused (Trace line) → IsRefusedLine (system_of i) trace x (wave.Refused line)
    → IfOk note (Notes why (SaysLine i x line)) → IfOk note (NotesLine why given trace (Err failed))
refused-line why given trace i x line failed (Err e) declares is refused said = tt
refused-line why given trace i x line failed (Ok None) declares is refused said = λ asked other same.
    let both : Refused (Trace line) ≡ Refused (Trace other) = the-same is same in
    let here : line ≡ other = cc in
    (i, declares, (x, subst (λ (k : ℕ). IsRefusedLine (system_of i) trace x (wave.Refused k)) here refused, said asked))
refused-line why given trace i x line failed (Ok (Some n)) declares is refused said =
    (said.0, (line, ap (λ (f : Failure). let e : End = Err f in e) is, (i, declares, (x, refused, said.1))))

-- what is said of a trace that is not written whole
pub line-noted :
    (why : Bool) (given : Given) (trace : Held) (i : Inputs) (x : CurrentLine) (written : Result (Unit {0}) WaveError) (e : WaveError) (failed : Failure) (note : Noted) → Declares given i → written ≡ Err e
    → IfErr written (IsRefusedLine (system_of i) trace x) → IsWaveFailure e failed → IfOk note (Notes why (SaysWritten i x written)) → IfOk note (NotesLine why given trace (Err failed))
line-noted why given trace i x written e failed note declares is refused reported said =
    by e (subst (λ (w : Result (Unit {0}) WaveError). IfErr w (IsRefusedLine (system_of i) trace x)) is refused) reported
    (subst (λ (w : Result (Unit {0}) WaveError). IfOk note (Notes why (SaysWritten i x w))) is said)
  where
    other : (f : Failure) → failed ≡ f → ((line : ℕ) → f ≡ Refused (Trace line) → ⊥) → IfOk note (Notes why (λ n. n ≡ None)) → IfOk note (NotesLine why given trace (Err failed))
    other f same none = none-line why given trace (Err failed) note (λ line bad. none line (the-same same bad))

    by : (e : WaveError) → IsRefusedLine (system_of i) trace x e → IsWaveFailure e failed → IfOk note (Notes why (SaysWritten i x (Err e))) → IfOk note (NotesLine why given trace (Err failed))
    by (wave.Refused line) refused reported said = refused-line why given trace i x line failed note declares reported refused said
    by wave.Names refused reported said = absurd reported
    by wave.Memory refused reported said = other Memory reported (λ line bad. absurd cc) said
    by wave.Read refused reported said = other File reported (λ line bad. absurd cc) said
    by (wave.Write n) refused reported said = other (Write n) reported (λ line bad. absurd cc) said

-- nothing is said of one that is
pub line-unnoted :
    (why : Bool) (given : Given) (trace : Held) (i : Inputs) (x : CurrentLine) (written : Result (Unit {0}) WaveError) (u : Unit {0}) (d : Done) (note : Noted) → written ≡ Ok u
    → IfOk note (Notes why (SaysWritten i x written)) → IfOk note (NotesLine why given trace (Ok d))
line-unnoted why given trace i x written u d note is said =
    none-line why given trace (Ok d) note (λ line bad. absurd cc) (subst (λ (w : Result (Unit {0}) WaveError). IfOk note (Notes why (SaysWritten i x w))) is said)

-- nothing is said where the inputs are refused
pub line-undeclared : (why : Bool) (given : Given) (trace : Held) (failed : Failure) → IsUndeclared given failed → NotesLine why given trace (Err failed) None
line-undeclared why given trace failed is = λ asked line same. absurd (undeclared-line given failed line is same)
