-- Two traces that are compared.
use Rattle.fbsim_command.proofs.lemmas.Common.{◌≡◌, Option, Some, None, Ok, Err, refl, sym, ap, subst, inr, codes, option_map, IsTrue, IfErr, IfOk, Noted, Result, ◌∙◌, true, Appends, IsErrAnd, WritesPart, failure_of_source, End, Held, Opening, Failure, Refused, RefusedTrace, File, Write, Memory, Line, BadOption, SourceFault}
use Rattle.clap.specs.Words.{Text}
use Rattle.fb_expect.specs.Parting.{IsUnparted, MayPart}
use Rattle.fb_expect.specs.DifferenceReport.{ShowsDifference}
use Rattle.fbsim_command.specs.Shown.{shown_name}
use Rattle.fb_expect.specs.declared.parting.Difference.{Difference}
use Rattle.fb_expect.specs.declared.parting.PartFault.{PartFault}
use Rattle.fb_expect.specs.declared.parting.PartFault.TheVariants as part_fault
use Rattle.fbsim_command.specs.declared.statuses.Done.TheVariants.{Different}
use Rattle.fbsim_command.specs.Comparing.{AreUnopened, Both, Compares, Differs, IsReported, NotesEither, NotesUnread, SaysPart}
use Rattle.fbsim_command.specs.Failures.{failure_of_part}
use Rattle.fbsim_command.specs.Notes.{rest_note}
use Rattle.fbsim_line.specs.declared.bench_line.Diff.{Diff}

-- a failure that is passed on
pub parted : (d : Diff) (first second a b : Held) (r : End) (f : Failure) → IsErrAnd r (λ g. g ≡ f) → Differs d first second a b (Err f) → Differs d first second a b r
parted d first second a b (Ok x) f bad is = absurd bad
parted d first second a b (Err g) f same is = subst (λ (h : Failure). Differs d first second a b (Err h)) (sym same) is

-- a reader that fails writes nothing
unread : (d : Diff) (first second old : Held) (fault : PartFault) → Differs d first second old old (Err (failure_of_part fault))
unread d first second old part_fault.Memory = refl
unread d first second old part_fault.First = refl
unread d first second old part_fault.Second = refl

pub unread_by : (d : Diff) (first second old : Held) (fault : PartFault) (f : Failure) → f ≡ failure_of_part fault → Differs d first second old old (Err f)
unread_by d first second old fault f same = subst (λ (g : Failure). Differs d first second old old (Err g)) (sym same) (unread d first second old fault)

-- the note to it
pub noted_either :
    (d : Diff) (from to : Both) (fault : PartFault) (f : Failure) (note : Noted) → f ≡ failure_of_part fault → IsUnparted d.is_without_ticks from.first from.second to.first to.second fault
    → IfOk note (NotesUnread d fault) → IfOk note (NotesEither d from to (Err f))
noted_either d from to fault f (Err e) same stands noted = tt
noted_either d from to fault f (Ok (Some note)) same stands noted = (fault, ap (λ (g : Failure). let e : End = Err g in e) same, stands, noted)
noted_either d from to fault f (Ok None) same stands noted = λ asked read. by fault same (noted asked) (let g : f ≡ File = cc in g)
  where
    by : (fault : PartFault) → f ≡ failure_of_part fault → SaysPart d fault None → f ≡ File → ⊥
    by part_fault.Memory same none read = absurd (let bad : Memory ≡ File = sym same ∙ read in cc)
    by part_fault.First same none read = absurd (let bad : ◌≡◌ {A = Option Text} None (Some (rest_note (codes "trace") d.first.now)) = none in cc)
    by part_fault.Second same none read = absurd (let bad : ◌≡◌ {A = Option Text} None (Some (rest_note (codes "trace") d.second.now)) = none in cc)

-- where both are read there is none
pub noted_neither : (d : Diff) (from to : Both) (end : End) → IfErr end (λ f. f ≡ File → ⊥) → NotesEither d from to end None
noted_neither d from to (Ok done) other = λ asked read. absurd (cc)
noted_neither d from to (Err f) other = λ asked read. other (let g : f ≡ File = cc in g)

-- a failure that is passed on is none of a file
pub passed_no_file : {A : Type 0} (r : Result A Failure) (f : Failure) → IsErrAnd r (λ g. g ≡ f) → (f ≡ File → ⊥) → IfErr r (λ g. g ≡ File → ⊥)
passed_no_file (Ok x) f bad other = absurd bad
passed_no_file (Err g) f same other = λ is. other (sym same ∙ is)

pub no_file_written : (old new : Held) (bytes : Text) (f : Failure) → WritesPart old new bytes f → f ≡ File → ⊥
no_file_written old new bytes f part is = subst (WritesPart old new bytes) is part

-- what is reported of two lines
pub reported-of :
    (d : Diff) (first second : Held) (o : Option Difference) (x : Difference) (text : Text) → o ≡ Some x → MayPart d.is_without_ticks first second o → ShowsDifference (shown_name d.first.now) (shown_name d.second.now) d.is_without_ticks x text
    → IsReported d first second text
reported-of d first second o x text is part shows = record { difference = x; part = subst (λ (p : Option Difference). MayPart d.is_without_ticks first second p) is part; shows = shows }

-- it is written
pub wrote : (d : Diff) (first second a b : Held) (text bytes : Text) → bytes ≡ text → IsReported d first second text → Appends a b bytes → Differs d first second a b (Ok Different)
wrote d first second a b text bytes same reported got = (text, reported, subst (λ (z : Text). Appends a b z) same got)

-- the writer fails
pub not_reported : (d : Diff) (first second a b : Held) (text bytes : Text) → bytes ≡ text → IsReported d first second text → (f : Failure) → WritesPart a b bytes f → Differs d first second a b (Err f)
not_reported d first second a b text bytes same reported (Write n) part = (bytes, subst (λ (z : Text). IsReported d first second z) (sym same) reported, part)
not_reported d first second a b text bytes same reported (Refused refusal) part = absurd part
not_reported d first second a b text bytes same reported (RefusedTrace message) part = absurd part
not_reported d first second a b text bytes same reported File part = absurd part
not_reported d first second a b text bytes same reported Memory part = absurd part
not_reported d first second a b text bytes same reported (Line message) part = absurd part
not_reported d first second a b text bytes same reported BadOption part = absurd part

-- a file is not opened
pub unopened :
    {S : Type 0} (opens : Opening S) (from to : S) (d : Diff) (a : Held) (fault : SourceFault) (f : Failure) (note : Noted) → AreUnopened opens from to d fault note → f ≡ failure_of_source fault
    → Compares opens from to d a a (Err f) note
unopened opens from to d a fault f note is same = inr (fault, is, ap (λ (g : Failure). Err g) same, refl)
