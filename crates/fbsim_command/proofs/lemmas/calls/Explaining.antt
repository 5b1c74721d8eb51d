-- What an output gets of an explanation.
use Rattle.fbsim_command.proofs.lemmas.Common.{◌≡◌, ◌∙◌, ℕ, true, List, Option, Result, Ok, Err, sym, subst, Appends, IsErrAnd, WritesPart, Failure, Refused, RefusedTrace, File, Write, Memory, Line, BadOption}
use Rattle.std.specs.Str.{str_eq_ignore_ascii_case}
use Rattle.fb_why.specs.declared.table.Explanation.{Explanation}
use Rattle.fbsim_command.specs.Command.{ExplainsRefusal, IsRefusalName}
use Rattle.fbsim_command.specs.Failures.{IsPartWritten, explained_text}
use Rattle.fbsim_command.specs.declared.statuses.Done.{Done}
use Rattle.fbsim_command.specs.declared.statuses.Done.TheVariants.{Explained}

module _
    (e : Explanation) (name : List ℕ) (old new : Option (List ℕ)) (bytes text first second : List ℕ)
    (is : text ≡ explained_text e.name.now e.meaning.now first second e.look.now) (named : str_eq_ignore_ascii_case e.name.now name ≡ true) (there : IsRefusalName name) (same : bytes ≡ text)
  where
    shown : bytes ≡ explained_text e.name.now e.meaning.now first second e.look.now
    shown = same ∙ is

    -- all of it
    pub explains : Appends old new bytes → ExplainsRefusal name old new (Ok Explained)
    explains got = (there, e, first, second, named, subst (Appends old new) shown got)

    -- a part
    part : (f : Failure) → WritesPart old new bytes f → ExplainsRefusal name old new (Err f)
    part (Refused refusal) got = absurd got
    part (RefusedTrace text) got = absurd got
    part File got = absurd got
    part (Write n) got = (there, e, first, second, named, subst (λ (bs : List ℕ). IsPartWritten old new bs n) shown got)
    part Memory got = absurd got
    part (Line message) got = absurd got
    part BadOption got = absurd got

    pub explains_part : (r : Result Done Failure) (f : Failure) → IsErrAnd r (λ g. g ≡ f) → WritesPart old new bytes f → ExplainsRefusal name old new r
    explains_part (Ok d) f bad got = absurd bad
    explains_part (Err g) f fault got = part g (subst (WritesPart old new bytes) (sym fault) got)
