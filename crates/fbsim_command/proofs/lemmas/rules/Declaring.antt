-- The declaration in which the names of rules must be, where one is named.
use Rattle.fbsim_command.proofs.lemmas.Common.{◌≡◌, Bor, List, [], map, Option, Some, None, Ok, Err, refl, sym, ap, subst, inl, inr, Given, Holds, types_of, failure_of_source, End, Held, Noted, EndsIn, Reading, AreRead, IsUnread, Opening, Expect, Failure, Task, SourceFault, Part}
use Rattle.clap.specs.Words.{Text}
use Rattle.fbsim_command.specs.Expecting.{AreUnread, Expects, IsUndeclared, MayDeclare, NotesRules, asked_rules, files_of, own_of}
use Rattle.fbsim_command.specs.Notes.{Follows}
use Rattle.fbsim_command.specs.declared.join.FileLines.{FileLines}

pub declares-none : {S : Type 0} (reads : Reading S) (x : Expect) (o : Option (Bor Text)) (s : S) → o ≡ None → MayDeclare reads x o s s [] None
declares-none reads x o s none = subst (λ (o : Option (Bor Text)). MayDeclare reads x o s s [] None) (sym none) (refl, refl)

-- the names of the files of block types, as a slice has them
abbrev names : List (Bor Text) → List Text
names ns = map (λ (n : Bor Text). n.now) ns

pub declares :
    {S : Type 0} (reads : Reading S) (x : Expect) (o : Option (Bor Text)) (name : Bor Text) (old new : S) (lines : List FileLines) (given : Given) (types : List (Bor Text)) (task : Task) → o ≡ Some name
    → types ≡ x.types.items → task ≡ files_of x name → AreRead reads (names types) task old new lines given → MayDeclare reads x o old new lines (Some given)
declares reads x o name old new lines given types task is typed same read =
    subst (λ (o : Option (Bor Text)). MayDeclare reads x o old new lines (Some given)) (sym is)
    (subst (λ (k : Task). AreRead reads (types_of x) k old new lines given) same (subst (λ (ns : List (Bor Text)). AreRead reads (names ns) task old new lines given) typed read))

pub undeclared :
    {S : Type 0} (reads : Reading S) (x : Expect) (o : Option (Bor Text)) (name : Bor Text) (old new : S) (part : Part) (fault : SourceFault) (types : List (Bor Text)) (task : Task) → o ≡ Some name
    → types ≡ x.types.items → task ≡ files_of x name → IsUnread reads (names types) task old new part fault → IsUndeclared reads x o old new part fault
undeclared reads x o name old new part fault types task is typed same unread =
    subst (λ (o : Option (Bor Text)). IsUndeclared reads x o old new part fault) (sym is)
    (subst (λ (k : Task). IsUnread reads (types_of x) k old new part fault) same (subst (λ (ns : List (Bor Text)). IsUnread reads (names ns) task old new part fault) typed unread))

-- ---- The call

module _ {S : Type 0} (reads : Reading S) (opens : Opening S) (x : Expect) (a : Held) where
  -- a file is not read
  pub unread :
      (old new : S) (fault : SourceFault) (f : Failure) (note : Noted) → AreUnread reads x old new fault note → f ≡ failure_of_source fault → Expects reads opens old new x a a (Err f) note
  unread old new fault f note is same = inr (fault, is, ap (λ (g : Failure). let e : End = Err g in e) same, refl)

  -- all are
  pub read-and-held :
      (old mid between new : S) (b : Held) (bytes : Text) (lines : List FileLines) (declared : Option Given) (inner end : End) (of_trace note : Noted) → reads old x.rules.now asked_rules (Ok bytes) mid
      → MayDeclare reads x x.declaration mid between lines declared → Holds opens x between new bytes declared a b of_trace inner → Follows of_trace (NotesRules x bytes lines declared inner) note
      → EndsIn (types_of x) (own_of x.declaration) lines inner end → Expects reads opens old new x a b end note
  read-and-held old mid between new b bytes lines declared inner end of_trace note rules declaration done noted ends =
      inl (record {
        between = between;
        bytes = bytes;
        lines = lines;
        declared = declared;
        read = record { between = mid; rules = rules; declaration = declaration };
        inner = inner;
        of_trace = of_trace;
        done = done;
        noted = noted;
        ends = ends;
      })
