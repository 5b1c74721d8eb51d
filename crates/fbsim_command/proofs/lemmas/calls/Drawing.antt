-- How a call for a graph ends.
use Rattle.fbsim_command.proofs.lemmas.Common.{◌≡◌, ◌⊎◌, ℕ, Bool, true, false, List, Option, Some, None, Result, Ok, Err, refl, sym, ◌∙◌, ap, subst, inl, inr, Vec, IfOk, IfSome, option_map, Inputs, Library, IsErrAnd, Given, Declares, WritesPart, failure_of_source, Noted, NotesInput, NotesOf, End, Held, EndsIn, Reading, AreRead, IsUnread, Task, SourceFault, Part, Failure, Refused, RefusedTrace, File, Write, Memory, Line, BadOption}
use Rattle.fbsim_command.specs.Outcomes.{IsUndeclared}
use Rattle.fb_types.proofs.Common.{is_some, option_and_then}
use Rattle.fb_types.specs.declared.deploy.Plan.{Plan}
use Rattle.clap.specs.Words.{Text}
use Rattle.fb_draw.specs.Drawings.{graph_text}
use Rattle.fb_inputs.specs.Words.{name}
use Rattle.fbsim_command.specs.Drawing.{Draws, IsGraph, IsUndrawn, NotesType, WritesGraph, files_of, graph_of, type_asked}
use Rattle.fbsim_command.specs.Notes.{Follows}
use Rattle.fbsim_command.proofs.lemmas.notes.Noting.{first-then}
use Rattle.fbsim_line.specs.declared.draw_line.Draw.{Draw}
use Rattle.fbsim_command.specs.declared.join.FileLines.{FileLines}
use Rattle.fbsim_command.specs.declared.failure.RefusalLine.TheVariants.{Numbered}

-- ---- What is drawn

abbrev bytes_of : Option (Vec ℕ) → Option (List ℕ)
bytes_of o = option_map (λ v. v.items) o

-- the application
pub whole :
    {E : Type 0} (r : Result (Option (Vec ℕ)) E) (i : Inputs) (library : Library) (plan : Plan) (asked : Option Text) → library ≡ i.library → plan ≡ i.plan → asked ≡ None
    → IfOk r (λ g. bytes_of g ≡ graph_text library plan None) → IfOk r (λ g. bytes_of g ≡ graph_of i asked)
whole (Ok g) i library plan asked same planned none drawn = drawn ∙ (λ k. graph_text (same k) (planned k) None) ∙ ap (graph_of i) (sym none)
whole (Err e) i library plan asked same planned none drawn = tt

-- the type that a text names
pub named :
    {E : Type 0} (r : Result (Option (Vec ℕ)) E) (i : Inputs) (library : Library) (plan : Plan) (asked : Option Text) (text n : Text) → library ≡ i.library → plan ≡ i.plan
    → asked ≡ Some text → name text ≡ Some n → IfOk r (λ g. bytes_of g ≡ graph_text library plan (Some n)) → IfOk r (λ g. bytes_of g ≡ graph_of i asked)
named (Ok g) i library plan asked text n same planned is names drawn =
    drawn ∙ (λ k. graph_text (same k) (planned k) (Some n)) ∙ ap (option_and_then (λ (n : Text). graph_text i.library i.plan (Some n))) (sym names) ∙ ap (graph_of i) (sym is)
named (Err e) i library plan asked text n same planned is names drawn = tt

-- a text that is no name
pub unnamed : (i : Inputs) (asked : Option Text) (text : Text) → asked ≡ Some text → name text ≡ None → None ≡ graph_of i asked
unnamed i asked text is none = ap (option_and_then (λ (n : Text). graph_text i.library i.plan (Some n))) (sym none) ∙ ap (graph_of i) (sym is)

-- what came of accepted inputs is their graph
pub drawn : (given : Given) (i : Inputs) (asked : Option Text) (o : Option (Vec ℕ)) (v : Vec ℕ) → Declares given i → bytes_of o ≡ graph_of i asked → o ≡ Some v → IsGraph given asked v.items
drawn given i asked o v declared same is = record { inputs = i; declared = declared; graph = sym same ∙ ap bytes_of is }

-- there is none
pub undeclared : (given : Given) (i : Inputs) (asked : Option Text) (o : Option (Vec ℕ)) → Declares given i → bytes_of o ≡ graph_of i asked → o ≡ None → IsUndrawn given asked (Refused (Numbered 21))
undeclared given i asked o declared same none = inr (record { inputs = i; declared = declared; none = sym same ∙ ap bytes_of none }, refl)

-- there is none where none was drawn
pub no_graph : (o : Option (Vec ℕ)) (g : Option Text) (there : Bool) → bytes_of o ≡ g → there ≡ is_some o → there ≡ false → g ≡ None
no_graph None g there same is so = sym same
no_graph (Some v) g there same is so = absurd (let bad : false ≡ true = sym so ∙ is in cc)

-- ---- How a call ends

-- nothing is drawn where the inputs are refused
pub refused : (given : Given) (asked : Option Text) (f : Failure) → IsUndeclared given f → IsUndrawn given asked f
refused given asked (Refused refusal) is = inl is
refused given asked Memory is = tt
refused given asked (RefusedTrace text) is = absurd is
refused given asked File is = absurd is
refused given asked (Write n) is = absurd is
refused given asked (Line message) is = absurd is
refused given asked BadOption is = absurd is

-- a failure that is passed on writes nothing
pub undrawn : (given : Given) (asked : Option Text) (old : Held) (end : End) (f : Failure) → IsErrAnd end (λ g. g ≡ f) → IsUndrawn given asked f → WritesGraph given asked old old end
undrawn given asked old (Ok d) f bad is = absurd bad
undrawn given asked old (Err g) f same is = by g (subst (IsUndrawn given asked) (sym same) is)
  where
    by : (g : Failure) → IsUndrawn given asked g → WritesGraph given asked old old (Err g)
    by (Refused refusal) is = (is, refl)
    by Memory is = refl
    by (RefusedTrace text) is = absurd is
    by File is = absurd is
    by (Write n) is = absurd is
    by (Line message) is = absurd is
    by BadOption is = absurd is

-- a graph of which a part is written
pub unwritten :
    (given : Given) (asked : Option Text) (old new : Held) (text bytes : Text) (end : End) (f : Failure) → IsGraph given asked text → bytes ≡ text → IsErrAnd end (λ g. g ≡ f)
    → WritesPart old new bytes f → WritesGraph given asked old new end
unwritten given asked old new text bytes (Ok d) f is same bad part = absurd bad
unwritten given asked old new text bytes (Err g) f is same passed part = by g (subst (WritesPart old new bytes) (sym passed) part)
  where
    by : (g : Failure) → WritesPart old new bytes g → WritesGraph given asked old new (Err g)
    by (Write n) part = (bytes, subst (IsGraph given asked) (sym same) is, part)
    by (Refused refusal) part = absurd part
    by (RefusedTrace message) part = absurd part
    by File part = absurd part
    by Memory part = absurd part
    by (Line message) part = absurd part
    by BadOption part = absurd part

-- ---- What was read

-- the files are read, and the graph is written
pub read_and_drawn :
    {S : Type 0} (reads : Reading S) (from to : S) (types : List Text) (d : Draw) (old new : Held) (lines : List FileLines) (given : Given) (task : Task) (own : Given) (inner end : End)
    (note line : Noted) → task ≡ files_of d → own ≡ given → AreRead reads types task from to lines given → WritesGraph own (type_asked d) old new inner
    → IfOk line (NotesType d own inner) → Follows line (NotesOf types task lines given inner) note → EndsIn types d.declaration.now lines inner end
    → Draws reads from to types d old new end note
read_and_drawn reads from to types d old new lines given task own inner end note line as_task as_given was_read done of_line last ends =
    inl
    (record {
      lines = lines;
      given = given;
      read = subst (λ (k : Task). AreRead reads types k from to lines given) as_task was_read;
      inner = inner;
      done = subst (λ (z : Given). WritesGraph z (type_asked d) old new inner) as_given done;
      noted = first-then (NotesType d given inner) (NotesOf types (files_of d) lines given inner) line note (subst (λ (z : Given). IfOk line (NotesType d z inner)) as_given of_line)
          (subst (λ (k : Task). Follows line (NotesOf types k lines given inner) note) as_task last);
      ends = ends;
    })

-- a file is not read
pub not_read :
    {S : Type 0} (reads : Reading S) (from to : S) (types : List Text) (d : Draw) (same : Held) (task : Task) (part : Part) (fault : SourceFault) (failed : Failure) (note : Noted)
    → task ≡ files_of d → failed ≡ failure_of_source fault → IsUnread reads types task from to part fault → IfOk note (NotesInput types task part fault)
    → Draws reads from to types d same same (Err failed) note
not_read reads from to types d same task part fault failed note as_task is unread noted =
    inr
    (record {
      part = part;
      fault = fault;
      unread = subst (λ (k : Task). IsUnread reads types k from to part fault) as_task unread;
      failed = ap (λ (f : Failure). Err f) is;
      same = refl;
      noted = subst (λ (k : Task). IfOk note (NotesInput types k part fault)) as_task noted;
    })
