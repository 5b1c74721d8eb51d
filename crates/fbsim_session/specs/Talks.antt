-- What a session writes, whatever it is asked (this project's profile).
use Rattle.std.specs.Prelude.{◌≡◌, ◌⊎◌, ◌+◌, ◌++◌, ◌≤◌, ℕ, List, [], ◌∷◌, All, length, take, Option, Some, None, Result, Ok, Err}
use Rattle.std.specs.Io.KnownBytes.{Appends, Keeps}
use Rattle.fb_types.specs.Headline.{Inputs, IsTrace}
use Rattle.fb_types.specs.Machines.{Each}
use Rattle.fb_types.specs.Simulation.{Ending}
use Rattle.fb_types.specs.declared.deploy.Stimulus.{Stimulus}
use Rattle.fb_types.specs.declared.run.Form.{Form}
use Rattle.fb_laws.specs.Sound.{AreGood}
use Rattle.fb_trace.specs.End.{ending_of}
use Rattle.fb_trace.specs.Progress.{bounded}
use Rattle.fb_trace.specs.declared.last.Outcome.{Outcome}
use Rattle.fb_session.specs.Pasts.{IsAlive, IsOf, IsRow, Past, StandsBy, Talk, told, with_rows}
use Rattle.fb_session.specs.declared.fault.SessionFault.{SessionFault}
use Rattle.fb_session.specs.declared.fault.SessionFault.TheVariants as fault
use Rattle.fbsim_session.specs.declared.talking.Console.{Console}
use Rattle.fbsim_session.specs.declared.talking.TalkFault.{TalkFault}
use Rattle.fbsim_session.specs.declared.talking.TalkFault.TheVariants.{Memory, Read, Write}

abbrev pub Text : Type 0
Text = List ℕ

-- ---- Pieces

-- A piece of what is written: of the trace, or an answer.
pub data Piece : Type 0 where
  Trace : Text → Piece
  Answer : Text → Piece

-- An answer is one line, which begins with = or !.
pub record IsAnswer (t : Text) : Type 0 where
  pub first : ℕ
  pub rest : Text
  pub sign : (first ≡ 61) ⊎ (first ≡ 33)
  pub parts : t ≡ first ∷ (rest ++ 10 ∷ [])
  pub one : All (λ b. b ≡ 10 → ⊥) rest

-- An answer that is not at its end.
pub record IsBegun (t : Text) : Type 0 where
  pub first : ℕ
  pub rest : Text
  pub sign : (first ≡ 61) ⊎ (first ≡ 33)
  pub parts : t ≡ first ∷ rest
  pub one : All (λ b. b ≡ 10 → ⊥) rest

abbrev pub IsWell : Piece → Type 0
IsWell (Trace t) = Unit {0}
IsWell (Answer t) = IsAnswer t

abbrev pub text_in : Piece → Text
text_in (Trace t) = t
text_in (Answer t) = t

abbrev pub all_of : List Piece → Text
all_of [] = []
all_of (p ∷ ps) = text_in p ++ all_of ps

-- the part of a piece that is of the trace
abbrev pub told_in : Piece → Text
told_in (Trace t) = t
told_in (Answer t) = []

abbrev pub told_of : List Piece → Text
told_of [] = []
told_of (p ∷ ps) = told_in p ++ told_of ps

-- ---- What was written

-- A session, and how many bytes of answers were written, up to the greatest count.
pub record Spoken : Type 0 where
  pub session : Talk
  pub answered : ℕ

abbrev pub spoken : Console → Spoken
spoken c = record { session = c.session; answered = c.answered }

-- the bytes of the trace and of the answers
abbrev pub count_of : Spoken → ℕ
count_of s = s.session.written + s.answered

-- What a session began with: inputs, options, and what the writer had.
pub record Opening : Type 0 where
  pub inputs : Inputs
  pub steps : ℕ
  pub form : Form
  pub start : Option Text

abbrev pub of_talk : Option Text → Talk → Opening
of_talk start t = record { inputs = t.inputs; steps = t.steps; form = t.form; start = start }

-- The pieces of the trace are a beginning of the trace of the inputs with some rows more.
pub record AreFront (g : Opening) (ps : List Piece) : Type 0 where
  pub well : Each IsWell ps
  pub given : List Stimulus
  pub rows : All (IsRow g.inputs) given
  pub horizon : ℕ
  pub end : Ending
  pub rest : Text
  pub trace : IsTrace (with_rows g.inputs given) g.form horizon g.steps (told_of ps ++ rest) end

-- They are the whole trace.
pub record AreWhole (g : Opening) (ps : List Piece) (o : Outcome) : Type 0 where
  pub well : Each IsWell ps
  pub given : List Stimulus
  pub rows : All (IsRow g.inputs) given
  pub horizon : ℕ
  pub trace : IsTrace (with_rows g.inputs given) g.form horizon g.steps (told_of ps) (ending_of o)

-- While the session goes on or has stopped, the pieces of the trace are what it has told, and all bytes are counted.
pub record HasTold (g : Opening) (now : Option Text) (t : Spoken) : Type 0 where
  pub good : AreGood g.inputs
  pub alive : IsAlive t.session.stage
  pub past : Past
  pub pieces : List Piece
  pub of : of_talk g.start t.session ≡ g
  pub stands : StandsBy t.session past
  pub told_is : told_of pieces ≡ told t.session past
  pub well : Each IsWell pieces
  pub got : Appends g.start now (all_of pieces)
  pub counted : bounded (count_of t) ≡ bounded (length (all_of pieces))

abbrev pub IsTold : Option Text → Spoken → Type 0
IsTold now t = (g : Opening) × HasTold g now t

-- At its end the writer has the whole trace with answers between.
abbrev pub Ends : Opening → Option Text → Outcome → Type 0
Ends g now o = (ps : List Piece) × AreWhole g ps o × Appends g.start now (all_of ps)

-- After a fault it has a beginning of it with answers between; after a fault of the writer the first bytes of that, or all of
-- it and some of one last line. The fault has the count of all bytes that the writer got, of the trace and of the answers.
abbrev pub Fails : Opening → Option Text → TalkFault → Type 0
Fails g now Memory = (ps : List Piece) × AreFront g ps × Appends g.start now (all_of ps)
Fails g now Read = (ps : List Piece) × AreFront g ps × Appends g.start now (all_of ps)
Fails g now (Write n) =
    (ps : List Piece) × (end : Text) × (count : ℕ) × AreFront g ps × Appends g.start now (take count (all_of ps ++ end))
    × (count ≤ length (all_of ps ++ end)) × (n ≡ bounded count)

-- a fault that is not the writer's
abbrev pub IsNoWrite : TalkFault → Type 0
IsNoWrite Memory = Unit {0}
IsNoWrite Read = Unit {0}
IsNoWrite (Write n) = ⊥

-- ---- Calls

-- a call after which the session goes on
abbrev pub Leads : {A : Type 0} → Opening → Option Text → Spoken → Result A TalkFault → Type 0
Leads g now t (Ok a) = HasTold g now t
Leads g now t (Err e) = Fails g now e

-- a call that may end the session
abbrev pub Arrives : Opening → Option Text → Spoken → Result (Option Outcome) TalkFault → Type 0
Arrives g now t (Ok None) = HasTold g now t
Arrives g now t (Ok (Some o)) = Ends g now o
Arrives g now t (Err e) = Fails g now e

-- a call that ends it
abbrev pub Concludes : Opening → Option Text → Result Outcome TalkFault → Type 0
Concludes g now (Ok o) = Ends g now o
Concludes g now (Err e) = Fails g now e

-- A call that writes nothing: the session stands where it stood, or by one row more.
pub record Stays (old new : Spoken) : Type 0 where
  pub of : IsOf old.session new.session
  pub stage : new.session.stage ≡ old.session.stage
  pub stands : (p : Past) → StandsBy old.session p → (q : Past) × StandsBy new.session q × (told new.session q ≡ told old.session p)
  pub counted : count_of new ≡ count_of old

-- An answer is sent and counted, or some first bytes of it. Without memory nothing is sent.
abbrev pub Sends : (before after : Spoken) → (old new : Option Text) → Result (Unit {0}) TalkFault → Type 0
Sends before after old new (Ok u) =
    (a : Text) × IsAnswer a × Appends old new a × (after.session ≡ before.session) × (after.answered ≡ bounded (before.answered + length a))
Sends before after old new (Err Memory) = Appends old new []
Sends before after old new (Err Read) = ⊥
Sends before after old new (Err (Write n)) =
    (a : Text) × (count : ℕ) × IsAnswer a × Appends old new (take count a) × (count ≤ length a) × (n ≡ bounded (before.session.written + bounded (before.answered + count)))

-- What was written is flushed.
abbrev pub Flushes : Spoken → (old new : Option Text) → Result (Unit {0}) TalkFault → Type 0
Flushes t old new (Ok u) = Keeps old new
Flushes t old new (Err Memory) = ⊥
Flushes t old new (Err Read) = ⊥
Flushes t old new (Err (Write n)) = Keeps old new × (n ≡ bounded (count_of t))

-- a fault of the session as one of the command, with the count of all bytes
abbrev pub IsFaultOf : Spoken → SessionFault → TalkFault → Type 0
IsFaultOf t fault.Memory Memory = Unit {0}
IsFaultOf t fault.Memory Read = ⊥
IsFaultOf t fault.Memory (Write n) = ⊥
IsFaultOf t (fault.Write n) Memory = ⊥
IsFaultOf t (fault.Write n) Read = ⊥
IsFaultOf t (fault.Write n) (Write m) = m ≡ bounded (bounded (count_of t) + n)

-- Whatever is read, and whatever is refused.
abbrev pub Talks : (i : Inputs) (steps : ℕ) (form : Form) → (old new : Option Text) → Result Outcome TalkFault → Type 0
Talks i steps form old new r = Concludes (record { inputs = i; steps = steps; form = form; start = old }) new r
