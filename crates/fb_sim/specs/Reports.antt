-- The progress of a run, as it is reported, and what it has written then (this project's profile).
use Rattle.std.specs.Prelude.{◌≡◌, ◌⊎◌, ℕ, zero, suc, ◌+◌, ◌*◌, ◌/◌, ◌≤◌, ◌<◌, List, [], ◌++◌, length, Bool, IsTrue, Option, Result, Ok, Err, codes, decimal}
use Rattle.std.specs.Io.KnownBytes.{Appends}
use Rattle.fb_types.specs.Headline.{Inputs, IsTrace, system_of, stimuli_of}
use Rattle.fb_types.specs.Simulation.{Taken, IsSimulation, Ending, AtHorizon, AtStop, ending_of, lines_of}
use Rattle.fb_types.specs.States.{Line}
use Rattle.fb_types.specs.Text.{lines_text}
use Rattle.fb_trace.specs.Progress.{IsPartWritten, bounded}
use Rattle.fb_sim.specs.Advances.{IsNext, stage_after}
use Rattle.fb_sim.specs.Given.{Given}
use Rattle.fb_sim.specs.Rounds.{IsShort}
use Rattle.fb_trace.specs.End as trace
use Rattle.fb_sim.specs.Serial.{Declares}
use Rattle.fb_sim.specs.Views.{SimulationView}
use Rattle.fb_sim.specs.declared.options.Options.{Options}
use Rattle.fb_trace.specs.declared.last.Outcome.{Outcome}
use Rattle.fb_trace.specs.declared.last.Outcome.TheVariants.{End, Stop}
use Rattle.fb_sim.specs.declared.outcome.RunError.{RunError}
use Rattle.fb_sim.specs.declared.outcome.RunError.TheVariants.{Refused, Memory, Write, BadOption, Failed}
use Rattle.fb_sim.specs.declared.state.Stage.TheVariants as going
use Rattle.fb_sim.specs.declared.with_progress.ReportTally.{ReportTally}

-- ---- What standard error hears

-- A writer holds a beginning of this text after what it held, and all of it where it took all. Where there is no text, it holds what it held.
pub record Hears (heard : Bool) (old new : Option (List ℕ)) (text : List ℕ) : Type 0 where
  pub front : List ℕ
  pub rest : List ℕ
  pub parts : text ≡ front ++ rest
  pub got : Appends old new front
  pub all : IsTrue heard → rest ≡ []
  pub none : text ≡ [] → new ≡ old

-- the tick of this many hundredths of the horizon
abbrev pub hundredth : (horizon count : ℕ) → ℕ
hundredth horizon count = horizon * count / 100

abbrev pub report_text : (horizon tick lines : ℕ) → List ℕ
report_text horizon tick lines =
    codes "progress: tick " ++ (decimal tick ++ (codes " of " ++ (decimal horizon ++ (codes ", " ++ (decimal lines ++ codes " lines\n")))))

-- All events below the tick were taken, and none of them stopped the simulation. Their lines have this text.
pub record HasCome (i : Inputs) (o : Options) (to : ℕ) (text : List ℕ) : Type 0 where
  pub takings : List Taken
  pub simulation : IsSimulation (system_of i) (stimuli_of i) to o.steps takings
  pub goes_on : ending_of to takings ≡ AtHorizon to
  pub text_is : text ≡ lines_text o.form (system_of i) (lines_of takings)

-- The report says that the simulation has reached this tick, and how many lines it has so far.
pub record IsReport (i : Inputs) (o : Options) (to : ℕ) (report : List ℕ) : Type 0 where
  pub text : List ℕ
  pub come : HasCome i o to text
  pub is : report ≡ report_text o.horizon to (bounded (length (lines_of come.takings)))

-- at a hundredth nothing is reported where its tick is that of the one before
abbrev pub ReportsAt : Inputs → Options → (before now : ℕ) → List ℕ → Type 0
ReportsAt i o before now report = ((now ≤ before) × (report ≡ [])) ⊎ ((before < now) × IsReport i o now report)

-- what is reported at the first hundredths
abbrev pub ReportsTo : Inputs → Options → (count : ℕ) → List ℕ → Type 0
ReportsTo i o zero reports = reports ≡ []
ReportsTo i o (suc n) reports =
    (first : List ℕ) × (next : List ℕ) × ReportsTo i o n first × ReportsAt i o (hundredth o.horizon n) (hundredth o.horizon (suc n)) next × (reports ≡ first ++ next)

-- the simulation of the inputs, at a tick
abbrev pub view_at : Inputs → Options → ℕ → SimulationView
view_at i o to = record { inputs = i; steps = o.steps; workers = o.workers; form = o.form; to = to; stage = going.Running }

-- where a writer failed, some bytes of a text were not written
abbrev pub HasMissing : RunError → (rest : List ℕ) → Type 0
HasMissing (Write n) rest = 0 < length rest
HasMissing Memory rest = Unit {0}
HasMissing (Refused r) rest = ⊥
HasMissing BadOption rest = ⊥
HasMissing Failed rest = ⊥

-- Of what must be written from one hundredth to the next, this was written when the run failed.
pub record HasPart (i : Inputs) (o : Options) (count : ℕ) (e : RunError) (part : List ℕ) : Type 0 where
  pub rest : List ℕ
  pub end : Ending
  pub next : IsNext (view_at i o (hundredth o.horizon count)) (hundredth o.horizon (suc count)) (part ++ rest) end
  pub missing : HasMissing e rest

-- The run failed when all lines of the first hundredths were written, but not all of the next one.
pub record HasBroken (i : Inputs) (o : Options) (old new : Option (List ℕ)) (count : ℕ) (e : RunError) : Type 0 where
  pub text : List ℕ
  pub come : HasCome i o (hundredth o.horizon count) text
  pub part : List ℕ
  pub got : Appends old new (text ++ part)
  pub left : count < 100 → HasPart i o count e part

-- A run ends when it has come this many hundredths far, and no more.
abbrev pub IsAsFar : Inputs → Options → (old new : Option (List ℕ)) → (count : ℕ) → Result Outcome RunError → Type 0
IsAsFar i o old new count (Ok (End h)) = count ≡ 100
IsAsFar i o old new count (Ok (Stop mark)) = mark.tick < hundredth o.horizon (suc count)
IsAsFar i o old new count (Err e) = HasBroken i o old new count e

-- A run of these inputs begins, and each hundredth that it reaches is reported.
pub record Reports (given : Given) (o : Options) (old new : Option (List ℕ)) (end : Result Outcome RunError) (reports : List ℕ) : Type 0 where
  pub inputs : Inputs
  pub declared : Declares given inputs
  pub count : ℕ
  pub few : count ≤ 100
  pub far : IsAsFar inputs o old new count end
  pub reported : ReportsTo inputs o count reports

-- where no run begins, nothing is reported
abbrev pub AreReports : Given → Options → (old new : Option (List ℕ)) → (end : Result Outcome RunError) → List ℕ → Type 0
AreReports given o old new (Ok x) reports = Reports given o old new (Ok x) reports
AreReports given o old new (Err (Write n)) reports = Reports given o old new (Err (Write n)) reports
AreReports given o old new (Err Memory) reports = Reports given o old new (Err Memory) reports ⊎ ((reports ≡ []) × (new ≡ old))
AreReports given o old new (Err (Refused r)) reports = (reports ≡ []) × (new ≡ old)
AreReports given o old new (Err BadOption) reports = (reports ≡ []) × (new ≡ old)
AreReports given o old new (Err Failed) reports = ⊥

-- ---- From one tick to a later one

-- the counts of bytes and of lines, with more lines after
abbrev pub Counted : (n m : ReportTally) → (text : List ℕ) (lines : List Line) → Type 0
Counted n m text lines = (m.bytes ≡ bounded (n.bytes + length text)) × (m.lines ≡ bounded (n.lines + length lines)) × (m.is_heard ≡ n.is_heard)

-- What comes up to the later tick was written; or a part of it, and then memory ran out or the writer failed.
abbrev pub GoesOn : (s t : SimulationView) (to : ℕ) → (old new : Option (List ℕ)) → (n m : ReportTally) → Result Outcome RunError → Type 0
GoesOn s t to old new n m (Ok o) =
    (text : List ℕ)
    × (next : IsNext s to text (trace.ending_of o))
    × Appends old new text
    × (t ≡ record s { to = to; stage = stage_after o })
    × Counted n m (lines_text s.form (system_of s.inputs) next.rest) next.rest
GoesOn s t to old new n m (Err Memory) =
    (lines : List Line)
    × (rest : List ℕ)
    × (end : Ending)
    × IsNext s to (lines_text s.form (system_of s.inputs) lines ++ rest) end
    × Appends old new (lines_text s.form (system_of s.inputs) lines)
    × (m ≡ n)
GoesOn s t to old new n m (Err (Write k)) = (text : List ℕ) × (end : Ending) × IsNext s to text end × IsShort old new text n.bytes (Write k) × (m ≡ n)
GoesOn s t to old new n m (Err (Refused r)) = ⊥
GoesOn s t to old new n m (Err BadOption) = ⊥
GoesOn s t to old new n m (Err Failed) = ⊥

-- ---- From hundredth to hundredth

-- Each hundredth was reported that a run came to, and standard error took a beginning of that, or all where it says so.
pub record HasReported (i : Inputs) (o : Options) (old new quiet err : Option (List ℕ)) (heard : Bool) (end : Result Outcome RunError) : Type 0 where
  pub count : ℕ
  pub few : count ≤ 100
  pub far : IsAsFar i o old new count end
  pub reports : List ℕ
  pub reported : ReportsTo i o count reports
  pub hears : Hears heard quiet err reports

-- The run has reached the tick of this many hundredths and goes on; this was written and reported.
pub record Came (i : Inputs) (o : Options) (first out quiet err : Option (List ℕ)) (count : ℕ) (n : ReportTally) : Type 0 where
  pub text : List ℕ
  pub come : HasCome i o (hundredth o.horizon count) text
  pub got : Appends first out text
  pub bytes_are : n.bytes ≡ bounded (length text)
  pub lines_are : n.lines ≡ bounded (length (lines_of come.takings))
  pub reports : List ℕ
  pub reported : ReportsTo i o count reports
  pub hears : Hears n.is_heard quiet err reports

-- The writer got the whole trace.
pub record HasWritten (i : Inputs) (o : Options) (old new : Option (List ℕ)) (end : Ending) : Type 0 where
  pub bytes : List ℕ
  pub got : Appends old new bytes
  pub trace : IsTrace i o.form o.horizon o.steps bytes end

-- The writer got the first lines of the trace.
pub record HasBegun (i : Inputs) (o : Options) (old new : Option (List ℕ)) : Type 0 where
  pub lines : List Line
  pub rest : List ℕ
  pub end : Ending
  pub got : Appends old new (lines_text o.form (system_of i) lines)
  pub trace : IsTrace i o.form o.horizon o.steps (lines_text o.form (system_of i) lines ++ rest) end

-- The writer failed when it had got this many bytes of the trace.
pub record HasFailed (i : Inputs) (o : Options) (old new : Option (List ℕ)) (written : ℕ) : Type 0 where
  pub bytes : List ℕ
  pub end : Ending
  pub got : IsPartWritten old new bytes written
  pub trace : IsTrace i o.form o.horizon o.steps bytes end

-- what is written where a run has failed
abbrev pub Fails : Inputs → Options → (old new : Option (List ℕ)) → RunError → Type 0
Fails i o old new Memory = HasBegun i o old new
Fails i o old new (Write n) = HasFailed i o old new n
Fails i o old new (Refused r) = ⊥
Fails i o old new BadOption = ⊥
Fails i o old new Failed = ⊥

-- The run has come this many hundredths far, or has stopped or failed on the way.
abbrev pub Comes : (i : Inputs) (o : Options) (t : SimulationView) (first out quiet err : Option (List ℕ)) (count : ℕ) (m : ReportTally) → Result Outcome RunError → Type 0
Comes i o t first out quiet err count m (Ok (End h)) = Came i o first out quiet err count m × (t ≡ view_at i o (hundredth o.horizon count))
Comes i o t first out quiet err count m (Ok (Stop mark)) =
    (t.stage ≡ going.Stopped mark) × HasWritten i o first out (AtStop mark.tick mark.resource mark.reason) × HasReported i o first out quiet err m.is_heard (Ok (Stop mark))
Comes i o t first out quiet err count m (Err e) = Fails i o first out e × HasReported i o first out quiet err m.is_heard (Err e)

-- what a run has written in the end
abbrev pub Ends : Inputs → Options → (old new : Option (List ℕ)) → Result Outcome RunError → Type 0
Ends i o old new (Ok x) = HasWritten i o old new (trace.ending_of x)
Ends i o old new (Err e) = Fails i o old new e
