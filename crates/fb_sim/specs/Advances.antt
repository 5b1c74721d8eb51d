-- What advancing a simulation, and ending it, writes and answers (this project's profile).
use Rattle.std.specs.Prelude.{◌≡◌, ◌^◌, ℕ, ◌<◌, ◌≤◌, ◌⊎◌, List, [], ◌++◌, length, Option, Result, Ok, Err}
use Rattle.std.specs.Io.KnownBytes.{Appends}
use Rattle.fb_types.specs.Headline.{system_of, stimuli_of}
use Rattle.fb_types.specs.Simulation.{Taken, IsSimulation, Ending, AtHorizon, AtStop, ending_of, lines_of}
use Rattle.fb_types.specs.States.{Line}
use Rattle.fb_types.specs.Systems.{System}
use Rattle.fb_types.specs.Text.{lines_text, last_line}
use Rattle.fb_types.specs.declared.run.Form.{Form}
use Rattle.fb_trace.specs.Progress.{IsPartWritten, bounded}
use Rattle.fb_sim.specs.Given.{Given}
use Rattle.fb_trace.specs.End as trace
use Rattle.fb_sim.specs.Serial.{Declares, IsRightly}
use Rattle.fb_sim.specs.Views.{SimulationView}
use Rattle.fb_sim.specs.declared.state.Stage.{Stage}
use Rattle.fb_sim.specs.declared.state.Stage.TheVariants as going
use Rattle.fb_trace.specs.declared.last.Outcome.{Outcome}
use Rattle.fb_trace.specs.declared.last.Outcome.TheVariants.{End, Stop}
use Rattle.fb_sim.specs.declared.outcome.RunError.{RunError}
use Rattle.fb_sim.specs.declared.rounds.tally.Written.{Written}
use Rattle.fb_sim.specs.declared.outcome.RunError.TheVariants.{Refused, Memory, Write, BadOption, Failed}

-- ---- Opening

pub record AreOptions (steps workers : ℕ) : Type 0 where
  pub steps_least : 1 ≤ steps
  pub steps_most : steps ≤ 10 ^ 7
  pub workers_least : 1 ≤ workers
  pub workers_most : workers ≤ 64

-- It represents what the text declares, before the first event.
pub record IsOpened (given : Given) (steps workers : ℕ) (form : Form) (s : SimulationView) : Type 0 where
  pub within : AreOptions steps workers
  pub declared : Declares given s.inputs
  pub opened : s ≡ record { inputs = s.inputs; steps = steps; workers = workers; form = form; to = 0; stage = going.Running }

abbrev pub FailsToOpen : Given → (steps workers : ℕ) → RunError → Type 0
FailsToOpen given steps workers BadOption = AreOptions steps workers → ⊥
FailsToOpen given steps workers (Refused r) = AreOptions steps workers × IsRightly given r
FailsToOpen given steps workers Memory = AreOptions steps workers
FailsToOpen given steps workers (Write n) = ⊥
FailsToOpen given steps workers Failed = ⊥

-- ---- Advancing

-- the line of a stop, if there is one
abbrev pub stop_line : System → Ending → List ℕ
stop_line sys (AtHorizon h) = []
stop_line sys (AtStop tick r reason) = last_line sys (AtStop tick r reason)

-- What the simulation to the later tick writes after that to the earlier one, but for the line of the horizon.
pub record IsNext (s : SimulationView) (to : ℕ) (bytes : List ℕ) (end : Ending) : Type 0 where
  pub before : List Taken
  pub takings : List Taken
  pub was : IsSimulation (system_of s.inputs) (stimuli_of s.inputs) s.to s.steps before
  pub simulation : IsSimulation (system_of s.inputs) (stimuli_of s.inputs) to s.steps takings
  pub rest : List Line
  pub split : lines_of takings ≡ lines_of before ++ rest
  pub ending : end ≡ ending_of to takings
  pub text : bytes ≡ lines_text s.form (system_of s.inputs) rest ++ stop_line (system_of s.inputs) end

abbrev pub stage_after : Outcome → Stage
stage_after (End h) = going.Running
stage_after (Stop mark) = going.Stopped mark

-- it has advanced, and the writer got the text
pub record HasAdvanced (s t : SimulationView) (to : ℕ) (old new : Option (List ℕ)) (o : Outcome) : Type 0 where
  pub later : s.to < to
  pub bytes : List ℕ
  pub is_next : IsNext s to bytes (trace.ending_of o)
  pub got : Appends old new bytes
  pub now : t ≡ record s { to = to; stage = stage_after o }

-- it has failed, and the writer got some first bytes of the text, of whole lines
pub record HasBroken (s t : SimulationView) (to : ℕ) (old new : Option (List ℕ)) : Type 0 where
  pub later : s.to < to
  pub bytes : List ℕ
  pub rest : List ℕ
  pub end : Ending
  pub is_next : IsNext s to (bytes ++ rest) end
  pub got : Appends old new bytes
  pub lines : List Line
  pub whole : bytes ≡ lines_text s.form (system_of s.inputs) lines
  pub now : t ≡ record s { stage = going.Failed }

-- the same, with the count of these bytes
pub record HasNotWritten (s t : SimulationView) (to : ℕ) (old new : Option (List ℕ)) (n : ℕ) : Type 0 where
  pub later : s.to < to
  pub bytes : List ℕ
  pub end : Ending
  pub is_next : IsNext s to bytes end
  pub got : IsPartWritten old new bytes n
  pub now : t ≡ record s { stage = going.Failed }

-- From a simulation that goes on.
abbrev pub AdvancesOn : (s t : SimulationView) (to : ℕ) → (old new : Option (List ℕ)) → Result Outcome RunError → Type 0
AdvancesOn s t to old new (Ok o) = HasAdvanced s t to old new o ⊎ ((to ≤ s.to) × (o ≡ End s.to) × (t ≡ s) × (new ≡ old))
AdvancesOn s t to old new (Err Memory) = HasBroken s t to old new
AdvancesOn s t to old new (Err (Write n)) = HasNotWritten s t to old new n
AdvancesOn s t to old new (Err (Refused r)) = ⊥
AdvancesOn s t to old new (Err BadOption) = ⊥
AdvancesOn s t to old new (Err Failed) = ⊥

-- To a later tick: what was written, but for the line of a stop, has this many bytes and this many lines.
abbrev pub RunsTo : (s t : SimulationView) (to : ℕ) → (old new : Option (List ℕ)) → Result (Outcome × Written) RunError → Type 0
RunsTo s t to old new (Ok (o, w)) =
    (gone : HasAdvanced s t to old new o)
    × (w.bytes ≡ bounded (length (lines_text s.form (system_of s.inputs) gone.is_next.rest)))
    × (w.lines ≡ bounded (length gone.is_next.rest))
RunsTo s t to old new (Err e) = AdvancesOn s t to old new (Err e)

-- Nothing is written, and nothing changes.
abbrev pub Stays : (s t : SimulationView) → (old new : Option (List ℕ)) → Type 0
Stays s t old new = (t ≡ s) × (new ≡ old)

abbrev pub AdvancesBy : Stage → (s t : SimulationView) (to : ℕ) → (old new : Option (List ℕ)) → Result Outcome RunError → Type 0
AdvancesBy going.Running s t to old new r = AdvancesOn s t to old new r
AdvancesBy (going.Stopped mark) s t to old new r = (r ≡ Ok (Stop mark)) × Stays s t old new
AdvancesBy going.Failed s t to old new r = (r ≡ Err Failed) × Stays s t old new

-- A tick past the last one is no tick to advance to, before all else.
pub record Advances (s t : SimulationView) (to : ℕ) (old new : Option (List ℕ)) (r : Result Outcome RunError) : Type 0 where
  pub bad : 10 ^ 12 < to → (r ≡ Err BadOption) × Stays s t old new
  pub by : to ≤ 10 ^ 12 → AdvancesBy s.stage s t to old new r

-- ---- Ending

abbrev pub FinishesOn : SimulationView → (old new : Option (List ℕ)) → Result Outcome RunError → Type 0
FinishesOn s old new (Ok o) = (o ≡ End s.to) × Appends old new (last_line (system_of s.inputs) (AtHorizon s.to))
FinishesOn s old new (Err (Write n)) = IsPartWritten old new (last_line (system_of s.inputs) (AtHorizon s.to)) n
FinishesOn s old new (Err Memory) = ⊥
FinishesOn s old new (Err (Refused r)) = ⊥
FinishesOn s old new (Err BadOption) = ⊥
FinishesOn s old new (Err Failed) = ⊥

abbrev pub FinishesBy : Stage → SimulationView → (old new : Option (List ℕ)) → Result Outcome RunError → Type 0
FinishesBy going.Running s old new r = FinishesOn s old new r
FinishesBy (going.Stopped mark) s old new r = (r ≡ Ok (Stop mark)) × (new ≡ old)
FinishesBy going.Failed s old new r = (r ≡ Err Failed) × (new ≡ old)

abbrev pub Finishes : SimulationView → (old new : Option (List ℕ)) → Result Outcome RunError → Type 0
Finishes s old new r = FinishesBy s.stage s old new r
