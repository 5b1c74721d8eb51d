-- Where a session stands: the rows that were given, and the events that were taken (this project's profile).
use Rattle.std.specs.Prelude.{◌≡◌, ◌^◌, ◌<◌, ◌≤◌, ◌++◌, ℕ, List, [], length, All, None, refl}
use Rattle.std.specs.Coded.{Coded, code_by, coded×, coded_list, coded_ℕ}
use Rattle.fb_types.specs.Accepted.{IsGood}
use Rattle.fb_types.specs.Headline.{Inputs, system_of, stimuli_of}
use Rattle.fb_types.specs.Machines.{Each}
use Rattle.fb_types.specs.Simulation.{Taken, Chain, AtStop, ending_of, last, lines_of, opening}
use Rattle.fb_types.specs.States.{Config}
use Rattle.fb_types.specs.Systems.{System}
use Rattle.fb_types.specs.Text.{last_line, lines_text}
use Rattle.fb_types.specs.declared.deploy.Stimulus.{Stimulus}
use Rattle.fb_types.specs.declared.library.Library.{Library}
use Rattle.fb_types.specs.declared.run.Form.{Form}
use Rattle.fb_types.specs.declared.run.StopMark.{StopMark}
use Rattle.fb_session.specs.declared.stage.Stage.{Stage}
use Rattle.fb_session.specs.declared.stage.Stage.TheVariants as stage
use Rattle.fb_sim_machine.specs.Machines.{IsAt, IsReady}
use Rattle.fb_sim_machine.specs.declared.machine.Machine.{Machine}
use Rattle.fb_types.specs.contracts.library.Library as library
use Rattle.fb_types.specs.contracts.run.Form as form
use Rattle.fb_system.specs.contracts.system.System as system
use Rattle.fb_session.specs.contracts.stage.Stage as stage_row
use Rattle.fb_sim_machine.specs.contracts.machine.Machine as machine
use Rattle.fb_session.specs.contracts.breaks.Break as break_row
use Rattle.fb_session.specs.declared.breaks.Break.{Break}

-- A session, as contracts see it. The inputs have the rows that were read at the beginning, and never change. Rows are judged
-- for a declaration, which is that of the inputs.
pub record Talk : Type 0 where
  pub inputs : Inputs
  pub judged : Library
  pub steps : ℕ
  pub form : Form
  -- how many rows there are: those of the inputs, and those that were given
  pub rows : ℕ
  -- the least tick at which a row may be given, and to which the session may go
  pub reached : ℕ
  pub stage : Stage
  pub breaks : List Break
  -- how many breaks were set so far
  pub set : ℕ
  -- the bytes of lines of events of all calls
  pub written : ℕ
  pub machine : Machine

-- a session is stored as its parts
abbrev pub talk_code : Coded Talk
talk_code =
    code_by ((Inputs × Library) × ((ℕ × (Form × (ℕ × ℕ))) × ((Stage × (List Break × ℕ)) × (ℕ × Machine))))
    (coded× (coded× system.the_row.coded library.the_row.coded) (coded× (coded× coded_ℕ (coded× form.the_row.coded (coded× coded_ℕ coded_ℕ)))
    (coded× (coded× stage_row.the_row.coded (coded× (coded_list break_row.the_row.coded) coded_ℕ)) (coded× coded_ℕ machine.the_row.coded))))
    (λ t. ((t.inputs, t.judged), ((t.steps, (t.form, (t.rows, t.reached))), ((t.stage, (t.breaks, t.set)), (t.written, t.machine)))))
    (λ p. record { inputs = p.0.0; judged = p.0.1; steps = p.1.0.0; form = p.1.0.1.0; rows = p.1.0.1.1.0; reached = p.1.0.1.1.1; stage = p.1.1.0.0; breaks = p.1.1.0.1.0; set = p.1.1.0.1.1; written = p.1.1.1.0; machine = p.1.1.1.1 })
    (λ _. refl)

-- What came before: the rows that were given, in their order, and the events that were taken.
pub record Past : Type 0 where
  pub given : List Stimulus
  pub taken : List Taken

-- the inputs with these rows after their own
abbrev pub with_rows : Inputs → List Stimulus → Inputs
with_rows i given = record i { stimuli = i.stimuli ++ given }

-- the opening with all rows
abbrev pub opening_with : Inputs → List Stimulus → Config
opening_with i given = opening (system_of i) (stimuli_of (with_rows i given))

-- where the simulation of all rows is after what was taken
abbrev pub now : Inputs → Past → Config
now i p = last (opening_with i p.given) p.taken

-- A row that may be given: it fits its event input, and its tick is within the limit.
pub record IsRow (i : Inputs) (s : Stimulus) : Type 0 where
  pub good : IsGood i.library s
  pub early : s.tick ≤ 10 ^ 12

-- a stage after no failure
abbrev pub IsAlive : Stage → Type 0
IsAlive stage.Running = Unit {0}
IsAlive (stage.Stopped m) = Unit {0}
IsAlive (stage.Failed fault) = ⊥

-- how what was taken ended, if a resource stopped
abbrev pub EndsBy : Stage → List Taken → Type 0
EndsBy stage.Running ts = Each (λ (t : Taken). t.effect.stop ≡ None) ts
EndsBy (stage.Stopped m) ts = (h : ℕ) → ending_of h ts ≡ AtStop m.tick m.resource m.reason
EndsBy (stage.Failed fault) ts = Unit {0}

-- A session that has not failed can take events from a tick on, and none was taken after that tick. While it goes on, rows come no earlier.
abbrev pub CanGo : Talk → List Taken → Type 0
CanGo t ts =
    IsAlive t.stage → (from : ℕ) × (t.stage ≡ stage.Running → from ≤ t.reached) × IsReady t.inputs t.steps from t.machine
    × All (λ (x : Taken). x.key.tick ≤ from) ts

-- The session stands where this past leads: its machine is at the configuration to which the takings lead from the opening
-- with all rows, no line waits to be written, and it can go on. After a failure nothing is said of the machine.
pub record StandsBy (t : Talk) (p : Past) : Type 0 where
  pub judged : t.judged ≡ t.inputs.library
  pub some_steps : 1 ≤ t.steps
  pub few_steps : t.steps ≤ 10 ^ 7
  pub early : t.reached ≤ 10 ^ 12
  pub rows : All (IsRow t.inputs) p.given
  pub counted : t.rows ≡ length (t.inputs.stimuli ++ p.given)
  pub chain : Chain (system_of t.inputs) t.steps (opening_with t.inputs p.given) p.taken
  pub before : All (λ (x : Taken). x.key.tick < t.reached) p.taken
  pub ends : EndsBy t.stage p.taken
  pub at : IsAlive t.stage → IsAt t.inputs (now t.inputs p).state (now t.inputs p).agenda t.machine
  pub none : IsAlive t.stage → t.machine.traffic.outbox.lines.items ≡ []
  pub goes : CanGo t p.taken

-- the text of the lines of what was taken, and of the stop if there is one
abbrev pub stop_text : System → Stage → List ℕ
stop_text sys stage.Running = []
stop_text sys (stage.Stopped m) = last_line sys (AtStop m.tick m.resource m.reason)
stop_text sys (stage.Failed fault) = []

abbrev pub told : Talk → Past → List ℕ
told t p = lines_text t.form (system_of t.inputs) (lines_of p.taken) ++ stop_text (system_of t.inputs) t.stage

-- what never changes
pub record IsOf (s t : Talk) : Type 0 where
  pub inputs : t.inputs ≡ s.inputs
  pub steps : t.steps ≡ s.steps
  pub form : t.form ≡ s.form
