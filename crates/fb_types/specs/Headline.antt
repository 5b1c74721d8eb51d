-- What a run writes, and the law that it is unique.
use Rattle.std.specs.Prelude.{◌≡◌, ℕ, List, map}
use Rattle.fb_types.specs.Flat.{flat}
use Rattle.fb_types.specs.Systems.{System}
use Rattle.fb_types.specs.Simulation.{Stimulus, stimulus_of, Taken, IsSimulation, lines_of, ending_of, Ending}
use Rattle.fb_types.specs.Text.{trace_text}
use Rattle.fb_types.specs.Accepted.{IsAccepted}
use Rattle.fb_types.specs.declared.library.Library.{Library}
use Rattle.fb_types.specs.declared.deploy.Plan.{Plan}
use Rattle.fb_types.specs.declared.deploy.Stimulus as deploy
use Rattle.fb_types.specs.declared.run.Form.{Form}

-- A system with its stimuli, a horizon and a limit on steps has at most one simulation.
abbrev pub OneSimulation : Type 0
OneSimulation =
    (sys : System) (stimuli : List Stimulus) (horizon limit : ℕ) (ts us : List Taken)
    → IsSimulation sys stimuli horizon limit ts → IsSimulation sys stimuli horizon limit us → ts ≡ us

-- What was read: a declaration, a deployment and stimuli.
pub record Inputs : Type 0 where
  pub library : Library
  pub plan : Plan
  pub stimuli : List deploy.Stimulus

abbrev pub inputs : Library → Plan → List deploy.Stimulus → Inputs
inputs library plan stimuli = record { library = library; plan = plan; stimuli = stimuli }

abbrev pub AreAccepted : Inputs → Type 0
AreAccepted i = IsAccepted i.library i.plan i.stimuli

abbrev pub system_of : Inputs → System
system_of i = flat i.library i.plan

abbrev pub stimuli_of : Inputs → List Stimulus
stimuli_of i = map stimulus_of i.stimuli

-- The bytes are the text of the one-thread simulation of accepted inputs, and it ends this way.
pub record IsTrace (i : Inputs) (form : Form) (horizon limit : ℕ) (bytes : List ℕ) (end : Ending) : Type 0 where
  pub takings : List Taken
  pub simulation : IsSimulation (system_of i) (stimuli_of i) horizon limit takings
  pub ending : end ≡ ending_of horizon takings
  pub text : bytes ≡ trace_text form (system_of i) (lines_of takings) end
