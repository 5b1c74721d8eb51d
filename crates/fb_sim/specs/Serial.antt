-- What a run on one thread answers and writes (this project's profile).
use Rattle.std.specs.Prelude.{◌≡◌, ◌≤◌, ◌<◌, ◌^◌, ◌↔◌, ℕ, List, [], length, Option, Some, None, Result, Ok, Err}
use Rattle.std.specs.Io.KnownBytes.{Appends}
use Rattle.fb_types.specs.Accepted.{IsLeastFault}
use Rattle.fb_types.specs.Headline.{Inputs, AreAccepted, IsTrace}
use Rattle.fb_types.specs.Limits.{IsWithinLimits, single}
use Rattle.fb_types.specs.Simulation.{Ending}
use Rattle.fb_types.specs.declared.deploy.Plan.{Plan}
use Rattle.fb_types.specs.declared.deploy.Stimulus.{Stimulus}
use Rattle.fb_types.specs.declared.library.Library.{Library}
use Rattle.fb_read.specs.Front.{bad_byte, bad_token}
use Rattle.fb_read.specs.Refusals.{IsRightError}
use Rattle.fb_read.specs.Whole.{IsDerived, IsLibraryText, IsMemory, IsNesting, IsGrammarFault, HasTokenFault, HasTokens, most_bytes}
use Rattle.fb_read.specs.declared.error.ReadError.{ReadError}
use Rattle.fb_read.specs.declared.error.ReadError.TheVariants as read
use Rattle.fb_inputs.specs.Deployments.{deploy_of}
use Rattle.fb_inputs.specs.Stimuli.{stimuli_of}
use Rattle.fb_inputs.specs.Refusals as input
use Rattle.fb_check.specs.Refusals as judge
use Rattle.fb_trace.specs.Progress.{IsPartWritten}
use Rattle.fb_sim.specs.Given.{Given}
use Rattle.fb_sim.specs.declared.options.Options.{Options}
use Rattle.fb_sim.specs.declared.outcome.Refusal.{Refusal}
use Rattle.fb_sim.specs.declared.outcome.Refusal.TheVariants.{Declaration, Deployment, Stimuli, Check}
use Rattle.fb_sim.specs.declared.outcome.RunError.{RunError}
use Rattle.fb_sim.specs.declared.outcome.RunError.TheVariants.{Refused, Memory, Write, BadOption, Failed}

-- each option is in its range
pub record AreWithin (o : Options) : Type 0 where
  pub horizon_least : 1 ≤ o.horizon
  pub horizon_most : o.horizon ≤ 10 ^ 12
  pub steps_least : 1 ≤ o.steps
  pub steps_most : o.steps ≤ 10 ^ 7
  pub workers_least : 1 ≤ o.workers
  pub workers_most : o.workers ≤ 64

-- ---- What is read

-- The plan of a deployment: where none is given, one resource that holds every instance.
abbrev pub IsPlan : Option (List ℕ) → Plan → Type 0
IsPlan None plan = plan ≡ single
IsPlan (Some bytes) plan = deploy_of bytes ≡ Ok plan

-- The stimuli: where none are given, there are none.
abbrev pub AreStimuli : Option (List ℕ) → List Stimulus → Type 0
AreStimuli None stimuli = stimuli ≡ []
AreStimuli (Some bytes) stimuli = stimuli_of bytes ≡ Ok stimuli

-- These bytes are refused under this number.
abbrev pub Refuses : {A : Type 0} → (List ℕ → Result A ℕ) → Option (List ℕ) → ℕ → Type 0
Refuses read None n = ⊥
Refuses read (Some bytes) n = read bytes ≡ Err n

-- The bytes that are given represent inputs.
pub record Reads (given : Given) (i : Inputs) : Type 0 where
  pub library : IsLibraryText given.declaration i.library
  pub plan : IsPlan given.deploy i.plan
  pub limits : IsWithinLimits i.plan
  pub stimuli : AreStimuli given.stimuli i.stimuli

-- The bytes that are given represent inputs that are accepted.
pub record Declares (given : Given) (i : Inputs) : Type 0 where
  pub read : Reads given i
  pub accepted : AreAccepted i

-- They represent some inputs that are accepted.
abbrev pub IsDeclared : Given → Type 0
IsDeclared given = (i : Inputs) × Declares given i

-- ---- Why nothing is run

-- No library has the text.
abbrev pub IsNoText : List ℕ → Type 0
IsNoText text = (library : Library) → IsLibraryText text library → ⊥

-- The text is refused for the fault that it has. One that is too long is refused for that alone; a byte or a token at fault comes before any fault of the grammar; and what would be a library without the limit of nesting is refused for its nesting.
pub record IsReadFault (text : List ℕ) (e : ReadError) : Type 0 where
  pub refusal : ¬ (IsMemory e)
  pub none : IsNoText text
  pub too_long : (e ≡ read.TooLong) ↔ (most_bytes < length text)
  pub byte : (e ≡ read.Byte) ↔ HasTokenFault bad_byte text
  pub token : (e ≡ read.Token) ↔ HasTokenFault bad_token text
  pub grammar : IsGrammarFault e → HasTokens text
  pub nesting : (library : Library) → IsDerived text library → IsNesting e
  pub exact : IsRightError text e

-- The text declares a library, and the deployment is refused under this number.
pub record IsNoPlan (given : Given) (n : ℕ) : Type 0 where
  pub library : Library
  pub read : IsLibraryText given.declaration library
  pub refused : Refuses deploy_of given.deploy n

-- The text declares a library, the deployment is a plan, and the stimuli are refused under this number.
pub record AreNoStimuli (given : Given) (n : ℕ) : Type 0 where
  pub library : Library
  pub read : IsLibraryText given.declaration library
  pub plan : Plan
  pub planned : IsPlan given.deploy plan
  pub refused : Refuses stimuli_of given.stimuli n

-- All is read, and this is the least number that applies.
pub record AreNotAccepted (given : Given) (n : ℕ) : Type 0 where
  pub inputs : Inputs
  pub read : Reads given inputs
  pub applies : IsLeastFault n inputs.library inputs.plan inputs.stimuli

abbrev pub HasNumber : Option ℕ → (ℕ → Type 0) → Type 0
HasNumber None holds = ⊥
HasNumber (Some n) holds = holds n

-- The first of the declaration, the deployment, the stimuli and the check that refuses, does so rightly. Its error has a number, so it is not the one for memory.
abbrev pub IsRightly : Given → Refusal → Type 0
IsRightly given (Declaration e) = IsReadFault given.declaration e
IsRightly given (Deployment e) = HasNumber (input.number_of e) (IsNoPlan given)
IsRightly given (Stimuli e) = HasNumber (input.number_of e) (AreNoStimuli given)
IsRightly given (Check e) = HasNumber (judge.number_of e) (AreNotAccepted given)

-- why inputs are not known to be accepted
abbrev pub IsRefusal : Given → RunError → Type 0
IsRefusal given (Refused r) = IsRightly given r
IsRefusal given Memory = Unit {0}
IsRefusal given (Write n) = ⊥
IsRefusal given BadOption = ⊥
IsRefusal given Failed = ⊥

-- ---- What is written

-- The bytes are the trace of what the text declares, under options that are in their ranges.
pub record AreTrace (given : Given) (o : Options) (bytes : List ℕ) (end : Ending) : Type 0 where
  pub within : AreWithin o
  pub inputs : Inputs
  pub declared : Declares given inputs
  pub trace : IsTrace inputs o.form o.horizon o.steps bytes end

-- A writer got the whole trace, and the run ended so.
pub record Writes (given : Given) (o : Options) (old new : Option (List ℕ)) (end : Ending) : Type 0 where
  pub bytes : List ℕ
  pub got : Appends old new bytes
  pub trace : AreTrace given o bytes end

-- A writer got the first bytes of the trace, and this many.
pub record WritesPart (given : Given) (o : Options) (old new : Option (List ℕ)) (written : ℕ) : Type 0 where
  pub bytes : List ℕ
  pub end : Ending
  pub got : IsPartWritten old new bytes written
  pub trace : AreTrace given o bytes end
