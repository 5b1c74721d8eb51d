-- What contracts say of the signals of a system: its value is the accepted inputs, and each of these is of the flat system.
use Rattle.std.specs.Prelude.{ℕ, List, Option}
use Rattle.fb_types.specs.Headline.{Inputs, system_of}
use Rattle.fb_types.specs.Names.{Name, Path}
use Rattle.fb_types.specs.Simulation.{Ending}
use Rattle.fb_types.specs.declared.run.Form.{Form}
use Rattle.fb_types.specs.declared.run.Line.{Line}
use Rattle.fb_types.specs.declared.run.StopMark.{StopMark}
use Rattle.fb_types.specs.declared.value.Value.{Value}
use Rattle.fb_trace.specs.declared.last.Outcome.{Outcome}
use Rattle.fb_wave.specs.Copying as copying
use Rattle.fb_wave.specs.CurrentLines as current_lines
use Rattle.fb_wave.specs.CutOff as cut_off
use Rattle.fb_wave.specs.Dumps as dumps
use Rattle.fb_wave.specs.Fronts as fronts
use Rattle.fb_wave.specs.LineSignals as line_signals
use Rattle.fb_wave.specs.Lines as lines
use Rattle.fb_wave.specs.Named as named
use Rattle.fb_wave.specs.Ports as ports
use Rattle.fb_wave.specs.Refusals as refusals
use Rattle.fb_wave.specs.Scopes as scopes
use Rattle.fb_wave.specs.Signals as signals
use Rattle.fb_wave.specs.Waves as waves
use Rattle.fb_wave.specs.Writing as writing
use Rattle.fb_wave.specs.declared.copy.Progress.{Progress}
use Rattle.fb_wave.specs.declared.current_line.CurrentLine.{CurrentLine}
use Rattle.fb_wave.specs.declared.dump.Dump.{Dump}
use Rattle.fb_wave.specs.declared.error.WaveError.{WaveError}
use Rattle.fb_wave.specs.declared.ports.Port.{Port}
use Rattle.fb_wave.specs.declared.system_signals.Marks.{Marks}
use Rattle.fb_wave.specs.declared.system_signals.Signals.{Signals}
use Rattle.fb_wave.specs.declared.truncation.Cut.{Cut}

-- ---- Names and ports

abbrev pub HasNames : Inputs → Type 0
HasNames i = named.HasNames (system_of i)

abbrev pub IsPortOf : Inputs → Port → Type 0
IsPortOf i = ports.IsPortOf (system_of i)

abbrev pub port_text : Inputs → Port → List ℕ
port_text i = ports.port_text (system_of i)

abbrev pub HasNoPort : Inputs → List ℕ → Type 0
HasNoPort i = ports.HasNoPort (system_of i)

abbrev pub BeginsWith : Inputs → (text : List ℕ) → Port → (rest : List ℕ) → Type 0
BeginsWith i = ports.BeginsWith (system_of i)

-- ---- What is read of a trace

abbrev pub AreValuesOf : Inputs → Port → (text : List ℕ) → (values : List Value) → Type 0
AreValuesOf i = lines.AreValuesOf (system_of i)

abbrev pub AreNoValuesOf : Inputs → Port → List ℕ → Type 0
AreNoValuesOf i = lines.AreNoValuesOf (system_of i)

abbrev pub IsTextOf : Inputs → (form : Form) → Line → (text : List ℕ) → Type 0
IsTextOf i = lines.IsTextOf (system_of i)

abbrev pub IsNoTextOf : Inputs → (form : Form) → List ℕ → Type 0
IsNoTextOf i = lines.IsNoTextOf (system_of i)

abbrev pub IsStop : Inputs → (text : List ℕ) → (mark : StopMark) → Type 0
IsStop i = lines.IsStop (system_of i)

abbrev pub IsNoStop : Inputs → List ℕ → Type 0
IsNoStop i = lines.IsNoStop (system_of i)

abbrev pub IsLast : Inputs → (text : List ℕ) → (end : Outcome) → Type 0
IsLast i = lines.IsLast (system_of i)

abbrev pub IsNoLast : Inputs → List ℕ → Type 0
IsNoLast i = lines.IsNoLast (system_of i)

-- ---- Signals

abbrev pub signal_count : Inputs → ℕ
signal_count i = signals.sizes_of (system_of i) (system_of i).paths

abbrev pub first_signal : Inputs → (instance : ℕ) → ℕ
first_signal i = signals.first_signal (system_of i)

abbrev pub AreFirsts : Inputs → List ℕ → Type 0
AreFirsts i = writing.AreFirsts (system_of i)

abbrev pub AreSignals : Inputs → Signals → Type 0
AreSignals i = writing.AreSignals (system_of i)

abbrev pub AreMarks : Inputs → Line → Marks → Type 0
AreMarks i = writing.AreMarks (system_of i)

abbrev pub fired : Inputs → Line → ℕ
fired i = line_signals.fired (system_of i)

abbrev pub set_by : Inputs → Line → List (ℕ × Value)
set_by i = line_signals.set_by (system_of i)

abbrev pub touched : Inputs → Line → List ℕ
touched i = line_signals.touched (system_of i)

-- ---- The head of a dump

-- the scopes of the instances of a resource, and those of all resources
abbrev pub instances_declared : Inputs → (resource : ℕ) → List ℕ
instances_declared i resource = scopes.instances_declared (system_of i) resource 0 0 (system_of i).paths

abbrev pub resources_declared : Inputs → List ℕ
resources_declared i = scopes.resources_declared (system_of i) 0 (system_of i).resource_names

-- what the variables of an instance begin with, and the signals of all instances
abbrev pub initial_in : Inputs → Path → Name → Value
initial_in i = scopes.initial_in (system_of i)

abbrev pub instances_begun : Inputs → List ℕ
instances_begun i = scopes.instances_begun (system_of i) 0 (system_of i).paths

abbrev pub head_text : Inputs → List ℕ
head_text i = scopes.head_text (system_of i)

-- ---- Dumps

abbrev pub IsDump : Inputs → Dump → Type 0
IsDump i = writing.IsDump (system_of i)

abbrev pub HasShown : Inputs → List Line → (shown : List ℕ) → Dump → Type 0
HasShown i = writing.HasShown (system_of i)

abbrev pub end_text : Inputs → (tick : ℕ) → Ending → List ℕ
end_text i = dumps.end_text (system_of i)

abbrev pub dump_text : Inputs → List Line → Ending → List ℕ
dump_text i = dumps.dump_text (system_of i)

-- ---- What was taken of a trace, and what a writer got

abbrev pub IsTaken : Inputs → (form : Form) → (text : List ℕ) → (old new : Progress) → Type 0
IsTaken i = copying.IsTaken (system_of i)

abbrev pub RefusesLine : Inputs → (form : Form) → (tick number : ℕ) → List ℕ → WaveError → Type 0
RefusesLine i = copying.RefusesLine (system_of i)

abbrev pub IsFinished : Inputs → (end : Outcome) → (before : Progress) → (left old new : Option (List ℕ)) → Type 0
IsFinished i = copying.IsFinished (system_of i)

abbrev pub IsUnfinished : Inputs → Progress → (old new : Option (List ℕ)) → WaveError → Type 0
IsUnfinished i = copying.IsUnfinished (system_of i)

abbrev pub IsWave : Inputs → (text : List ℕ) → (old new : Option (List ℕ)) → Type 0
IsWave i = waves.IsWave (system_of i)

abbrev pub FailsWave : Inputs → (old new : Option (List ℕ)) → WaveError → Type 0
FailsWave i = waves.FailsWave (system_of i)

abbrev pub Blames : Inputs → (text : Option (List ℕ)) → WaveError → Type 0
Blames i = refusals.Blames (system_of i)

abbrev pub WritesBefore : Inputs → (text old new : Option (List ℕ)) → WaveError → Type 0
WritesBefore i = fronts.WritesBefore (system_of i)

abbrev pub IsRefusedLine : Inputs → (text : Option (List ℕ)) → CurrentLine → WaveError → Type 0
IsRefusedLine i = current_lines.IsRefusedLine (system_of i)

-- The wave of a trace that may be cut off is shown.
abbrev pub IsShown : Cut → Inputs → (text : List ℕ) → (old new : Option (List ℕ)) → Type 0
IsShown cut i = cut_off.IsShown cut (system_of i)

abbrev pub FailsShown : Cut → Inputs → (old new : Option (List ℕ)) → WaveError → Type 0
FailsShown cut i = cut_off.FailsShown cut (system_of i)

abbrev pub BlamesShown : Cut → Inputs → (text : Option (List ℕ)) → WaveError → Type 0
BlamesShown cut i = cut_off.BlamesShown cut (system_of i)

abbrev pub IsUncut : Inputs → (number : ℕ) → (text : List ℕ) → Type 0
IsUncut i = cut_off.IsUncut (system_of i)
