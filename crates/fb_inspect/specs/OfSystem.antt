-- What contracts say of the insides of a system: its value is the accepted inputs, and each of these is of the flat system.
use Rattle.std.specs.Prelude.{ℕ, List, Bool, true, Option}
use Rattle.fb_types.specs.Headline.{Inputs, system_of}
use Rattle.fb_types.specs.Names.{Name}
use Rattle.fb_types.specs.Simulation.{Ending}
use Rattle.fb_types.specs.declared.run.Form.{Form}
use Rattle.fb_types.specs.declared.run.Line.{Line}
use Rattle.fb_trace.specs.declared.last.Outcome.{Outcome}
use Rattle.fb_coverage.specs.declared.marks.Marks.{Marks}
use Rattle.fb_wave.specs.declared.current_line.CurrentLine.{CurrentLine}
use Rattle.fb_wave.specs.declared.ports.Port.{Port}
use Rattle.fb_wave.specs.declared.truncation.Cut.{Cut}
use Rattle.fb_inspect.specs.Selections.{Selection}
use Rattle.fb_inspect.specs.dump.Dumping as dumping
use Rattle.fb_inspect.specs.dump.Heads as heads
use Rattle.fb_inspect.specs.Inspections as inspections
use Rattle.fb_inspect.specs.refused.LineFaults as line_faults
use Rattle.fb_inspect.specs.refused.Messages as messages
use Rattle.fb_inspect.specs.walk.Lines as lines
use Rattle.fb_inspect.specs.walk.Looks as looks
use Rattle.fb_inspect.specs.walk.Moves as moves
use Rattle.fb_inspect.specs.Refusals as refusals
use Rattle.fb_inspect.specs.dump.StateDumps.{Taken}
use Rattle.fb_inspect.specs.dump.StateDumps as state_dumps
use Rattle.fb_inspect.specs.StateWaves as state_waves
use Rattle.fb_inspect.specs.walk.Walking as walking
use Rattle.fb_inspect.specs.dump.Waving as waving
use Rattle.fb_inspect.specs.declared.error.InspectError.{InspectError}
use Rattle.fb_inspect.specs.declared.walk.error.Refusal.{Refusal}
use Rattle.fb_inspect.specs.declared.dump.before.Before.{Before}
use Rattle.fb_inspect.specs.declared.walk.blocks.Remembered.{Remembered}
use Rattle.fb_inspect.specs.declared.refused.finding.Finding.{Finding}
use Rattle.fb_inspect.specs.declared.refused.line_fault.LineFault.{LineFault}
use Rattle.fb_inspect.specs.declared.refused.line_fault.PortFault.{PortFault}
use Rattle.fb_inspect.specs.declared.refused.line_fault.ValueFault.{ValueFault}
use Rattle.fb_inspect.specs.declared.dump.port_dump.PortDump.{PortDump}
use Rattle.fb_inspect.specs.declared.walk.reading.Next.{Next}
use Rattle.fb_inspect.specs.declared.walk.reading.Reading.{Reading}
use Rattle.fb_inspect.specs.declared.dump.state_wave.EventAt.{EventAt}
use Rattle.fb_inspect.specs.declared.dump.state_wave.StateWave.{StateWave}
use Rattle.fb_inspect.specs.declared.walk.Walk.{Walk}

-- ---- Blocks

abbrev pub opening_look : Inputs → looks.Look
opening_look i = looks.opening_look (system_of i)

abbrev pub OpensAs : Inputs → (instance : ℕ) → Remembered → Type 0
OpensAs i = walking.OpensAs (system_of i)

abbrev pub OpenAll : Inputs → (count : ℕ) → List Remembered → Type 0
OpenAll i = walking.OpenAll (system_of i)

abbrev pub AreKept : Inputs → List Remembered → looks.Look → Type 0
AreKept i = walking.AreKept (system_of i)

abbrev pub AreShown : Inputs → (only : List Name) → (flags : List Bool) → Type 0
AreShown i = walking.AreShown (system_of i)

abbrev pub IsNextKept : Inputs → Walk → Before → Option EventAt → Type 0
IsNextKept i = waving.IsNextKept (system_of i)

-- ---- Lines

abbrev pub IsNext : Inputs → (form : Form) → (tick : ℕ) → (line : List ℕ) → Next → Type 0
IsNext i = lines.IsNext (system_of i)

abbrev pub IsLineAt : Inputs → (tick : ℕ) → Line → Type 0
IsLineAt i = moves.IsLineAt (system_of i)

abbrev pub IsWrongAt : Inputs → (steps number : ℕ) → (text : List ℕ) → Type 0
IsWrongAt i = refusals.IsWrongAt (system_of i)

abbrev pub IsWrongFor : Inputs → (steps : ℕ) → Refusal → (line text : List ℕ) → Type 0
IsWrongFor i = refusals.IsWrongFor (system_of i)

abbrev pub IsNamesFault : Inputs → InspectError → Type 0
IsNamesFault i = refusals.IsNamesFault (system_of i)

abbrev pub IsPathFault : Inputs → (only : List Name) → InspectError → Type 0
IsPathFault i = refusals.IsPathFault (system_of i)

-- ---- Why a line is none of the system

abbrev pub path_event : Inputs → Port → List ℕ
path_event i = line_faults.path_event (system_of i)

abbrev pub IsOfPort : Inputs → (text : List ℕ) → Type 0
IsOfPort i = line_faults.IsOfPort (system_of i)

abbrev pub IsPortFault : Inputs → (text : List ℕ) → PortFault → Type 0
IsPortFault i = line_faults.IsPortFault (system_of i)

abbrev pub IsNoInstance : Inputs → (path : List ℕ) → Type 0
IsNoInstance i = line_faults.IsNoInstance (system_of i)

abbrev pub IsPortValueFault : Inputs → Port → (text : List ℕ) → ValueFault → Type 0
IsPortValueFault i = line_faults.IsPortValueFault (system_of i)

abbrev pub IsLineNext : Inputs → CurrentLine → Type 0
IsLineNext i = line_faults.IsLineNext (system_of i)

abbrev pub CanGoOn : Inputs → CurrentLine → Type 0
CanGoOn i = line_faults.CanGoOn (system_of i)

abbrev pub Applies : Inputs → CurrentLine → LineFault → Type 0
Applies i = line_faults.Applies (system_of i)

abbrev pub finding_text : Inputs → Finding → List ℕ
finding_text i = messages.finding_text (system_of i)

abbrev pub fault_text : Inputs → (tick : ℕ) → LineFault → List ℕ
fault_text i = messages.fault_text (system_of i)

-- ---- Inspections

abbrev pub BeginsWalk : Inputs → (what : Selection) → Marks → Reading → Walk → Type 0
BeginsWalk i = walking.Begins (system_of i)

abbrev pub IsShownBy : Cut → Inputs → (what : Selection) → (steps : ℕ) → (text : List ℕ) → (old new : Option (List ℕ)) → Type 0
IsShownBy cut i = inspections.IsShownBy cut (system_of i)

abbrev pub ShowsFront : Inputs → (what : Selection) → (steps : ℕ) → (old new : Option (List ℕ)) → Type 0
ShowsFront i = inspections.ShowsFront (system_of i)

abbrev pub ShowsRead : Inputs → (what : Selection) → (steps : ℕ) → (input old new : Option (List ℕ)) → Type 0
ShowsRead i = inspections.ShowsRead (system_of i)

abbrev pub ShowsBefore : Inputs → (what : Selection) → (number : ℕ) → (text : List ℕ) → (old new : Option (List ℕ)) → Type 0
ShowsBefore i = inspections.ShowsBefore (system_of i)

-- ---- Dumps with the insides of blocks

-- the scopes of the instances of a resource, and those of all resources
abbrev pub instances_opened : Inputs → (resource : ℕ) → List ℕ
instances_opened i resource = heads.instances_opened true (system_of i) resource 0 0 (system_of i).paths

abbrev pub insides_begun : Inputs → List ℕ
insides_begun i = heads.insides_begun true (system_of i) (system_of i).paths

abbrev pub state_head : Inputs → List ℕ
state_head i = heads.state_head true (system_of i)

abbrev pub IsPortDump : Inputs → PortDump → Type 0
IsPortDump i = dumping.IsPortDump (system_of i)

abbrev pub Shows : Inputs → List Taken → (shown : List ℕ) → PortDump → Type 0
Shows i = dumping.Shows (system_of i)

abbrev pub ShowsLines : Inputs → List Line → (old new : PortDump) → Type 0
ShowsLines i = dumping.ShowsLines (system_of i)

abbrev pub ShowsUntaken : Inputs → List Taken → (untaken : List Line) → (shown : List ℕ) → PortDump → Type 0
ShowsUntaken i = dumping.ShowsUntaken (system_of i)

abbrev pub state_dump : Inputs → List Taken → Ending → List ℕ
state_dump i = state_dumps.state_dump true (system_of i)

-- ---- What a writer gets of them

abbrev pub BeginsWave : Inputs → Reading → StateWave → Type 0
BeginsWave i = waving.Begins (system_of i)

abbrev pub CanShow : Inputs → EventAt → StateWave → Type 0
CanShow i = waving.CanShow (system_of i)

abbrev pub ShowsTaking : Inputs → EventAt → (look after : looks.Look) → (old new : StateWave) → Type 0
ShowsTaking i = waving.ShowsTaking (system_of i)

abbrev pub Finishes : Inputs → (end : Outcome) → StateWave → (remaining old new : Option (List ℕ)) → Type 0
Finishes i = waving.Finishes (system_of i)

abbrev pub SendsPart : Inputs → (end : Outcome) → StateWave → (old new : Option (List ℕ)) → Type 0
SendsPart i = waving.SendsPart (system_of i)

abbrev pub IsShownWith : Cut → Inputs → (steps : ℕ) → (text : List ℕ) → (old new : Option (List ℕ)) → Type 0
IsShownWith cut i = state_waves.IsShownWith cut (system_of i)

abbrev pub WritesFront : Inputs → (steps : ℕ) → (old new : Option (List ℕ)) → Type 0
WritesFront i = state_waves.WritesFront (system_of i)

abbrev pub WritesRead : Inputs → (steps : ℕ) → (input old new : Option (List ℕ)) → Type 0
WritesRead i = state_waves.WritesRead (system_of i)

abbrev pub WritesBefore : Inputs → (number : ℕ) → (text : List ℕ) → (old new : Option (List ℕ)) → Type 0
WritesBefore i = state_waves.WritesBefore (system_of i)
