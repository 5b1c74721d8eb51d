-- What contracts say of a walk through a trace: its value is what stays the same during it (`Fixed`), and each of these is of its system, of the
-- types of blocks that this declares, and of the form of the lines.
use Rattle.std.specs.Prelude.{ℕ, List, [], ◌∷◌, Option, Result}
use Rattle.fb_types.specs.EventBlocks as event_blocks
use Rattle.fb_types.specs.Blocks.{Emission}
use Rattle.fb_types.specs.Headline.{system_of}
use Rattle.fb_types.specs.Numbers as numbers
use Rattle.fb_types.specs.Systems.{System}
use Rattle.fb_types.specs.Text.{line_text}
use Rattle.fb_types.specs.declared.event_kind.EventKind.{EventKind}
use Rattle.fb_types.specs.declared.library.BlockType.{BlockType}
use Rattle.fb_types.specs.declared.library.Ports.{Ports}
use Rattle.fb_types.specs.declared.run.Emission as run
use Rattle.fb_types.specs.declared.run.Line.{Line}
use Rattle.fb_types.specs.declared.value.Reason.{Reason}
use Rattle.fb_coverage.specs.declared.marks.Marks.{Marks}
use Rattle.fb_wave.specs.CutOff as cut_off
use Rattle.fb_wave.specs.Lines as traces
use Rattle.fb_wave.specs.Named as named
use Rattle.fb_wave.specs.declared.truncation.Cut.{Cut}
use Rattle.fb_inspect.specs.Selections.{Selection}
use Rattle.fb_inspect.specs.Covering as covering
use Rattle.fb_inspect.specs.Inspections as inspections
use Rattle.fb_inspect.specs.walk.Lines as lines
use Rattle.fb_inspect.specs.walk.Looks.{IsTaking, IsTakingAt, Look, Seen, Taking, opening_look}
use Rattle.fb_inspect.specs.walk.Moves as moves
use Rattle.fb_inspect.specs.walk.Moves.{shown_text}
use Rattle.fb_inspect.specs.Refusals as refusals
use Rattle.fb_inspect.specs.walk.Standing as standing
use Rattle.fb_inspect.specs.StateWaves as state_waves
use Rattle.fb_inspect.specs.walk.Stepping as stepping
use Rattle.fb_inspect.specs.walk.Timing as timing
use Rattle.fb_inspect.specs.walk.Timing.{taken_reaction, taken_variables}
use Rattle.fb_inspect.specs.walk.Walking as walking
use Rattle.fb_inspect.specs.dump.Waving as waving
use Rattle.fb_inspect.specs.declared.refused.finding.Finding.{Finding}
use Rattle.fb_inspect.specs.declared.walk.ahead.Ahead.{Ahead}
use Rattle.fb_inspect.specs.declared.walk.blocks.EventBlock.{EventBlock}
use Rattle.fb_inspect.specs.declared.walk.blocks.Remembered.{Remembered}
use Rattle.fb_inspect.specs.declared.walk.error.Refusal.{Refusal}
use Rattle.fb_inspect.specs.declared.walk.error.WalkError.{WalkError}
use Rattle.fb_inspect.specs.declared.walk.reading.Reading.{Reading}
use Rattle.fb_inspect.specs.declared.dump.state_wave.StateWave.{StateWave}
use Rattle.fb_inspect.specs.declared.walk.trail.Fixed.{Fixed}
use Rattle.fb_inspect.specs.declared.walk.trail.Trail.{Trail}
use Rattle.fb_inspect.specs.declared.walk.Extent.{Extent}
use Rattle.fb_inspect.specs.declared.walk.Step.{Step}
use Rattle.fb_inspect.specs.declared.walk.Walk.{Walk}

abbrev pub sys_of : Fixed → System
sys_of f = system_of f.table.now.system.now

abbrev pub types_of : Fixed → List BlockType
types_of f = f.table.now.system.now.library.blocks

abbrev pub HasNames : Fixed → Type 0
HasNames f = named.HasNames (sys_of f)

abbrev pub AreApart : Fixed → Type 0
AreApart f = standing.AreApart (sys_of f)

-- the interface of the instance of a line
abbrev pub ports_in : Fixed → Line → Ports
ports_in f l = numbers.ports_at (sys_of f) (numbers.path_at (sys_of f) l.instance)

-- ---- Lines

abbrev pub IsLineOf : Fixed → Line → Type 0
IsLineOf f = traces.IsLineOf (sys_of f)

abbrev pub IsTextOf : Fixed → Line → (text : List ℕ) → Type 0
IsTextOf f = traces.IsTextOf (sys_of f) f.form

abbrev pub IsPlainLine : Fixed → Line → Type 0
IsPlainLine f = refusals.IsPlainLine (sys_of f) f.form

-- what the next line is, after one of this tick
abbrev pub IsNext : Fixed → (tick : ℕ) → Reading → Type 0
IsNext f tick reading = lines.IsNext (sys_of f) f.form tick reading.line.items reading.next

abbrev pub IsNextLine : Fixed → (tick : ℕ) → Reading → Type 0
IsNextLine f tick reading = lines.IsNextLine (sys_of f) f.form tick reading.line.items reading.next

-- Lines were passed. The text of one, where its instance is shown, was added.
abbrev pub GoesPast : Fixed → (tick : ℕ) → Line → (old new : Trail) → (left after : Option (List ℕ)) → Type 0
GoesPast f tick l old new =
    moves.Goes (sys_of f) f.form tick (l ∷ []) (shown_text old.is_shown (line_text f.form (sys_of f) (numbers.line_of (sys_of f) l))) old new

abbrev pub EmitsGo : Fixed → Line → List run.Emission → (old new : Trail) → (left after : Option (List ℕ)) → Type 0
EmitsGo f = moves.EmitsGo (sys_of f) f.form

abbrev pub EmitsFail : Fixed → Line → List Emission → (old new : Reading) → (left after : Option (List ℕ)) → Refusal → Type 0
EmitsFail f = refusals.EmitsFail (sys_of f) f.form

-- ---- Lines that were read ahead

abbrev pub AreGathered : Fixed → (first : Line) → (rows : List Line) → (text last : List ℕ) → (input remaining : Option (List ℕ)) → Type 0
AreGathered f = walking.AreGathered (sys_of f) f.form

abbrev pub AreCutOff : Fixed → (first : Line) → (rows : List Line) → (text : List ℕ) → (input : Option (List ℕ)) → Type 0
AreCutOff f = walking.AreCutOff (sys_of f) f.form

abbrev pub AreAhead : Fixed → (first : Line) → (rows : List Line) → (text last rest : List ℕ) → Type 0
AreAhead f = standing.AreAhead (sys_of f) f.form

abbrev pub MayBeAhead : Fixed → (first : Line) → (text last rest : List ℕ) → Type 0
MayBeAhead f = standing.MayBeAhead (sys_of f) f.form

abbrev pub IsNear : Fixed → Line → (last : List ℕ) → Type 0
IsNear f = standing.IsNear (sys_of f)

abbrev pub IsNotNear : Fixed → Line → (last : List ℕ) → Type 0
IsNotNear f = standing.IsNotNear (sys_of f)

abbrev pub IsOwnStop : Fixed → Line → (text : List ℕ) → Type 0
IsOwnStop f = standing.IsOwnStop (sys_of f)

abbrev pub KeepsSteps : Fixed → (steps : ℕ) → Look → Type 0
KeepsSteps f = inspections.KeepSteps (sys_of f)

abbrev pub KeepsTakings : Fixed → (steps : ℕ) → List Taking → Type 0
KeepsTakings f steps takings = inspections.KeepSteps (sys_of f) steps (inspections.last_look (opening_look (sys_of f)) takings)

-- ---- The reaction of one block

-- What is kept of the instance of a line says what the look says of it.
abbrev pub IsKeptAt : Fixed → Line → Remembered → Look → Type 0
IsKeptAt f l b look = let p = numbers.path_at (sys_of f) l.instance in walking.IsKept ((sys_of f).kind p) b (look.blocks p)

abbrev pub IsBlockLine : Fixed → EventBlock → Line → Type 0
IsBlockLine f = timing.IsBlockLine (sys_of f)

abbrev pub CanReact : Fixed → Remembered → Line → (text : List ℕ) → Type 0
CanReact f = walking.CanReact (sys_of f) f.form

abbrev pub KeptGoes : Fixed → Look → (left : ℕ) → Line → (stop : Option Reason) → Remembered → (steps : ℕ) → (old new : Trail) → (remaining rest : Option (List ℕ)) → Type 0
KeptGoes f = walking.KeptGoes (types_of f) (sys_of f) f.form

-- An event block took the event of a line.
abbrev pub TakenGoes : Fixed → EventKind → Line → Seen → EventBlock → (old new : Trail) → (left after : Option (List ℕ)) → Type 0
TakenGoes f kind l s = timing.BlockGoes (sys_of f) f.form kind l (taken_reaction (sys_of f) kind s l) (taken_variables (sys_of f) s l) s.due s

abbrev pub TimerGoes : Fixed → EventKind → Line → Seen → EventBlock → (old new : Trail) → (left after : Option (List ℕ)) → Type 0
TimerGoes f = timing.TimerGoes (sys_of f) f.form

-- what an event block does with the event of a line
abbrev pub reaction_at : Fixed → EventKind → Seen → Line → event_blocks.Reaction
reaction_at f = taken_reaction (sys_of f)

abbrev pub IsNotDue : Fixed → EventKind → Seen → Line → (old new : Reading) → Refusal → Type 0
IsNotDue f = refusals.IsNotDue (sys_of f)

-- No reaction of the instance of a line, with this number of steps left, gives the line and those after it.
abbrev pub FailsAt : Fixed → (left : ℕ) → Look → Line → (old new : Reading) → (remaining rest : Option (List ℕ)) → Refusal → Type 0
FailsAt f left look l =
    refusals.FailsBy (IsTakingAt left look ((sys_of f).kind (numbers.path_at (sys_of f) l.instance))) (refusals.IsUnbegun (sys_of f) l) (sys_of f) f.form l

-- ---- One taking

abbrev pub AreKept : Fixed → List Remembered → Look → Type 0
AreKept f = walking.AreKept (sys_of f)

-- What a walk keeps says what the look says.
abbrev pub LooksAs : Fixed → Walk → Look → Type 0
LooksAs f walk look = walking.IsLookOf (sys_of f) walk.blocks.items walk.steps.items look

abbrev pub HasLook : Fixed → Walk → Type 0
HasLook f walk = (look : Look) × LooksAs f walk look

abbrev pub WalkTakes : Fixed → Look → Line → (stop : Option Reason) → (old new : Walk) → (remaining rest : Option (List ℕ)) → Type 0
WalkTakes f = walking.WalkTakes (types_of f) (sys_of f) f.form f.limit

-- No taking from the look gives the line of an event and those after it.
abbrev pub TakingFails : Fixed → Look → Line → (old new : Reading) → (remaining rest : Option (List ℕ)) → Refusal → Type 0
TakingFails f look l = refusals.FailsBy (IsTaking (sys_of f) f.limit look) (refusals.IsUnstarted (sys_of f) f.limit look l) (sys_of f) f.form l

-- ---- One step

abbrev pub LineGoes : Fixed → (steps : ℕ) → Look → Line → (old new : Walk) → Ahead → (remaining rest : Option (List ℕ)) → Step → Type 0
LineGoes f = stepping.LineGoes (types_of f) (sys_of f) f.form

abbrev pub StepGoes : Fixed → (steps : ℕ) → Look → (old new : Walk) → Ahead → (remaining rest : Option (List ℕ)) → Step → Type 0
StepGoes f = stepping.StepGoes (types_of f) (sys_of f) f.form

abbrev pub HasCovered : Fixed → (first : Marks) → (what : Selection) → (steps : ℕ) → Walk → (input remaining old new : Option (List ℕ)) → Type 0
HasCovered f first = walking.HasCovered (types_of f) first (sys_of f) f.form

abbrev pub HasAdvanced : Fixed → (first : Marks) → (what : Selection) → (steps : ℕ) → Walk → (input remaining old new : Option (List ℕ)) → Step → Type 0
HasAdvanced f first = walking.HasAdvanced (types_of f) first (sys_of f) f.form

-- ---- Where a walk stands

abbrev pub BeginsText : Fixed → (line : List ℕ) → (excess : Option ℕ) → (rest text : List ℕ) → Type 0
BeginsText f = standing.BeginsText (sys_of f) f.form

abbrev pub StandsAt : Fixed → List Taking → Walk → (ahead last : List ℕ) → Line → (rest text : List ℕ) → Type 0
StandsAt f = standing.StandsAt (sys_of f) f.form

abbrev pub StandsWell : Fixed → (steps : ℕ) → Walk → Ahead → (rest text : List ℕ) → Type 0
StandsWell f = standing.StandsWell (sys_of f) f.form

abbrev pub Watches : Fixed → (steps : ℕ) → List Taking → (excess : Option ℕ) → Type 0
Watches f = standing.Watches (sys_of f)

abbrev pub BlamesSteps : Fixed → Line → (excess : Option ℕ) → Reading → Finding → WalkError → Type 0
BlamesSteps f = standing.BlamesSteps (sys_of f)

abbrev pub GoesAfter : Fixed → (steps : ℕ) → Walk → Ahead → (remaining : Option (List ℕ)) → (text : List ℕ) → Result Step WalkError → Type 0
GoesAfter f = standing.GoesAfter (sys_of f) f.form

abbrev pub StandsWhole : Fixed → (steps : ℕ) → Walk → Ahead → (rest text : List ℕ) → Type 0
StandsWhole f = standing.StandsWhole (sys_of f) f.form

abbrev pub StandsWholeAt : Fixed → (steps : ℕ) → Walk → Ahead → Line → (rest text : List ℕ) → Type 0
StandsWholeAt f = standing.StandsWholeAt (sys_of f) f.form

abbrev pub ReadsWhole : Fixed → Line → (old new : Ahead) → (before : List ℕ) → (remaining : Option (List ℕ)) → Type 0
ReadsWhole f = standing.ReadsWhole (sys_of f) f.form

abbrev pub GoesWhole : Fixed → (steps : ℕ) → Walk → Ahead → (remaining : Option (List ℕ)) → (text : List ℕ) → Result Step WalkError → Type 0
GoesWhole f = standing.GoesWhole (sys_of f) f.form

abbrev pub IsUncut : Fixed → (number : ℕ) → (text : List ℕ) → Type 0
IsUncut f = cut_off.IsUncut (sys_of f)

abbrev pub IsWrongFor : Fixed → (steps : ℕ) → Refusal → (line text : List ℕ) → Type 0
IsWrongFor f = refusals.IsWrongFor (sys_of f)

-- ---- Whole traces

abbrev pub Starts : Fixed → (what : Selection) → Walk → Type 0
Starts f = walking.Starts (sys_of f) f.form

abbrev pub IsShownBy : Cut → Fixed → (what : Selection) → (steps : ℕ) → (text : List ℕ) → (old new : Option (List ℕ)) → Type 0
IsShownBy cut f = inspections.IsShownBy cut (sys_of f)

abbrev pub ShowsRead : Fixed → (what : Selection) → (steps : ℕ) → (input old new : Option (List ℕ)) → Type 0
ShowsRead f = inspections.ShowsRead (sys_of f)

abbrev pub IsCoveredBy : Cut → Fixed → (what : Selection) → (steps : ℕ) → (text : List ℕ) → (old new : Marks) → Extent → Type 0
IsCoveredBy cut f = covering.IsCoveredBy cut f.table.now.system.now

-- ---- Dumps of whole traces
abbrev pub WaveStarts : Fixed → StateWave → Type 0
WaveStarts f = waving.WaveStarts (sys_of f) f.form

abbrev pub HasWaved : Fixed → (steps : ℕ) → StateWave → (input remaining old new : Option (List ℕ)) → Type 0
HasWaved f = waving.HasWaved (sys_of f) f.form

abbrev pub HasGoneOn : Fixed → (steps : ℕ) → StateWave → (input remaining old new : Option (List ℕ)) → Step → Type 0
HasGoneOn f = waving.HasGoneOn (sys_of f) f.form

abbrev pub IsShownWith : Cut → Fixed → (steps : ℕ) → (text : List ℕ) → (old new : Option (List ℕ)) → Type 0
IsShownWith cut f = state_waves.IsShownWith cut (sys_of f)

abbrev pub WritesRead : Fixed → (steps : ℕ) → (input old new : Option (List ℕ)) → Type 0
WritesRead f = state_waves.WritesRead (sys_of f)

abbrev pub ShowsBefore : Fixed → (what : Selection) → (number : ℕ) → (text : List ℕ) → (old new : Option (List ℕ)) → Type 0
ShowsBefore f = inspections.ShowsBefore (sys_of f)

abbrev pub WritesBefore : Fixed → (number : ℕ) → (text : List ℕ) → (old new : Option (List ℕ)) → Type 0
WritesBefore f = state_waves.WritesBefore (sys_of f)
