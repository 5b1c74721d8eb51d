-- Laws of takings, and of what traces cover.
use Rattle.std.specs.Prelude.{◌≡◌, ◌<◌, ◌≤◌, ◌^◌, ℕ, ◌+◌, List, ◌∷◌, ◌++◌, map, length, Option, Some, true}
use Rattle.std.specs.Io.KnownBytes.{Appends}
use Rattle.fb_types.specs.Blocks.{Emission, Kind}
use Rattle.fb_types.specs.Charts.{Position}
use Rattle.fb_types.specs.Headline.{AreAccepted, Inputs, IsTrace, stimuli_of, system_of}
use Rattle.fb_types.specs.Names.{Name}
use Rattle.fb_types.specs.Numbers.{line_of}
use Rattle.fb_types.specs.Text.{lines_text}
use Rattle.fb_types.specs.Reactions.{Outcome, Reacts, World}
use Rattle.fb_types.specs.Simulation as simulation
use Rattle.fb_types.specs.Simulation.{Ending, IsSimulation, ending_of}
use Rattle.fb_types.specs.States.{Event as AnEvent, Line, path_of}
use Rattle.fb_types.specs.Systems.{System}
use Rattle.fb_types.specs.declared.key.Key.{Key}
use Rattle.fb_types.specs.declared.library.BasicType.{BasicType}
use Rattle.fb_types.specs.declared.run.Form.{Form}
use Rattle.fb_types.specs.declared.run.Line as run
use Rattle.fb_types.specs.declared.value.Reason.{Reason}
use Rattle.fb_types.specs.declared.value.Reason.TheVariants.{Steps}
use Rattle.fb_laws.specs.Sound.{AreGood}
use Rattle.fb_system.specs.Networks.{AreNarrow}
use Rattle.fb_wave.specs.CutOff.{IsCutTrace}
use Rattle.fb_wave.specs.Lines.{IsTextOf}
use Rattle.fb_wave.specs.Named.{HasNames}
use Rattle.fb_wave.specs.Waves.{AreLinesOf, IsTraceOf}
use Rattle.fb_coverage.specs.declared.marks.Marks.{Marks}
use Rattle.fb_inspect.specs.walk.Chains.{Piece, ShowsReaction}
use Rattle.fb_inspect.specs.Happenings.{AreMarkedBy, History, together}
use Rattle.fb_inspect.specs.Inspections.{AreTakings, BeginsWith, EndsSo, IsInspected, ShowsBefore, all_lines, all_text, last_look}
use Rattle.fb_inspect.specs.Selections.{Selection}
use Rattle.fb_inspect.specs.StateWaves.{AreFirst}
use Rattle.fb_inspect.specs.dump.StateDumps.{HaveLines, Taken, lines_of, state_dump, takings_of}
use Rattle.fb_inspect.specs.walk.Looks.{IsTaking, IsTakingAt, Look, Taking, most, opening_look}
use Rattle.fb_inspect.specs.Refusals.{IsAccepted, IsWrongAt}
use Rattle.fb_inspect.specs.walk.RunLines.{HaveRoom}
use Rattle.fb_inspect.specs.walk.RunTakings.{BeginsSo, CanReact, GoesOn, IsSeenIn, IsTakingOf, MayHaveMore, due_before}
use Rattle.fb_inspect.specs.walk.SameLines.{IsSameLine}

-- ---- Lines

-- A text is that of one line at most, as far as the form shows it.
abbrev pub OneLine : Type 0
OneLine =
    (i : Inputs) → AreAccepted i → HasNames (system_of i) → (form : Form) (l m : run.Line) (text : List ℕ) → IsTextOf (system_of i) form l text → IsTextOf (system_of i) form m text
    → IsSameLine form l m

-- ---- Texts

-- A text that is a trace is none that is cut off.
abbrev pub WholeOrCut : Type 0
WholeOrCut =
    (sys : System) (form other : Form) (text : List ℕ) (ls ms : List run.Line) (end : Ending) → HasNames sys → IsTraceOf sys form text ls end → IsCutTrace sys other text ms → ⊥

-- ---- Takings

-- What the blocks remember and its first line determine a taking.
abbrev pub OneTaking : Type 0
OneTaking = (sys : System) (limit : ℕ) (look : Look) (x y : Taking) → IsTaking sys limit look x → IsTaking sys limit look y → x.first ≡ y.first → x ≡ y

-- Each line of an event that an instance takes begins a taking.
abbrev pub SomeTaking : Type 0
SomeTaking = (left : ℕ) (look : Look) (k : Kind) (l : Line) → l.taken ≡ true → (x : Taking) × (x.first ≡ l) × IsTakingAt left look (Some k) x

-- The lines determine the takings: those of a text begin with those of a text that it begins with.
abbrev pub OneRow : Type 0
OneRow =
    (sys : System) (limit : ℕ) (look : Look) (xs ys : List Taking) (more : List Line) → AreTakings sys limit look xs → AreTakings sys limit look ys
    → all_lines ys ≡ all_lines xs ++ more → (zs : List Taking) × (ys ≡ xs ++ zs) × (all_lines zs ≡ more)

-- What is shown of lines that begin with those of other takings begins with what is shown of these.
abbrev pub ShownAlike : Type 0
ShownAlike =
    (sys : System) (form : Form) (what : Selection) (xs ys : List Taking) (more : List Line) → AreTakings sys most (opening_look sys) xs → AreTakings sys most (opening_look sys) ys
    → all_lines ys ≡ all_lines xs ++ more → BeginsWith (all_text form sys what xs) (all_text form sys what ys)

-- What is shown of takings begins what is shown of each trace whose lines are theirs and then at least one more. Such a trace may stop for its
-- steps, with any limit.
abbrev pub ShownBefore : Type 0
ShownBefore =
    (sys : System) (form : Form) (what : Selection) (steps : ℕ) (xs ys : List Taking) (next : Line) (more : List Line) (end : Ending) → steps ≤ most → AreTakings sys most (opening_look sys) xs → EndsSo sys steps ys end
    → all_lines ys ≡ all_lines xs ++ next ∷ more → BeginsWith (all_text form sys what xs) (all_text form sys what ys)

-- A text has each line of the system that another one has before the line of this number.
abbrev pub AreSameBefore : System → (number : ℕ) → (text other : List ℕ) → Type 0
AreSameBefore sys number text other =
    (form : Form) (ls : List run.Line) → AreLinesOf sys ls → length ls < number → BeginsWith (lines_text form sys (map (line_of sys) ls)) text → BeginsWith (lines_text form sys (map (line_of sys) ls)) other

-- What was written of a text before the line of this number was refused begins what is written of each whole trace with the lines before that,
-- with any limit.
abbrev pub TextsShownBefore : Type 0
TextsShownBefore =
    (i : Inputs) → AreAccepted i → HasNames (system_of i) → (what : Selection) (number steps : ℕ) (text other bytes : List ℕ) (old new : Option (List ℕ)) → steps ≤ most → ShowsBefore (system_of i) what number text old new
    → AreSameBefore (system_of i) number text other → IsInspected (system_of i) what steps other bytes → (got : List ℕ) × Appends old new got × BeginsWith got bytes

-- The same of dumps: what begins each dump of a trace that begins with takings begins the dump of each such trace.
abbrev pub DumpedBefore : Type 0
DumpedBefore =
    (sys : System) (steps : ℕ) (xs ys : List Taken) (next : run.Line) (more : List run.Line) (end : Ending) (bytes : List ℕ) → steps ≤ most → HaveLines sys xs → HaveLines sys ys
    → AreTakings sys most (opening_look sys) (takings_of xs) → EndsSo sys steps (takings_of ys) end → lines_of ys ≡ lines_of xs ++ next ∷ more → AreFirst sys xs bytes → BeginsWith bytes (state_dump true sys ys end)

-- A reaction that does not run out of steps is the same with more of them, and it is shown alike.
abbrev pub MoreSteps : Type 0
MoreSteps =
    (t : BasicType) (e : Name) (p q : Position) (stop : Option Reason) (ps : List Piece) (more : ℕ) → ShowsReaction t e p stop q ps → (stop ≡ Some Steps → ⊥)
    → ShowsReaction t e (record p { left = p.left + more }) stop (record q { left = q.left + more }) ps

-- A reaction emits the first of what it emits with more steps.
abbrev pub FewerSteps : Type 0
FewerSteps =
    (t : BasicType) (e : Name) (p q u : Position) (s r : Option Reason) (ps qs : List Piece) (more : ℕ) → ShowsReaction t e p s q ps
    → ShowsReaction t e (record p { left = p.left + more }) r u qs → (rest : List Emission) × (u.emitted ≡ q.emitted ++ rest)

-- Each reaction of a run is a taking with the same lines, also where more steps are left, if it does not stop for them.
abbrev pub ReactionsAreTakings : Type 0
ReactionsAreTakings =
    (sys : System) (k : Key) (w : World) (event : AnEvent) (left more : ℕ) (look : Look) (o : Outcome) → IsSeenIn sys look w → CanReact sys look k event → Reacts sys k w event left o
    → MayHaveMore more o.stop → (x : Taking) × IsTakingOf sys k (path_of event) left more look (due_before look event) o x

-- The takings of a run of what was accepted, to any horizon and with any limit, are those of a walk through its trace, which ends as the
-- run.
abbrev pub RunsAreTakings : Type 0
RunsAreTakings =
    (i : Inputs) → AreAccepted i → (horizon limit : ℕ) → horizon ≤ 10 ^ 12 → limit ≤ most → (ts : List simulation.Taken) → IsSimulation (system_of i) (stimuli_of i) horizon limit ts
    → (takings : List Taking) × (all_lines takings ≡ simulation.lines_of ts) × EndsSo (system_of i) limit takings (ending_of horizon ts)

-- Where the lines of a run begin with those of takings of a walk and the first line of one more, they go on with the emissions of that
-- taking, or the run stops in them for its steps.
abbrev pub RunsGoOn : Type 0
RunsGoOn =
    (i : Inputs) → AreAccepted i → (horizon limit : ℕ) → horizon ≤ 10 ^ 12 → limit ≤ most → (ts : List simulation.Taken) → IsSimulation (system_of i) (stimuli_of i) horizon limit ts
    → (xs : List Taking) (x : Taking) (more : List Line) → AreTakings (system_of i) most (opening_look (system_of i)) xs → IsTaking (system_of i) most (last_look (opening_look (system_of i)) xs) x
    → simulation.lines_of ts ≡ all_lines xs ++ x.first ∷ more → GoesOn x more (ending_of horizon ts)

-- Where the lines of a run go on after those of takings of a walk, the next one begins a taking.
abbrev pub RunsBegin : Type 0
RunsBegin =
    (i : Inputs) → AreAccepted i → (horizon limit : ℕ) → horizon ≤ 10 ^ 12 → limit ≤ most → (ts : List simulation.Taken) → IsSimulation (system_of i) (stimuli_of i) horizon limit ts
    → (xs : List Taking) (l : Line) (more : List Line) → AreTakings (system_of i) most (opening_look (system_of i)) xs → simulation.lines_of ts ≡ all_lines xs ++ l ∷ more
    → BeginsSo (system_of i) limit xs l (ending_of horizon ts)

-- ---- What is accepted

-- Each trace of each run of what was accepted, to any horizon and with any limit, is one that `inspect` accepts with that limit. In form Two
-- its keys are ones that lines have room for.
abbrev pub TracesAreAccepted : Type 0
TracesAreAccepted =
    (i : Inputs) → AreGood i → AreNarrow i.library.blocks → (form : Form) (horizon limit : ℕ) (bytes : List ℕ) (end : Ending) → 0 < horizon → horizon ≤ 10 ^ 12 → limit ≤ most
    → (trace : IsTrace i form horizon limit bytes end) → HaveRoom form (simulation.lines_of trace.takings) → IsAccepted (system_of i) limit bytes

-- A text that is wrong at a line is no trace of any run with that limit, whatever the stimuli, the horizon and the form are.
abbrev pub RefusedIsNoRun : Type 0
RefusedIsNoRun =
    (i : Inputs) → AreGood i → AreNarrow i.library.blocks → HasNames (system_of i) → (limit n : ℕ) (text : List ℕ) → limit ≤ most → IsWrongAt (system_of i) limit n text
    → (form : Form) (horizon : ℕ) (end : Ending) → 0 < horizon → horizon ≤ 10 ^ 12 → (trace : IsTrace i form horizon limit text end) → HaveRoom form (simulation.lines_of trace.takings) → ⊥

-- A text that is accepted is wrong at no line, whatever the text is.
abbrev pub AcceptedIsNotWrong : Type 0
AcceptedIsNotWrong =
    (i : Inputs) → AreAccepted i → HasNames (system_of i) → (steps n : ℕ) (text : List ℕ) → steps ≤ most → IsAccepted (system_of i) steps text → IsWrongAt (system_of i) steps n text → ⊥

-- ---- Marks

-- Marks of one trace after another are those of all their takings.
abbrev pub AddsUp : Type 0
AddsUp =
    (i : Inputs) (h : History) (hs : List History) (first next last : Marks) → AreMarkedBy i h first next → AreMarkedBy i (together hs) next last
    → AreMarkedBy i (together (h ∷ hs)) first last
