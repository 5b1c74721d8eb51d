-- Texts that a walk goes through, and the line at which another one is wrong: that is not what the reactions give.
use Rattle.std.specs.Prelude.{Contains, ◌≡◌, ◌<◌, ◌≤◌, ◌^◌, ◌⊎◌, ℕ, ◌+◌, List, [], ◌∷◌, ◌++◌, map, length, All, false, Option, Some, None}
use Rattle.std.specs.Io.BufRead.{take_through}
use Rattle.std.specs.Io.KnownBytes.{Consumes}
use Rattle.fb_types.specs.Blocks.{Basic, Emission, Event}
use Rattle.fb_types.specs.Charts.{Position}
use Rattle.fb_types.specs.Names.{Name}
use Rattle.fb_types.specs.Numbers.{emission_of, line_of, path_at, ports_at}
use Rattle.fb_types.specs.Simulation.{Ending, AtStop}
use Rattle.fb_types.specs.States.{Line}
use Rattle.fb_types.specs.Systems.{System}
use Rattle.fb_types.specs.Text.{last_line, lines_text}
use Rattle.fb_types.specs.declared.event_kind.EventKind.{EventKind}
use Rattle.fb_types.specs.declared.library.BasicType.{BasicType}
use Rattle.fb_types.specs.declared.run.Form.{Form}
use Rattle.fb_types.specs.declared.run.Emission as emitting
use Rattle.fb_types.specs.declared.run.Line as run
use Rattle.fb_types.specs.declared.value.Reason.{Reason}
use Rattle.fb_types.specs.declared.value.Reason.TheVariants.{Steps}
use Rattle.fb_wave.specs.Dumps.{last_tick}
use Rattle.fb_wave.specs.Lines.{IsEndOf, IsLineOf, IsTextOf}
use Rattle.fb_wave.specs.Named.{HasNames}
use Rattle.fb_wave.specs.Waves.{AreLinesOf, IsTraceOf}
use Rattle.fb_inspect.specs.walk.Chains.{Piece, Showing}
use Rattle.fb_inspect.specs.walk.Charting.{sys_of}
use Rattle.fb_inspect.specs.Inspections.{AreTakings, EndsSo, IsOwnLine, KeepSteps, KeepsLimit, NoneStops, RunsOut, all_lines, last_look, limited}
use Rattle.fb_inspect.specs.walk.Lines.{IsNoEndFrom, IsPlain}
use Rattle.fb_inspect.specs.walk.Looks.{IsTaking, Look, Seen, Taking, emission_line, emissions_by, left_at, most, opening_look, taking_lines}
use Rattle.fb_inspect.specs.refused.LineFaults.{IsNoInstance}
use Rattle.fb_inspect.specs.walk.Moves.{IsLineAt, StaysAlone}
use Rattle.fb_inspect.specs.walk.Timing.{timer_reaction}
use Rattle.fb_inspect.specs.walk.Walking.{MayEnd}
use Rattle.fb_inspect.specs.declared.walk.charts.ChartTaking.{ChartTaking}
use Rattle.fb_inspect.specs.declared.error.InspectError.{InspectError}
use Rattle.fb_inspect.specs.declared.error.InspectError.TheVariants as error
use Rattle.fb_inspect.specs.declared.refused.finding.Finding.{Finding}
use Rattle.fb_inspect.specs.declared.refused.finding.Finding.TheVariants as why
use Rattle.fb_inspect.specs.declared.walk.error.Refusal.{Refusal}
use Rattle.fb_inspect.specs.declared.walk.error.WalkError.{WalkError}
use Rattle.fb_inspect.specs.declared.walk.error.WalkError.TheVariants.{Refused, Memory, Read, Write}
use Rattle.fb_inspect.specs.declared.walk.reading.Reading.{Reading}

-- ---- Errors

-- what is said of the number of the line, where the error is the refusal of a line
abbrev pub OfRefusal : (ℕ → Type 0) → InspectError → Type 0
OfRefusal P (error.Refused n) = P n
OfRefusal P error.Names = Unit {0}
OfRefusal P error.Unknown = Unit {0}
OfRefusal P error.Memory = Unit {0}
OfRefusal P error.Read = Unit {0}
OfRefusal P (error.Write n) = Unit {0}

-- what is said of the refusal of a line, where the error of a walk is one
abbrev pub Refuses : (Refusal → Type 0) → WalkError → Type 0
Refuses P (Refused refusal) = P refusal
Refuses P Memory = Unit {0}
Refuses P Read = Unit {0}
Refuses P (Write n) = Unit {0}

-- No line is refused.
abbrev pub IsNoRefusal : WalkError → Type 0
IsNoRefusal e = Refuses (λ refusal. ⊥) e

-- The refusal is that of the line after this one, and nothing else was found there.
abbrev pub IsRefusalAfter : (number : ℕ) → Refusal → Type 0
IsRefusalAfter number refusal = (refusal.number ≡ number + 1) × (refusal.finding ≡ why.Line)

-- ---- Names and paths

-- Names are at fault only where they do not distinguish the ports of the system.
abbrev pub IsNamesFault : System → InspectError → Type 0
IsNamesFault sys e = e ≡ error.Names → HasNames sys → ⊥

-- A path is unknown only where it is one of these, and no instance of the system has it.
abbrev pub IsPathFault : System → (only : List Name) → InspectError → Type 0
IsPathFault sys only e = e ≡ error.Unknown → (path : Name) × Contains only path × IsNoInstance sys path

-- ---- Texts

-- The text is a trace of the system in which each block emits what its reaction gives.
pub record IsAccepted (sys : System) (steps : ℕ) (text : List ℕ) : Type 0 where
  pub form : Form
  pub lines : List run.Line
  pub end : Ending
  pub trace : IsTraceOf sys form text lines end
  pub takings : List Taking
  pub lines_are : map (line_of sys) lines ≡ all_lines takings
  pub ends : EndsSo sys steps takings end

-- The text is that of this line in no way.
abbrev pub IsOther : System → Form → List ℕ → Line → Type 0
IsOther sys form text l = (m : run.Line) → IsTextOf sys form m text → line_of sys m ≡ l → ⊥

-- ---- What was found

-- The finding is the emission of which this is the line.
abbrev pub IsEmitted : System → Line → Finding → Type 0
IsEmitted sys line (why.Emits instance e) =
    let x = emission_of (ports_at sys (path_at sys instance)) e in
    (line.at ≡ path_at sys instance) × (line.event ≡ x.event) × (line.values ≡ x.values)
IsEmitted sys line other = ⊥

-- No taking of the block of a line begins with it: the line is not that of an event that is taken, but a basic block reacts to no other, and
-- an event block emits by itself only when its timer goes off.
abbrev pub IsUnbegun : System → run.Line → Finding → Type 0
IsUnbegun sys line why.Unmade = (line.taken ≡ false) × ((t : BasicType) × (sys.kind (path_at sys line.instance) ≡ Some (Basic t)))
IsUnbegun sys line why.NotDue = (line.taken ≡ false) × ((k : EventKind) × (sys.kind (path_at sys line.instance) ≡ Some (Event k)))
IsUnbegun sys line other = ⊥

-- No taking begins with a line: its tick is later than any of a run, or its resource has no step left, or else for its block.
abbrev pub IsUnstarted : System → (limit : ℕ) → Look → run.Line → Finding → Type 0
IsUnstarted sys limit look line why.Late = line.key.tick ≤ 10 ^ 12 → ⊥
IsUnstarted sys limit look line why.NoStep = (line.key.tick ≤ 10 ^ 12) × (left_at limit line.key.tick (look.steps line.key.resource) ≡ 0)
IsUnstarted sys limit look line other =
    (line.key.tick ≤ 10 ^ 12) × (left_at limit line.key.tick (look.steps line.key.resource) ≡ 0 → ⊥) × IsUnbegun sys line other

-- A taking ended so, where the trace stops for steps: something else stopped it, or the line says that it ran out of steps, which it did
-- not, or the line says something that it does not emit.
abbrev pub IsEndFound : Option Reason → (says_so : Type 0) → Finding → Type 0
IsEndFound (Some reason) says_so finding = finding ≡ why.Stops reason
IsEndFound None says_so finding = ((finding ≡ why.Runs) × says_so) ⊎ ((finding ≡ why.Unmade) × (says_so → ⊥))

-- ---- Lines that were read

-- Names distinguish the lines of the system, and this is one of them, as the form shows it.
pub record IsPlainLine (sys : System) (form : Form) (l : run.Line) : Type 0 where
  pub names : HasNames sys
  pub line : IsLineOf sys l
  pub plain : IsPlain form l.key

-- These lines, all of one tick, were read, and the line after them.
pub record HasRead (sys : System) (form : Form) (tick : ℕ) (ls : List run.Line) (old new : Reading) (left after : Option (List ℕ)) : Type 0 where
  pub each : All (IsLineAt sys tick) ls
  pub taken : List ℕ
  pub took : Consumes left after taken
  pub read : old.line.items ++ taken ≡ lines_text form sys (map (line_of sys) ls) ++ new.line.items
  pub numbered : new.number ≡ old.number + length ls
  pub alone : StaysAlone old new left after

-- The lines that were read are those of these emissions of the block of a line, and the line after them, which has this number, is not that
-- of the next one.
pub record IsOtherwise (sys : System) (form : Form) (line : run.Line) (passed : List Emission) (next : Emission) (old new : Reading) (left after : Option (List ℕ)) (refusal : Refusal) : Type 0 where
  pub lines : List run.Line
  pub are : map (line_of sys) lines ≡ map (emission_line (line_of sys line)) passed
  pub reads : HasRead sys form line.key.tick lines old new left after
  pub number_is : refusal.number ≡ new.number
  pub emission : emitting.Emission
  pub emission_is : next ≡ emission_of (ports_at sys (path_at sys line.instance)) emission
  pub found : refusal.finding ≡ why.Emits line.instance emission
  pub other : IsOther sys form new.line.items (emission_line (line_of sys line) next)

-- One of these emissions of the block of a line is not in the line of this number, where it has to be.
pub record EmitsFail (sys : System) (form : Form) (line : run.Line) (es : List Emission) (old new : Reading) (left after : Option (List ℕ)) (refusal : Refusal) : Type 0 where
  pub passed : List Emission
  pub next : Emission
  pub more : List Emission
  pub parts : es ≡ passed ++ next ∷ more
  pub otherwise : IsOtherwise sys form line passed next old new left after refusal

-- ---- Reactions

-- A movement of a chart emits something that is not in the line of this number, where it has to be.
pub record ChartFails (x : ChartTaking) (S : Showing) (p : Position) (old new : Reading) (left after : Option (List ℕ)) (refusal : Refusal) : Type 0 where
  pub stop : Option Reason
  pub end : Position
  pub pieces : List Piece
  pub shows : S p stop end pieces
  pub fails : EmitsFail (sys_of x) x.fixed.form x.line.now end.emitted old new left after refusal

-- The timer of an event block goes off with this line, and the reaction emits these after it.
pub record IsOfTimer (sys : System) (kind : EventKind) (s : Seen) (line : run.Line) (emits : List Emission) : Type 0 where
  pub emitted : line.taken ≡ false
  pub due : s.due ≡ Some line.key.tick
  pub is : record { event = (line_of sys line).event; values = (line_of sys line).values } ∷ emits ≡ emissions_by kind (timer_reaction kind s line)

-- The line, which has this number, is not one with which the timer goes off.
pub record IsNotDue (sys : System) (kind : EventKind) (s : Seen) (line : run.Line) (old new : Reading) (refusal : Refusal) : Type 0 where
  pub same : new ≡ old
  pub number_is : refusal.number ≡ old.number
  pub found : refusal.finding ≡ why.NotDue
  pub other : (emits : List Emission) → IsOfTimer sys kind s line emits → ⊥

-- ---- Takings

-- No such taking begins with the line, which is refused, and this was found.
pub record IsNoTaking (T : Taking → Type 0) (F : Finding → Type 0) (sys : System) (line : run.Line) (old new : Reading) (refusal : Refusal) : Type 0 where
  pub same : new ≡ old
  pub number_is : refusal.number ≡ old.number
  pub found : F refusal.finding
  pub none : (x : Taking) → x.first ≡ line_of sys line → T x → ⊥

-- Such a taking begins with the line of an event and the lines that were read after it, and goes on with another line than the next one, which
-- has this number.
pub record TakingFails (T : Taking → Type 0) (sys : System) (form : Form) (line : run.Line) (old new : Reading) (left after : Option (List ℕ)) (refusal : Refusal) : Type 0 where
  pub taking : Taking
  pub is_taking : T taking
  pub passed : List run.Line
  pub next : Line
  pub more : List Line
  pub parts : taking_lines taking ≡ map (line_of sys) (line ∷ passed) ++ next ∷ more
  pub reads : HasRead sys form line.key.tick (line ∷ passed) old new left after
  pub number_is : refusal.number ≡ new.number
  pub found : IsEmitted sys next refusal.finding
  pub other : IsOther sys form new.line.items next

-- The line of an event is refused, or one after it.
abbrev pub FailsBy :
    (T : Taking → Type 0) (F : Finding → Type 0) (sys : System) (form : Form) (line : run.Line) (old new : Reading) (left after : Option (List ℕ)) (refusal : Refusal) → Type 0
FailsBy T F sys form line old new left after refusal = IsNoTaking T F sys line old new refusal ⊎ TakingFails T sys form line old new left after refusal

-- ---- The place of a line

-- The line of this number, from 1, comes after these lines of the system in this form.
pub record IsLineAfter (sys : System) (form : Form) (number : ℕ) (text : List ℕ) (before : List run.Line) (line : List ℕ) : Type 0 where
  pub are : AreLinesOf sys before
  pub numbered : number ≡ length before + 1
  pub rest : List ℕ
  pub is : text ≡ lines_text form sys (map (line_of sys) before) ++ (line ++ rest)
  pub alone : line ≡ take_through 10 (line ++ rest)
  pub formed : before ≡ [] → (f : Form) (m : run.Line) → IsTextOf sys f m line → f ≡ form

-- The lines before a line are those of takings, and some more.
pub record HaveTaken (sys : System) (before : List run.Line) (takings : List Taking) (more : List Line) : Type 0 where
  pub chain : AreTakings sys most (opening_look sys) takings
  pub goes_on : NoneStops takings
  pub lines_are : map (line_of sys) before ≡ all_lines takings ++ more

-- ---- Why a line is wrong

-- the stop for its steps of the resource of a taking
abbrev pub steps_stop : System → Line → List ℕ
steps_stop sys l = last_line sys (AtStop l.key.tick l.key.resource Steps)

-- Where the taking is one of a basic block, the line is not the stop of its resource for its steps.
abbrev pub IsNoStepsStop : System → Line → List ℕ → Type 0
IsNoStepsStop sys l line = (t : BasicType) → sys.kind l.at ≡ Some (Basic t) → line ≡ steps_stop sys l → ⊥

-- No such taking begins with the line, as the form shows it, and it says of no end that comes after this tick. It is no line of an event
-- from this tick on, or this was found of the event.
pub record BeginsNothing (T : Taking → Type 0) (F : run.Line → Finding → Type 0) (sys : System) (form : Form) (tick : ℕ) (line : List ℕ) (finding : Finding) : Type 0 where
  pub no_taking : (m : run.Line) → IsTextOf sys form m line → IsPlain form m.key → tick ≤ m.key.tick → (x : Taking) → x.first ≡ line_of sys m → T x → ⊥
  pub no_end : IsNoEndFrom sys tick line
  pub found :
      ((finding ≡ why.Line) × ((m : run.Line) → IsTextOf sys form m line → tick ≤ m.key.tick → ⊥))
      ⊎ ((m : run.Line) × IsTextOf sys form m line × F m finding)

-- The line is not the stop for its steps of the resource of the last of these takings, or more steps were used before that.
abbrev pub IsNoLastStop : System → (steps : ℕ) → List Taking → List ℕ → Type 0
IsNoLastStop sys steps takings line =
    (front : List Taking) (x : Taking) → takings ≡ front ++ x ∷ [] → KeepSteps sys steps (last_look (opening_look sys) front) → IsNoStepsStop sys x.first line

-- The line says that a resource stops, but none of these takings stopped it, and the steps are not used up there, or were not kept before.
pub record EndsNothing (sys : System) (steps : ℕ) (takings : List Taking) (line : List ℕ) (finding : Finding) : Type 0 where
  pub end : Ending
  pub can : IsEndOf sys end
  pub is : line ≡ last_line sys end
  pub other : MayEnd sys steps (last_look (opening_look sys) takings) end → ⊥
  pub near : IsNoLastStop sys steps takings line
  pub found : finding ≡ why.Runs

-- Such a taking begins with these lines, of which there are some, and goes on with another one.
pub record GoesOtherwise (T : Taking → Type 0) (sys : System) (form : Form) (begun : List Line) (line : List ℕ) (finding : Finding) : Type 0 where
  pub taking : Taking
  pub is_taking : T taking
  pub passed : List Line
  pub begins : begun ≡ taking.first ∷ passed
  pub next : Line
  pub more : List Line
  pub parts : taking_lines taking ≡ begun ++ next ∷ more
  pub other : IsOther sys form line next
  pub found : IsEmitted sys next finding

-- Such a taking with these lines stops its resource, and the line says something else.
pub record StopsOtherwise (T : Taking → Type 0) (sys : System) (lines : List Line) (line : List ℕ) (finding : Finding) : Type 0 where
  pub taking : Taking
  pub is_taking : T taking
  pub lines_are : taking_lines taking ≡ lines
  pub reason : Reason
  pub stop : taking.stop ≡ Some reason
  pub other : line ≡ last_line sys (AtStop taking.first.key.tick taking.first.key.resource reason) → ⊥
  pub found : finding ≡ why.Stops reason

-- Such a taking with these lines does not use up the steps, or the line is not the stop that says so.
pub record GoesOnAfter (T : Taking → Type 0) (sys : System) (steps : ℕ) (look : Look) (lines : List Line) (line : List ℕ) (finding : Finding) : Type 0 where
  pub taking : Taking
  pub is_taking : T taking
  pub lines_are : taking_lines taking ≡ lines
  pub other : line ≡ steps_stop sys taking.first → RunsOut steps taking.first.key.tick taking.first.key.resource look (taking ∷ []) → ⊥
  pub found : IsEndFound taking.stop (line ≡ steps_stop sys taking.first) finding

-- After takings comes this line of an event of a basic block, lines of emissions of the block in its tick, and a stop of its resource in
-- that tick for its steps.
pub record StopsSoon (sys : System) (form : Form) (takings : List Taking) (first : run.Line) (text : List ℕ) : Type 0 where
  pub line : IsLineOf sys first
  pub block : BasicType
  pub kind : sys.kind (path_at sys first.instance) ≡ Some (Basic block)
  pub rows : List run.Line
  pub own : All (IsOwnLine sys first) rows
  pub rest : List ℕ
  pub is : text ≡ lines_text form sys (all_lines takings ++ map (line_of sys) (first ∷ rows)) ++ (steps_stop sys (line_of sys first) ++ rest)

-- The line of this number is the first of the first of these takings after which a resource had used more than these steps in a tick.
pub record IsTooMany (sys : System) (steps : ℕ) (takings : List Taking) (number : ℕ) : Type 0 where
  pub before : List Taking
  pub taking : Taking
  pub later : List Taking
  pub parts : takings ≡ before ++ taking ∷ later
  pub kept : KeepSteps sys steps (last_look (opening_look sys) before)
  pub over : KeepSteps sys steps taking.after → ⊥
  pub numbered : number ≡ length (all_lines before) + 1

-- The line is a stop for steps, but after one of these takings a resource had used more in a tick. Where that is the last one, and no line comes
-- after it, the line is not the stop of its resource.
pub record UsesTooMany (sys : System) (steps : ℕ) (takings : List Taking) (begun : List Line) (line : List ℕ) (finding : Finding) : Type 0 where
  pub number : ℕ
  pub many : IsTooMany sys steps takings number
  pub tick : ℕ
  pub resource : ℕ
  pub can : IsEndOf sys (AtStop tick resource Steps)
  pub is : line ≡ last_line sys (AtStop tick resource Steps)
  pub near : many.later ≡ [] → begun ≡ [] → IsNoStepsStop sys many.taking.first line
  pub found : finding ≡ why.Excess number

-- A line is wrong where a trace goes on, each resource with the greatest limit.
abbrev pub IsWrongFreely : System → Form → (steps tick : ℕ) → (takings : List Taking) → (begun : List Line) → (line : List ℕ) → Finding → Type 0
IsWrongFreely sys form steps tick takings begun line finding =
    let look = last_look (opening_look sys) takings in
    let T = IsTaking sys most look in
    ((begun ≡ []) × BeginsNothing T (IsUnstarted sys most look) sys form tick line finding)
    ⊎ ((begun ≡ []) × EndsNothing sys steps takings line finding)
    ⊎ ((other : GoesOtherwise T sys form begun line finding) × IsNoStepsStop sys other.taking.first line)
    ⊎ ((other : StopsOtherwise T sys begun line finding) × IsNoStepsStop sys other.taking.first line)

-- A line is wrong where the trace stops for its steps after the event of a line, whose resource has what is left of
-- these steps.
abbrev pub IsWrongLast : System → Form → (steps tick : ℕ) → (takings : List Taking) → (first : run.Line) → (begun : List Line) → (line : List ℕ) → Finding → Type 0
IsWrongLast sys form steps tick takings first begun line finding =
    let look = last_look (opening_look sys) takings in
    let less = limited steps first.key.tick first.key.resource look in
    let T = IsTaking sys steps less in
    ((begun ≡ []) × (KeepsLimit steps first.key.tick first.key.resource look → ⊥) × (finding ≡ why.NoStep))
    ⊎ ((begun ≡ []) × BeginsNothing T (IsUnstarted sys steps less) sys form tick line finding)
    ⊎ GoesOtherwise T sys form begun line finding
    ⊎ GoesOnAfter T sys steps less begun line finding

-- After these takings, and after lines with which another one begins, the line is wrong.
abbrev pub IsWrongAfter : System → Form → (steps tick : ℕ) → (takings : List Taking) → (begun : List Line) → (line text : List ℕ) → Finding → Type 0
IsWrongAfter sys form steps tick takings begun line text finding =
    IsWrongFreely sys form steps tick takings begun line finding
    ⊎ ((first : run.Line) × StopsSoon sys form takings first text × IsWrongLast sys form steps tick takings first begun line finding)
    ⊎ UsesTooMany sys steps takings begun line finding

-- The line of a refusal is this one, and it is not what comes after the lines before it. What was found is why.
pub record IsWrongLine (sys : System) (steps : ℕ) (refusal : Refusal) (line text : List ℕ) : Type 0 where
  pub form : Form
  pub before : List run.Line
  pub at : IsLineAfter sys form refusal.number text before line
  pub takings : List Taking
  pub begun : List Line
  pub taken : HaveTaken sys before takings begun
  pub wrong : IsWrongAfter sys form steps (last_tick 0 before) takings begun line text refusal.finding

-- The line of this number comes after the last one of a trace.
pub record IsAfterLast (sys : System) (steps number : ℕ) (text : List ℕ) : Type 0 where
  pub front : List ℕ
  pub accepted : IsAccepted sys steps front
  pub numbered : number ≡ length accepted.lines + 2
  pub rest : List ℕ
  pub more : 0 < length rest
  pub is : text ≡ front ++ rest

-- The line of a refusal, which is this one unless it comes after the last one of a trace, is not what the reactions give, for what was found.
abbrev pub IsWrongFor : System → (steps : ℕ) → Refusal → (line text : List ℕ) → Type 0
IsWrongFor sys steps refusal line text = IsWrongLine sys steps refusal line text ⊎ (IsAfterLast sys steps refusal.number text × (refusal.finding ≡ why.Line))

-- The line of this number, from 1, is not what the reactions give.
abbrev pub IsWrongAt : System → (steps number : ℕ) → (text : List ℕ) → Type 0
IsWrongAt sys steps number text = (finding : Finding) × (line : List ℕ) × IsWrongFor sys steps (record { number = number; finding = finding }) line text
