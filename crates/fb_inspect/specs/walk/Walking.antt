-- What the program keeps of the blocks of a system, and one taking of a walk through a trace (this project's own).
use Rattle.std.specs.Prelude.{◌≡◌, ◌<◌, ◌≤◌, ◌^◌, ◌⊎◌, ℕ, ◌+◌, ◌-◌, suc, min, ◌&&◌, List, [], ◌++◌, map, length, slice_get, slice_set, take, unwrap_or, All, IfSome, Bool, true, false, Option, Some, None}
use Rattle.std.specs.List.{list_any}
use Rattle.std.specs.Io.BufRead.{take_through}
use Rattle.std.specs.Io.KnownBytes.{Appends, Consumes, IsAtEnd, prepend_known}
use Rattle.fb_types.specs.Names.{Name, Path, same_path}
use Rattle.fb_types.specs.Blocks.{Kind, Basic, Event, Composite}
use Rattle.fb_types.specs.Numbers.{line_of, path_at}
use Rattle.fb_types.specs.Simulation.{Ending, AtHorizon, AtStop}
use Rattle.fb_types.specs.States.{InState}
use Rattle.fb_types.specs.Systems.{System}
use Rattle.fb_types.specs.Text.{lines_text}
use Rattle.fb_types.specs.declared.key.Key.{Key}
use Rattle.fb_types.specs.declared.library.BasicType.{BasicType}
use Rattle.fb_types.specs.declared.library.BlockType.{BlockType}
use Rattle.fb_types.specs.declared.run.Form.{Form}
use Rattle.fb_types.specs.declared.run.Line.{Line}
use Rattle.fb_types.specs.declared.value.Reason.{Reason}
use Rattle.fb_types.specs.declared.value.Reason.TheVariants.{Steps, Divide, Range}
use Rattle.fb_st.specs.Frames.{values_of}
use Rattle.fb_ecc.specs.Indexes.{state_at}
use Rattle.fb_ecc.specs.Sound.{IsSound}
use Rattle.fb_trace.specs.End.{ending_of}
use Rattle.fb_trace.specs.declared.last.Outcome.{Outcome}
use Rattle.fb_wave.specs.Copying.{IsAfter}
use Rattle.fb_wave.specs.CutOff.{has_no_feed}
use Rattle.fb_wave.specs.Dumps.{last_tick}
use Rattle.fb_wave.specs.Lines.{IsLast, IsTextOf}
use Rattle.fb_wave.specs.Waves.{AreLinesOf}
use Rattle.fb_coverage.specs.declared.marks.Marks.{Marks}
use Rattle.fb_inspect.specs.walk.Charting.{IsChartOf}
use Rattle.fb_inspect.specs.walk.Counted.{left_of}
use Rattle.fb_inspect.specs.Inspections.{AreOfOne, AreTaken, AreTakings, EndsSo, IsOwnLine, KeepSteps, NoneStops, all_lines, all_text, cut_note, last_look, one_text}
use Rattle.fb_inspect.specs.Selections.{Selection, is_during, is_kept, is_wanted}
use Rattle.fb_inspect.specs.walk.Chains.{is_loss}
use Rattle.fb_inspect.specs.walk.Lines.{IsNext, IsNextLine}
use Rattle.fb_inspect.specs.walk.Looks.{IsTaking, IsTakingAt, Look, Seen, Taking, left_at, most, opening_look, taking_lines, taking_text, with_left}
use Rattle.fb_inspect.specs.Markings.{TakingMarks, TakingsMark, lines_marked}
use Rattle.fb_inspect.specs.walk.Moves.{Goes, StaysAlone, shown_text}
use Rattle.fb_inspect.specs.walk.Timing.{IsBlockKept}
use Rattle.fb_inspect.specs.declared.filter.Shown.{Shown}
use Rattle.fb_inspect.specs.declared.walk.ahead.Ahead.{Ahead}
use Rattle.fb_inspect.specs.declared.walk.blocks.Chart.{Chart}
use Rattle.fb_inspect.specs.declared.walk.blocks.Remembered.{Remembered}
use Rattle.fb_inspect.specs.declared.walk.blocks.Remembered.TheVariants as kept
use Rattle.fb_inspect.specs.declared.walk.reading.Reading.{Reading}
use Rattle.fb_inspect.specs.declared.walk.steps.TickSteps.{TickSteps}
use Rattle.fb_inspect.specs.declared.walk.trail.Trail.{Trail}
use Rattle.fb_inspect.specs.declared.walk.Step.{Step}
use Rattle.fb_inspect.specs.declared.walk.Step.TheVariants.{Taken, Ended, CutOff}
use Rattle.fb_inspect.specs.declared.walk.Walk.{Walk}

-- whether an instance is shown
abbrev pub flag_at : List Bool → ℕ → Bool
flag_at flags k = unwrap_or (slice_get flags k) false

-- ---- One block

pub record IsChartKept (t : BasicType) (c : Chart) (s : Seen) : Type 0 where
  pub sound : IsSound t
  pub chart : IsChartOf t c
  pub memory_is : s.memory ≡ InState (state_at t c.state.state)
  pub variables_are : (n : Name) → s.variables n ≡ values_of c.state.frame n

abbrev pub IsKept : Option Kind → Remembered → Seen → Type 0
IsKept (Some (Basic t)) (kept.Basic c) s = IsChartKept t c s
IsKept (Some (Event k)) (kept.Event b) s = IsBlockKept k b s
IsKept (Some (Composite t)) kept.Composite s = Unit {0}
IsKept _ _ s = ⊥

-- ---- Before the first event

-- What is kept says what an instance remembers before the first event.
abbrev pub OpensAs : System → (instance : ℕ) → Remembered → Type 0
OpensAs sys k b = let p = path_at sys k in IsKept (sys.kind p) b ((opening_look sys).blocks p)

-- What is kept says what each of the first instances, of which there are this many, remembers before the first
-- event.
pub record OpenAll (sys : System) (n : ℕ) (blocks : List Remembered) : Type 0 where
  pub all : length blocks ≡ n
  pub each : (k : ℕ) (b : Remembered) → slice_get blocks k ≡ Some b → OpensAs sys k b

-- ---- All of them

-- What is kept of the blocks says what the look says.
pub record AreKept (sys : System) (blocks : List Remembered) (look : Look) : Type 0 where
  pub all : length blocks ≡ length sys.paths
  pub each : (k : ℕ) (b : Remembered) → slice_get blocks k ≡ Some b → IsKept (sys.kind (path_at sys k)) b (look.blocks (path_at sys k))

-- What is kept of the blocks and of the steps says what the look says.
pub record IsLookOf (sys : System) (blocks : List Remembered) (steps : List TickSteps) (look : Look) : Type 0 where
  pub are : AreKept sys blocks look
  pub counts : length steps ≡ length sys.resource_names
  pub lefts : (r : ℕ) (s : TickSteps) → slice_get steps r ≡ Some s → look.steps r ≡ left_of s

-- ---- What is shown

-- the event of a line is shown, if it does what is wanted
abbrev pub may_show : Shown → Line → Bool
may_show s l = flag_at s.instances.items l.instance && is_during s.events l.key.tick

abbrev pub shows : Shown → Line → (is_lost : Bool) → Bool
shows s l is_lost = may_show s l && is_wanted s.events is_lost

abbrev pub is_chart : Option Remembered → Bool
is_chart None = false
is_chart (Some (kept.Basic c)) = true
is_chart (Some (kept.Event b)) = false
is_chart (Some kept.Composite) = false

-- the event that an instance took last was lost
abbrev pub has_lost : Walk → (instance : ℕ) → Bool
has_lost w k = w.trail.marks.charts.lost && is_chart (slice_get w.blocks.items k)

-- ---- One taking

-- What an instance remembers has reacted to a line, and this is kept of it then.
pub record KeptGoes (blocks : List BlockType) (sys : System) (form : Form) (look : Look) (left : ℕ) (line : Line) (stop : Option Reason) (b : Remembered) (steps : ℕ) (old new : Trail) (remaining rest : Option (List ℕ)) : Type 0 where
  pub taking : Taking
  pub first_is : taking.first ≡ line_of sys line
  pub stop_is : taking.stop ≡ stop
  pub is_taking : IsTakingAt left look (sys.kind (path_at sys line.instance)) taking
  pub kept : IsKept (sys.kind (path_at sys line.instance)) b (taking.after.blocks (path_at sys line.instance))
  pub others : (q : Path) → same_path q (path_at sys line.instance) ≡ false → taking.after.blocks q ≡ look.blocks q
  pub steps_are : taking.after.steps ≡ (with_left line.key steps look).steps
  pub lines : List Line
  pub lines_are : map (line_of sys) lines ≡ taking_lines taking
  pub goes : Goes sys form line.key.tick lines (shown_text old.is_shown (taking_text form sys taking)) old new remaining rest
  pub marked : TakingMarks blocks sys taking old.marks.charts new.marks.charts
  pub alone : StaysAlone old.reading new.reading remaining rest

-- An instance can react to a line.
pub record CanReact (sys : System) (form : Form) (b : Remembered) (line : Line) (text : List ℕ) : Type 0 where
  pub is : IsTextOf sys form line text
  pub early : line.key.tick ≤ 10 ^ 12
  pub seen : Seen
  pub kept : IsKept (sys.kind (path_at sys line.instance)) b seen

-- the steps of a resource with another number of them left after a taking
abbrev pub with_steps : TickSteps → ℕ → TickSteps
with_steps s left = record s { meter = record { left = left }; least = min s.least left }

-- A step was used of a resource.
pub record HasStepped (limit : ℕ) (key : Key) (old new : List TickSteps) : Type 0 where
  pub before : TickSteps
  pub stood : slice_get old key.resource ≡ Some before
  pub after : TickSteps
  pub used : left_at limit key.tick (left_of before) ≡ suc after.meter.left
  pub tick_is : after.tick ≡ Some key.tick
  pub least_is : after.least ≡ before.least
  pub steps_are : new ≡ slice_set old key.resource after

-- A resource has what is left of some steps, in place of what is left of the greatest limit.
pub record HasLimited (steps : ℕ) (key : Key) (old new : List TickSteps) : Type 0 where
  pub before : TickSteps
  pub stood : slice_get old key.resource ≡ Some before
  pub after : TickSteps
  pub within : most ≤ left_at most key.tick (left_of before) + steps
  pub left_is : left_of after ≡ record { tick = Some key.tick; left = (left_at most key.tick (left_of before) + steps) - most; least = before.least }
  pub steps_are : new ≡ slice_set old key.resource after

-- Where no taking stopped its resource, a trace ends at a horizon, or where the steps of a resource are used up.
abbrev pub MayEnd : System → (steps : ℕ) → Look → Ending → Type 0
MayEnd sys steps look (AtHorizon h) = Unit {0}
MayEnd sys steps look (AtStop tick r Steps) = (left_at most tick (look.steps r) + steps ≡ most) × KeepSteps sys steps look
MayEnd sys steps look (AtStop tick r Divide) = ⊥
MayEnd sys steps look (AtStop tick r Range) = ⊥

-- The instance of a line has reacted to it, and no other one.
pub record ReactGoes (blocks : List BlockType) (sys : System) (form : Form) (look : Look) (line : Line) (stop : Option Reason) (old new : Walk) (remaining rest : Option (List ℕ)) : Type 0 where
  pub own : TickSteps
  pub stood : slice_get old.steps.items line.key.resource ≡ Some own
  pub block : Remembered
  pub left : ℕ
  pub goes : KeptGoes blocks sys form look own.meter.left line stop block left old.trail new.trail remaining rest
  pub blocks_are : new.blocks.items ≡ slice_set old.blocks.items line.instance block
  pub steps_are : new.steps.items ≡ slice_set old.steps.items line.key.resource (with_steps own left)
  pub shown_are : new.shown ≡ old.shown

-- The taking of the event of a line was gone through: its lines were read, and what is shown of it was added.
pub record WalkTakes (blocks : List BlockType) (sys : System) (form : Form) (limit : ℕ) (look : Look) (line : Line) (stop : Option Reason) (old new : Walk) (remaining rest : Option (List ℕ)) : Type 0 where
  pub taking : Taking
  pub first_is : taking.first ≡ line_of sys line
  pub stop_is : taking.stop ≡ stop
  pub is_taking : IsTaking sys limit look taking
  pub look_after : IsLookOf sys new.blocks.items new.steps.items taking.after
  pub shown_are : new.shown ≡ old.shown
  pub lines : List Line
  pub lines_are : map (line_of sys) lines ≡ taking_lines taking
  pub goes :
      Goes sys form line.key.tick lines (shown_text (shows old.shown line (list_any is_loss taking.pieces)) (taking_text form sys taking))
      (record old.trail { is_shown = may_show old.shown line }) new.trail remaining rest
  pub marked : TakingMarks blocks sys taking old.trail.marks.charts new.trail.marks.charts

-- ---- All takings so far

-- these instances are shown of a system
abbrev pub AreShown : System → (only : List Name) → (flags : List Bool) → Type 0
AreShown sys only flags = (k : ℕ) → k < length sys.paths → flag_at flags k ≡ is_kept only (path_at sys k)

-- what is shown of a system
pub record ShowsOf (sys : System) (what : Selection) (shown : Shown) : Type 0 where
  pub instances : AreShown sys what.only shown.instances.items
  pub events : shown.events ≡ what.events

-- These takings were gone through, and the next line was read. A part of what is shown was sent, and a part waits.
pub record IsGone (sys : System) (form : Form) (what : Selection) (steps : ℕ) (walk : Walk) (takings : List Taking) (input remaining old new : Option (List ℕ)) : Type 0 where
  pub taken : AreTaken sys steps takings
  pub shown : ShowsOf sys what walk.shown
  pub lines : List Line
  pub lines_are : map (line_of sys) lines ≡ all_lines takings
  pub are : AreLinesOf sys lines
  pub numbered : walk.trail.reading.number ≡ length lines + 1
  pub read : Consumes input remaining (lines_text form sys (map (line_of sys) lines) ++ walk.trail.reading.line.items)
  pub sent : List ℕ
  pub got : Appends old new sent
  pub text : sent ++ walk.trail.page.text.items ≡ all_text form sys what takings

-- Takings were gone through, and none of them stopped its resource.
pub record HasGone (sys : System) (form : Form) (what : Selection) (steps : ℕ) (walk : Walk) (input remaining old new : Option (List ℕ)) : Type 0 where
  pub takings : List Taking
  pub goes_on : NoneStops takings
  pub chain : AreTakings sys most (opening_look sys) takings
  pub look : IsLookOf sys walk.blocks.items walk.steps.items (last_look (opening_look sys) takings)
  pub gone : IsGone sys form what steps walk takings input remaining old new
  pub next : IsNextLine sys form (last_tick 0 gone.lines) walk.trail.reading.line.items walk.trail.reading.next

-- What takings cover was marked, next to what others covered.
pub record AreMarked (blocks : List BlockType) (sys : System) (takings : List Taking) (lines : List Line) (first last : Marks) : Type 0 where
  pub charts : TakingsMark blocks sys takings first.charts last.charts
  pub ports : last.ports ≡ lines_marked lines first.ports

-- Takings were gone through, and what all of them cover was marked, next to what others covered.
pub record HasCovered (blocks : List BlockType) (first : Marks) (sys : System) (form : Form) (what : Selection) (steps : ℕ) (walk : Walk) (input remaining old new : Option (List ℕ)) : Type 0 where
  pub gone : HasGone sys form what steps walk input remaining old new
  pub marked : AreMarked blocks sys gone.takings gone.gone.lines first walk.trail.marks

-- A text ends in a part of a line after another text.
pub record IsCutAfter (text front : List ℕ) : Type 0 where
  pub part : List ℕ
  pub unended : has_no_feed part ≡ true
  pub is : text ≡ front ++ part

-- All takings of a trace were gone through, and the next line is the last one.
pub record IsComplete (blocks : List BlockType) (first : Marks) (sys : System) (form : Form) (what : Selection) (steps : ℕ) (walk : Walk) (end : Outcome) (input remaining old new : Option (List ℕ)) : Type 0 where
  pub takings : List Taking
  pub gone : IsGone sys form what steps walk takings input remaining old new
  pub ends : EndsSo sys steps takings (ending_of end)
  pub last : IsLast sys walk.trail.reading.line.items end
  pub after : IsAfter (last_tick 0 gone.lines) end
  pub marked : AreMarked blocks sys takings gone.lines first walk.trail.marks

-- Takings were gone through, and the trace is cut off there, or after lines that may be a part of those of an event.
-- These lines were added where they are shown.
pub record IsSevered (blocks : List BlockType) (first : Marks) (sys : System) (form : Form) (what : Selection) (walk : Walk) (input old new : Option (List ℕ)) : Type 0 where
  pub takings : List Taking
  pub goes_on : NoneStops takings
  pub chain : AreTakings sys most (opening_look sys) takings
  pub lines : List Line
  pub lines_are : map (line_of sys) lines ≡ all_lines takings
  pub untaken : List Line
  pub of_one : AreOfOne sys untaken
  pub last : untaken ≡ [] → lines ≡ []
  pub are : AreLinesOf sys (lines ++ untaken)
  pub rest : IfSome input (λ text. IsCutAfter text (lines_text form sys (map (line_of sys) (lines ++ untaken))))
  pub sent : List ℕ
  pub got : Appends old new sent
  pub text : sent ++ walk.trail.page.text.items ≡ all_text form sys what takings ++ one_text form sys what untaken
  pub marked : AreMarked blocks sys takings lines first walk.trail.marks

-- A walk went on by one taking, or a trace is over.
abbrev pub HasAdvanced :
    (blocks : List BlockType) (first : Marks) (sys : System) (form : Form) (what : Selection) (steps : ℕ) (walk : Walk) (input remaining old new : Option (List ℕ)) → Step → Type 0
HasAdvanced blocks first sys form what steps walk input remaining old new Taken = HasCovered blocks first sys form what steps walk input remaining old new
HasAdvanced blocks first sys form what steps walk input remaining old new (Ended end) = IsComplete blocks first sys form what steps walk end input remaining old new
HasAdvanced blocks first sys form what steps walk input remaining old new CutOff = IsSevered blocks first sys form what walk input old new

-- ---- Lines that were read ahead

-- what is left to go through: what was read ahead, and then what is left to read
abbrev pub unread : Ahead → (remaining : Option (List ℕ)) → Option (List ℕ)
unread ahead remaining = prepend_known ahead.text.items remaining

-- What is left to go through is the same, whether it was read ahead or not.
pub record IsReadOn (old new : Option (List ℕ)) : Type 0 where
  pub after : (known : Option (List ℕ)) (bytes : List ℕ) → Consumes known old bytes → Consumes known new bytes
  pub before : (rest : Option (List ℕ)) (bytes : List ℕ) → Consumes new rest bytes → Consumes old rest bytes

-- A line is one of an emission of the block of another line, in its tick.
pub record IsOwnRow (line first : Line) : Type 0 where
  pub taken : line.taken ≡ false
  pub instance : line.instance ≡ first.instance
  pub tick : line.key.tick ≡ first.key.tick

-- These lines of emissions of the block of a line, in its tick, were read ahead.
pub record AreRows (sys : System) (form : Form) (first : Line) (rows : List Line) (text : List ℕ) (input remaining : Option (List ℕ)) : Type 0 where
  pub each : All (IsOwnLine sys first) rows
  pub is : text ≡ lines_text form sys (map (line_of sys) rows)
  pub read : Consumes input remaining text

-- These lines of emissions of the block of a line, in its tick, were read ahead, and then one more line.
pub record AreGathered (sys : System) (form : Form) (first : Line) (rows : List Line) (text last : List ℕ) (input remaining : Option (List ℕ)) : Type 0 where
  pub each : All (IsOwnLine sys first) rows
  pub is : text ≡ lines_text form sys (map (line_of sys) rows)
  pub read : Consumes input remaining (text ++ last)
  pub alone : IfSome remaining (λ rest. input ≡ None ⊎ (last ≡ take_through 10 (last ++ rest)))

-- These lines of emissions of the block of a line, in its tick, were read ahead, and the line after them is cut off.
pub record AreCutOff (sys : System) (form : Form) (first : Line) (rows : List Line) (text : List ℕ) (input : Option (List ℕ)) : Type 0 where
  pub each : All (IsOwnLine sys first) rows
  pub is : text ≡ lines_text form sys (map (line_of sys) rows)
  pub rest : IfSome input (λ whole. IsCutAfter whole text)

-- nothing was taken in any of the resources
pub record AreUnused (n : ℕ) (steps : List TickSteps) : Type 0 where
  pub all : length steps ≡ n
  pub each : (r : ℕ) (s : TickSteps) → slice_get steps r ≡ Some s → left_of s ≡ record { tick = None; left = 0; least = most }

-- A walk that was begun with a line that was read.
pub record Begins (sys : System) (what : Selection) (marks : Marks) (reading : Reading) (walk : Walk) : Type 0 where
  pub blocks : AreKept sys walk.blocks.items (opening_look sys)
  pub steps : AreUnused (length sys.resource_names) walk.steps.items
  pub shown : ShowsOf sys what walk.shown
  pub empty : walk.trail.page.text.items ≡ []
  pub reading_is : walk.trail.reading ≡ reading
  pub marks_are : walk.trail.marks ≡ marks

-- A walk that was begun with a line with which a trace can begin.
pub record Starts (sys : System) (form : Form) (what : Selection) (walk : Walk) : Type 0 where
  pub blocks : AreKept sys walk.blocks.items (opening_look sys)
  pub steps : AreUnused (length sys.resource_names) walk.steps.items
  pub shown : ShowsOf sys what walk.shown
  pub empty : walk.trail.page.text.items ≡ []
  pub next : IsNext sys form 0 walk.trail.reading.line.items walk.trail.reading.next
  pub first : walk.trail.reading.number ≡ 1

-- The last line was passed, nothing is left, and all that waited was sent.
pub record Finishes (walk : Walk) (remaining old new : Option (List ℕ)) : Type 0 where
  pub over : IsAtEnd remaining
  pub got : Appends old new (walk.trail.page.text.items ++ walk.trail.reading.line.items)

-- The trace is cut off, and all that waited and the note of it was sent.
pub record FinishesCut (walk : Walk) (old new : Option (List ℕ)) : Type 0 where
  pub got : Appends old new (walk.trail.page.text.items ++ cut_note)

-- A part of what waited and of the note was sent, or nothing.
pub record SendsCutPart (walk : Walk) (old new : Option (List ℕ)) : Type 0 where
  pub got : List ℕ
  pub rest : List ℕ
  pub parts : walk.trail.page.text.items ++ cut_note ≡ got ++ rest
  pub appended : Appends old new got

-- Of a text that waited a front was sent: what comes before this count, or nothing. The rest waits.
pub record HasFlushed (count : ℕ) (old new : Option (List ℕ)) (before after : List ℕ) : Type 0 where
  pub sent : List ℕ
  pub got : Appends old new sent
  pub parts : before ≡ sent ++ after
  pub front : (sent ≡ []) ⊎ (sent ≡ take count before)

-- A part of a text that waited was sent, or nothing.
pub record SendsSome (before : List ℕ) (old new : Option (List ℕ)) : Type 0 where
  pub sent : List ℕ
  pub missing : List ℕ
  pub parts : before ≡ sent ++ missing
  pub got : Appends old new sent

-- A part of what waited and of the last line was sent, or nothing.
pub record SendsPart (walk : Walk) (old new : Option (List ℕ)) : Type 0 where
  pub got : List ℕ
  pub rest : List ℕ
  pub parts : walk.trail.page.text.items ++ walk.trail.reading.line.items ≡ got ++ rest
  pub appended : Appends old new got
