-- How a dump is written while a trace is gone through, taking by taking (this project's own).
use Rattle.std.specs.Prelude.{◌≡◌, ◌<◌, ℕ, ◌+◌, List, [], ◌∷◌, ◌++◌, length, map, true, All, IfSome, Option, Some, None}
use Rattle.std.specs.List.{list_any}
use Rattle.std.specs.Io.KnownBytes.{Appends, Consumes, IsAtEnd}
use Rattle.fb_types.specs.Blocks.{Basic}
use Rattle.fb_types.specs.Numbers.{line_of, path_at}
use Rattle.fb_types.specs.Systems.{System}
use Rattle.fb_types.specs.Text.{lines_text}
use Rattle.fb_types.specs.declared.library.BasicType.{BasicType}
use Rattle.fb_types.specs.declared.run.Form.{Form}
use Rattle.fb_types.specs.declared.run.Line.{Line}
use Rattle.fb_types.specs.declared.value.Reason.{Reason}
use Rattle.fb_system.specs.Lines.{BelongsTo}
use Rattle.fb_trace.specs.End.{ending_of}
use Rattle.fb_trace.specs.declared.last.Outcome.{Outcome}
use Rattle.fb_wave.specs.Copying.{IsAfter}
use Rattle.fb_wave.specs.Dumps.{last_tick}
use Rattle.fb_wave.specs.Lines.{IsLast}
use Rattle.fb_wave.specs.Waves.{AreLinesOf}
use Rattle.fb_inspect.specs.Inspections.{AreOfOne, AreTaken, AreTakings, BeginsWith, EndsSo, NoneStops, last_look, most}
use Rattle.fb_inspect.specs.walk.Lines.{IsNext}
use Rattle.fb_inspect.specs.walk.Looks.{IsTaking, Look, Seen, opening_look, taking_lines}
use Rattle.fb_inspect.specs.walk.Moves.{IsLineAt}
use Rattle.fb_inspect.specs.walk.Walking.{AreKept, IsCutAfter, IsLookOf}
use Rattle.fb_inspect.specs.declared.walk.reading.Next.TheVariants as next
use Rattle.fb_inspect.specs.declared.walk.reading.Reading.{Reading}
use Rattle.fb_inspect.specs.declared.walk.Step.{Step}
use Rattle.fb_inspect.specs.declared.walk.Step.TheVariants as step
use Rattle.fb_inspect.specs.declared.walk.Walk.{Walk}
use Rattle.fb_inspect.specs.dump.Dumping.{IsPortDump, Shows, ShowsUntaken}
use Rattle.fb_inspect.specs.dump.Saved.{IsBefore}
use Rattle.fb_inspect.specs.dump.StateDumps.{HaveLines, Taken, cut_dump, lines_of, state_dump, takings_of, tick_of}
use Rattle.fb_inspect.specs.declared.dump.before.Before.{Before}
use Rattle.fb_inspect.specs.declared.dump.state_wave.EventAt.{EventAt}
use Rattle.fb_inspect.specs.declared.dump.state_wave.StateWave.{StateWave}
use Rattle.fb_inspect.specs.walk.Chains.{is_loss}

-- ---- One taking

-- The next line is that of an event of an instance, and this was kept of it.
pub record IsEventKept (sys : System) (walk : Walk) (before : Before) (at : EventAt) : Type 0 where
  pub line : Line
  pub is : walk.trail.reading.next ≡ next.Event line
  pub instance_is : at.instance ≡ line.instance
  pub tick_is : at.tick ≡ line.key.tick
  pub saved : (look : Look) → AreKept sys walk.blocks.items look → let p = path_at sys at.instance in IsBefore (sys.kind p) before (look.blocks p)

-- The inside of the instance of the next line was kept, if that is the line of an event.
abbrev pub IsNextKept : System → Walk → Before → Option EventAt → Type 0
IsNextKept sys walk before (Some at) = IsEventKept sys walk before at
IsNextKept sys walk before None = (line : Line) → walk.trail.reading.next ≡ next.Event line → ⊥

-- The taking of an event can be shown.
pub record CanShow (sys : System) (at : EventAt) (x : StateWave) : Type 0 where
  pub dump : IsPortDump sys x.dump
  pub within : at.instance < length sys.paths
  pub look : Look
  pub kept : AreKept sys x.walk.blocks.items look
  pub seen : Seen
  pub saved : IsBefore (sys.kind (path_at sys at.instance)) x.before seen
  pub lines : All (BelongsTo sys) x.walk.trail.passed.lines.items

-- The taking of an event was shown, from what the blocks remember before it to what they remember after it: that of any taking which is
-- from there to there.
pub record ShowsTaking (sys : System) (at : EventAt) (look after : Look) (old new : StateWave) : Type 0 where
  pub grows : (xs : List Taken) (sent : List ℕ) → Shows sys xs (sent ++ old.page.text.items) old.dump → BeginsWith old.page.text.items new.page.text.items
  pub shown :
      (xs : List Taken) (y : Taken) (sent : List ℕ) → Shows sys xs (sent ++ old.page.text.items) old.dump → last_look (opening_look sys) (takings_of xs) ≡ look
      → y.taking.first.at ≡ path_at sys at.instance → tick_of y ≡ at.tick → y.taking.after ≡ after → y.lines ≡ old.walk.trail.passed.lines.items
      → ((t : BasicType) → sys.kind (path_at sys at.instance) ≡ Some (Basic t) → list_any is_loss y.taking.pieces ≡ old.walk.trail.marks.charts.lost)
      → map (line_of sys) y.lines ≡ taking_lines y.taking
      → Shows sys (xs ++ y ∷ []) (sent ++ new.page.text.items) new.dump

-- The taking of the event of a line was gone through from a look, and shown after these takings.
pub record TakingGoes (sys : System) (form : Form) (limit : ℕ) (look : Look) (xs : List Taken) (line : Line) (stop : Option Reason) (old new : StateWave) (remaining rest : Option (List ℕ)) : Type 0 where
  pub taken : Taken
  pub first_is : taken.taking.first ≡ line_of sys line
  pub stop_is : taken.taking.stop ≡ stop
  pub is_taking : IsTaking sys limit look taken.taking
  pub look_after : IsLookOf sys new.walk.blocks.items new.walk.steps.items taken.taking.after
  pub kept : new.walk.trail.passed.are_kept ≡ true
  pub lines_are : map (line_of sys) taken.lines ≡ taking_lines taken.taking
  pub each : All (IsLineAt sys line.key.tick) taken.lines
  pub bytes : List ℕ
  pub took : Consumes remaining rest bytes
  pub read : old.walk.trail.reading.line.items ++ bytes ≡ lines_text form sys (map (line_of sys) taken.lines) ++ new.walk.trail.reading.line.items
  pub numbered : new.walk.trail.reading.number ≡ old.walk.trail.reading.number + length taken.lines
  pub numbers : IsPortDump sys new.dump
  pub shown : (sent : List ℕ) → Shows sys xs (sent ++ old.page.text.items) old.dump → Shows sys (xs ++ taken ∷ []) (sent ++ new.page.text.items) new.dump

-- The event of the next line was taken, and text was added.
pub record HasGrown (old new : StateWave) : Type 0 where
  pub line : Line
  pub is : next.Event line ≡ old.walk.trail.reading.next
  pub number : old.walk.trail.reading.number < new.walk.trail.reading.number
  pub text : BeginsWith old.page.text.items new.page.text.items

-- ---- All takings so far

-- These takings were gone through, and the next line was read, which is this. A part of the dump was sent, and a part waits.
pub record IsWaved (sys : System) (form : Form) (steps : ℕ) (x : StateWave) (line : List ℕ) (xs : List Taken) (input remaining old new : Option (List ℕ)) : Type 0 where
  pub taken : AreTaken sys steps (takings_of xs)
  pub lines : HaveLines sys xs
  pub are : AreLinesOf sys (lines_of xs)
  pub numbered : x.walk.trail.reading.number ≡ length (lines_of xs) + 1
  pub read : Consumes input remaining (lines_text form sys (map (line_of sys) (lines_of xs)) ++ line)
  pub numbers : IsPortDump sys x.dump
  pub sent : List ℕ
  pub got : Appends old new sent
  pub shown : Shows sys xs (sent ++ x.page.text.items) x.dump

-- Takings were gone through and shown, and none of them stopped its resource.
pub record HasWaved (sys : System) (form : Form) (steps : ℕ) (x : StateWave) (input remaining old new : Option (List ℕ)) : Type 0 where
  pub takings : List Taken
  pub goes_on : NoneStops (takings_of takings)
  pub chain : AreTakings sys most (opening_look sys) (takings_of takings)
  pub look : IsLookOf sys x.walk.blocks.items x.walk.steps.items (last_look (opening_look sys) (takings_of takings))
  pub kept : x.walk.trail.passed.are_kept ≡ true
  pub waved : IsWaved sys form steps x x.walk.trail.reading.line.items takings input remaining old new
  pub next : IsNext sys form (last_tick 0 (lines_of takings)) x.walk.trail.reading.line.items x.walk.trail.reading.next

-- All takings of a trace were gone through and shown, and the next line is the last one.
pub record IsWhole (sys : System) (form : Form) (steps : ℕ) (x : StateWave) (end : Outcome) (input remaining old new : Option (List ℕ)) : Type 0 where
  pub takings : List Taken
  pub line : List ℕ
  pub waved : IsWaved sys form steps x line takings input remaining old new
  pub ends : EndsSo sys steps (takings_of takings) (ending_of end)
  pub last : IsLast sys line end
  pub after : IsAfter (last_tick 0 (lines_of takings)) end

-- Takings were gone through and shown, and the trace is cut off there, or after lines that may be a part of those of
-- an event.
pub record IsCut (sys : System) (form : Form) (x : StateWave) (input old new : Option (List ℕ)) : Type 0 where
  pub takings : List Taken
  pub goes_on : NoneStops (takings_of takings)
  pub chain : AreTakings sys most (opening_look sys) (takings_of takings)
  pub lines : HaveLines sys takings
  pub before : AreLinesOf sys (lines_of takings)
  pub untaken : List Line
  pub of_one : AreOfOne sys untaken
  pub last : untaken ≡ [] → takings ≡ []
  pub are : AreLinesOf sys (lines_of takings ++ untaken)
  pub rest : IfSome input (λ text. IsCutAfter text (lines_text form sys (map (line_of sys) (lines_of takings ++ untaken))))
  pub numbers : IsPortDump sys x.dump
  pub sent : List ℕ
  pub got : Appends old new sent
  pub shown : ShowsUntaken sys takings untaken (sent ++ x.page.text.items) x.dump

-- A dump went on by one taking, or the trace is over.
abbrev pub HasGoneOn : (sys : System) (form : Form) (steps : ℕ) (x : StateWave) (input remaining old new : Option (List ℕ)) → Step → Type 0
HasGoneOn sys form steps x input remaining old new step.Taken = HasWaved sys form steps x input remaining old new
HasGoneOn sys form steps x input remaining old new (step.Ended end) = IsWhole sys form steps x end input remaining old new
HasGoneOn sys form steps x input remaining old new step.CutOff = IsCut sys form x input old new

-- A dump that was begun, with a line that was read.
pub record Begins (sys : System) (reading : Reading) (x : StateWave) : Type 0 where
  pub look : IsLookOf sys x.walk.blocks.items x.walk.steps.items (opening_look sys)
  pub kept : x.walk.trail.passed.are_kept ≡ true
  pub numbers : IsPortDump sys x.dump
  pub shown : Shows sys [] x.page.text.items x.dump
  pub reading_is : x.walk.trail.reading ≡ reading

-- A dump that was begun with a line with which a trace can begin.
pub record WaveStarts (sys : System) (form : Form) (x : StateWave) : Type 0 where
  pub look : IsLookOf sys x.walk.blocks.items x.walk.steps.items (opening_look sys)
  pub kept : x.walk.trail.passed.are_kept ≡ true
  pub numbers : IsPortDump sys x.dump
  pub shown : Shows sys [] x.page.text.items x.dump
  pub next : IsNext sys form 0 x.walk.trail.reading.line.items x.walk.trail.reading.next
  pub first : x.walk.trail.reading.number ≡ 1

-- ---- The end

-- The end was put, nothing is left, and all that waited was sent.
pub record Finishes (sys : System) (end : Outcome) (x : StateWave) (remaining old new : Option (List ℕ)) : Type 0 where
  pub over : IsAtEnd remaining
  pub rest : List ℕ
  pub got : Appends old new rest
  pub whole : (xs : List Taken) (sent : List ℕ) → Shows sys xs (sent ++ x.page.text.items) x.dump → sent ++ rest ≡ state_dump true sys xs (ending_of end)

-- A part of what waited and of the end was sent, or nothing.
pub record SendsPart (sys : System) (end : Outcome) (x : StateWave) (old new : Option (List ℕ)) : Type 0 where
  pub part : List ℕ
  pub got : Appends old new part
  pub whole :
      (xs : List Taken) (sent : List ℕ) → Shows sys xs (sent ++ x.page.text.items) x.dump
      → (rest : List ℕ) × ((sent ++ part) ++ rest ≡ state_dump true sys xs (ending_of end))

-- The end of a trace that is cut off was put, and all that waited was sent.
pub record FinishesCut (sys : System) (x : StateWave) (old new : Option (List ℕ)) : Type 0 where
  pub rest : List ℕ
  pub got : Appends old new rest
  pub whole : (xs : List Taken) (us : List Line) (sent : List ℕ) → ShowsUntaken sys xs us (sent ++ x.page.text.items) x.dump → sent ++ rest ≡ cut_dump true sys xs us

-- A part of it was sent, or nothing.
pub record SendsCutPart (sys : System) (x : StateWave) (old new : Option (List ℕ)) : Type 0 where
  pub part : List ℕ
  pub got : Appends old new part
  pub whole :
      (xs : List Taken) (us : List Line) (sent : List ℕ) → ShowsUntaken sys xs us (sent ++ x.page.text.items) x.dump
      → (rest : List ℕ) × ((sent ++ part) ++ rest ≡ cut_dump true sys xs us)
