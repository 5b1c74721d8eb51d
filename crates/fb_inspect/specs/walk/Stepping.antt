-- What one step of a walk through a trace does, from what the blocks remember (this project's own).
use Rattle.std.specs.Prelude.{◌≡◌, ◌⊎◌, ℕ, List, ◌∷◌, [], Option, Some, None}
use Rattle.fb_types.specs.Systems.{System}
use Rattle.fb_types.specs.declared.library.BlockType.{BlockType}
use Rattle.fb_types.specs.declared.run.Form.{Form}
use Rattle.fb_types.specs.declared.run.Line.{Line}
use Rattle.fb_types.specs.declared.value.Reason.{Reason}
use Rattle.fb_types.specs.declared.value.Reason.TheVariants.{Steps}
use Rattle.fb_trace.specs.End.{ending_of}
use Rattle.fb_trace.specs.declared.last.Outcome.{Outcome}
use Rattle.fb_trace.specs.declared.last.Outcome.TheVariants.{Stop}
use Rattle.fb_wave.specs.Copying.{IsAfter}
use Rattle.fb_wave.specs.Lines.{IsLast}
use Rattle.fb_inspect.specs.Inspections.{KeepSteps, KeepsLimit, RunsOut, limited}
use Rattle.fb_inspect.specs.walk.Lines.{IsNext}
use Rattle.fb_inspect.specs.walk.Looks.{Look, most}
use Rattle.fb_inspect.specs.walk.Walking.{AreCutOff, MayEnd, WalkTakes}
use Rattle.fb_inspect.specs.declared.walk.ahead.Ahead.{Ahead}
use Rattle.fb_inspect.specs.declared.walk.reading.Next.TheVariants as next
use Rattle.fb_inspect.specs.declared.walk.Step.{Step}
use Rattle.fb_inspect.specs.declared.walk.Step.TheVariants.{Taken, Ended, CutOff}
use Rattle.fb_inspect.specs.declared.walk.Walk.{Walk}

-- the stop of the resource of a line in its tick
abbrev pub stop_at : Line → Reason → Outcome
stop_at line reason = Stop (record { tick = line.key.tick; resource = line.key.resource; reason = reason })

-- The event of a line was taken, and its resource goes on.
pub record GoesOn (blocks : List BlockType) (sys : System) (form : Form) (look : Look) (line : Line) (old new : Walk) (remaining rest : Option (List ℕ)) : Type 0 where
  pub goes : WalkTakes blocks sys form most look line None old new remaining rest
  pub next : IsNext sys form line.key.tick new.trail.reading.line.items new.trail.reading.next

-- The event of a line was taken, and a reason other than the steps stops its resource.
pub record IsStopped (blocks : List BlockType) (sys : System) (form : Form) (look : Look) (line : Line) (end : Outcome) (old new : Walk) (remaining rest : Option (List ℕ)) : Type 0 where
  pub reason : Reason
  pub other : reason ≡ Steps → ⊥
  pub goes : WalkTakes blocks sys form most look line (Some reason) old new remaining rest
  pub is : end ≡ stop_at line reason

-- The event of a line was taken, and its resource runs out of these steps.
pub record IsUsedUp (blocks : List BlockType) (sys : System) (form : Form) (steps : ℕ) (look : Look) (line : Line) (end : Outcome) (old new : Walk) (remaining rest : Option (List ℕ)) : Type 0 where
  pub kept : KeepSteps sys steps look
  pub within : KeepsLimit steps line.key.tick line.key.resource look
  pub stop : Option Reason
  pub goes : WalkTakes blocks sys form steps (limited steps line.key.tick line.key.resource look) line stop old new remaining rest
  pub out : RunsOut steps line.key.tick line.key.resource (limited steps line.key.tick line.key.resource look) (goes.taking ∷ [])
  pub is : end ≡ stop_at line Steps

-- The trace ends after the event of a line.
pub record EndsAfter (blocks : List BlockType) (sys : System) (form : Form) (steps : ℕ) (look : Look) (line : Line) (end : Outcome) (old new : Walk) (remaining rest : Option (List ℕ)) : Type 0 where
  pub how : IsStopped blocks sys form look line end old new remaining rest ⊎ IsUsedUp blocks sys form steps look line end old new remaining rest
  pub last : IsLast sys new.trail.reading.line.items end
  pub after : IsAfter line.key.tick end

-- What a step does with the line of an event. Where the trace is cut off nothing is taken.
abbrev pub LineGoes :
    (blocks : List BlockType) (sys : System) (form : Form) (steps : ℕ) (look : Look) (line : Line) (old new : Walk) (ahead : Ahead) (remaining rest : Option (List ℕ)) → Step → Type 0
LineGoes blocks sys form steps look line old new ahead remaining rest Taken = GoesOn blocks sys form look line old new remaining rest
LineGoes blocks sys form steps look line old new ahead remaining rest (Ended end) = EndsAfter blocks sys form steps look line end old new remaining rest
LineGoes blocks sys form steps look line old new ahead remaining rest CutOff = AreCutOff sys form line ahead.rows.items ahead.text.items remaining

-- The next line is the last one.
pub record EndsHere (sys : System) (steps : ℕ) (look : Look) (end : Outcome) (old new : Walk) (remaining rest : Option (List ℕ)) : Type 0 where
  pub is : next.End end ≡ old.trail.reading.next
  pub may : MayEnd sys steps look (ending_of end)
  pub left : rest ≡ remaining
  pub number : new.trail.reading.number ≡ old.trail.reading.number

-- The next line is that of an event.
pub record GoesWith (blocks : List BlockType) (sys : System) (form : Form) (steps : ℕ) (look : Look) (old new : Walk) (ahead : Ahead) (remaining rest : Option (List ℕ)) (step : Step) : Type 0 where
  pub line : Line
  pub is : next.Event line ≡ old.trail.reading.next
  pub goes : LineGoes blocks sys form steps look line old new ahead remaining rest step

-- What a step does with the next line. Where the trace is cut off, that is the next one again.
abbrev pub StepGoes :
    (blocks : List BlockType) (sys : System) (form : Form) (steps : ℕ) (look : Look) (old new : Walk) (ahead : Ahead) (remaining rest : Option (List ℕ)) → Step → Type 0
StepGoes blocks sys form steps look old new ahead remaining rest Taken = GoesWith blocks sys form steps look old new ahead remaining rest Taken
StepGoes blocks sys form steps look old new ahead remaining rest (Ended end) =
    EndsHere sys steps look end old new remaining rest ⊎ GoesWith blocks sys form steps look old new ahead remaining rest (Ended end)
StepGoes blocks sys form steps look old new ahead remaining rest CutOff =
    GoesWith blocks sys form steps look old new ahead remaining rest CutOff × (new.trail.reading.next ≡ old.trail.reading.next)
