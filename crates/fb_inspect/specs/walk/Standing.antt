-- Where a walk stands in a text: the takings that were gone through, the next line, and what is left after it (this project's own).
use Rattle.std.specs.Prelude.{◌≡◌, ◌<◌, ◌≤◌, ◌⊎◌, ℕ, ◌+◌, List, [], ◌∷◌, ◌++◌, map, length, All, false, Option, Some, None, Result, Ok, Err, slice_get, unwrap_or}
use Rattle.std.specs.Io.BufRead.{take_through}
use Rattle.fb_types.specs.Blocks.{Basic}
use Rattle.fb_types.specs.Numbers.{line_of, path_at}
use Rattle.fb_types.specs.Systems.{System}
use Rattle.fb_types.specs.Text.{lines_text}
use Rattle.fb_types.specs.declared.library.BasicType.{BasicType}
use Rattle.fb_types.specs.declared.run.Form.{Form}
use Rattle.fb_types.specs.declared.run.Line.{Line}
use Rattle.fb_types.specs.declared.value.Reason.TheVariants.{Steps}
use Rattle.fb_trace.specs.declared.last.Outcome.{Outcome}
use Rattle.fb_trace.specs.declared.last.Outcome.TheVariants.{End, Stop}
use Rattle.fb_wave.specs.CutOff.{IsWhole, is_unended}
use Rattle.fb_wave.specs.Dumps.{last_tick}
use Rattle.fb_wave.specs.Lines.{IsTextOf}
use Rattle.fb_wave.specs.Named.{HasNames}
use Rattle.fb_wave.specs.Waves.{AreLinesOf}
use Rattle.fb_inspect.specs.Inspections.{AreTakings, IsOwnLine, KeepSteps, NoneStops, all_lines, last_look}
use Rattle.fb_inspect.specs.walk.Lines.{IsNext, IsPlain}
use Rattle.fb_inspect.specs.walk.Looks.{IsTaking, Taking, most, opening_look}
use Rattle.fb_inspect.specs.Refusals.{IsNoLastStop, IsTooMany, IsWrongLine, Refuses, steps_stop}
use Rattle.fb_inspect.specs.walk.Walking.{IsLookOf, IsOwnRow}
use Rattle.fb_inspect.specs.declared.refused.finding.Finding.{Finding}
use Rattle.fb_inspect.specs.declared.refused.finding.Finding.TheVariants as why
use Rattle.fb_inspect.specs.declared.walk.ahead.Ahead.{Ahead}
use Rattle.fb_inspect.specs.declared.walk.blocks.Remembered.{Remembered}
use Rattle.fb_inspect.specs.declared.walk.steps.TickSteps.{TickSteps}
use Rattle.fb_inspect.specs.declared.walk.error.WalkError.{WalkError}
use Rattle.fb_inspect.specs.declared.walk.error.WalkError.TheVariants.{Refused}
use Rattle.fb_inspect.specs.declared.walk.reading.Reading.{Reading}
use Rattle.fb_inspect.specs.declared.walk.Step.{Step}
use Rattle.fb_inspect.specs.declared.walk.Step.TheVariants.{Taken, Ended, CutOff}
use Rattle.fb_inspect.specs.declared.walk.Walk.{Walk}

-- each instance has its number
abbrev pub AreNumbered : System → Type 0
AreNumbered sys = (i : ℕ) → i < length sys.paths → sys.number (path_at sys i) ≡ i

-- each resource has a name of its own
abbrev pub AreApart : System → Type 0
AreApart sys = (r q : ℕ) → r < length sys.resource_names → q < length sys.resource_names
    → unwrap_or (slice_get sys.resource_names r) [] ≡ unwrap_or (slice_get sys.resource_names q) [] → r ≡ q

-- ---- What was read ahead

-- These lines of emissions of the block of a line, in its tick, were read ahead, and one more that is none. This is left after it.
pub record AreAhead (sys : System) (form : Form) (first : Line) (rows : List Line) (text last rest : List ℕ) : Type 0 where
  pub each : All (IsOwnLine sys first) rows
  pub is : text ≡ lines_text form sys (map (line_of sys) rows) ++ last
  pub alone : last ≡ take_through 10 (last ++ rest)
  pub other : (m : Line) → IsTextOf sys form m last → IsOwnRow m first → ⊥

-- Nothing was read ahead, or such lines and one more.
abbrev pub MayBeAhead : (sys : System) (form : Form) (first : Line) (text last rest : List ℕ) → Type 0
MayBeAhead sys form first text last rest = (text ≡ []) ⊎ ((rows : List Line) × AreAhead sys form first rows text last rest)

-- ---- The next line

-- These takings were gone through, and the next line of the text was read, and some more. This is left.
pub record StandsIn (sys : System) (form : Form) (takings : List Taking) (blocks : List Remembered) (steps : List TickSteps) (number : ℕ) (line ahead last rest text : List ℕ) : Type 0 where
  pub chain : AreTakings sys most (opening_look sys) takings
  pub goes_on : NoneStops takings
  pub look : IsLookOf sys blocks steps (last_look (opening_look sys) takings)
  pub lines : List Line
  pub lines_are : map (line_of sys) lines ≡ all_lines takings
  pub are : AreLinesOf sys lines
  pub numbered : number ≡ length lines + 1
  pub is : text ≡ lines_text form sys (map (line_of sys) lines) ++ (line ++ (ahead ++ rest))
  pub alone : line ≡ take_through 10 (line ++ (ahead ++ rest))
  pub formed : (f : Form) (m : Line) → IsTextOf sys f m (take_through 10 text) → f ≡ form
  pub after : (m : Line) → IsTextOf sys form m line → MayBeAhead sys form m ahead last rest

abbrev pub Stands : (sys : System) (form : Form) (takings : List Taking) (walk : Walk) (ahead last rest text : List ℕ) → Type 0
Stands sys form takings walk ahead last rest text =
    StandsIn sys form takings walk.blocks.items walk.steps.items walk.trail.reading.number walk.trail.reading.line.items ahead last rest text

-- These takings were gone through, and the next line is that of this event.
pub record StandsAt (sys : System) (form : Form) (takings : List Taking) (walk : Walk) (ahead last : List ℕ) (line : Line) (rest text : List ℕ) : Type 0 where
  pub stands : Stands sys form takings walk ahead last rest text
  pub names : HasNames sys
  pub numbers : AreNumbered sys
  pub apart : AreApart sys
  pub is : IsTextOf sys form line walk.trail.reading.line.items
  pub later : last_tick 0 stands.lines ≤ line.key.tick
  pub plain : IsPlain form line.key

-- These takings were gone through, and the next line is judged.
pub record StandsOn (sys : System) (form : Form) (takings : List Taking) (walk : Walk) (ahead last rest text : List ℕ) : Type 0 where
  pub stands : Stands sys form takings walk ahead last rest text
  pub next : IsNext sys form (last_tick 0 stands.lines) walk.trail.reading.line.items walk.trail.reading.next

-- The line that was read ahead is not the stop for its steps of the resource of a basic block in the tick of a line.
abbrev pub IsNotNear : System → Line → (last : List ℕ) → Type 0
IsNotNear sys line last = (t : BasicType) → sys.kind (path_at sys line.instance) ≡ Some (Basic t) → last ≡ steps_stop sys (line_of sys line) → ⊥

-- The text is the stop for its steps of the resource of a line in its tick.
abbrev pub IsOwnStop : System → Line → (text : List ℕ) → Type 0
IsOwnStop sys line text = text ≡ steps_stop sys (line_of sys line)

-- The line that was read ahead is the stop for its steps of the resource of a basic block in the tick of a line.
pub record IsNear (sys : System) (line : Line) (last : List ℕ) : Type 0 where
  pub block : BasicType
  pub kind : sys.kind (path_at sys line.instance) ≡ Some (Basic block)
  pub is : last ≡ steps_stop sys (line_of sys line)

-- One more taking was gone through, which began with this line.
pub record TakesOne (sys : System) (form : Form) (steps : ℕ) (takings : List Taking) (walk : Walk) (ahead last : List ℕ) (line : Line) (rest text : List ℕ) : Type 0 where
  pub taking : Taking
  pub first_is : taking.first ≡ line_of sys line
  pub taking_is : IsTaking sys most (last_look (opening_look sys) takings) taking
  pub on : StandsOn sys form (takings ++ taking ∷ []) walk ahead last rest text
  pub near : IsNoLastStop sys steps (takings ++ taking ∷ []) walk.trail.reading.line.items

-- What comes of the event of the next line: the walk stands at the line after one more taking, or the next line or one after it is wrong.
abbrev pub StandsAfter :
    (sys : System) (form : Form) (steps : ℕ) (takings : List Taking) (walk : Walk) (ahead last : List ℕ) (line : Line) (rest text : List ℕ) → Result Step WalkError → Type 0
StandsAfter sys form steps takings walk ahead last line rest text (Ok Taken) = TakesOne sys form steps takings walk ahead last line rest text
StandsAfter sys form steps takings walk ahead last line rest text (Ok (Ended end)) = Unit {0}
StandsAfter sys form steps takings walk ahead last line rest text (Ok CutOff) = Unit {0}
StandsAfter sys form steps takings walk ahead last line rest text (Err e) = Refuses (λ refusal. IsWrongLine sys steps refusal walk.trail.reading.line.items text) e

-- ---- Steps

-- The end is a stop for the steps of a resource.
abbrev pub IsStepsStop : Outcome → Type 0
IsStepsStop (End h) = ⊥
IsStepsStop (Stop m) = m.reason ≡ Steps

-- The line of this number is the first of the first of these takings after which a resource had used more than these steps in a tick, if there
-- is such a taking.
abbrev pub Watches : (sys : System) (steps : ℕ) (takings : List Taking) (excess : Option ℕ) → Type 0
Watches sys steps takings (Some number) = IsTooMany sys steps takings number
Watches sys steps takings None = KeepSteps sys steps (last_look (opening_look sys) takings)

-- The refusal of the next line after the event of a line: that is the stop of its resource for its steps, and too many were used before, or
-- this was found.
abbrev pub BlamesSteps : System → Line → (excess : Option ℕ) → Reading → Finding → WalkError → Type 0
BlamesSteps sys line excess reading finding error =
    ((number : ℕ) × (excess ≡ Some number) × IsOwnStop sys line reading.line.items × (error ≡ Refused (record { number = reading.number; finding = why.Excess number })))
    ⊎ (((excess ≡ None) ⊎ (IsOwnStop sys line reading.line.items → ⊥)) × (error ≡ Refused (record { number = reading.number; finding = finding })))

-- A walk stands at the next line after some takings, of which it watched the steps.
pub record StandsWell (sys : System) (form : Form) (steps : ℕ) (walk : Walk) (ahead : Ahead) (rest text : List ℕ) : Type 0 where
  pub takings : List Taking
  pub on : StandsOn sys form takings walk ahead.text.items ahead.last.items rest text
  pub near : IsNoLastStop sys steps takings walk.trail.reading.line.items
  pub watched : Watches sys steps takings ahead.excess

-- This is the first line of a text, whose form it tells, and what is left of the text. No event was watched yet.
pub record BeginsText (sys : System) (form : Form) (line : List ℕ) (excess : Option ℕ) (rest text : List ℕ) : Type 0 where
  pub is : text ≡ line ++ rest
  pub alone : line ≡ take_through 10 text
  pub formed : (f : Form) (m : Line) → IsTextOf sys f m (take_through 10 text) → f ≡ form
  pub unwatched : excess ≡ None

-- It is known what is left, and this is true of it.
abbrev pub IsLeft : (remaining : Option (List ℕ)) → (List ℕ → Type 0) → Type 0
IsLeft remaining P = (rest : List ℕ) × (remaining ≡ Some rest) × P rest

-- What comes of a step.
abbrev pub GoesAfter :
    (sys : System) (form : Form) (steps : ℕ) (walk : Walk) (ahead : Ahead) (remaining : Option (List ℕ)) (text : List ℕ) → Result Step WalkError → Type 0
GoesAfter sys form steps walk ahead remaining text (Ok Taken) = IsLeft remaining (λ rest. StandsWell sys form steps walk ahead rest text)
GoesAfter sys form steps walk ahead remaining text (Ok (Ended end)) = Unit {0}
GoesAfter sys form steps walk ahead remaining text (Ok CutOff) = Unit {0}
GoesAfter sys form steps walk ahead remaining text (Err e) = Refuses (λ refusal. IsWrongLine sys steps refusal walk.trail.reading.line.items text) e

-- ---- Up to what was read

-- A walk stands at the next line, whatever comes after what was read, which ends in a line feed.
pub record StandsWhole (sys : System) (form : Form) (steps : ℕ) (walk : Walk) (ahead : Ahead) (rest text : List ℕ) : Type 0 where
  pub front : List ℕ
  pub ended : is_unended front ≡ false
  pub is : text ≡ front ++ rest
  pub stands : (left : List ℕ) → StandsWell sys form steps walk ahead left (front ++ left)

-- The same, and the next line is that of this event.
pub record StandsWholeAt (sys : System) (form : Form) (steps : ℕ) (walk : Walk) (ahead : Ahead) (line : Line) (rest text : List ℕ) : Type 0 where
  pub front : List ℕ
  pub ended : is_unended front ≡ false
  pub is : text ≡ front ++ rest
  pub stands :
      (left : List ℕ) → (takings : List Taking) × StandsAt sys form takings walk ahead.text.items ahead.last.items line left (front ++ left)
      × Watches sys steps takings ahead.excess

-- More was read ahead, or nothing: it ends in a line feed, so whatever comes after it, these lines and one more are ahead.
pub record ReadsWhole (sys : System) (form : Form) (first : Line) (old new : Ahead) (before : List ℕ) (remaining : Option (List ℕ)) : Type 0 where
  pub more : List ℕ
  pub ended : (more ≡ []) ⊎ (is_unended more ≡ false)
  pub left : IsLeft remaining (λ rest. before ≡ more ++ rest)
  pub text : new.text.items ≡ old.text.items ++ more
  pub ahead :
      (rest : List ℕ) → MayBeAhead sys form first old.text.items old.last.items (more ++ rest)
      → (rows : List Line) × AreAhead sys form first rows new.text.items new.last.items rest

-- What comes of a step where a text may be cut off: the walk stands so again, or a whole line is refused.
abbrev pub GoesWhole :
    (sys : System) (form : Form) (steps : ℕ) (walk : Walk) (ahead : Ahead) (remaining : Option (List ℕ)) (text : List ℕ) → Result Step WalkError → Type 0
GoesWhole sys form steps walk ahead remaining text (Ok Taken) = IsLeft remaining (λ rest. StandsWhole sys form steps walk ahead rest text)
GoesWhole sys form steps walk ahead remaining text (Ok (Ended end)) = Unit {0}
GoesWhole sys form steps walk ahead remaining text (Ok CutOff) = Unit {0}
GoesWhole sys form steps walk ahead remaining text (Err e) = Refuses (λ refusal. IsWhole refusal.number text) e
