-- What comes of a trace: its dump with the inside of basic blocks, or a front of one.
use Rattle.std.specs.Prelude.{◌≡◌, ◌<◌, ◌+◌, ◌⊎◌, ℕ, List, [], ◌∷◌, ◌++◌, map, length, true, IfSome, Option}
use Rattle.std.specs.Io.KnownBytes.{Appends}
use Rattle.fb_types.specs.Simulation.{Ending}
use Rattle.fb_types.specs.Numbers.{line_of}
use Rattle.fb_types.specs.Systems.{System}
use Rattle.fb_types.specs.Text.{last_line, lines_text}
use Rattle.fb_types.specs.declared.run.Form.{Form}
use Rattle.fb_types.specs.declared.run.Line.{Line}
use Rattle.fb_wave.specs.CutOff.{IsCutTrace}
use Rattle.fb_wave.specs.Waves.{AreLinesOf, IsTraceOf}
use Rattle.fb_wave.specs.declared.truncation.Cut.{Cut}
use Rattle.fb_wave.specs.declared.truncation.Cut.TheVariants as cut
use Rattle.fb_inspect.specs.Inspections.{AreOfOne, AreTaken, AreTakings, BeginsWith, EndsSo, NoneStops, most}
use Rattle.fb_inspect.specs.walk.Walking.{IsCutAfter}
use Rattle.fb_inspect.specs.walk.Looks.{opening_look}
use Rattle.fb_inspect.specs.dump.StateDumps.{HaveLines, Taken, cut_dump, lines_of, state_dump, takings_of}

-- The text is a trace whose takings are gone through, each from what the blocks remember, and the writer got the dump of these. A trace
-- that stops for its steps stops where these are used up in a tick, and another one may use up to the greatest limit.
pub record IsStateWave (sys : System) (steps : ℕ) (text : List ℕ) (old new : Option (List ℕ)) : Type 0 where
  pub form : Form
  pub takings : List Taken
  pub end : Ending
  pub trace : IsTraceOf sys form text (lines_of takings) end
  pub lines : HaveLines sys takings
  pub ends : EndsSo sys steps (takings_of takings) end
  pub got : Appends old new (state_dump true sys takings end)

-- The text is a trace that is cut off, and the writer got the dump of its takings. The event is not taken after
-- which only lines of its own block come in its tick, since some of them may be missing. There is such an event, unless the text has no
-- whole line.
pub record IsCutStateWave (sys : System) (text : List ℕ) (old new : Option (List ℕ)) : Type 0 where
  pub form : Form
  pub takings : List Taken
  pub untaken : List Line
  pub trace : IsCutTrace sys form text (lines_of takings ++ untaken)
  pub of_one : AreOfOne sys untaken
  pub last : untaken ≡ [] → takings ≡ []
  pub lines : HaveLines sys takings
  pub chain : AreTakings sys most (opening_look sys) (takings_of takings)
  pub goes_on : NoneStops (takings_of takings)
  pub got : Appends old new (cut_dump true sys takings untaken)

-- The text is a trace, cut off only where that is allowed, and the writer got its dump.
abbrev pub IsShownWith : Cut → System → (steps : ℕ) → (text : List ℕ) → (old new : Option (List ℕ)) → Type 0
IsShownWith cut.Refused sys steps text old new = IsStateWave sys steps text old new
IsShownWith cut.Allowed sys steps text old new = IsStateWave sys steps text old new ⊎ IsCutStateWave sys text old new

-- the dump of takings with some end, or with lines in which a trace is cut off
abbrev pub IsDumpOf : System → List Taken → List ℕ → Type 0
IsDumpOf sys xs text =
    ((end : Ending) × (text ≡ state_dump true sys xs end)) ⊎ ((us : List Line) × AreOfOne sys us × (text ≡ cut_dump true sys xs us))

-- A writer got the first bytes of a dump of takings that were gone through.
pub record WritesFront (sys : System) (steps : ℕ) (old new : Option (List ℕ)) : Type 0 where
  pub takings : List Taken
  pub are : AreLinesOf sys (lines_of takings)
  pub lines : HaveLines sys takings
  pub taken : AreTaken sys steps (takings_of takings)
  pub dump : List ℕ
  pub is : IsDumpOf sys takings dump
  pub bytes : List ℕ
  pub rest : List ℕ
  pub parts : bytes ++ rest ≡ dump
  pub got : Appends old new bytes

-- The bytes are the first of the dump of these takings, whichever come after them, and whether an end comes or the trace is cut off.
pub record AreFirst (sys : System) (xs : List Taken) (bytes : List ℕ) : Type 0 where
  pub ended : (more : List Taken) (end : Ending) → BeginsWith bytes (state_dump true sys (xs ++ more) end)
  pub cut : (more : List Taken) (us : List Line) → BeginsWith bytes (cut_dump true sys (xs ++ more) us)

-- The dump is that of these takings with the end that the text has after them, or with the lines in which it is cut off.
abbrev pub IsOwnEnd : System → Form → (input : Option (List ℕ)) → List Taken → (dump : List ℕ) → Type 0
IsOwnEnd sys form input xs dump =
    ((end : Ending) × (dump ≡ state_dump true sys xs end) × IfSome input (BeginsWith (lines_text form sys (map (line_of sys) (lines_of xs)) ++ last_line sys end)))
    ⊎ ((us : List Line) × (dump ≡ cut_dump true sys xs us) × IfSome input (λ text. IsCutAfter text (lines_text form sys (map (line_of sys) (lines_of xs ++ us)))))

-- The takings are those of the lines with which the text begins. A writer got the first bytes of the dump of each trace that begins with
-- them, or of the dump of the text itself, whose end was read.
pub record WritesRead (sys : System) (steps : ℕ) (input old new : Option (List ℕ)) : Type 0 where
  pub front : WritesFront sys steps old new
  pub form : Form
  pub read : IfSome input (BeginsWith (lines_text form sys (map (line_of sys) (lines_of front.takings))))
  pub goes_on : AreFirst sys front.takings front.bytes ⊎ IsOwnEnd sys form input front.takings front.dump

-- A writer got the first bytes of the dump of each trace that begins with these takings of a text. After their lines comes the line of an event,
-- and that comes before the line of this number.
pub record WritesFirst (sys : System) (form : Form) (number : ℕ) (text : List ℕ) (old new : Option (List ℕ)) : Type 0 where
  pub takings : List Taken
  pub chain : AreTakings sys most (opening_look sys) (takings_of takings)
  pub lines : HaveLines sys takings
  pub next : Line
  pub are : AreLinesOf sys (lines_of takings ++ next ∷ [])
  pub read : BeginsWith (lines_text form sys (map (line_of sys) (lines_of takings ++ next ∷ []))) text
  pub before : length (lines_of takings) + 1 < number
  pub bytes : List ℕ
  pub first : AreFirst sys takings bytes
  pub got : Appends old new bytes

-- Before the line of this number was refused, a writer got nothing, or the first bytes of such dumps (`specs/Laws`).
abbrev pub WritesBefore : System → (number : ℕ) → (text : List ℕ) → (old new : Option (List ℕ)) → Type 0
WritesBefore sys number text old new = Appends old new [] ⊎ ((form : Form) × WritesFirst sys form number text old new)
