-- A trace that is gone through: takings one after another, each from what the blocks remember.
use Rattle.std.specs.Prelude.{◌≡◌, ◌<◌, ◌≤◌, ◌⊎◌, ℕ, ◌+◌, ◌-◌, List, [], ◌∷◌, ◌++◌, map, length, All, IfSome, false, if◌then◌else◌, Option, Some, None, codes}
use Rattle.std.specs.Io.KnownBytes.{Appends}
use Rattle.fb_types.specs.Numbers.{line_of, path_at}
use Rattle.fb_types.specs.Simulation.{Ending, AtHorizon, AtStop}
use Rattle.fb_types.specs.States.{Line}
use Rattle.fb_types.specs.Systems.{System}
use Rattle.fb_types.specs.Takes.{with_at}
use Rattle.fb_types.specs.Text.{last_line, lines_text}
use Rattle.fb_types.specs.declared.run.Form.{Form}
use Rattle.fb_types.specs.declared.run.Line as run
use Rattle.fb_types.specs.declared.value.Reason.{Reason}
use Rattle.fb_types.specs.declared.value.Reason.TheVariants.{Steps, Divide, Range}
use Rattle.fb_wave.specs.CutOff.{IsCutTrace}
use Rattle.fb_wave.specs.Lines.{IsLineOf}
use Rattle.fb_wave.specs.Waves.{AreLinesOf, IsTraceOf}
use Rattle.fb_wave.specs.declared.truncation.Cut.{Cut}
use Rattle.fb_wave.specs.declared.truncation.Cut.TheVariants as cut
pub use Rattle.fb_inspect.specs.walk.Looks.{most}
use Rattle.fb_inspect.specs.Selections.{Selection, is_shown, is_shown_at}
use Rattle.fb_inspect.specs.walk.Looks.{IsTaking, Look, Taking, left_at, opening_look, taking_lines, taking_text}

-- nothing is taken after a stop
abbrev pub NothingAfter : Option Reason → List Taking → Type 0
NothingAfter None xs = Unit {0}
NothingAfter (Some r) xs = xs ≡ []

abbrev pub AreTakings : System → (limit : ℕ) → Look → List Taking → Type 0
AreTakings sys limit look [] = Unit {0}
AreTakings sys limit look (x ∷ xs) = IsTaking sys limit look x × NothingAfter x.stop xs × AreTakings sys limit x.after xs

abbrev pub last_look : Look → List Taking → Look
last_look look [] = look
last_look look (x ∷ xs) = last_look x.after xs

abbrev pub all_lines : List Taking → List Line
all_lines [] = []
all_lines (x ∷ xs) = taking_lines x ++ all_lines xs

-- ---- What is shown

abbrev pub all_text : Form → System → (what : Selection) → List Taking → List ℕ
all_text form sys what [] = []
all_text form sys what (x ∷ xs) = (if is_shown what x then taking_text form sys x else []) ++ all_text form sys what xs

-- ---- How a trace ends

-- no taking stopped its resource
abbrev pub NoneStops : List Taking → Type 0
NoneStops [] = Unit {0}
NoneStops (x ∷ xs) = (x.stop ≡ None) × NoneStops xs

-- how the last taking ends, and the resource and the tick that it is of
abbrev pub stop_of : List Taking → Option Ending
stop_of [] = None
stop_of (x ∷ []) = elim x.stop [ None ↦ None | Some r ↦ Some (AtStop x.first.key.tick x.first.key.resource r) ]
stop_of (x ∷ y ∷ xs) = stop_of (y ∷ xs)

-- No resource used more than these steps in a tick so far, of the greatest limit.
abbrev pub KeepSteps : System → (steps : ℕ) → Look → Type 0
KeepSteps sys steps look = (r : ℕ) → r < length sys.resource_names → most ≤ (look.steps r).least + steps

-- A resource used no more than these steps in a tick, of the greatest limit.
abbrev pub KeepsLimit : (steps tick resource : ℕ) → Look → Type 0
KeepsLimit steps t r look = most ≤ left_at most t (look.steps r) + steps

-- the look in which a resource has in this tick what is left of these steps
abbrev pub limited : (steps tick resource : ℕ) → Look → Look
limited steps t r look =
    record look { steps = with_at r (record { tick = Some t; left = (left_at most t (look.steps r) + steps) - most; least = (look.steps r).least }) look.steps }

-- at most one taking, and that is of this resource in this tick
abbrev pub IsOneOf : (tick resource : ℕ) → List Taking → Type 0
IsOneOf t r [] = Unit {0}
IsOneOf t r (x ∷ []) = (x.first.key.tick ≡ t) × (x.first.key.resource ≡ r)
IsOneOf t r (x ∷ y ∷ xs) = ⊥

-- Each resource has the greatest limit, and uses no more than these steps in a tick. But in the last taking, if that is of this resource in this
-- tick, it has what is left there of these steps.
pub record AreLimited (sys : System) (steps tick resource : ℕ) (xs : List Taking) : Type 0 where
  pub before : List Taking
  pub last : List Taking
  pub parts : xs ≡ before ++ last
  pub chain : AreTakings sys most (opening_look sys) before
  pub goes_on : NoneStops before
  pub one : IsOneOf tick resource last
  pub kept : KeepSteps sys steps (last_look (opening_look sys) before)
  pub within : KeepsLimit steps tick resource (last_look (opening_look sys) before)
  pub judged : AreTakings sys steps (limited steps tick resource (last_look (opening_look sys) before)) last

-- no step is left, in that taking or after it
abbrev pub RunsOut : (steps tick resource : ℕ) → Look → List Taking → Type 0
RunsOut steps t r look [] = left_at steps t (look.steps r) ≡ 0
RunsOut steps t r look (x ∷ xs) = (x.stop ≡ Some Steps) ⊎ ((x.stop ≡ None) × (left_at steps t (x.after.steps r) ≡ 0))

pub record EndsBySteps (sys : System) (steps tick resource : ℕ) (xs : List Taking) : Type 0 where
  pub limited_so : AreLimited sys steps tick resource xs
  pub runs_out : RunsOut steps tick resource (limited steps tick resource (last_look (opening_look sys) limited_so.before)) limited_so.last

-- the last taking stopped its resource
abbrev pub EndsByStop : System → List Taking → Ending → Type 0
EndsByStop sys xs end = AreTakings sys most (opening_look sys) xs × (stop_of xs ≡ Some end)

-- A trace that stops for its steps stops where these are used up in a tick. Another one may use up to the greatest limit.
abbrev pub EndsSo : System → (steps : ℕ) → List Taking → Ending → Type 0
EndsSo sys steps xs (AtHorizon h) = AreTakings sys most (opening_look sys) xs × NoneStops xs
EndsSo sys steps xs (AtStop t r Steps) = EndsBySteps sys steps t r xs
EndsSo sys steps xs (AtStop t r Divide) = EndsByStop sys xs (AtStop t r Divide)
EndsSo sys steps xs (AtStop t r Range) = EndsByStop sys xs (AtStop t r Range)

-- A text with what is reported between its lines, of these instances alone where there are some.
pub record IsInspected (sys : System) (what : Selection) (steps : ℕ) (text bytes : List ℕ) : Type 0 where
  pub form : Form
  pub lines : List run.Line
  pub end : Ending
  pub trace : IsTraceOf sys form text lines end
  pub takings : List Taking
  pub lines_are : map (line_of sys) lines ≡ all_lines takings
  pub ends : EndsSo sys steps takings end
  pub written : bytes ≡ all_text form sys what takings ++ last_line sys end

-- ---- Traces that are cut off

-- a line of an emission of the block of another line, in its tick
pub record IsOwnLine (sys : System) (first l : run.Line) : Type 0 where
  pub line : IsLineOf sys l
  pub taken : l.taken ≡ false
  pub instance : l.instance ≡ first.instance
  pub tick : l.key.tick ≡ first.key.tick

-- no line, or the line of an event with lines of emissions of its block in its tick
abbrev pub AreOfOne : System → List run.Line → Type 0
AreOfOne sys [] = Unit {0}
AreOfOne sys (l ∷ ls) = All (IsOwnLine sys l) ls

-- Nothing is known of what the event gave, so it is not shown among those that cleared no transition.
abbrev pub one_text : Form → System → (what : Selection) → List run.Line → List ℕ
one_text form sys what [] = []
one_text form sys what (l ∷ ls) = if is_shown_at what (path_at sys l.instance) l.key.tick [] then lines_text form sys (map (line_of sys) (l ∷ ls)) else []

abbrev pub cut_note : List ℕ
cut_note = codes "  cut\n"

-- A text that is cut off, with what is reported between its lines. Nothing is reported of the event after which only lines of its own
-- block come in its tick, since some of them may be missing. There is such an event, unless the text has no whole line.
pub record IsCutInspected (sys : System) (what : Selection) (text bytes : List ℕ) : Type 0 where
  pub form : Form
  pub lines : List run.Line
  pub untaken : List run.Line
  pub trace : IsCutTrace sys form text (lines ++ untaken)
  pub of_one : AreOfOne sys untaken
  pub last : untaken ≡ [] → lines ≡ []
  pub takings : List Taking
  pub lines_are : map (line_of sys) lines ≡ all_lines takings
  pub chain : AreTakings sys most (opening_look sys) takings
  pub goes_on : NoneStops takings
  pub written : bytes ≡ all_text form sys what takings ++ (one_text form sys what untaken ++ cut_note)

-- ---- Outcomes

-- The text is gone through, and the writer got it with what is reported between its lines.
pub record IsShown (sys : System) (what : Selection) (steps : ℕ) (text : List ℕ) (old new : Option (List ℕ)) : Type 0 where
  pub bytes : List ℕ
  pub inspected : IsInspected sys what steps text bytes
  pub got : Appends old new bytes

-- The text is cut off and gone through, and the writer got it with what is reported between its lines.
pub record IsCutShown (sys : System) (what : Selection) (text : List ℕ) (old new : Option (List ℕ)) : Type 0 where
  pub bytes : List ℕ
  pub inspected : IsCutInspected sys what text bytes
  pub got : Appends old new bytes

-- where a trace may be cut off or not
abbrev pub IsShownBy : Cut → System → (what : Selection) → (steps : ℕ) → (text : List ℕ) → (old new : Option (List ℕ)) → Type 0
IsShownBy cut.Refused sys what steps text old new = IsShown sys what steps text old new
IsShownBy cut.Allowed sys what steps text old new = IsShown sys what steps text old new ⊎ IsCutShown sys what text old new

-- takings that may be those of a trace, as far as they go
abbrev pub AreTaken : System → (steps : ℕ) → List Taking → Type 0
AreTaken sys steps xs =
    AreTakings sys most (opening_look sys) xs ⊎ ((tick : ℕ) × (resource : ℕ) × AreLimited sys steps tick resource xs)

-- what is written after the takings: the last line, or that the trace is cut off
abbrev pub IsEndText : Form → System → (what : Selection) → List ℕ → Type 0
IsEndText form sys what text =
    ((end : Ending) × (text ≡ last_line sys end)) ⊎ ((ls : List run.Line) × AreOfOne sys ls × (text ≡ one_text form sys what ls ++ cut_note))

-- The text begins with another one.
abbrev pub BeginsWith : (front text : List ℕ) → Type 0
BeginsWith front text = (rest : List ℕ) × (text ≡ front ++ rest)

-- A writer got the first bytes of what is shown of takings that were gone through, and of what is written after them if that was read.
pub record ShowsFront (sys : System) (what : Selection) (steps : ℕ) (old new : Option (List ℕ)) : Type 0 where
  pub form : Form
  pub takings : List Taking
  pub taken : AreTaken sys steps takings
  pub last : List ℕ
  pub ends : (last ≡ []) ⊎ IsEndText form sys what last
  pub got : List ℕ
  pub rest : List ℕ
  pub parts : all_text form sys what takings ++ last ≡ got ++ rest
  pub appended : Appends old new got

-- What is written after takings is the end that the text has after their lines, or the lines in which it is cut off.
abbrev pub IsOwnEnd : Form → System → (what : Selection) → (input : Option (List ℕ)) → List run.Line → (last : List ℕ) → Type 0
IsOwnEnd form sys what input ls last =
    ((end : Ending) × (last ≡ last_line sys end) × IfSome input (BeginsWith (lines_text form sys (map (line_of sys) ls) ++ last_line sys end)))
    ⊎ ((us : List run.Line) × (last ≡ one_text form sys what us ++ cut_note) × IfSome input (BeginsWith (lines_text form sys (map (line_of sys) (ls ++ us)))))

-- The same, and these are the takings of the lines with which the text begins, and the end is the one that it has after them.
pub record ShowsRead (sys : System) (what : Selection) (steps : ℕ) (input old new : Option (List ℕ)) : Type 0 where
  pub front : ShowsFront sys what steps old new
  pub lines : List run.Line
  pub are : AreLinesOf sys lines
  pub lines_are : map (line_of sys) lines ≡ all_lines front.takings
  pub read : IfSome input (BeginsWith (lines_text front.form sys (map (line_of sys) lines)))
  pub ends : (front.last ≡ []) ⊎ IsOwnEnd front.form sys what input lines front.last

-- A writer got what is shown of these takings of a text, each taken as a whole. After their lines comes the line of an event, and that comes
-- before the line of this number.
pub record ShowsFirst (sys : System) (form : Form) (what : Selection) (number : ℕ) (text : List ℕ) (old new : Option (List ℕ)) : Type 0 where
  pub takings : List Taking
  pub chain : AreTakings sys most (opening_look sys) takings
  pub lines : List run.Line
  pub lines_are : map (line_of sys) lines ≡ all_lines takings
  pub next : run.Line
  pub are : AreLinesOf sys (lines ++ next ∷ [])
  pub read : BeginsWith (lines_text form sys (map (line_of sys) (lines ++ next ∷ []))) text
  pub before : length lines + 1 < number
  pub got : Appends old new (all_text form sys what takings)

-- Before the line of this number was refused, a writer got nothing, or what is shown of the first takings of a text. The last of these has
-- another line after it, so it is shown alike in each trace with the lines before the refused one (`specs/Laws`).
abbrev pub ShowsBefore : System → (what : Selection) → (number : ℕ) → (text : List ℕ) → (old new : Option (List ℕ)) → Type 0
ShowsBefore sys what number text old new = Appends old new [] ⊎ ((form : Form) × ShowsFirst sys form what number text old new)
