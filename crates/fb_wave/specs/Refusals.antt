-- The line at which a text is refused: the first with which it can be no trace of the system (this project's profile).
use Rattle.std.specs.Prelude.{◌≡◌, ℕ, suc, ◌==◌, List, [], ◌∷◌, take, if◌then◌else◌, IfSome, Option}
use Rattle.fb_types.specs.Systems.{System}
use Rattle.fb_types.specs.Simulation.{Ending}
use Rattle.fb_types.specs.declared.run.Form.{Form}
use Rattle.fb_types.specs.declared.run.Line.{Line}
use Rattle.fb_wave.specs.Named.{HasNames}
use Rattle.fb_wave.specs.Waves.{IsTraceOf}
use Rattle.fb_wave.specs.declared.error.WaveError.{WaveError}
use Rattle.fb_wave.specs.declared.error.WaveError.TheVariants.{Refused, Names, Memory, Read, Write}

-- a byte, and then the first of these lines
abbrev pub longer : ℕ → List (List ℕ) → List (List ℕ)
longer b [] = (b ∷ []) ∷ []
longer b (l ∷ ls) = (b ∷ l) ∷ ls

-- the lines of a text, each with the line feed that ends it; the last may have none
abbrev pub lines_in : List ℕ → List (List ℕ)
lines_in [] = []
lines_in (b ∷ bs) = if b == 10 then (b ∷ []) ∷ lines_in bs else longer b (lines_in bs)

-- The text is a trace of the system.
pub record IsTrace (sys : System) (text : List ℕ) : Type 0 where
  pub form : Form
  pub lines : List Line
  pub end : Ending
  pub is : IsTraceOf sys form text lines end

-- A trace of the system has the first lines of the text, this many.
pub record GoesOn (sys : System) (count : ℕ) (text : List ℕ) : Type 0 where
  pub trace : List ℕ
  pub is : IsTrace sys trace
  pub alike : take count (lines_in trace) ≡ take count (lines_in text)

-- The line of this number, from 1, is the first that no trace has: some trace has the lines before it, none has them and this one.
-- Where the text has no such line, no trace ends before it.
pub record IsFirstBad (sys : System) (number : ℕ) (text : List ℕ) : Type 0 where
  pub before : ℕ
  pub next : number ≡ suc before
  pub good : GoesOn sys before text
  pub bad : ¬ (GoesOn sys number text)

-- What a failure says of the system, and of the text where that is known.
abbrev pub Blames : System → (text : Option (List ℕ)) → WaveError → Type 0
Blames sys text (Refused line) = IfSome text (IsFirstBad sys line)
Blames sys text Names = ¬ (HasNames sys)
Blames sys text Memory = Unit {0}
Blames sys text Read = Unit {0}
Blames sys text (Write n) = Unit {0}
