-- The next line of a trace (this project's profile).
use Rattle.std.specs.Prelude.{◌≡◌, ◌≤◌, ◌++◌, ℕ, List, Option, Some, None}
use Rattle.std.specs.Io.BufRead.{take_through}
use Rattle.fb_types.specs.Simulation.{Ending}
use Rattle.fb_types.specs.Systems.{System}
use Rattle.fb_types.specs.Text.{last_line}
use Rattle.fb_types.specs.declared.key.Key.{Key}
use Rattle.fb_types.specs.declared.run.Form.{Form}
use Rattle.fb_types.specs.declared.run.Form.TheVariants.{One, Two}
use Rattle.fb_wave.specs.Copying.{IsAfter, IsNoLineFrom}
use Rattle.fb_wave.specs.Lines.{IsEndOf, IsLast, IsTextOf}
use Rattle.fb_wave.specs.Named.{HasNames}
use Rattle.fb_wave.specs.Waves.{EndsAfter}
use Rattle.fb_inspect.specs.declared.walk.reading.Next.{Next}
use Rattle.fb_inspect.specs.declared.walk.reading.Next.TheVariants.{Event, End, Bad}

-- What a form does not show of a key is 0.
abbrev pub IsPlain : Form → Key → Type 0
IsPlain One k = (k.class ≡ 0) × (k.a ≡ 0) × (k.b ≡ 0)
IsPlain Two k = Unit {0}

-- The text is that of no end from a tick on.
abbrev pub IsNoEndFrom : System → (tick : ℕ) → List ℕ → Type 0
IsNoEndFrom sys t text = (end : Ending) → IsEndOf sys end → EndsAfter t end → text ≡ last_line sys end → ⊥

-- The text is that of such a line, which can come after one of this tick, or of none.
abbrev pub IsNext : (sys : System) (form : Form) (tick : ℕ) → List ℕ → Next → Type 0
IsNext sys form t text (Event l) = IsTextOf sys form l text × (t ≤ l.key.tick) × IsPlain form l.key
IsNext sys form t text (End e) = IsLast sys text e × IsAfter t e
IsNext sys form t text Bad = HasNames sys → IsNoLineFrom sys form t text × IsNoEndFrom sys t text

-- The same, where nothing is said of a line that cannot come there.
abbrev pub IsNextLine : (sys : System) (form : Form) (tick : ℕ) → List ℕ → Next → Type 0
IsNextLine sys form t text (Event l) = IsTextOf sys form l text × (t ≤ l.key.tick)
IsNextLine sys form t text (End e) = IsLast sys text e × IsAfter t e
IsNextLine sys form t text Bad = Unit {0}

-- It is known what is left of the text, and the line ends before that.
abbrev pub IsAlone : (line : List ℕ) → (left : Option (List ℕ)) → Type 0
IsAlone line None = ⊥
IsAlone line (Some rest) = line ≡ take_through 10 (line ++ rest)
