-- The text of lines, with a mark where the text of each run of lines of one tick ends (this project's profile).
use Rattle.std.specs.Prelude.{◌≡◌, ℕ, ◌+◌, List, [], ◌∷◌, ◌++◌, length, map}
use Rattle.fb_types.specs.Headline.{Inputs, system_of}
use Rattle.fb_types.specs.Machines.{Each}
use Rattle.fb_types.specs.Numbers.{line_of}
use Rattle.fb_types.specs.Text as text
use Rattle.fb_types.specs.declared.run.Form.{Form}
use Rattle.fb_types.specs.declared.run.Line.{Line}
use Rattle.fb_trace.specs.Merging.{tick_of}
use Rattle.fb_trace.specs.declared.marks.Mark.{Mark}
use Rattle.fb_trace.specs.declared.marks.MarkedText.{MarkedText}

-- lines of one tick, one at least
abbrev pub IsRun : (tick : ℕ) → List Line → Type 0
IsRun t [] = ⊥
IsRun t (x ∷ xs) = (tick_of x ≡ t) × Each (λ y. tick_of y ≡ t) xs

-- the text of lines of accepted inputs
abbrev pub text_of_lines : Inputs → Form → List Line → List ℕ
text_of_lines i form xs = text.lines_text form (system_of i) (map (line_of (system_of i)) xs)

-- The lines are runs, each of the tick of its mark. The mark says how many bytes are before the end of its text, where this many are before that of the first one.
abbrev pub AreMarked : Inputs → Form → (before : ℕ) → List Mark → List Line → Type 0
AreMarked i form n [] xs = xs ≡ []
AreMarked i form n (m ∷ ms) xs =
    (run : List Line) × (rest : List Line)
    × (xs ≡ run ++ rest) × IsRun m.tick run × (m.end ≡ n + length (text_of_lines i form run)) × AreMarked i form m.end ms rest

-- It is the text of the lines in this form, with their marks and their count.
pub record IsMarkedText (i : Inputs) (form : Form) (all : List Line) (t : MarkedText) : Type 0 where
  pub in_form : t.form ≡ form
  pub text : t.text.items ≡ text_of_lines i form all
  pub marked : AreMarked i form 0 t.marks.items all
  pub lines : t.lines ≡ length all
