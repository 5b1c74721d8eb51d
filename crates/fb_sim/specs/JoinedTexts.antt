-- Marked texts that are joined, tick by tick and list by list (this project's profile).
use Rattle.std.specs.Prelude.{◌≡◌, ℕ, ◌+◌, nat_lt, Bool, true, Option, Some, None, List, ◌++◌, length, map}
use Rattle.std.specs.List.{AllZip}
use Rattle.fb_types.specs.Headline.{Inputs}
use Rattle.fb_types.specs.declared.run.Form.{Form}
use Rattle.fb_types.specs.declared.run.Line.{Line}
use Rattle.fb_trace.specs.Fronts.{IsLeast, all_early, early, late, tick_at}
use Rattle.fb_trace.specs.Marks.{AreMarked, text_of_lines}
use Rattle.fb_trace.specs.declared.marks.Mark.{Mark}
use Rattle.fb_sim.specs.declared.rounds.join_texts.Rest.{Rest}

-- whether no line is at a tick or before it, by the first one
abbrev pub past_at : (tick : ℕ) → Option ℕ → Bool
past_at t None = true
past_at t (Some first) = nat_lt t first

-- The lines of marks are passed up to a tick: it is known where their text ends, and which marks are left.
pub record IsPassed (i : Inputs) (form : Form) (tick before : ℕ) (lines : List Line)
    (stop : ℕ) (marks : List Mark) : Type 0 where
  pub end : stop ≡ before + length (text_of_lines i form (early tick lines))
  pub left : AreMarked i form stop marks (late tick lines)

-- These lines are what is left of a marked text.
pub record IsRest (i : Inputs) (form : Form) (lines : List Line) (r : Rest) : Type 0 where
  pub tick : r.tick ≡ tick_at lines
  pub marked : AreMarked i form r.before r.marks.now lines
  pub text : r.text.now ≡ text_of_lines i form lines

-- The lines up to a tick are cut off.
pub record IsCut (i : Inputs) (form : Form) (tick : ℕ) (lines : List Line) (bytes : List ℕ) (rest : Rest) : Type 0 where
  pub text : bytes ≡ text_of_lines i form (early tick lines)
  pub left : IsRest i form (late tick lines) rest

-- The text of the lines of one list up to a tick is put after a text.
pub record IsPut (i : Inputs) (form : Form) (tick : ℕ) (lines : List Line)
    (old new : List ℕ) (rest : Rest) (next : Option ℕ) : Type 0 where
  pub text : new ≡ old ++ text_of_lines i form (early tick lines)
  pub left : IsRest i form (late tick lines) rest
  pub first : next ≡ tick_at (late tick lines)

-- The text of the lines of all lists up to a tick is put after a text.
pub record ArePut (i : Inputs) (form : Form) (tick : ℕ) (lists : List (List Line))
    (old new : List ℕ) (rests : List Rest) (next : Option ℕ) : Type 0 where
  pub text : new ≡ old ++ text_of_lines i form (all_early tick lists)
  pub left : AllZip (IsRest i form) (map (late tick) lists) rests
  pub least : IsLeast (map (late tick) lists) next
