use Rattle.fb_inspect.proofs.lemmas.Common.{◌≡◌, ◌+◌, ℕ, true, List, [], ◌∷◌, ◌++◌, map, sym, ap, ◌∙◌, append_assoc, append-nil, append_cancel_left, arith, All, All-head, All-tail, take_through, line_of, Ending, System, last_line, line_text, lines_text, Form, Line, IsEndOf, IsLineOf, HasNames}
use Rattle.fb_wave.specs.CutOff.{has_no_feed}
use Rattle.fb_wave.proofs.lemmas.Lining.{last_one, line_not_last, line_one}
use Rattle.fb_wave.proofs.lemmas.Severed.{feeds, feeds-append, flat_feeds, one_feed}
use Rattle.fb_inspect.specs.Laws.{WholeOrCut}
use Rattle.fb_inspect.proofs.lemmas.lines.Fronting.{through_one}
use Rattle.fb_inspect.proofs.laws.traces_are_not_cut_off.Goals as goal

module _ (sys : System) (names : HasNames sys) (form other : Form) (end : Ending) (can : IsEndOf sys end) (part : List ℕ) (unended : has_no_feed part ≡ true) where
  abbrev text_in : Form → Line → List ℕ
  text_in f l = line_text f sys (line_of sys l)

  abbrev texts_in : Form → List Line → List ℕ
  texts_in f ls = lines_text f sys (map (line_of sys) ls)

  -- the first line of some lines and what comes after them
  first_of : (f : Form) (l : Line) (ls : List Line) (more : List ℕ) → IsLineOf sys l → take_through 10 (texts_in f (l ∷ ls) ++ more) ≡ text_in f l
  first_of f l ls more is = ap (take_through 10) (append_assoc (text_in f l) (texts_in f ls) more) ∙ through_one (text_in f l) (texts_in f ls ++ more) (line_one sys f l names is)

  -- the lines of a trace and its last one, and lines with a part of a line after them
  apart : (ls ms : List Line) → All (IsLineOf sys) ls → All (IsLineOf sys) ms → texts_in form ls ++ last_line sys end ≡ texts_in other ms ++ part → ⊥
  apart [] [] all more same =
      let none = flat_feeds part unended in
      let one = one_feed (last_line sys end) (last_one sys end names can) in
      let both : feeds (last_line sys end) ≡ feeds part = ap feeds same in
      absurd (omega (arith, none, one, both))
  apart [] (m ∷ ms) all more same =
      let is = All-head (IsLineOf sys) m ms more in
      line_not_last sys other m end is
      (sym (first_of other m ms part is) ∙ sym (ap (take_through 10) (append-nil (last_line sys end) ∙ same)) ∙ through_one (last_line sys end) [] (last_one sys end names can))
  apart (l ∷ ls) [] all more same =
      let none = flat_feeds part unended in
      let one = one_feed (text_in form l) (line_one sys form l names (All-head (IsLineOf sys) l ls all)) in
      let counted : feeds part ≡ feeds (text_in form l) + feeds (texts_in form ls ++ last_line sys end) =
      sym (ap feeds same) ∙ ap feeds (append_assoc (text_in form l) (texts_in form ls) (last_line sys end)) ∙ feeds-append (text_in form l) (texts_in form ls ++ last_line sys end) in
      absurd (omega (arith, none, one, counted))
  apart (l ∷ ls) (m ∷ ms) all more same =
      let one = All-head (IsLineOf sys) l ls all in
      let two = All-head (IsLineOf sys) m ms more in
      let first : text_in form l ≡ text_in other m = sym (first_of form l ls (last_line sys end) one) ∙ ap (take_through 10) same ∙ first_of other m ms part two in
      apart ls ms (All-tail (IsLineOf sys) l ls all) (All-tail (IsLineOf sys) m ms more)
      (append_cancel_left (text_in form l) (texts_in form ls ++ last_line sys end) (texts_in other ms ++ part)
      (sym (append_assoc (text_in form l) (texts_in form ls) (last_line sys end)) ∙ same ∙ append_assoc (text_in other m) (texts_in other ms) part
      ∙ ap (λ (u : List ℕ). u ++ (texts_in other ms ++ part)) (sym first)))

whole_or_cut : WholeOrCut
whole_or_cut sys form other text ls ms end names trace cut =
    apart sys names form other end trace.last cut.part cut.unended ls ms trace.lines.each cut.lines.each (sym trace.is ∙ cut.is)

pub returns : goal.returns
returns c = whole_or_cut
