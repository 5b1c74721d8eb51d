-- What the next line is, as far as its form shows it, and why it may be none.
use Rattle.fb_inspect.proofs.lemmas.Common.{◌<◌, ℕ, List, refl, sym, ◌∙◌, arith, system_of, System, Form, Line, ending_of, Outcome, IsLast, IsNoLast, IsTextOf, HasNames, PortTable}
use Rattle.fb_wave.specs.Copying.{IsAfter, IsNoLineFrom}
use Rattle.fb_wave.specs.Lines.{IsNoTextOf}
use Rattle.fb_wave.proofs.lemmas.Ends.{after_once}
use Rattle.fb_wave.proofs.lemmas.Lining.{line_not_last}
use Rattle.fb_inspect.specs.walk.Lines.{IsNoEndFrom}
use Rattle.fb_inspect.proofs.lemmas.lines.OneLine.{line_once}

-- ---- Lines that cannot come there

module _ (sys : System) (form : Form) (tick : ℕ) (text : List ℕ) where
  -- the line is an end that comes too early
  pub end_early : (end : Outcome) → IsLast sys text end → (IsAfter tick end → ⊥) → IsNoLineFrom sys form tick text × IsNoEndFrom sys tick text
  end_early end last early = (
    λ l is later. line_not_last sys form l (ending_of end) is.line (sym is.is ∙ last.is),
    λ other can after e. early (after_once sys tick tick end other refl last.can can (sym last.is ∙ e) after),
  )

  -- the text is no line and no end of the system
  pub none_there : IsNoLast sys text → IsNoTextOf sys form text → IsNoLineFrom sys form tick text × IsNoEndFrom sys tick text
  none_there no_end no_line = (λ l is later. no_line l is, λ other can after e. no_end other can e)

-- the line has an earlier tick
pub line_early :
    (t : PortTable) (form : Form) (tick : ℕ) (text : List ℕ) (l : Line) → IsTextOf (system_of t.system.now) form l text → l.key.tick < tick → IsNoLast (system_of t.system.now) text
    → HasNames (system_of t.system.now) → IsNoLineFrom (system_of t.system.now) form tick text × IsNoEndFrom (system_of t.system.now) tick text
line_early t form tick text l is early no_end names = (
  λ m other later. let same = (line_once t names form l m text is other).tick in absurd (omega (arith, same, early, later)),
  λ end can after e. no_end end can e,
)
