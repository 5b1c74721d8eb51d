-- What a trace covers, next to what others covered.
use Rattle.std.specs.Prelude.{◌≡◌, ℕ, List}
use Rattle.fb_types.specs.Headline.{Inputs, system_of}
use Rattle.fb_coverage.specs.declared.marks.Marks.{Marks}
use Rattle.fb_wave.specs.declared.truncation.Cut.{Cut}
use Rattle.fb_wave.specs.declared.truncation.Cut.TheVariants as cut
use Rattle.fb_inspect.specs.Selections.{Selection}
use Rattle.fb_inspect.specs.Happenings.{AreMarkedBy, History}
use Rattle.fb_inspect.specs.Inspections.{IsCutInspected, IsInspected}
use Rattle.fb_inspect.specs.Markings.{TakingsMark, lines_marked}
use Rattle.fb_inspect.specs.declared.walk.Extent.{Extent}
use Rattle.fb_inspect.specs.declared.walk.Extent.TheVariants.{Whole, CutOff}

-- The text is a trace that is gone through, showing these instances or none, and what its takings cover is marked.
pub record IsCovered (i : Inputs) (what : Selection) (steps : ℕ) (text : List ℕ) (old new : Marks) : Type 0 where
  pub bytes : List ℕ
  pub inspected : IsInspected (system_of i) what steps text bytes
  pub charts : TakingsMark i.library.blocks (system_of i) inspected.takings old.charts new.charts
  pub ports : new.ports ≡ lines_marked inspected.lines old.ports

-- The text is a trace that is cut off and gone through, showing these instances or none, and what its takings cover
-- is marked.
pub record IsCutCovered (i : Inputs) (what : Selection) (text : List ℕ) (old new : Marks) : Type 0 where
  pub bytes : List ℕ
  pub inspected : IsCutInspected (system_of i) what text bytes
  pub charts : TakingsMark i.library.blocks (system_of i) inspected.takings old.charts new.charts
  pub ports : new.ports ≡ lines_marked inspected.lines old.ports

-- A trace is gone through, as a whole or, where that is allowed, cut off, and what its takings cover is marked.
abbrev pub IsCoveredBy : Cut → Inputs → (what : Selection) → (steps : ℕ) → (text : List ℕ) → (old new : Marks) → Extent → Type 0
IsCoveredBy may i what steps text old new Whole = IsCovered i what steps text old new
IsCoveredBy may i what steps text old new CutOff = (may ≡ cut.Allowed) × IsCutCovered i what text old new

-- ---- What traces cover

-- A text is gone through by these takings: all of it, or as far as it goes where it is cut off.
abbrev pub GoesBy : Cut → Inputs → (what : Selection) → (steps : ℕ) → (text : List ℕ) → History → Extent → Type 0
GoesBy may i what steps text h Whole =
    (bytes : List ℕ) × (inspected : IsInspected (system_of i) what steps text bytes) × (h ≡ record { takings = inspected.takings; lines = inspected.lines })
GoesBy may i what steps text h CutOff =
    (may ≡ cut.Allowed) × (bytes : List ℕ) × (inspected : IsCutInspected (system_of i) what text bytes)
    × (h ≡ record { takings = inspected.takings; lines = inspected.lines })

-- A text is gone through, whatever is shown of it, and exactly what its takings do is marked, next to what others
-- did.
pub record Covers (may : Cut) (i : Inputs) (steps : ℕ) (text : List ℕ) (old new : Marks) (extent : Extent) : Type 0 where
  pub what : Selection
  pub history : History
  pub goes : GoesBy may i what steps text history extent
  pub marked : AreMarkedBy i history old new
