-- How a refusal of a declaration in several files is reported: by the name of the file, and by the line in it (docs/FORMATS.md,
-- "Declarations in several files"; this project's own).
use Rattle.std.specs.Prelude.{◌≡◌, ◌⊎◌, ◌+◌, ◌<◌, ℕ, List, ◌++◌, length, sum, Option, Some, None, Ok, Err, codes, decimal, string_bytes}
use Rattle.clap.specs.Words.{Text}
use Rattle.fbsim_command.specs.Joining.{IsLineOf, counts, mark_at, name_at}
use Rattle.fbsim_command.specs.Outcomes.{End}
use Rattle.fbsim_command.specs.Shown.{shown_name}
use Rattle.fbsim_command.specs.declared.failure.Failure.{Failure}
use Rattle.fbsim_command.specs.declared.failure.Failure.TheVariants.{Refused, RefusedTrace, File, Write, Memory, Line, BadOption}
use Rattle.fbsim_command.specs.declared.failure.RefusalLine.TheVariants.{Syntax}
use Rattle.fbsim_command.specs.declared.join.FileLines.{FileLines}

-- no file has this line of the whole text: there are not this many lines, or the declaration is in one file
abbrev pub IsInNone : (lines : List FileLines) → (whole : ℕ) → Type 0
IsInNone lines whole = (whole ≡ 0) ⊎ (sum (counts lines) < whole)

-- ---- Syntax faults

-- a syntax fault in this line of the file of this name
abbrev pub syntax_in : (name : Text) → (line : ℕ) → Text
syntax_in name line = codes "refused E03 " ++ (shown_name name ++ (codes " line " ++ decimal line))

-- this is how a syntax fault in this line of the file of this name is reported, if memory is there
abbrev pub IsSyntaxText : (name : Text) → (line : ℕ) → Failure → Type 0
IsSyntaxText name line (RefusedTrace text) = string_bytes text ≡ syntax_in name line
IsSyntaxText name line Memory = Unit {0}
IsSyntaxText name line (Refused refusal) = ⊥
IsSyntaxText name line File = ⊥
IsSyntaxText name line (Write n) = ⊥
IsSyntaxText name line (Line message) = ⊥
IsSyntaxText name line BadOption = ⊥

-- A syntax fault in this line of the whole text is reported with the file that has the line, if one does.
abbrev pub IsSyntaxIn : (types : List Text) → (own : Text) → (lines : List FileLines) → (whole : ℕ) → Failure → Type 0
IsSyntaxIn types own lines whole (RefusedTrace text) = (file : ℕ) × (line : ℕ) × IsLineOf (counts lines) whole file line × (string_bytes text ≡ syntax_in (name_at types own file) line)
IsSyntaxIn types own lines whole (Refused refusal) = (refusal ≡ Syntax whole) × IsInNone lines whole
IsSyntaxIn types own lines whole Memory = (file : ℕ) × (line : ℕ) × IsLineOf (counts lines) whole file line
IsSyntaxIn types own lines whole File = ⊥
IsSyntaxIn types own lines whole (Write n) = ⊥
IsSyntaxIn types own lines whole (Line message) = ⊥
IsSyntaxIn types own lines whole BadOption = ⊥

-- the line of a syntax fault, if a call ends by one
abbrev pub syntax_line : End → Option ℕ
syntax_line (Err (Refused (Syntax whole))) = Some whole
syntax_line _ = None

abbrev pub EndsBy : (types : List Text) → (own : Text) → (lines : List FileLines) → (fault : Option ℕ) → (inner end : End) → Type 0
EndsBy types own lines (Some whole) inner end = (failure : Failure) × (end ≡ Err failure) × IsSyntaxIn types own lines whole failure
EndsBy types own lines None inner end = end ≡ inner

-- A call with a declaration in several files ends as what it does ends, and a syntax fault is one of a file.
abbrev pub EndsIn : (types : List Text) → (own : Text) → (lines : List FileLines) → (inner end : End) → Type 0
EndsIn types own lines inner end = EndsBy types own lines (syntax_line inner) inner end

-- ---- Notes

-- a file, a line and a column, as editors take them, and what is the matter there
abbrev pub placed_text : (name : Text) → (line column : ℕ) → (matter : Text) → Text
placed_text name line column matter = shown_name name ++ (codes ":" ++ (decimal line ++ (codes ":" ++ (decimal column ++ (codes ": " ++ matter)))))

abbrev pub IsPlacedText : (name : Text) → (line column : ℕ) → (note : Text) → Type 0
IsPlacedText name line column note = (matter : Text) × (note ≡ placed_text name line column matter)

-- The note begins with the file that has this line of the whole text, the line in it, and the column there. A declaration in one
-- file has its own lines.
abbrev pub IsPlaced : (types : List Text) → (own : Text) → (lines : List FileLines) → (whole column : ℕ) → (note : Text) → Type 0
IsPlaced types own lines whole column note =
    ((file : ℕ) × (line : ℕ) × IsLineOf (counts lines) whole file line × IsPlacedText (name_at types own file) line (column + mark_at lines file line) note) ⊎ (IsInNone lines whole × IsPlacedText own whole column note)
