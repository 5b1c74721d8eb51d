-- How two lines differ, as it is reported (docs/FORMATS.md, "Where two traces differ"; this project's own).
use Rattle.std.specs.Prelude.{◌≡◌, ℕ, Bool, true, false, not, ◌&&◌, ◌||◌, ◌==◌, nat_lt, if◌then◌else◌, List, [], ◌∷◌, length, drop, unwrap_or, codes, decimal}
use Rattle.std.specs.Str.{bytes_eq}
use Rattle.fb_types.specs.declared.run.Form.{Form}
use Rattle.fb_expect.specs.Events.{Event, IsLine, event_of}
use Rattle.fb_expect.specs.Reports.{joined}
use Rattle.fb_expect.specs.Traces.{IsEndOf, tick_of}
use Rattle.fb_expect.specs.Words.{Text, before}
use Rattle.fb_expect.specs.declared.ending.End.{End}
use Rattle.fb_expect.specs.declared.entry.Entry.{Entry}
use Rattle.fb_expect.specs.declared.parting.Difference.{Difference}
use Rattle.fb_expect.specs.declared.difference_report.LineKind.{LineKind}
use Rattle.fb_expect.specs.declared.difference_report.LineKind.TheVariants as kind

-- what a line is: that of an event, a last line of a tick, no line, or another one
abbrev pub IsKind : Text → LineKind → Type 0
IsKind line (kind.Event e) = (form : Form) × IsLine form line (event_of e)
IsKind line (kind.Last t) = (end : End) × IsEndOf line end × (tick_of end ≡ t)
IsKind line kind.Missing = line ≡ []
IsKind line kind.Other = (line ≡ [] → ⊥) × ((end : End) → IsEndOf line end → ⊥) × ((form : Form) (e : Event) → IsLine form line e → ⊥)

-- ---- What differs

abbrev pub same_truth : Bool → Bool → Bool
same_truth a b = (a && b) || (not a && not b)

abbrev pub word_unless : Bool → Text → Text
word_unless same word = if same then [] else word

-- the parts of two events that differ, each after a comma and a blank
unfoldable pub parts : (is_without_ticks : Bool) → Entry → Entry → Text
parts w l r =
    joined (word_unless (w || (l.tick == r.tick)) (codes ", tick") ∷ word_unless (bytes_eq l.resource.now r.resource.now) (codes ", resource")
    ∷ word_unless (bytes_eq l.port.now r.port.now && same_truth l.taken r.taken) (codes ", port")
    ∷ word_unless (bytes_eq l.values.now r.values.now) (codes ", value") ∷ [])

-- the same without the first comma; the key, if no other part differs
abbrev pub listed : Text → Text
listed z = if nat_lt (length z) 2 then codes "key" else drop 2 z

abbrev pub last_part : (is_without_ticks : Bool) → ℕ → ℕ → Text
last_part w l r = if w || (l == r) then codes "end" else codes "tick"

abbrev pub difference_of : (is_without_ticks : Bool) → LineKind → LineKind → Text
difference_of w (kind.Event l) (kind.Event r) = listed (parts w l r)
difference_of w (kind.Last l) (kind.Last r) = last_part w l r
difference_of w kind.Missing r = codes "length"
difference_of w l kind.Missing = codes "length"
difference_of w l r = codes "kind"

-- ---- Lines

-- a line without its line feed
abbrev pub bare : Text → Text
bare line = unwrap_or (before (codes "\n") line) line

abbrev pub with_tick : (name line : Text) → ℕ → Text
with_tick name line t = joined (name ∷ codes ", tick " ∷ decimal t ∷ codes ": " ∷ bare line ∷ codes "\n" ∷ [])

-- a line with the name of its file and its tick
abbrev pub shown_line : (name line : Text) → LineKind → Text
shown_line name line (kind.Event e) = with_tick name line e.tick
shown_line name line (kind.Last t) = with_tick name line t
shown_line name line kind.Missing = joined (name ∷ codes " has no such line\n" ∷ [])
shown_line name line kind.Other = joined (name ∷ codes ": " ∷ bare line ∷ codes "\n" ∷ [])

-- the number of the lines and what differs
unfoldable pub difference_line : (is_without_ticks : Bool) → (number : ℕ) → (left right : LineKind) → Text
difference_line w n left right = joined (codes "line " ∷ decimal n ∷ codes " differs in: " ∷ difference_of w left right ∷ codes "\n" ∷ [])

-- That, and then both lines.
unfoldable pub difference_text : (first second : Text) → (is_without_ticks : Bool) → Difference → (left right : LineKind) → Text
difference_text first second w d left right =
    joined (difference_line w d.number left right ∷ shown_line first d.left.items left ∷ shown_line second d.right.items right ∷ [])

-- The text shows how two files differ.
pub record ShowsDifference (first second : Text) (is_without_ticks : Bool) (d : Difference) (text : Text) : Type 0 where
  pub left : LineKind
  pub right : LineKind
  pub is_left : IsKind d.left.items left
  pub is_right : IsKind d.right.items right
  pub is : text ≡ difference_text first second is_without_ticks d left right
