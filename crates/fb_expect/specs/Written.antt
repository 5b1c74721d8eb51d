-- Patterns as they are written: `RESOURCE > PATH.EVENT VAR=value ..` (docs/FORMATS.md, "Rules over traces"; this project's own).
use Rattle.std.specs.Prelude.{ℕ, ◌-◌, Bool, true, false, not, ◌&&◌, ◌||◌, ◌==◌, if◌then◌else◌, nat_le, nat_eq, List, [], ◌∷◌, length, map, filter, take, drop, position, Option, Some, None, is_some, option_map, codes}
use Rattle.std.specs.List.{slice_split}
use Rattle.std.specs.Option.{option_map_or}
use Rattle.std.specs.Str.{bytes_eq}
use Rattle.fb_types.specs.declared.value.Value.{Value}
use Rattle.fb_types.specs.declared.value.Value.TheVariants as value
use Rattle.fb_expect.specs.Contradictions.{impossible}
use Rattle.fb_expect.specs.Lists.{◌>>=◌, each}
use Rattle.fb_expect.specs.Words.{Text, after_front, before, is_name, is_path, is_port, value_of}
use Rattle.fb_expect.specs.declared.pattern.Comparison.{Comparison}
use Rattle.fb_expect.specs.declared.pattern.Comparison.TheVariants.{Equal, Unequal, Less, AtMost, Greater, AtLeast}
use Rattle.fb_expect.specs.declared.pattern.Condition.{Condition}
use Rattle.fb_expect.specs.declared.pattern.Operand.{Operand}
use Rattle.fb_expect.specs.declared.pattern.Operand.TheVariants as operand
use Rattle.fb_expect.specs.declared.pattern.Pattern.{Pattern}
use Rattle.fb_expect.specs.declared.pattern.OperandText.{OperandText}
use Rattle.fb_expect.specs.declared.pattern.OperandText.TheVariants as written
use Rattle.fb_expect.specs.declared.port_pattern.PortForm.{PortForm}
use Rattle.fb_expect.specs.declared.port_pattern.PortForm.TheVariants.{Whole, Open, Stars}
use Rattle.fb_expect.specs.Stars.{is_star_port}
use Rattle.fb_expect.specs.declared.pattern.Way.{Way}
use Rattle.fb_expect.specs.declared.pattern.Way.TheVariants.{Taken, Emitted, Either}

-- a lower-case letter as the upper-case one
abbrev pub upper : ℕ → ℕ
upper b = if nat_le 97 b && nat_le b 122 then b - 32 else b

-- the words that blanks separate
abbrev pub is_word : Text → Bool
is_word w = not (length w == 0)

abbrev pub words_of : Text → List Text
words_of z = filter is_word (slice_split (nat_eq 32) z)

abbrev pub star : Text
star = codes "*"

-- the sign
unfoldable pub way_of : Text → Option Way
way_of w =
    if bytes_eq w (codes ">") then Some Taken else if bytes_eq w (codes "<") then Some Emitted else if bytes_eq w star then Some Either else None

-- ---- Ports

-- nothing, or names with a full stop after each
abbrev pub is_front : Text → Bool
is_front z = option_map_or is_path (before (codes ".") z) (length z == 0)

-- a port without an open end, and how it is read
abbrev pub closed_port_of : Text → Option (Text × PortForm)
closed_port_of w = if is_port w then Some (w, Whole) else if is_star_port w then Some (w, Stars) else None

-- what comes before a star where names with a full stop after each do, or the whole
abbrev pub port_by : Text → Option Text → Option (Text × PortForm)
port_by w (Some front) = if is_front front then Some (front, Open) else closed_port_of w
port_by w None = closed_port_of w

unfoldable pub port_of : Text → Option (Text × PortForm)
port_of w = port_by w (before star w)

-- ---- Resources

abbrev pub is_resource : Text → Bool
is_resource w = bytes_eq w star || is_name w

abbrev pub resource_of : Text → Option Text
resource_of w = if bytes_eq w star then None else Some w

-- ---- Conditions

-- a byte that comparisons begin with
abbrev pub is_sign : ℕ → Bool
is_sign b = b == 60 || b == 61 || b == 62

-- what comes before the comparison, and the rest from there on
unfoldable pub at_comparison : Text → Option (Text × Text)
at_comparison w = option_map (λ i. (take i w, drop i w)) (position is_sign w)

abbrev pub with_rest : Comparison → Option Text → Option (Comparison × Text) → Option (Comparison × Text)
with_rest c (Some rest) other = Some (c, rest)
with_rest c None other = other

-- the comparison that a text begins with, and what comes after it
unfoldable pub comparison_of : Text → Option (Comparison × Text)
comparison_of z =
    with_rest Unequal (after_front (codes "<>") z)
    (with_rest AtMost (after_front (codes "<=") z)
    (with_rest Less (after_front (codes "<") z)
    (with_rest AtLeast (after_front (codes ">=") z) (with_rest Greater (after_front (codes ">") z) (with_rest Equal (after_front (codes "=") z) None)))))

-- truth values have no order
abbrev pub is_equation : Comparison → Bool
is_equation Equal = true
is_equation Unequal = true
is_equation Less = false
is_equation AtMost = false
is_equation Greater = false
is_equation AtLeast = false

abbrev pub can_compare : Comparison → Operand → Bool
can_compare c (operand.Value (value.Bool b)) = is_equation c
can_compare c (operand.Value (value.Whole n)) = true
can_compare c (operand.Variable name) = true

-- a value, or else the name of a variable
abbrev pub operand_by : Option Value → Text → Option Operand
operand_by (Some v) z = Some (operand.Value v)
operand_by None z = if is_name z then Some (operand.Variable z) else None

abbrev pub operand_of : Text → Option Operand
operand_of z = operand_by (value_of z) z

-- an operand whose name is in the text of the pattern
abbrev pub seen_operand : OperandText → Operand
seen_operand (written.Value v) = operand.Value v
seen_operand (written.Variable name) = operand.Variable name.now

unfoldable pub condition_parts : Text → Option (Text × Comparison × Operand)
condition_parts w = do
  p ← at_comparison w
  q ← comparison_of p.1
  o ← operand_of q.1
  if is_name p.0 && can_compare q.0 o then Some (p.0, q.0, o) else None

abbrev pub condition : Text × Comparison × Operand → Condition
condition t = record { variable = t.0; comparison = t.1; operand = t.2 }

-- the condition that a word is
abbrev pub condition_of : Text → Option Condition
condition_of w = option_map condition (condition_parts w)

-- ---- Patterns

-- The pattern of a resource, a sign, a port and conditions, of which some values meet all. The text is that in which they are.
unfoldable pub pattern_with : (resource sign port : Text) → List Text → (text : Text) → Option Pattern
pattern_with resource sign port conditions text = do
  way ← way_of sign
  p ← port_of port
  if is_resource resource
      then (each condition_of conditions >>= λ cs. if is_some (impossible cs) then None else
      Some (record { resource = resource_of resource; way = way; port = record { text = p.0; form = p.1 }; conditions = cs; text = text }))
      else None

abbrev pub pattern_in : List Text → (text : Text) → Option Pattern
pattern_in [] text = None
pattern_in (r ∷ []) text = None
pattern_in (r ∷ s ∷ []) text = None
pattern_in (r ∷ s ∷ p ∷ conditions) text = pattern_with r s p conditions text

-- The pattern that a text is, in any letter case.
unfoldable pub pattern_of : Text → Option Pattern
pattern_of z = let u = map upper z in pattern_in (words_of u) u
