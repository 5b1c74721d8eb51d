-- Which lines a pattern means (this project's own).
use Rattle.std.specs.Prelude.{ℤ, int_lt, int_le, Bool, true, false, not, ◌&&◌, ◌||◌, List, length, take, Option, None, if◌then◌else◌, option_and_then}
use Rattle.std.specs.List.{list_all, list_any}
use Rattle.std.specs.Option.{option_map_or}
use Rattle.std.specs.Str.{bytes_eq}
use Rattle.fb_types.specs.Names.{Name}
use Rattle.fb_types.specs.Values.{same_whole}
use Rattle.fb_types.specs.declared.value.Value.{Value}
use Rattle.fb_types.specs.declared.value.Value.TheVariants as value
use Rattle.fb_expect.specs.Words.{Text, split_at_mark, value_of, words_after}
use Rattle.fb_expect.specs.Events.{Event}
use Rattle.fb_expect.specs.Stars.{has_form}
use Rattle.fb_expect.specs.declared.meeting.Demand.{Demand}
use Rattle.fb_expect.specs.declared.meeting.Demand.TheVariants.{Named, Fitting, Met}
use Rattle.fb_expect.specs.declared.pattern.Comparison.{Comparison}
use Rattle.fb_expect.specs.declared.pattern.Comparison.TheVariants.{Equal, Unequal, Less, AtMost, Greater, AtLeast}
use Rattle.fb_expect.specs.declared.pattern.Condition.{Condition}
use Rattle.fb_expect.specs.declared.pattern.Operand.{Operand}
use Rattle.fb_expect.specs.declared.pattern.Operand.TheVariants as operand
use Rattle.fb_expect.specs.declared.pattern.Pattern.{Pattern}
use Rattle.fb_expect.specs.declared.port_pattern.PortForm.{PortForm}
use Rattle.fb_expect.specs.declared.port_pattern.PortForm.TheVariants.{Whole, Open, Stars}
use Rattle.fb_expect.specs.declared.port_pattern.PortPattern.{PortPattern}
use Rattle.fb_expect.specs.declared.pattern.Way.{Way}
use Rattle.fb_expect.specs.declared.pattern.Way.TheVariants.{Taken, Emitted, Either}

-- whether two truth values compare so: they have no order
abbrev pub compares_truth : Comparison → Bool → Bool → Bool
compares_truth Equal a b = (a && b) || (not a && not b)
compares_truth Unequal a b = not ((a && b) || (not a && not b))
compares_truth Less a b = false
compares_truth AtMost a b = false
compares_truth Greater a b = false
compares_truth AtLeast a b = false

-- whether two numbers compare so
abbrev pub compares_whole : Comparison → ℤ → ℤ → Bool
compares_whole Equal a b = same_whole a b
compares_whole Unequal a b = not (same_whole a b)
compares_whole Less a b = int_lt a b
compares_whole AtMost a b = int_le a b
compares_whole Greater a b = int_lt b a
compares_whole AtLeast a b = int_le b a

-- whether a value compares so with the given one
unfoldable pub compares : Comparison → (found required : Value) → Bool
compares c (value.Bool a) (value.Bool b) = compares_truth c a b
compares c (value.Whole a) (value.Whole b) = compares_whole c a b
compares c (value.Bool a) (value.Whole b) = false
compares c (value.Whole a) (value.Bool b) = false

-- the value of a word, if the word is of a variable
unfoldable pub value_in : Name → (word : Text) → Option Value
value_in name w = option_and_then (λ p. if bytes_eq p.0 name then value_of p.1 else None) (split_at_mark 61 w)

-- whether a word gives a value of a variable for which a test holds
abbrev pub is_value_of : Name → (Value → Bool) → (word : Text) → Bool
is_value_of name test w = option_map_or test (value_in name w) false

-- whether one of these words does
abbrev pub has_value : Name → (Value → Bool) → (words : List Text) → Bool
has_value name test words = list_any (is_value_of name test) words

-- whether both are truth values, or both numbers
abbrev pub is_alike : Value → Value → Bool
is_alike (value.Bool a) (value.Bool b) = true
is_alike (value.Whole a) (value.Whole b) = true
is_alike (value.Bool a) (value.Whole b) = false
is_alike (value.Whole a) (value.Bool b) = false

-- whether two values are as a demand asks for
abbrev pub are_as : Demand → Comparison → (found required : Value) → Bool
are_as Named c found required = true
are_as Fitting c found required = is_alike found required
are_as Met c found required = compares c found required

-- whether a value is as a demand asks for beside what it is compared with: a value, or that of a variable among these words
abbrev pub is_right : Demand → Comparison → Operand → (words : List Text) → Value → Bool
is_right d c (operand.Value required) words v = are_as d c v required
is_right d c (operand.Variable name) words v = has_value name (λ other. are_as d c v other) words

abbrev pub is_right_for : Condition → Demand → (words : List Text) → Value → Bool
is_right_for c d words v = is_right d c.comparison c.operand words v

-- whether the values after a port have what a demand asks for of a condition
abbrev pub is_found : Condition → Demand → (values : Text) → Bool
is_found c d values = has_value c.variable (is_right_for c d (words_after values)) (words_after values)

-- whether they have its variables, values of the kinds that it compares, or values for which the comparison holds
abbrev pub is_named : Condition → (values : Text) → Bool
is_named c values = is_found c Named values

abbrev pub has_kind : Condition → (values : Text) → Bool
has_kind c values = is_found c Fitting values

abbrev pub is_met : Condition → (values : Text) → Bool
is_met c values = is_found c Met values

abbrev pub is_way : Way → (taken : Bool) → Bool
is_way Taken taken = taken
is_way Emitted taken = not taken
is_way Either taken = true

-- whether a port is the one of a pattern, begins as its name, or has its form
abbrev pub is_of_form : PortForm → (text port : Text) → Bool
is_of_form Whole text port = bytes_eq port text
is_of_form Open text port = bytes_eq (take (length text) port) text
is_of_form Stars text port = has_form text port

abbrev pub is_of : PortPattern → (port : Text) → Bool
is_of p port = is_of_form p.form p.text port

abbrev pub is_in : Option Text → (resource : Text) → Bool
is_in required resource = option_map_or (λ name. bytes_eq resource name) required true

-- Whether a line is of the side, the ports and the resource of a pattern, whatever its values.
unfoldable pub is_at : Pattern → Event → Bool
is_at p e = is_way p.way e.taken && (is_of p.port e.port && is_in p.resource e.resource)

-- Whether a line meets a pattern: each condition by one of its values.
unfoldable pub meets : Pattern → Event → Bool
meets p e = is_at p e && list_all (λ c. is_met c e.values) p.conditions

-- Whether a line is of a pattern's ports and has values of the kinds that its conditions compare.
unfoldable pub has_kinds : Pattern → Event → Bool
has_kinds p e = is_at p e && list_all (λ c. has_kind c e.values) p.conditions

-- Whether a line is of a pattern's ports and has all variables of its conditions.
unfoldable pub has_all : Pattern → Event → Bool
has_all p e = is_at p e && list_all (λ c. is_named c e.values) p.conditions
