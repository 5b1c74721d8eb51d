-- What is wrong with texts that are no patterns (docs/FORMATS.md, "Rules over traces"; this project's own).
use Rattle.std.specs.Prelude.{List, [], ◌∷◌, map, Option, Some, None, is_some, option_map, if◌then◌else◌}
use Rattle.fb_expect.specs.Contradictions.{impossible}
use Rattle.fb_expect.specs.Lists.{each}
use Rattle.fb_expect.specs.Words.{Text}
use Rattle.fb_expect.specs.Written.{condition_of, is_resource, port_of, upper, way_of, words_of}
use Rattle.fb_expect.specs.declared.pattern.Condition.{Condition}
use Rattle.fb_expect.specs.declared.pattern.PatternFault.{PatternFault}
use Rattle.fb_expect.specs.declared.pattern.PatternPart.{PatternPart}
use Rattle.fb_expect.specs.declared.pattern.PatternPart.TheVariants as part

-- this word is not such a part of a pattern
abbrev pub fault_at : PatternPart → Text → PatternFault
fault_at part word = record { part = part; word = word }

-- the first of the words that is no condition
abbrev pub condition_fault : List Text → Option PatternFault
condition_fault [] = None
condition_fault (w ∷ ws) = if is_some (condition_of w) then condition_fault ws else Some (fault_at part.Condition w)

-- the first variable of which no value meets all conditions
abbrev pub variable_fault : List Condition → Option PatternFault
variable_fault cs = option_map (λ c. fault_at part.Variable c.variable) (impossible cs)

abbrev pub or_variable : Option PatternFault → Option (List Condition) → Option PatternFault
or_variable (Some f) cs = Some f
or_variable None None = None
or_variable None (Some cs) = variable_fault cs

abbrev pub conditions_fault : List Text → Option PatternFault
conditions_fault ws = or_variable (condition_fault ws) (each condition_of ws)

-- the first of the resource, the sign, the port and the conditions that is none
unfoldable pub fault_among : (resource sign port : Text) → (conditions : List Text) → Option PatternFault
fault_among r s p cs =
    if is_resource r
    then (if is_some (way_of s) then (if is_some (port_of p) then conditions_fault cs else Some (fault_at part.Port p)) else Some (fault_at part.Sign s))
    else Some (fault_at part.Resource r)

-- the same of words, of which there may be too few
abbrev pub words_fault : List Text → Option PatternFault
words_fault [] = Some (fault_at part.Words [])
words_fault (r ∷ []) = Some (fault_at part.Words [])
words_fault (r ∷ s ∷ []) = Some (fault_at part.Words [])
words_fault (r ∷ s ∷ p ∷ cs) = fault_among r s p cs

-- What is wrong with a text, if it is no pattern: the first word that is wrong, in upper case.
abbrev pub pattern_fault : Text → Option PatternFault
pattern_fault z = words_fault (words_of (map upper z))
