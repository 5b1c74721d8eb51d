-- What a trace has of the patterns of a rule (this project's own).
use Rattle.std.specs.Prelude.{Bool, List, Option, Some, None, if◌then◌else◌}
use Rattle.std.specs.List.{list_any}
use Rattle.fb_expect.specs.Events.{Event}
use Rattle.fb_expect.specs.Patterns.{has_all, has_kinds, is_at, meets}
use Rattle.fb_expect.specs.declared.pattern.Pattern.{Pattern}
use Rattle.fb_expect.specs.declared.rule.Rule.{Rule}
use Rattle.fb_expect.specs.declared.sight.Sight.{Sight}
use Rattle.fb_expect.specs.declared.sight.Sight.TheVariants.{Nothing, Port, Named, Fitting, Met}
use Rattle.fb_expect.specs.declared.sight.Sights.{Sights}

-- Whether a line meets the pattern, or else how far the nearest one is from that: values of the right kinds, all variables, or its port.
abbrev pub sight_of : Pattern → List Event → Sight
sight_of p es =
    if list_any (meets p) es then Met
    else if list_any (has_kinds p) es then Fitting
    else if list_any (has_all p) es then Named
    else if list_any (is_at p) es then Port else Nothing

-- what a line of its ports shows that does not meet it, by whether it has values of the right kinds and all variables
abbrev pub nearest : (kinds all : Bool) → Sight
nearest kinds all = if kinds then Fitting else if all then Named else Port

-- the same of a pattern that may be absent
abbrev pub may_sight : Option Pattern → List Event → Sight
may_sight (Some p) es = sight_of p es
may_sight None es = Met

abbrev pub sights_of : Rule → List Event → Sights
sights_of r es = record { first = sight_of r.first es; second = may_sight r.second es; third = may_sight r.third es }
