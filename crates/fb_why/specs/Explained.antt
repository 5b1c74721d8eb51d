-- What is explained, by the names in the lines of faults and warnings (the numbers are this project's profile) and in the last lines of traces.
use Rattle.std.specs.Prelude.{List, [], ◌∷◌, ◌++◌, codes}
use Rattle.fb_types.specs.Names.{Name}

abbrev pub of_declarations : List Name
of_declarations = codes "E01" ∷ codes "E02" ∷ codes "E03" ∷ codes "E04" ∷ codes "E05" ∷ []

abbrev pub of_inputs : List Name
of_inputs = codes "E10" ∷ codes "E11" ∷ codes "E12" ∷ codes "E13" ∷ codes "E14" ∷ codes "E15" ∷ codes "E16" ∷ []

abbrev pub of_checks : List Name
of_checks =
    codes "E20" ∷ codes "E21" ∷ codes "E22" ∷ codes "E23" ∷ codes "E24" ∷ codes "E25" ∷ codes "E26" ∷ codes "E27" ∷ codes "E28" ∷ codes "E29"
    ∷ codes "E30" ∷ []

abbrev pub of_rules : List Name
of_rules = codes "E40" ∷ codes "E41" ∷ codes "E42" ∷ codes "E43" ∷ codes "E44" ∷ codes "E45" ∷ []

abbrev pub of_warnings : List Name
of_warnings =
    codes "L01" ∷ codes "L02" ∷ codes "L03" ∷ codes "L04" ∷ codes "L05" ∷ codes "L06" ∷ codes "L07" ∷ codes "L08" ∷ codes "L09" ∷ codes "L10" ∷ codes "L11"
    ∷ codes "L12" ∷ codes "L13" ∷ codes "L14" ∷ codes "L15" ∷ codes "L16" ∷ codes "L17" ∷ codes "L18" ∷ codes "L19" ∷ codes "L20" ∷ codes "L21"
    ∷ codes "L22" ∷ codes "L23" ∷ []

abbrev pub of_stops : List Name
of_stops = codes "steps" ∷ codes "divide" ∷ codes "range" ∷ []

abbrev pub explained : List Name
explained = of_declarations ++ of_inputs ++ (of_checks ++ codes "file fault" ∷ []) ++ of_rules ++ of_warnings ++ of_stops
