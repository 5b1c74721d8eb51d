-- The text of a trace (this project's profile).
use Rattle.std.specs.Prelude.{ℕ, suc, pos, negsuc, List, [], ◌∷◌, ◌++◌, true, false, if◌then◌else◌, slice_get, unwrap_or, decimal, codes}
use Rattle.fb_types.specs.Names.{Path}
use Rattle.fb_types.specs.Blocks.{Bound}
use Rattle.fb_types.specs.Systems.{System}
use Rattle.fb_types.specs.States.{Line}
use Rattle.fb_types.specs.Simulation.{Ending, AtHorizon, AtStop}
use Rattle.fb_types.specs.declared.key.Key.{Key}
use Rattle.fb_types.specs.declared.value.Value.{Value}
use Rattle.fb_types.specs.declared.value.Value.TheVariants as value
use Rattle.fb_types.specs.declared.value.Reason.{Reason}
use Rattle.fb_types.specs.declared.value.Reason.TheVariants.{Steps, Divide, Range}
use Rattle.fb_types.specs.declared.run.Form.{Form}
use Rattle.fb_types.specs.declared.run.Form.TheVariants.{One, Two}

-- the instance names, from the outermost, joined by full stops
abbrev pub path_text : Path → List ℕ
path_text [] = []
path_text (n ∷ []) = n
path_text (n ∷ m ∷ p) = path_text (m ∷ p) ++ codes "." ++ n

abbrev pub value_text : Value → List ℕ
value_text (value.Bool true) = codes "TRUE"
value_text (value.Bool false) = codes "FALSE"
value_text (value.Whole (pos n)) = decimal n
value_text (value.Whole (negsuc n)) = codes "-" ++ decimal (suc n)

abbrev pub values_text : List Bound → List ℕ
values_text [] = []
values_text (b ∷ bs) = codes " " ++ b.variable ++ codes "=" ++ value_text b.value ++ values_text bs

-- the tick and the name of the resource
abbrev pub tick_and_resource_text : System → (tick resource : ℕ) → List ℕ
tick_and_resource_text sys tick r = decimal tick ++ codes " " ++ unwrap_or (slice_get sys.resource_names r) []

-- With form two, each line except the last begins with class, a and b of its key.
abbrev pub key_text : Form → Key → List ℕ
key_text One k = []
key_text Two k = decimal k.class ++ codes " " ++ decimal k.a ++ codes " " ++ decimal k.b ++ codes " "

abbrev pub line_text : Form → System → Line → List ℕ
line_text form sys l =
    key_text form l.key ++ tick_and_resource_text sys l.key.tick l.key.resource ++ (if l.taken then codes " > " else codes " < ")
    ++ path_text l.at ++ codes "." ++ l.event ++ values_text l.values ++ 10 ∷ []

abbrev pub lines_text : Form → System → List Line → List ℕ
lines_text form sys [] = []
lines_text form sys (l ∷ ls) = line_text form sys l ++ lines_text form sys ls

abbrev pub reason_text : Reason → List ℕ
reason_text Steps = codes "steps"
reason_text Divide = codes "divide"
reason_text Range = codes "range"

abbrev pub last_line : System → Ending → List ℕ
last_line sys (AtHorizon h) = codes "end " ++ decimal h ++ 10 ∷ []
last_line sys (AtStop tick r reason) = codes "stop " ++ tick_and_resource_text sys tick r ++ codes " " ++ reason_text reason ++ 10 ∷ []

abbrev pub trace_text : Form → System → List Line → Ending → List ℕ
trace_text form sys lines end = lines_text form sys lines ++ last_line sys end
