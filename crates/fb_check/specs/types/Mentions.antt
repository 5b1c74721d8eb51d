-- What expressions and statements name, as the code gathers it (IEC 61131-3, 7.3).
use Rattle.std.specs.Prelude.{List, ◌∷◌, ◌++◌, Option, map}
use Rattle.fb_types.specs.Names.{Name}
use Rattle.fb_types.specs.Syntax.{expr_of, step_of}
use Rattle.fb_types.specs.Unknown.{Mention, OfVariable, OfFunction, mentions}
use Rattle.fb_types.specs.declared.text.Expr.{Expr}
use Rattle.fb_check.specs.declared.types.mentions.Mention as gathered
use Rattle.fb_check.specs.declared.types.mentions.Mention.TheVariants.{Variable, Function}

abbrev pub meant : gathered.Mention → Mention
meant (Variable n) = OfVariable n.now
meant (Function n) = OfFunction n.now

abbrev pub meant_all : List gathered.Mention → List Mention
meant_all ms = map meant ms

-- what the step of a FOR names, if it has one
abbrev pub mentions_of_step : Option Expr → List Mention
mentions_of_step o = mentions (step_of o)

-- what controls a FOR
abbrev pub mentions_of_control : Name → (start end : Expr) → Option Expr → List Mention
mentions_of_control n start end step = OfVariable n ∷ mentions (expr_of start) ++ mentions (expr_of end) ++ mentions_of_step step
