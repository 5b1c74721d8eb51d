-- What contracts say of a system's trace: its value is the accepted inputs, and each of these is of the flat system.
use Rattle.std.specs.Prelude.{ℕ, List}
use Rattle.fb_types.specs.Headline.{Inputs, system_of}
use Rattle.fb_types.specs.Text as text
use Rattle.fb_trace.specs.End as end
use Rattle.fb_trace.specs.declared.last.Outcome.{Outcome}

abbrev pub EndsIn : Inputs → Outcome → Type 0
EndsIn i = end.EndsIn (system_of i)

-- the tick and the name of the resource
abbrev pub tick_and_resource_text : Inputs → (tick resource : ℕ) → List ℕ
tick_and_resource_text i = text.tick_and_resource_text (system_of i)
