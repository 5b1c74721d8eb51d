-- What contracts say of the types of values in a system: its value is the accepted inputs, and each of these is of the flat system.
use Rattle.fb_types.specs.Headline.{Inputs, system_of}
use Rattle.fb_types.specs.Reactions.{World}
use Rattle.fb_types.specs.States.{Event}
use Rattle.fb_laws.specs.Typed as typed

abbrev pub IsTypedEvent : Inputs → Event → Type 0
IsTypedEvent i = typed.IsTypedEvent (system_of i)

abbrev pub AreTyped : Inputs → World → Type 0
AreTyped i = typed.AreTyped (system_of i)
