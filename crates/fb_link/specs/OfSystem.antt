-- What contracts say of the messages of a system: its value is the accepted inputs, and each of these is of the flat
-- system.
use Rattle.std.specs.Prelude.{ℕ, List, Vec}
use Rattle.std.specs.declared.alloc.Global.{Global}
use Rattle.fb_types.specs.Headline.{Inputs, system_of}
use Rattle.fb_types.specs.declared.run.Message.{Message}
use Rattle.fb_link.specs.Exchanges as exchanges

abbrev pub AreDealt : Inputs → (all : List Message) → List (Vec Message Global) → Type 0
AreDealt i = exchanges.AreDealt (system_of i)

abbrev pub AreFor : Inputs → (resource : ℕ) → (all messages : List Message) → Type 0
AreFor i = exchanges.AreFor (system_of i)
