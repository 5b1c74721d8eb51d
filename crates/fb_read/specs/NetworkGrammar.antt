-- The grammar of networks and of the application, a case for each production (this project's profile, in the manner of
-- IEC 61499-1, Annex B).
use Rattle.std.specs.Prelude.{ℕ, ℤ, pos, neg_ℤ, true, false, List, [], Some, None}
use Rattle.fb_types.specs.Names.{Name}
use Rattle.fb_types.specs.declared.value.Value.{Value}
use Rattle.fb_types.specs.declared.value.Value.TheVariants as value
use Rattle.fb_types.specs.declared.library.PortName.{PortName}
use Rattle.fb_types.specs.declared.library.Connection.{Connection}
use Rattle.fb_types.specs.declared.library.Parameter.{Parameter}
use Rattle.fb_types.specs.declared.library.Instance.{Instance}
use Rattle.fb_types.specs.declared.library.Network.{Network}
use Rattle.fb_types.specs.declared.library.Application.{Application}
use Rattle.fb_read.specs.declared.token.Mark.TheVariants as mark
use Rattle.fb_read.specs.Nodes.{port_of, connection_of, parameter_of, instance_of, network_of, application_of}
use Rattle.fb_read.specs.Tokens.{Tokens}
use Rattle.fb_read.specs.Grammar.{IsMark, IsName, IsWhole, IsTime, AreMany, AreSeparated, IsSection}

-- constant = TRUE | FALSE | [ "-" ] whole | time
pub data IsConstant : Value → Tokens → Tokens → Type 0 where
  is_true : {ts rest : Tokens} → IsMark mark.True ts rest → IsConstant (value.Bool true) ts rest
  is_false : {ts rest : Tokens} → IsMark mark.False ts rest → IsConstant (value.Bool false) ts rest
  is_number : {n : ℕ} {ts rest : Tokens} → IsWhole n ts rest → IsConstant (value.Whole (pos n)) ts rest
  is_negative : {n : ℕ} {ts mid rest : Tokens} → IsMark mark.Minus ts mid → IsWhole n mid rest → IsConstant (value.Whole (neg_ℤ (pos n))) ts rest
  is_duration : {ticks : ℤ} {ts rest : Tokens} → IsTime ticks ts rest → IsConstant (value.Whole ticks) ts rest

-- param = name ":=" constant
pub data IsParameter : Parameter → Tokens → Tokens → Type 0 where
  is_parameter : {n : Name} {v : Value} {ts a b rest : Tokens} → IsName n ts a → IsMark mark.Assign a b → IsConstant v b rest
      → IsParameter (parameter_of n v) ts rest

-- [ "(" param { "," param } ")" ]
pub data AreParameters : List Parameter → Tokens → Tokens → Type 0 where
  no_parameters : {ts : Tokens} → AreParameters [] ts ts
  some_parameters : {xs : List Parameter} {ts a b rest : Tokens} → IsMark mark.Open ts a → AreSeparated IsParameter xs a b → IsMark mark.Close b rest
      → AreParameters xs ts rest

-- instance = name ":" name [ "(" param { "," param } ")" ] ";"
pub data IsInstance : Instance → Tokens → Tokens → Type 0 where
  is_instance : {n t : Name} {xs : List Parameter} {ts a b c d rest : Tokens} → IsName n ts a → IsMark mark.Colon a b → IsName t b c
      → AreParameters xs c d → IsMark mark.Semicolon d rest → IsInstance (instance_of n t xs) ts rest

-- port = name [ "." name ]
pub data IsPort : PortName → Tokens → Tokens → Type 0 where
  of_boundary : {n : Name} {ts rest : Tokens} → IsName n ts rest → IsPort (port_of None n) ts rest
  of_component : {c n : Name} {ts a b rest : Tokens} → IsName c ts a → IsMark mark.Dot a b → IsName n b rest → IsPort (port_of (Some c) n) ts rest

-- connection = port TO port ";"
pub data IsConnection : Connection → Tokens → Tokens → Type 0 where
  is_connection : {p q : PortName} {ts a b c rest : Tokens} → IsPort p ts a → IsMark mark.To a b → IsPort q b c → IsMark mark.Semicolon c rest
      → IsConnection (connection_of p q) ts rest

-- network = FBS { instance } END_FBS [ EVENT_CONNECTIONS { connection } END_CONNECTIONS ]
--           [ DATA_CONNECTIONS { connection } END_CONNECTIONS ]
pub data IsNetwork : Network → Tokens → Tokens → Type 0 where
  is_network : {xs : List Instance} {es ds : List Connection} {ts a b c rest : Tokens} → IsMark mark.Fbs ts a → AreMany IsInstance mark.EndFbs xs a b
      → IsSection IsConnection mark.EventConnections mark.EndConnections es b c → IsSection IsConnection mark.DataConnections mark.EndConnections ds c rest
      → IsNetwork (network_of xs es ds) ts rest

-- application = APPLICATION name network END_APPLICATION
pub data IsApplication : Application → Tokens → Tokens → Type 0 where
  is_application : {n : Name} {w : Network} {ts a b c rest : Tokens} → IsMark mark.Application ts a → IsName n a b → IsNetwork w b c
      → IsMark mark.EndApplication c rest → IsApplication (application_of n w) ts rest
