-- What the grammar of networks derives is read.
use Rattle.fb_read.proofs.lemmas.Common.{◌≡◌, ◌<◌, ◌≤◌, Bool, false, List, ◌∷◌, length, refl, ap, ◌∙◌, arith, Mark, Tokens, same_mark, sees, after, name, whole, literal, expect, many, section, port, connection, constant, parameter, parameters, instance, network, application, is_mark, is_name, is_whole, is_time, IsSection}
use Rattle.fb_types.specs.declared.value.Value.{Value}
use Rattle.fb_types.specs.declared.library.PortName.{PortName}
use Rattle.fb_types.specs.declared.library.Connection.{Connection}
use Rattle.fb_types.specs.declared.library.Parameter.{Parameter}
use Rattle.fb_types.specs.declared.library.Instance.{Instance}
use Rattle.fb_types.specs.declared.library.Network.{Network}
use Rattle.fb_types.specs.declared.library.Application.{Application}
use Rattle.fb_read.specs.declared.token.Mark.TheVariants as mark
use Rattle.fb_read.specs.declared.token.Token.TheVariants as token
use Rattle.fb_read.specs.Grammar.{AreMany}
use Rattle.fb_read.specs.NetworkGrammar.{IsConstant, is_true, is_false, is_number, is_negative, is_duration, IsParameter, is_parameter, AreParameters, no_parameters, some_parameters, IsInstance, is_instance, IsPort, of_boundary, of_component, IsConnection, is_connection, IsNetwork, is_network, IsApplication, is_application}
use Rattle.fb_read.proofs.lemmas.rules.Steps.{done, mark-shorter, name-shorter, whole-shorter, time-shorter}
use Rattle.fb_read.proofs.lemmas.rules.Lists.{IsComplete, IsShorter, Anything, always, all-always, picked, many-complete, separated-complete, separated-shorter, many-shorter, section-complete, section-starts, section-shorter}

port-complete : (x : PortName) (ts rest : Tokens) → IsPort x ts rest → sees mark.Dot rest ≡ false → port ts ≡ done x rest
unfolding port name after same_mark
port-complete x ts rest (of_boundary is_name) ends = rw ends refl
port-complete x ts rest (of_component is_name is_mark is_name) ends = refl

port-shorter : {x : PortName} {ts rest : Tokens} → IsPort x ts rest → length rest < length ts
port-shorter (of_boundary n) = name-shorter n
port-shorter (of_component c k n) = omega (arith, name-shorter c, mark-shorter k, name-shorter n)

connection-complete : IsComplete connection IsConnection Anything always
unfolding connection expect same_mark
connection-complete x ts rest (is_connection {p = p} {q = q} {b = b} from is_mark to is_mark) before =
    rw (port-complete p ts (token.Mark mark.To ∷ b) from refl, port-complete q b (token.Mark mark.Semicolon ∷ rest) to refl) refl

connection-shorter : IsShorter IsConnection
connection-shorter x ts rest (is_connection from k to l) = omega (arith, port-shorter from, mark-shorter k, port-shorter to, mark-shorter l)

port-starts : {x : PortName} {ts rest : Tokens} → IsPort x ts rest → (k : Mark) → sees k ts ≡ false
port-starts (of_boundary is_name) k = refl
port-starts (of_component is_name d n) k = refl

connection-starts : (k : Mark) (x : Connection) (ts rest : Tokens) → IsConnection x ts rest → sees k ts ≡ false
connection-starts k x ts rest (is_connection from t to l) = port-starts from k

pub constant-complete : (x : Value) (ts rest : Tokens) → IsConstant x ts rest → constant ts ≡ done x rest
unfolding constant whole literal after same_mark
constant-complete x ts rest (is_true is_mark) = refl
constant-complete x ts rest (is_false is_mark) = refl
constant-complete x ts rest (is_number is_whole) = refl
constant-complete x ts rest (is_negative is_mark is_whole) = refl
constant-complete x ts rest (is_duration is_time) = refl

pub constant-shorter : {x : Value} {ts rest : Tokens} → IsConstant x ts rest → length rest < length ts
constant-shorter (is_true k) = mark-shorter k
constant-shorter (is_false k) = mark-shorter k
constant-shorter (is_number n) = whole-shorter n
constant-shorter (is_negative k n) = omega (arith, mark-shorter k, whole-shorter n)
constant-shorter (is_duration t) = time-shorter t

parameter-complete : IsComplete parameter IsParameter Anything always
unfolding parameter name expect same_mark
parameter-complete x ts rest (is_parameter {v = v} {b = b} is_name is_mark c) before = rw (constant-complete v b rest c) refl

parameter-shorter : IsShorter IsParameter
parameter-shorter x ts rest (is_parameter n k c) = omega (arith, name-shorter n, mark-shorter k, constant-shorter c)

parameters-complete : (xs : List Parameter) (ts rest : Tokens) → AreParameters xs ts rest → sees mark.Open rest ≡ false → parameters ts ≡ done xs rest
unfolding parameters expect same_mark after
parameters-complete xs ts rest no_parameters ends = rw ends refl
parameters-complete xs ts rest (some_parameters {a = a} is_mark l is_mark) ends =
    rw (separated-complete parameter IsParameter Anything always parameter-complete parameter-shorter (λ s t k. tt) xs a (token.Mark mark.Close ∷ rest) l tt refl, all-always xs) refl

parameters-shorter : {xs : List Parameter} {ts rest : Tokens} → AreParameters xs ts rest → length rest ≤ length ts
parameters-shorter no_parameters = omega arith
parameters-shorter (some_parameters k l c) = omega (arith, mark-shorter k, separated-shorter IsParameter parameter-shorter l, mark-shorter c)

instance-complete : IsComplete instance IsInstance Anything always
unfolding instance name expect same_mark
instance-complete x ts rest (is_instance {xs = xs} {c = c} is_name is_mark is_name l is_mark) before =
    rw (parameters-complete xs c (token.Mark mark.Semicolon ∷ rest) l refl) refl

pub instance-shorter : IsShorter IsInstance
instance-shorter x ts rest (is_instance n k t l e) = omega (arith, name-shorter n, mark-shorter k, name-shorter t, parameters-shorter l, mark-shorter e)

instance-starts : (k : Mark) (x : Instance) (ts rest : Tokens) → IsInstance x ts rest → sees k ts ≡ false
instance-starts k x ts rest (is_instance is_name c t l e) = refl

instances-complete : (xs : List Instance) (ts rest : Tokens) → AreMany IsInstance mark.EndFbs xs ts rest → many instance mark.EndFbs ts ≡ done xs rest
instances-complete xs ts rest l =
    many-complete instance IsInstance always mark.EndFbs instance-complete instance-shorter (instance-starts mark.EndFbs) xs ts rest l tt ∙ ap (λ (b : Bool). picked b xs rest) (all-always xs)

connections-complete : (begin : Mark) (xs : List Connection) (ts rest : Tokens) → IsSection IsConnection begin mark.EndConnections xs ts rest → sees begin rest ≡ false → section connection begin mark.EndConnections ts ≡ done xs rest
connections-complete begin xs ts rest l ends =
    section-complete connection IsConnection always begin mark.EndConnections
    (many-complete connection IsConnection always mark.EndConnections connection-complete connection-shorter (connection-starts mark.EndConnections)) xs ts rest l ends
    ∙ ap (λ (b : Bool). picked b xs rest) (all-always xs)

pub network-complete : (x : Network) (ts rest : Tokens) → IsNetwork x ts rest → sees mark.EventConnections rest ≡ false → sees mark.DataConnections rest ≡ false → network ts ≡ done x rest
unfolding network expect same_mark
network-complete x ts rest (is_network {xs = xs} {es = es} {ds = ds} {a = a} {b = b} {c = c} is_mark l e d) no_events no_values =
    rw (
      instances-complete xs a b l,
      connections-complete mark.EventConnections es b c e (section-starts mark.EventConnections d refl no_events),
      connections-complete mark.DataConnections ds c rest d no_values,
    ) refl

pub network-starts : {x : Network} {ts rest : Tokens} (k : Mark) → IsNetwork x ts rest → sees k ts ≡ same_mark mark.Fbs k
network-starts k (is_network is_mark l e d) = refl

pub network-shorter : {x : Network} {ts rest : Tokens} → IsNetwork x ts rest → length rest < length ts
network-shorter (is_network k l e d) =
    omega (arith, mark-shorter k, many-shorter IsInstance mark.EndFbs instance-shorter l, section-shorter connection-shorter e, section-shorter connection-shorter d)

pub application-complete : (x : Application) (ts rest : Tokens) → IsApplication x ts rest → application ts ≡ done x rest
unfolding application name expect same_mark
application-complete x ts rest (is_application {w = w} {b = b} is_mark is_name n is_mark) =
    rw (network-complete w b (token.Mark mark.EndApplication ∷ rest) n refl refl) refl

pub application-starts : {x : Application} {ts rest : Tokens} (k : Mark) → IsApplication x ts rest → sees k ts ≡ same_mark mark.Application k
application-starts k (is_application is_mark n w e) = refl
