-- What the parser of networks reads is in the grammar.
use Rattle.fb_read.proofs.lemmas.Common.{ℤ, pos, true, false, [], Some, None, inl, inr, Tokens, name, whole, literal, expect, after, many, section, separated, port, connection, constant, parameter, parameters, instance, network, application, IsSection}
use Rattle.std.proofs.Math.IntN.{neg_ℤ}
use Rattle.fb_types.specs.declared.value.Value.TheVariants as value
use Rattle.fb_read.specs.declared.token.Mark.TheVariants as mark
use Rattle.fb_read.specs.Nodes.{port_of, connection_of, parameter_of, instance_of, network_of, application_of}
use Rattle.fb_read.specs.NetworkGrammar.{IsConstant, is_true, is_false, is_number, is_negative, is_duration, IsParameter, is_parameter, AreParameters, no_parameters, some_parameters, IsInstance, is_instance, IsPort, of_boundary, of_component, IsConnection, is_connection, IsNetwork, is_network, IsApplication, is_application}
use Rattle.fb_read.proofs.lemmas.rules.Steps.{both_ok, made, eaten, expected, named, counted, written, IsLiteral, of_whole, of_time}
use Rattle.fb_read.proofs.lemmas.rules.Lists.{IsSound, many-sound, separated-sound, section-sound}

port-sound : IsSound port IsPort
unfolding port
port-sound ts x rest h =
    let a = both_ok (name ts) _ (x, rest) h in
    let n = named ts a.0 a.1 a.2 in
    elim (eaten mark.Dot _ _ a.1 (x, rest) a.3) [
      | inl w ↦
          let b = both_ok (name (after mark.Dot a.1)) _ (x, rest) w.1 in
          made IsPort (port_of (Some a.0) b.0) x ts b.1 rest b.3 (of_component n w.0 (named (after mark.Dot a.1) b.0 b.1 b.2))
      | inr w ↦ made IsPort (port_of None a.0) x ts a.1 rest w.1 (of_boundary n)
    ]

connection-sound : IsSound connection IsConnection
unfolding connection
connection-sound ts x rest h =
    let a = both_ok (port ts) _ (x, rest) h in
    let b = both_ok (expect mark.To a.1) _ (x, rest) a.3 in
    let c = both_ok (port b.1) _ (x, rest) b.3 in
    let d = both_ok (expect mark.Semicolon c.1) _ (x, rest) c.3 in
    made IsConnection (connection_of a.0 c.0) x ts d.1 rest d.3
    (is_connection (port-sound ts a.0 a.1 a.2) (expected mark.To a.1 b.1 b.2) (port-sound b.1 c.0 c.1 c.2) (expected mark.Semicolon c.1 d.1 d.2))

constant-of : (n : ℤ) (ts rest : Tokens) → IsLiteral n ts rest → IsConstant (value.Whole n) ts rest
constant-of n ts rest (of_whole w) = is_number w
constant-of n ts rest (of_time t) = is_duration t

pub constant-sound : IsSound constant IsConstant
unfolding constant
constant-sound ts x rest h =
    elim (eaten mark.True _ _ ts (x, rest) h) [
      | inl w ↦ made IsConstant (value.Bool true) x ts (after mark.True ts) rest w.1 (is_true w.0)
      | inr w ↦ elim (eaten mark.False _ _ ts (x, rest) w.1) [
        | inl v ↦ made IsConstant (value.Bool false) x ts (after mark.False ts) rest v.1 (is_false v.0)
        | inr v ↦ elim (eaten mark.Minus _ _ ts (x, rest) v.1) [
          | inl u ↦
              let a = both_ok (whole (after mark.Minus ts)) _ (x, rest) u.1 in
              made IsConstant (value.Whole (neg_ℤ (pos a.0))) x ts a.1 rest a.3 (is_negative u.0 (counted (after mark.Minus ts) a.0 a.1 a.2))
          | inr u ↦
              let a = both_ok (literal ts) _ (x, rest) u.1 in
              made IsConstant (value.Whole a.0) x ts a.1 rest a.3 (constant-of a.0 ts a.1 (written ts a.0 a.1 a.2))
        ]
      ]
    ]

parameter-sound : IsSound parameter IsParameter
unfolding parameter
parameter-sound ts x rest h =
    let a = both_ok (name ts) _ (x, rest) h in
    let b = both_ok (expect mark.Assign a.1) _ (x, rest) a.3 in
    let c = both_ok (constant b.1) _ (x, rest) b.3 in
    made IsParameter (parameter_of a.0 c.0) x ts c.1 rest c.3 (is_parameter (named ts a.0 a.1 a.2) (expected mark.Assign a.1 b.1 b.2) (constant-sound b.1 c.0 c.1 c.2))

parameters-sound : IsSound parameters AreParameters
unfolding parameters
parameters-sound ts x rest h =
    elim (eaten mark.Open _ _ ts (x, rest) h) [
      | inl w ↦
          let a = both_ok (separated parameter (after mark.Open ts)) _ (x, rest) w.1 in
          let b = both_ok (expect mark.Close a.1) _ (x, rest) a.3 in
          made AreParameters a.0 x ts b.1 rest b.3
          (some_parameters w.0 (separated-sound parameter IsParameter parameter-sound (after mark.Open ts) a.0 a.1 a.2) (expected mark.Close a.1 b.1 b.2))
      | inr w ↦ made AreParameters [] x ts ts rest w.1 no_parameters
    ]

pub instance-sound : IsSound instance IsInstance
unfolding instance
instance-sound ts x rest h =
    let a = both_ok (name ts) _ (x, rest) h in
    let b = both_ok (expect mark.Colon a.1) _ (x, rest) a.3 in
    let c = both_ok (name b.1) _ (x, rest) b.3 in
    let d = both_ok (parameters c.1) _ (x, rest) c.3 in
    let e = both_ok (expect mark.Semicolon d.1) _ (x, rest) d.3 in
    made IsInstance (instance_of a.0 c.0 d.0) x ts e.1 rest e.3
    (is_instance (named ts a.0 a.1 a.2) (expected mark.Colon a.1 b.1 b.2) (named b.1 c.0 c.1 c.2) (parameters-sound c.1 d.0 d.1 d.2) (expected mark.Semicolon d.1 e.1 e.2))

events-sound : IsSound (section connection mark.EventConnections mark.EndConnections) (IsSection IsConnection mark.EventConnections mark.EndConnections)
events-sound = section-sound connection IsConnection mark.EventConnections mark.EndConnections connection-sound

values-sound : IsSound (section connection mark.DataConnections mark.EndConnections) (IsSection IsConnection mark.DataConnections mark.EndConnections)
values-sound = section-sound connection IsConnection mark.DataConnections mark.EndConnections connection-sound

pub network-sound : IsSound network IsNetwork
unfolding network
network-sound ts x rest h =
    let a = both_ok (expect mark.Fbs ts) _ (x, rest) h in
    let b = both_ok (many instance mark.EndFbs a.1) _ (x, rest) a.3 in
    let c = both_ok (section connection mark.EventConnections mark.EndConnections b.1) _ (x, rest) b.3 in
    let d = both_ok (section connection mark.DataConnections mark.EndConnections c.1) _ (x, rest) c.3 in
    made IsNetwork (network_of b.0 c.0 d.0) x ts d.1 rest d.3
    (is_network (expected mark.Fbs ts a.1 a.2) (many-sound instance IsInstance mark.EndFbs instance-sound a.1 b.0 b.1 b.2) (events-sound b.1 c.0 c.1 c.2) (values-sound c.1 d.0 d.1 d.2))

pub application-sound : IsSound application IsApplication
unfolding application
application-sound ts x rest h =
    let a = both_ok (expect mark.Application ts) _ (x, rest) h in
    let b = both_ok (name a.1) _ (x, rest) a.3 in
    let c = both_ok (network b.1) _ (x, rest) b.3 in
    let d = both_ok (expect mark.EndApplication c.1) _ (x, rest) c.3 in
    made IsApplication (application_of b.0 c.0) x ts d.1 rest d.3
    (is_application (expected mark.Application ts a.1 a.2) (named a.1 b.0 b.1 b.2) (network-sound b.1 c.0 c.1 c.2) (expected mark.EndApplication c.1 d.1 d.2))
