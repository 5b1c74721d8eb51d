-- What the parser of networks computes.
use Rattle.std.specs.Prelude.{pos, neg_ℤ, true, false, if◌then◌else◌, List, [], Some, None}
use Rattle.fb_types.specs.declared.value.Value.{Value}
use Rattle.fb_types.specs.declared.value.Value.TheVariants as value
use Rattle.fb_types.specs.declared.library.PortName.{PortName}
use Rattle.fb_types.specs.declared.library.Connection.{Connection}
use Rattle.fb_types.specs.declared.library.Parameter.{Parameter}
use Rattle.fb_types.specs.declared.library.Instance.{Instance}
use Rattle.fb_types.specs.declared.library.Network.{Network}
use Rattle.fb_types.specs.declared.library.Application.{Application}
use Rattle.fb_read.specs.declared.token.Mark.TheVariants as mark
use Rattle.fb_read.specs.Nodes.{port_of, connection_of, parameter_of, instance_of, network_of, application_of}
use Rattle.fb_read.specs.Parser.{Parser, ◌>>=◌, ◌>>◌, pure, eat, expect, name, whole, literal, many, separated, section}

unfoldable pub port : Parser PortName
port = do
  first ← name
  is_inner ← eat mark.Dot
  if is_inner then (do
    second ← name
    pure (port_of (Some first) second))
      else pure (port_of None first)

unfoldable pub connection : Parser Connection
connection = do
  from ← port
  expect mark.To
  to ← port
  expect mark.Semicolon
  pure (connection_of from to)

unfoldable pub constant : Parser Value
constant = do
  is_true ← eat mark.True
  if is_true then pure (value.Bool true) else (do
    is_false ← eat mark.False
    if is_false then pure (value.Bool false) else (do
      is_negative ← eat mark.Minus
      if is_negative then (do
        n ← whole
        pure (value.Whole (neg_ℤ (pos n))))
          else (do
            n ← literal
            pure (value.Whole n))))

unfoldable pub parameter : Parser Parameter
parameter = do
  first ← name
  expect mark.Assign
  given ← constant
  pure (parameter_of first given)

unfoldable pub parameters : Parser (List Parameter)
parameters = do
  some ← eat mark.Open
  if some then (do
    found ← separated parameter
    expect mark.Close
    pure found)
      else pure []

unfoldable pub instance : Parser Instance
instance = do
  first ← name
  expect mark.Colon
  block_type ← name
  given ← parameters
  expect mark.Semicolon
  pure (instance_of first block_type given)

unfoldable pub network : Parser Network
network = do
  expect mark.Fbs
  instances ← many instance mark.EndFbs
  events ← section connection mark.EventConnections mark.EndConnections
  values ← section connection mark.DataConnections mark.EndConnections
  pure (network_of instances events values)

unfoldable pub application : Parser Application
application = do
  expect mark.Application
  first ← name
  body ← network
  expect mark.EndApplication
  pure (application_of first body)
