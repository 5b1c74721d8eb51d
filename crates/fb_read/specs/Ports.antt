-- What the parser of interfaces computes.
use Rattle.std.specs.Prelude.{if◌then◌else◌, List, [], Option, Some, None, map}
use Rattle.std.specs.List.{flat_map}
use Rattle.fb_types.specs.declared.library.EventPort.{EventPort}
use Rattle.fb_types.specs.declared.library.Variable.{Variable}
use Rattle.fb_types.specs.declared.library.Ports.{Ports}
use Rattle.fb_types.specs.declared.value.Value.{Value}
use Rattle.fb_types.specs.Names.{Name}
use Rattle.fb_read.specs.declared.ports.Declaration.{Declaration}
use Rattle.fb_read.specs.declared.token.Mark.{Mark}
use Rattle.fb_read.specs.declared.token.Mark.TheVariants as mark
use Rattle.fb_read.specs.Nodes.{event_of, declaration_of, variable_of, ports_of}
use Rattle.fb_read.specs.Parser.{Parser, ◌>>=◌, ◌>>◌, pure, eat, expect, name, ty_name, separated, section}
use Rattle.fb_read.specs.Network.{constant}

unfoldable pub with_names : Parser (List Name)
with_names = do
  some ← eat mark.With
  if some then separated name else pure []

unfoldable pub event : Parser EventPort
event = do
  first ← name
  names ← with_names
  expect mark.Semicolon
  pure (event_of first names)

unfoldable pub initial : Parser (Option Value)
initial = do
  some ← eat mark.Assign
  if some then (do
    value ← constant
    pure (Some value))
      else pure None

unfoldable pub declaration : Parser Declaration
declaration = do
  names ← separated name
  expect mark.Colon
  found ← ty_name
  value ← initial
  expect mark.Semicolon
  pure (declaration_of names found value)

-- the variables of a declaration, one for each name
abbrev pub variables_of : Declaration → List Variable
variables_of d = map (λ name. variable_of name d.ty d.initial) d.names

-- the variables of a section that this mark begins
unfoldable pub variables : Mark → Parser (List Variable)
variables begin = do
  found ← section declaration begin mark.EndVar
  pure (flat_map variables_of found)

unfoldable pub ports : Parser Ports
ports = do
  event_inputs ← section event mark.EventInput mark.EndEvent
  event_outputs ← section event mark.EventOutput mark.EndEvent
  inputs ← variables mark.VarInput
  outputs ← variables mark.VarOutput
  pure (ports_of event_inputs event_outputs inputs outputs)
