-- What the parser of block types and of whole libraries computes.
use Rattle.std.specs.Prelude.{if◌then◌else◌, []}
use Rattle.fb_types.specs.Names.{Name}
use Rattle.fb_types.specs.declared.library.Ports.{Ports}
use Rattle.fb_types.specs.declared.library.BlockType.{BlockType}
use Rattle.fb_types.specs.declared.library.BlockType.TheVariants as block_type
use Rattle.fb_types.specs.declared.library.Library.{Library}
use Rattle.fb_read.specs.declared.token.Mark.TheVariants as mark
use Rattle.fb_read.specs.Nodes.{basic_of, composite_of, library_of}
use Rattle.fb_read.specs.Parser.{Parser, ◌>>=◌, ◌>>◌, pure, sees, expect, name, run_after}
use Rattle.fb_read.specs.Network.{network, application}
use Rattle.fb_read.specs.Ports.{variables, ports}
use Rattle.fb_read.specs.Charts.{states, transitions, algorithms}

-- what follows the name and the ports of a basic type
unfoldable pub basic : Name → Ports → Parser BlockType
basic n p = do
  internals ← variables mark.Var
  chart ← states
  found ← transitions
  bodies ← algorithms
  pure (block_type.Basic (basic_of n p internals chart found bodies))

-- and of a composite type
unfoldable pub composite : Name → Ports → Parser BlockType
composite n p = do
  found ← network
  pure (block_type.Composite (composite_of n p found))

-- a network begins with FBS
unfoldable pub body : Name → Ports → Parser BlockType
body n p = λ ts. if sees mark.Fbs ts then composite n p ts else basic n p ts

-- what is between the marks of a type
unfoldable pub inside : Parser BlockType
inside = do
  first ← name
  interface ← ports
  body first interface

unfoldable pub block : Parser BlockType
block = do
  expect mark.FunctionBlock
  found ← inside
  expect mark.EndFunctionBlock
  pure found

unfoldable pub library : Parser Library
library = do
  before ← run_after block mark.FunctionBlock []
  found ← application
  all ← run_after block mark.FunctionBlock before
  pure (library_of all found)
