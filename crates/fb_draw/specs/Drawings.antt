-- What is drawn: the application, or a type of the declaration.
use Rattle.std.specs.Prelude.{ℕ, List, Option, Some, None, option_map}
use Rattle.fb_types.specs.Names.{Name}
use Rattle.fb_types.specs.Blocks.{named}
use Rattle.fb_types.specs.Flat.{type_name}
use Rattle.fb_types.specs.declared.deploy.Plan.{Plan}
use Rattle.fb_types.specs.declared.library.BlockType.{BlockType}
use Rattle.fb_types.specs.declared.library.BlockType.TheVariants as block
use Rattle.fb_types.specs.declared.library.Library.{Library}
use Rattle.fb_draw.specs.Charts.{chart_text}
use Rattle.fb_draw.specs.Networks.{composite_text}
use Rattle.fb_draw.specs.Resources.{application_text}

-- of a basic type its chart, and of a composite type its network
abbrev pub type_text : Library → BlockType → List ℕ
type_text lib (block.Basic t) = chart_text t
type_text lib (block.Composite t) = composite_text lib t

-- the graph of the application, or of the type that has the name, if there is one
abbrev pub graph_text : Library → Plan → Option Name → Option (List ℕ)
graph_text lib plan None = Some (application_text lib plan)
graph_text lib plan (Some n) = option_map (type_text lib) (named type_name n lib.blocks)
