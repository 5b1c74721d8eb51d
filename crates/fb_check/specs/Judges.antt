-- What a judge of rows has looks up is a fact with one proof (this project's profile).
use Rattle.std.specs.Prelude.{Option, Some, None}
use Rattle.std.proofs.Props.{props}
use Rattle.fb_types.specs.declared.deploy.Plan.{Plan}
use Rattle.fb_types.specs.declared.library.Library.{Library}
use Rattle.fb_types.specs.declared.library.Ports.{Ports}
use Rattle.fb_check_names.specs.Catalog.{IsCatalog}
use Rattle.fb_check_names.specs.declared.catalog.Catalog.{Catalog}
use Rattle.fb_check.specs.Directory.{IsDirectory, IsFound}
use Rattle.fb_check.specs.declared.directory.Directory.{Directory}
use Rattle.fb_check.specs.declared.directory_making.TypeInputs.{TypeInputs}

pub IsCatalog-prop : (lib : Library) (plan : Plan) (c : Catalog) → IsProp (IsCatalog lib plan c)
IsCatalog-prop lib plan c = hlevel props

IsFound-prop : (p : Option Ports) (o : Option TypeInputs) → IsProp (IsFound p o)
IsFound-prop None None = hlevel props
IsFound-prop None (Some x) = hlevel props
IsFound-prop (Some p) None = hlevel props
IsFound-prop (Some p) (Some x) = hlevel props

pub IsDirectory-prop : (lib : Library) (d : Directory) → IsProp (IsDirectory lib d)
IsDirectory-prop lib d = hlevel (props, IsFound-prop)
