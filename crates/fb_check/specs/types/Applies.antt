-- What the list of unknown names says of a declaration and a deployment.
use Rattle.std.specs.Prelude.{Contains}
use Rattle.fb_types.specs.Unknown.{NameUnknown}
use Rattle.fb_types.specs.declared.deploy.Plan.{Plan}
use Rattle.fb_types.specs.declared.library.Library.{Library}
use Rattle.fb_check_names.specs.declared.location.UnknownName.{UnknownName}
use Rattle.fb_check.specs.types.Unknown.{IsUnknownAt}
use Rattle.fb_check.specs.types.Unknowns.{unknown_all}

abbrev pub UnknownApplies : Type 0
UnknownApplies = (lib : Library) (plan : Plan) (p : UnknownName) → IsUnknownAt lib plan p → NameUnknown lib plan

abbrev pub NoneLeftOut : Type 0
NoneLeftOut = (lib : Library) (plan : Plan) (p : UnknownName) → IsUnknownAt lib plan p → Contains (unknown_all lib plan) p
