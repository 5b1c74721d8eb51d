-- What is reported of a location makes its number apply.
use Rattle.fb_types.specs.Repeated.{NameTwice}
use Rattle.fb_types.specs.declared.library.Library.{Library}
use Rattle.fb_types.specs.declared.deploy.Plan.{Plan}
use Rattle.fb_check_names.specs.Twice.{IsTwiceAt}
use Rattle.fb_check_names.specs.declared.twice.GivenTwice.{GivenTwice}

abbrev pub TwiceApplies : Type 0
TwiceApplies = (lib : Library) (plan : Plan) (p : GivenTwice) → IsTwiceAt lib plan p → NameTwice lib plan
