-- What is reported of a location makes its number apply.
use Rattle.fb_types.specs.Kinds.{KindWrong}
use Rattle.fb_types.specs.declared.library.Library.{Library}
use Rattle.fb_check.specs.types.KindsWrong.{IsKindWrongAt}
use Rattle.fb_check_names.specs.declared.location.KindWrongAt.{KindWrongAt}

abbrev pub KindWrongApplies : Type 0
KindWrongApplies = (lib : Library) (p : KindWrongAt) → IsKindWrongAt lib p → KindWrong lib
