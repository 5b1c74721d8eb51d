-- What is listed makes its number apply.
use Rattle.std.specs.Prelude.{ℕ}
use Rattle.fb_types.specs.Joined.{OutOfRange, TooHigh, TwoSources}
use Rattle.fb_types.specs.Mapped.{NoEvent, NoLink, NotMapped}
use Rattle.fb_types.specs.declared.library.Library.{Library}
use Rattle.fb_types.specs.declared.deploy.Plan.{Plan}
use Rattle.fb_check_names.specs.declared.location.TooHighAt.{TooHighAt}
use Rattle.fb_check_names.specs.declared.location.TwoSourcesAt.{TwoSourcesAt}
use Rattle.fb_check_names.specs.declared.location.OutOfRangeAt.{OutOfRangeAt}
use Rattle.fb_check_names.specs.declared.location.NoLinkAt.{NoLinkAt}
use Rattle.fb_check_names.specs.declared.location.NotMappedAt.{NotMappedAt}
use Rattle.fb_check.specs.networks.Heights.{IsTooHighAt}
use Rattle.fb_check.specs.networks.Links.{IsNoLinkAt}
use Rattle.fb_check.specs.networks.OutOfRange.{IsOutOfRangeAt}
use Rattle.fb_check.specs.networks.Sources.{IsTwoSourcesAt}
use Rattle.fb_check.specs.networks.NotMapped.{IsNotMappedAt}
use Rattle.fb_check.specs.networks.NoEvent.{IsNoEventAt}

abbrev pub OutOfRangeApplies : Type 0
OutOfRangeApplies = (lib : Library) (p : OutOfRangeAt) → IsOutOfRangeAt lib p → OutOfRange lib

abbrev pub TwoSourcesApplies : Type 0
TwoSourcesApplies = (lib : Library) (p : TwoSourcesAt) → IsTwoSourcesAt lib p → TwoSources lib

abbrev pub TooHighApplies : Type 0
TooHighApplies = (lib : Library) (p : TooHighAt) → IsTooHighAt lib p → TooHigh lib

abbrev pub NotMappedApplies : Type 0
NotMappedApplies = (lib : Library) (plan : Plan) (p : NotMappedAt) → IsNotMappedAt lib plan p → NotMapped lib plan

abbrev pub NoLinkApplies : Type 0
NoLinkApplies = (lib : Library) (plan : Plan) (p : NoLinkAt) → IsNoLinkAt lib plan p → NoLink lib plan

abbrev pub NoEventApplies : Type 0
NoEventApplies = (lib : Library) (plan : Plan) (k : ℕ) → IsNoEventAt lib plan k → NoEvent lib plan
