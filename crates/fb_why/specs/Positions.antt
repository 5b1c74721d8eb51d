-- The position of the declaration at which a location is shown (this project's own).
use Rattle.std.specs.Prelude.{Option, Some, None}
use Rattle.fb_types.specs.declared.library.Library.{Library}
use Rattle.fb_read.specs.Blank.{Text}
use Rattle.fb_read_positions.specs.Spans.{IsNowhere}
use Rattle.fb_check_names.specs.declared.location.TwoSourcesAt.{TwoSourcesAt}
use Rattle.fb_check_names.specs.declared.location.Site.TheVariants as site
use Rattle.fb_check.specs.declared.location.Limit.{Limit}
use Rattle.fb_check.specs.declared.location.Limit.TheVariants as limit
use Rattle.fb_read_positions.specs.FindingPositions.{data_position, too_high_position, kind_wrong_position, twice_position, unknown_position, no_link_position, not_mapped_position}
use Rattle.fb_read_positions.specs.declared.position.Position.{Position}
use Rattle.fb_read_positions.specs.declared.position.Position.TheVariants as position
use Rattle.fb_check.specs.declared.location.Location.{Location}
use Rattle.fb_check.specs.declared.location.Location.TheVariants as at

-- too many instances are shown at the name of the application
abbrev pub limit_position : Limit → Option Position
limit_position limit.Instances = Some position.Application
limit_position limit.Stimuli = None

-- two data connections that lead to one port are shown at the later one
abbrev pub later_position : TwoSourcesAt → Position
later_position j = data_position j.site j.connections.1

abbrev pub position_of : Library → Location → Option Position
position_of lib (at.NameTwice p) = twice_position lib p
position_of lib (at.NameUnknown p) = unknown_position lib p
position_of lib (at.KindWrong p) = Some (kind_wrong_position p)
position_of lib (at.OutOfRange p) = Some (data_position p.site p.connection)
position_of lib (at.TwoSources p) = Some (later_position p)
position_of lib (at.TooHigh p) = Some (too_high_position p)
position_of lib (at.NotMapped p) = not_mapped_position p
position_of lib (at.NoLink p) = Some (no_link_position p)
position_of lib (at.NoEvent connection) = Some (data_position site.Application connection)
position_of lib (at.OverLimit p) = limit_position p
position_of lib (at.BadStimulus p) = None

-- nothing is at the position, if one is given
abbrev pub IsNowhereIf : Text → Library → Option Position → Type 0
IsNowhereIf text library None = Unit {0}
IsNowhereIf text library (Some position) = IsNowhere text library position
