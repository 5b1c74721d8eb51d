-- Data connections that lead out of a range, by number (IEC 61499-1, 5.3; the range of types is this project's profile).
use Rattle.std.specs.Prelude.{List, Bool, false, not, Option, Some, None}
use Rattle.fb_types.specs.declared.value.Ty.{Ty}
use Rattle.fb_types.specs.declared.library.Library.{Library}
use Rattle.fb_types.specs.declared.library.Ports.{Ports}
use Rattle.fb_check_names.specs.declared.numbers.TypeNumber.{TypeNumber}
use Rattle.fb_check_names.specs.declared.numbers.NumberedConnection.{NumberedConnection}
use Rattle.fb_check.specs.networks.Ranges.{is_within}
use Rattle.fb_check.specs.networks.Variables.{source_type, target_type}

-- to a type that does not contain all values of the source type
abbrev pub is_out : Option Ty → Option Ty → Bool
is_out (Some s) (Some t) = not (is_within s t)
is_out (Some s) None = false
is_out None o = false

abbrev pub leads_out : Library → Option Ports → List TypeNumber → NumberedConnection → Bool
leads_out lib around types w = is_out (source_type lib around types w.from) (target_type lib around types w.to)
