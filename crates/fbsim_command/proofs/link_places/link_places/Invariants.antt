use Rattle.std.proofs.Common.{Some, take}
use Rattle.std.specs.List.{AllZip}
use Rattle.fbsim_command.specs.WarningLines.{IsLinkPlaceFor}
use Rattle.fbsim_command.proofs.link_places.link_places.Given as goal

abbrev pub invariant-loop-warning : goal.invariant-loop-warning
invariant-loop-warning l = AllZip (IsLinkPlaceFor (Some l.outline.text.now)) (take l.warning-index l.warnings) l.places.items
