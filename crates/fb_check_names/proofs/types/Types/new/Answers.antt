use Rattle.std.proofs.Common.{refl}
use Rattle.fb_check_names.proofs.types.Types.new.Goals as goal

pub returns : goal.returns
returns c = (record { has = c.requires; events = c.in_ok-all_ports.ensures }, refl, refl)
