use Rattle.fb_types.proofs.Common.{◌<◌, length, sym, subst}
use Rattle.fb_types.specs.declared.library.Ports.{Ports}
use Rattle.fb_wave.specs.Ports.{events}
use Rattle.fb_wave.proofs.ports.port_text.Goals as goal

pub event_name-requires : goal.event_name-requires
event_name-requires c =
    let port = c.args.port in
    subst (λ (its : Ports). port.event < length (events its port.taken)) (sym c.ports-ports.ensures) c.requires.event
