use Rattle.fb_system.proofs.lemmas.rows.KeptRows.{ports_seen}
use Rattle.fb_system.proofs.system.System.kept_port.Goals as goal

pub port-requires : goal.port-requires
port-requires c = (c.args.self.now, ports_seen _ _ _ c.deref.ensures c.self.view_is c.self.invariant)

pub returns : goal.returns
returns c = c.port.ensures c.args.self.now (ports_seen _ _ _ c.deref.ensures c.self.view_is c.self.invariant)
