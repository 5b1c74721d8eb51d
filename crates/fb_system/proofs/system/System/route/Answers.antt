use Rattle.fb_system.proofs.lemmas.inputs.TablesOfInputs.{route_seen, within_seen}
use Rattle.fb_system.proofs.system.System.route.Goals as goal

pub route-requires : goal.route-requires
route-requires c = within_seen _ _ _ _ c.deref.ensures c.self.view_is c.requires

pub returns : goal.returns
returns c = route_seen _ _ _ _ _ c.deref.ensures c.self.view_is c.route.ensures
