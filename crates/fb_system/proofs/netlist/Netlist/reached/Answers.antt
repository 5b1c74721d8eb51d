use Rattle.fb_system.specs.Networks.{EventLeaves}
use Rattle.fb_system.proofs.lemmas.inputs.Views.{leads_seen, more_seen, port_of_tables}
use Rattle.fb_system.proofs.netlist.Netlist.reached.Goals as goal

pub leaving-around-requires-clause-port : goal.leaving-around-requires-clause-port
leaving-around-requires-clause-port c = port_of_tables c.self.inside.tables _ _ c.self.view_is c.requires

pub returns-clause-leads : goal.returns-clause-leads
returns-clause-leads c =
    leads_seen c.self.inside.tables _ _ _ _ _ c.self.view_is (c.target_in.ensures.leads _ c.leaving-around.ensures.end) c.leaving-around.ensures.targets

pub returns-clause-more : goal.returns-clause-more
returns-clause-more c =
    more_seen c.self.inside.tables _ _ _ _ _ (EventLeaves c.self.inside.tables.library c.leaving-around.result.around) _ c.self.view_is c.target_in.ensures.more c.leaving-around.ensures.end c.leaving-around.ensures.targets
