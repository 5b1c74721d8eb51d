use Rattle.fb_system.proofs.lemmas.inputs.Views.{comes_seen, variable_of_tables}
use Rattle.fb_system.proofs.netlist.Netlist.source.Goals as goal

pub entering-around-requires-clause-variable : goal.entering-around-requires-clause-variable
entering-around-requires-clause-variable c = variable_of_tables c.self.inside.tables _ _ c.self.view_is c.requires

pub returns-clause-comes : goal.returns-clause-comes
returns-clause-comes c = comes_seen c.self.inside.tables _ _ _ _ c.self.view_is (c.source_in.ensures.comes _ c.entering-around.ensures.end) c.entering-around.ensures.source
