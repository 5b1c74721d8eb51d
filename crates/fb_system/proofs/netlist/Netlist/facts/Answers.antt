use Rattle.fb_system.proofs.lemmas.inputs.Views.{few_of, numbers_of}
use Rattle.fb_system.proofs.netlist.Netlist.facts.Goals as goal

pub returns-clause-few : goal.returns-clause-few
returns-clause-few c = few_of _ _ c.self.invariant c.self.view_is

pub returns-clause-numbers : goal.returns-clause-numbers
returns-clause-numbers c = numbers_of _ _ c.self.invariant c.self.view_is
