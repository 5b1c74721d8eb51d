use Rattle.fb_system.proofs.lemmas.types.WithIndexesLaws.{ports_of_instance}
use Rattle.fb_system.proofs.lemmas.inputs.TablesOfInputs.{stand_seen, within_seen}
use Rattle.fb_system.proofs.system.System.ports.Goals as goal

pub kind-requires : goal.kind-requires
kind-requires c = within_seen _ _ _ _ c.deref-whole.ensures c.self.view_is c.requires

pub ports_of_type-requires : goal.ports_of_type-requires
ports_of_type-requires c = record { tables = stand_seen _ _ c.deref-whole.ensures c.self.invariant.tables; known = c.kind.ensures.known }

pub returns : goal.returns
returns c = ports_of_instance _ _ _ _ _ _ c.deref-whole.ensures c.self.view_is c.kind.ensures.is c.ports_of_type.ensures
