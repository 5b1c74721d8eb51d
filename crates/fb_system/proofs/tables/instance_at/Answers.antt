use Rattle.fb_system.proofs.lemmas.networks.EndLookups.{component_found, component_in_range}
use Rattle.fb_system.proofs.tables.instance_at.Goals as goal

pub returns-in-Some-default-clause-path : goal.returns-in-Some-default-clause-path
returns-in-Some-default-clause-path c = component_found _ _ _ _ _ c.components_in.ensures c.in-Some-default.is-0

pub returns-in-Some-default-clause-within : goal.returns-in-Some-default-clause-within
returns-in-Some-default-clause-within c =
    component_in_range _ _ _ _ _ _ c.components_in.ensures c.in-Some-default.is-0 c.requires.there.1
