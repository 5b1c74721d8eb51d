use Rattle.std.proofs.Common.{refl, ◌∙◌}
use Rattle.fb_system.proofs.lemmas.values.DeclaredInstances.{declared_is, declared_there, got, none_got, none_last}
use Rattle.fb_system.proofs.lemmas.networks.Wired.{parent_within}
use Rattle.fb_system.proofs.declared.declared_at.Goals as goal

pub network_in-requires-clause-within : goal.network_in-requires-clause-within
network_in-requires-clause-within c = parent_within c.args.tables.now.library _ _ c.requires.within c.row_at-row.ensures.parent_is

pub unreachable-requires-in_default-last_index : goal.unreachable-requires-in_default-last_index
unreachable-requires-in_default-last_index c =
    none_last c.args.tables.now.library c.args.instance c.row_at-row.result.now _ _ c.row_at-row.ensures c.last_index.ensures c.as_slice.ensures c.in_default-last_index.is

pub unreachable-requires-in_default-get : goal.unreachable-requires-in_default-get
unreachable-requires-in_default-get c =
    none_got _ _ _ c.get.ensures.value
    (declared_there c.args.tables.now.library c.args.instance c.row_at-row.result.now _ c.in-Some.network _ _ _ c.in-Some.network.now.instances c.row_at-row.ensures c.network_in.ensures c.in-Some.is
    c.last_index.ensures c.as_slice.ensures c.in-Some-last_index.is refl) c.in_default-get.is

pub returns : goal.returns
returns c =
    declared_is c.args.tables.now.library _ _ _ c.args.instance c.row_at-row.result.now c.requires.netlist c.requires.within c.row_at-row.ensures
    ∙ got _ _ _ c.in-Some-get.declared c.get.ensures.value
    (declared_there c.args.tables.now.library c.args.instance c.row_at-row.result.now _ c.in-Some.network _ _ _ c.in-Some.network.now.instances c.row_at-row.ensures c.network_in.ensures c.in-Some.is
    c.last_index.ensures c.as_slice.ensures c.in-Some-last_index.is refl) c.in-Some-get.is
