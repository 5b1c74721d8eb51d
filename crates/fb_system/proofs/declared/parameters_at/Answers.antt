use Rattle.fb_system.proofs.lemmas.Common.{ap, NetworkNumbers}
use Rattle.fb_system.proofs.lemmas.values.DeclaredInstances.{got, none_got, none_last, parameters_of_instance, parameters_there}
use Rattle.fb_system.proofs.lemmas.networks.Wired.{parent_within}
use Rattle.fb_system.proofs.declared.parameters_at.Goals as goal

pub wiring_in-requires-clause-within : goal.wiring_in-requires-clause-within
wiring_in-requires-clause-within c = parent_within c.args.tables.now.library _ _ c.requires.within c.row_at-row.ensures.parent_is

pub unreachable-requires-in_default-last_index : goal.unreachable-requires-in_default-last_index
unreachable-requires-in_default-last_index c =
    none_last c.args.tables.now.library c.args.instance c.row_at-row.result.now _ _ c.row_at-row.ensures c.last_index.ensures c.as_slice.ensures c.in_default-last_index.is

pub unreachable-requires-in_default-get : goal.unreachable-requires-in_default-get
unreachable-requires-in_default-get c =
    let at = parameters_there c.args.tables.now.library c.args.instance c.row_at-row.result.now c.in-Some.wiring.now _ _ _ c.numbers.result.now.parameters c.row_at-row.ensures c.in-Some.ensures
    c.last_index.ensures c.as_slice.ensures c.in-Some-last_index.is (ap (λ (x : NetworkNumbers). x.parameters) c.numbers.ensures) in
    none_got _ _ _ c.get.ensures.value at.1 c.in_default-get.is

pub returns : goal.returns
returns c = λ i h.
    let at = parameters_there c.args.tables.now.library c.args.instance c.row_at-row.result.now c.in-Some.wiring.now _ _ _ c.numbers.result.now.parameters c.row_at-row.ensures c.in-Some.ensures
    c.last_index.ensures c.as_slice.ensures c.in-Some-last_index.is (ap (λ (x : NetworkNumbers). x.parameters) c.numbers.ensures) in
    parameters_of_instance c.args.tables.now.library _ _ _ c.args.instance c.row_at-row.result.now _ _ _ i c.requires.netlist c.requires.within c.row_at-row.ensures at.2
    (got _ _ _ c.in-Some-get.indexes c.get.ensures.value at.1 c.in-Some-get.is) c.as_slice-2.ensures h
