use Rattle.fb_types.proofs.Common.{ap, ◌∙◌, last_of}
use Rattle.fb_system.proofs.lemmas.networks.PortConnections.{input_end, leads_around, leads_inside, output_end}
use Rattle.fb_system.proofs.lemmas.networks.Wired.{parent_within, row_there}
use Rattle.fb_system.proofs.tables.leaving.Goals as goal

pub returns-then-from-clause-within : goal.returns-then-from-clause-within
returns-then-from-clause-within c = parent_within c.args.tables.now.library _ _ c.requires.port.instance c.row_at-row.ensures.parent_is

pub returns-then-from-clause-end : goal.returns-then-from-clause-end
returns-then-from-clause-end c =
    output_end _ _ _ _ c.requires.port c.if-from.true c.row_at-row.ensures (c.last_index-component.ensures ∙ ap last_of c.as_slice.ensures)

pub returns-then-from-clause-targets : goal.returns-then-from-clause-targets
returns-then-from-clause-targets c = leads_around _ _ _ _ _ _ c.requires.netlist c.requires.port c.if-from.true c.row_at-row.ensures

pub returns-else-from-clause-end : goal.returns-else-from-clause-end
returns-else-from-clause-end c =
    let row = row_there _ _ _ _ _ c.requires.netlist c.requires.port.instance in input_end _ _ row.0 c.requires.port c.if-from.false row.1

pub returns-else-from-clause-targets : goal.returns-else-from-clause-targets
returns-else-from-clause-targets c =
    let row = row_there _ _ _ _ _ c.requires.netlist c.requires.port.instance in leads_inside _ _ _ _ _ row.0 c.requires.netlist c.requires.port c.if-from.false row.1
