use Rattle.fb_types.proofs.Common.{ap, ◌∙◌, last_of}
use Rattle.fb_system.proofs.lemmas.networks.PortConnections.{comes_around, comes_inside, data_input_end, data_output_end}
use Rattle.fb_system.proofs.lemmas.networks.Wired.{parent_within, row_there}
use Rattle.fb_system.proofs.tables.entering.Goals as goal

pub returns-then-to-clause-end : goal.returns-then-to-clause-end
returns-then-to-clause-end c =
    let row = row_there _ _ _ _ _ c.requires.netlist c.requires.variable.instance in data_output_end _ _ row.0 c.requires.variable c.if-to.true row.1

pub returns-then-to-clause-source : goal.returns-then-to-clause-source
returns-then-to-clause-source c =
    let row = row_there _ _ _ _ _ c.requires.netlist c.requires.variable.instance in comes_inside _ _ _ _ _ row.0 c.requires.netlist c.requires.variable c.if-to.true row.1

pub returns-else-to-clause-within : goal.returns-else-to-clause-within
returns-else-to-clause-within c = parent_within c.args.tables.now.library _ _ c.requires.variable.instance c.row_at-row.ensures.parent_is

pub returns-else-to-clause-end : goal.returns-else-to-clause-end
returns-else-to-clause-end c =
    data_input_end _ _ _ _ c.requires.variable c.if-to.false c.row_at-row.ensures (c.last_index-component.ensures ∙ ap last_of c.as_slice.ensures)

pub returns-else-to-clause-source : goal.returns-else-to-clause-source
returns-else-to-clause-source c = comes_around _ _ _ _ _ _ c.requires.netlist c.requires.variable c.if-to.false c.row_at-row.ensures
