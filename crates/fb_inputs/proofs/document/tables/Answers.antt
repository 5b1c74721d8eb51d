use Rattle.toml.specs.View.{view}
use Rattle.fb_inputs.specs.Documents.{of_table}
use Rattle.fb_inputs.proofs.lemmas.deployments.DocumentValues.{tables_view}
use Rattle.fb_inputs.proofs.document.tables.Goals as goal

pub returns-in-Some : goal.returns-in-Some
returns-in-Some g c =
    rw (tables_view c.args.key (of_table g.T.Entry.meaning) (view c.args.value.now) c.in-Some.values.now.items c.in-Some.ensures) (rw c.as_slice.ensures.value at c.each_table.ensures)
