use Rattle.fb_types.proofs.Common.{ap, ◌∙◌, Ports}
use Rattle.fb_types.proofs.lemmas.events.RowTypes.{type_past, type_within}
use Rattle.fb_types.proofs.event_ports.event_block_output.Goals as goal

pub returns-in_err-get : goal.returns-in_err-get
returns-in_err-get c =
    c.from_residual.ensures ∙ type_past c.row_of.result.now.outputs.now _ c.args.index (ap (λ (p : Ports). p.outputs) c.row_of.ensures) c.in_err-get.ensures.lookup.3

pub returns : goal.returns
returns c =
    type_within c.row_of.result.now.outputs.now _ c.args.index c.in_ok-get.field-0.now (ap (λ (p : Ports). p.outputs) c.row_of.ensures)
    c.in_ok-get.ensures.lookup.3.0 c.in_ok-get.ensures.lookup.1
