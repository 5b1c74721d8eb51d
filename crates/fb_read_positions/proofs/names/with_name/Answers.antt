use Rattle.fb_types.proofs.Common.{ap, ◌∙◌, slice_get, option_copied}
use Rattle.fb_types.specs.declared.library.EventPort.{EventPort}
use Rattle.fb_read_positions.proofs.lemmas.IndexedItems.{found, none_found}
use Rattle.fb_read_positions.proofs.names.with_name.Goals as goal

pub returns-in_err-get : goal.returns-in_err-get
returns-in_err-get c = ap option_copied c.from_residual.ensures ∙ none_found c.args.events.now c.args.event (λ (e : EventPort). slice_get e.with c.args.variable) c.in_err-get.ensures.lookup.3

pub returns : goal.returns
returns c =
    let at = c.in_ok-get.ensures.lookup in
    found c.args.events.now c.args.event (λ (e : EventPort). slice_get e.with c.args.variable) c.in_ok-get.field-0.now (option_copied c.get-2.result) at.3.0 at.1 c.get-2.ensures.value
