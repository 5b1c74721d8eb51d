use Rattle.fb_types.proofs.Common.{List, ap, ◌∙◌, option_map, slice_get, option_copied}
use Rattle.fb_types.specs.declared.library.Instance.{Instance}
use Rattle.fb_types.specs.declared.library.Parameter.{Parameter}
use Rattle.fb_read_positions.proofs.lemmas.IndexedItems.{found, none_found}
use Rattle.fb_read_positions.proofs.names.parameter_name.Goals as goal

pub returns-in_err-get : goal.returns-in_err-get
returns-in_err-get c = ap option_copied c.from_residual.ensures ∙ none_found c.args.instances.now c.args.index (λ (i : Instance). option_map (λ (p : Parameter). p.name) (slice_get i.parameters c.args.parameter)) c.in_err-get.ensures.lookup.3

pub returns : goal.returns
returns c =
    let at = c.in_ok-get.ensures.lookup in
    found c.args.instances.now c.args.index (λ (i : Instance). option_map (λ (p : Parameter). p.name) (slice_get i.parameters c.args.parameter)) c.in_ok-get.field-0.now (option_copied c.name_of.result) at.3.0 at.1
    (c.name_of.ensures ∙ ap (λ (ps : List Parameter). option_map (λ (p : Parameter). p.name) (slice_get ps c.args.parameter)) c.as_slice.ensures)
