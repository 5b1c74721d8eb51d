use Rattle.fb_types.proofs.Common.{sym, ◌∙◌, ap, option_map, slice_get_past}
use Rattle.fb_types.specs.declared.library.Variable.{Variable}
use Rattle.fb_check.proofs.lemmas.networks.SearchLoops.{at_element}
use Rattle.fb_check.proofs.networks.variables.type_at.Goals as goal

pub returns-in_err-get : goal.returns-in_err-get
returns-in_err-get c =
    c.from_residual.ensures ∙ sym (ap (option_map (λ (v : Variable). v.ty)) (slice_get_past c.args.variables.now c.args.index c.in_err-get.ensures.lookup.3))

pub returns : goal.returns
returns c =
    let at = c.in_ok-get.ensures.lookup in
    sym (ap (option_map (λ (v : Variable). v.ty)) (at_element c.args.variables.now c.args.index c.in_ok-get.field-0.now at.3.0 at.1))
