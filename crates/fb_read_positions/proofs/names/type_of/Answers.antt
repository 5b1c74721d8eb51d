use Rattle.fb_types.proofs.Common.{refl, ap, ◌∙◌, option_copied}
use Rattle.fb_types.specs.declared.library.Instance.{Instance}
use Rattle.fb_read_positions.proofs.lemmas.IndexedItems.{had, none_had}
use Rattle.fb_read_positions.proofs.names.type_of.Goals as goal

pub returns-in_err-get : goal.returns-in_err-get
returns-in_err-get c = ap option_copied c.from_residual.ensures ∙ none_had c.args.instances.now c.args.index (λ (i : Instance). i.block_type) c.in_err-get.ensures.lookup.3

pub returns : goal.returns
returns c =
    let at = c.in_ok-get.ensures.lookup in
    had c.args.instances.now c.args.index (λ (i : Instance). i.block_type) c.in_ok-get.field-0.now _ at.3.0 at.1 refl
