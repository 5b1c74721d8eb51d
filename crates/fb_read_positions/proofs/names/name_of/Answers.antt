use Rattle.fb_types.proofs.Common.{ap, ◌∙◌, option_copied}
use Rattle.fb_read_positions.proofs.lemmas.IndexedItems.{had, none_had}
use Rattle.fb_read_positions.proofs.names.name_of.Goals as goal

pub returns-in_err-get : goal.returns-in_err-get
returns-in_err-get g c = ap option_copied c.from_residual.ensures ∙ none_had c.args.items.now c.args.index g.T.Named.called c.in_err-get.ensures.lookup.3

pub returns : goal.returns
returns g c =
    let at = c.in_ok-get.ensures.lookup in
    had c.args.items.now c.args.index g.T.Named.called c.in_ok-get.field-0.now c.name.result.now at.3.0 at.1 c.name.ensures
