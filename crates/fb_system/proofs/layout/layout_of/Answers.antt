use Rattle.std.proofs.Common.{◌∙◌}
use Rattle.fb_system.proofs.lemmas.rows.LaidOut.{fit_of, few_rows, layout_is}
use Rattle.fb_system.proofs.layout.layout_of.Goals as goal

pub lay_out-requires : goal.lay_out-requires
lay_out-requires c =
    let known = c.requires.resolved in
    few_rows _ _ (fit_of _ known.0 _ known.1 known.2 c.requires.height) c.requires.few

pub returns : goal.returns
returns c =
    let known = c.requires.resolved in
    layout_is _ _ _ (fit_of _ known.0 _ known.1 known.2 c.requires.height) (c.from_vec.ensures ∙ c.in_ok-rows.ensures.rows) c.in_ok-rows.ensures.numbers
