use Rattle.fb_types.proofs.Common.{◌∙◌, ℕ, List, Bor, ap, arith, option_map}
use Rattle.toml.specs.View.{table_view}
use Rattle.fb_expect.specs.Drafts.{one_if}
use Rattle.fb_expect.proofs.lemmas.documents.Shapes.{never_is, some_seen}
use Rattle.fb_expect.proofs.document.never.Goals as goal

pub returns : goal.returns
returns c =
    let keys = table_view c.args.keys.now in
    let seen = λ (t : Bor (List ℕ)). t.now in
    let second = some_seen seen c.in_ok-second.second in
    never_is keys c.args.name.now c.args.first.now (option_map seen c.in_ok-second.second) (option_map seen c.in_ok-third.third) c.is_some-3.result c.count_of_keys.result c.one_if.result
    c.one_if-2.result c.in_ok-second.ensures c.in_ok-third.ensures c.count_of_keys.ensures (c.one_if.ensures ∙ ap one_if (c.is_some.ensures ∙ second))
    (c.one_if-2.ensures ∙ ap one_if (c.is_some-2.ensures ∙ some_seen seen c.in_ok-third.third)) (let fits = c.if-count_of_keys-one_if.false in omega (arith, fits)) (c.is_some-3.ensures ∙ second)
