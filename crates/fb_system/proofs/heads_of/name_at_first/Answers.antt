use Rattle.fb_types.proofs.Common.{◌++◌, ap, codes, sym, ◌∙◌, option_copied, Name}
use Rattle.fb_system.proofs.lemmas.rows.KeptHeads.{first_named}
use Rattle.fb_system.proofs.heads_of.name_at_first.Goals as goal

pub returns-in-Some-clause-some : goal.returns-in-Some-clause-some
returns-in-Some-clause-some c = λ names are.
    first_named c.args.variables.now names c.args.indexes.now c.in-Some.index.now c.index-variables-index.result are
    (sym c.first.ensures.value ∙ ap option_copied c.in-Some.is)
    ∙ ap (λ (n : Name). codes " " ++ n ++ codes "=") (sym c.as_bytes.ensures)
