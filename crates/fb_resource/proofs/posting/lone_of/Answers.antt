use Rattle.fb_resource.proofs.lemmas.Common.{[], ◌∷◌, sym, ◌∙◌, ap, arith, Out}
use Rattle.fb_resource.proofs.lemmas.Lone.{lone_out}
use Rattle.fb_resource.proofs.posting.lone_of.Goals as goal

pub returns-in-Local-clause-alone : goal.returns-in-Local-clause-alone
returns-in-Local-clause-alone c =
    sym c.as_slice.ensures.value
    ∙ lone_out c.as_slice.result.now c.only-item.result _ (omega (arith, c.in-len1.len_at_least, c.in-len1.len_below)) c.only-item.is
    ∙ ap (λ (o : Out). o ∷ []) c.in-Local.is

pub returns-in-Local-clause-keeps : goal.returns-in-Local-clause-keeps
returns-in-Local-clause-keeps c = c.in-Keep.is
