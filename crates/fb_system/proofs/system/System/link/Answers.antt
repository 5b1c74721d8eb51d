use Rattle.fb_types.proofs.Common.{◌∙◌, ap, ℕ, Option, unwrap_or}
use Rattle.fb_system.proofs.lemmas.inputs.TablesOfInputs.{link_seen}
use Rattle.fb_system.proofs.system.System.link.Goals as goal

pub returns : goal.returns
returns c =
    c.unwrap_or.ensures ∙ ap (λ (o : Option ℕ). unwrap_or o 0) (c.between.ensures ∙ link_seen _ _ _ _ _ c.self.invariant.tables c.deref.ensures c.self.view_is c.requires.from c.requires.to)
