use Rattle.fb_types.proofs.Common.{[], List, Option, None, Some, sym, ◌∙◌, ap, option_copied, Name}
use Rattle.fb_types.specs.declared.library.EventPort.{EventPort}
use Rattle.fb_check.proofs.networks.interfaces.variables_with.Goals as goal

pub returns-in-Some : goal.returns-in-Some
returns-in-Some c =
    c.as_slice.ensures
    ∙ ap (λ (o : Option EventPort). elim o as (λ _. List Name) [ None ↦ [] | Some p ↦ p.with ]) (ap option_copied (sym c.in-Some.is) ∙ c.source_of.ensures)

pub returns-in-None : goal.returns-in-None
returns-in-None c =
    ap (λ (o : Option EventPort). elim o as (λ _. List Name) [ None ↦ [] | Some p ↦ p.with ]) (ap option_copied (sym c.in-None.is) ∙ c.source_of.ensures)
