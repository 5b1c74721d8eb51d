use Rattle.fb_types.proofs.Common.{Option, sym, ◌∙◌, ap, Name}
use Rattle.fb_lint.specs.Charts as spec
use Rattle.fb_lint.proofs.charts.is_met_with.Goals as goal

pub returns-in-Some : goal.returns-in-Some
returns-in-Some c = c.is_named.ensures ∙ sym (ap (λ (o : Option Name). spec.is_met_with o c.args.later.now) c.in-Some.is)

pub returns-in-None : goal.returns-in-None
returns-in-None c = sym (ap (λ (o : Option Name). spec.is_met_with o c.args.later.now) c.in-None.is)
