use Rattle.std.proofs.Common.{sym, ◌∙◌, ap}
use Rattle.fb_lint.specs.Networks as spec
use Rattle.fb_lint.proofs.links.is_end_in.Goals as goal

pub returns-in-Some : goal.returns-in-Some
returns-in-Some c = c.is_held.ensures ∙ sym (ap (spec.is_end_in c.args.resources.now c.args.name.now) c.in-Some.is)

pub returns-in-None : goal.returns-in-None
returns-in-None c = sym (ap (spec.is_end_in c.args.resources.now c.args.name.now) c.in-None.is)
