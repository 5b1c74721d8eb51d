use Rattle.std.proofs.Common.{sym, ap}
use Rattle.fb_inspect.specs.declared.walk.Extent.{Extent}
use Rattle.fbsim_command.specs.Covering as spec
use Rattle.fbsim_command.proofs.coverage.cut_count.Goals as goal

pub returns-in-Whole : goal.returns-in-Whole
returns-in-Whole c = sym (ap (λ (e : Extent). spec.cut_count e c.args.cut) c.in-Whole.is)

pub returns-in-CutOff : goal.returns-in-CutOff
returns-in-CutOff c = sym (ap (λ (e : Extent). spec.cut_count e c.args.cut) c.in-CutOff.is)
