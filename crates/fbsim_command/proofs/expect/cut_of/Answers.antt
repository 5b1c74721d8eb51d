use Rattle.fb_types.proofs.Common.{Bool, sym, ap, if◌then◌else◌}
use Rattle.fb_expect.specs.declared.judging.Cut.TheVariants as cut
use Rattle.fbsim_command.proofs.expect.cut_of.Goals as goal

pub returns-then-expect : goal.returns-then-expect
returns-then-expect c = ap (λ (b : Bool). if b then cut.Allowed else cut.Refused) (sym c.if-expect.true)

pub returns-else-expect : goal.returns-else-expect
returns-else-expect c = ap (λ (b : Bool). if b then cut.Allowed else cut.Refused) (sym c.if-expect.false)
