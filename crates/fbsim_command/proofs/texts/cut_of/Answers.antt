use Rattle.fb_types.proofs.Common.{Bool, sym, ap, if◌then◌else◌}
use Rattle.fb_wave.specs.declared.truncation.Cut.TheVariants as cut
use Rattle.fbsim_command.proofs.texts.cut_of.Goals as goal

pub returns-then-is_cut : goal.returns-then-is_cut
returns-then-is_cut c = ap (λ (b : Bool). if b then cut.Allowed else cut.Refused) (sym c.if-is_cut.true)

pub returns-else-is_cut : goal.returns-else-is_cut
returns-else-is_cut c = ap (λ (b : Bool). if b then cut.Allowed else cut.Refused) (sym c.if-is_cut.false)
