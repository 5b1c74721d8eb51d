use Rattle.std.proofs.Common.{sym, ap}
use Rattle.fb_wave.specs.CutOff.{is_cut}
use Rattle.fb_wave.specs.declared.truncation.Cut.{Cut}
use Rattle.fb_wave.proofs.truncation.is_cut.Goals as goal

pub returns-in-Refused : goal.returns-in-Refused
returns-in-Refused c = ap (λ (cut : Cut). is_cut cut c.args.line.now) (sym c.in-Refused.is)
