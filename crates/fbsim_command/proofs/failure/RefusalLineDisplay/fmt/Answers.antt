use Rattle.std.proofs.Common.{List, ℕ, sym, ap, subst}
use Rattle.std.specs.Fmt.{HasWritten}
use Rattle.fbsim_command.specs.Failures.{refusal_text}
use Rattle.fbsim_command.proofs.failure.RefusalLineDisplay.fmt.Goals as goal

pub returns-in-Numbered-clause-writes : goal.returns-in-Numbered-clause-writes
returns-in-Numbered-clause-writes g c = λ plain ok.
    subst (λ (t : List ℕ). HasWritten g.W.Write.write_str_gives c.args.f.now t c.write.new.self) (sym (ap refusal_text c.in-Numbered.is)) (c.write.ensures.writes plain ok)
