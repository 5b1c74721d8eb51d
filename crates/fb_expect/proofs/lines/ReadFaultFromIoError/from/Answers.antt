use Rattle.std.proofs.Common.{refl, rules}
use Rattle.fb_expect.proofs.lines.ReadFaultFromIoError.from.Goals as goal

pub returns-then-eq : goal.returns-then-eq
returns-then-eq c = record { memory = λ _. refl; read = λ other. absurd (other (search rules)) }
