use Rattle.std.proofs.lemmas.Bool.{false≢true}
use Rattle.fb_inspect.proofs.walk.is_for_steps.Goals as goal

pub returns-in-Divide-clause-steps : goal.returns-in-Divide-clause-steps
returns-in-Divide-clause-steps c = λ yes. absurd (false≢true yes)
