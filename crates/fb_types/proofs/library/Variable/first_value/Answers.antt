use Rattle.fb_types.proofs.Common.{Option, sym, ap, initial_of, Value}
use Rattle.fb_types.proofs.library.Variable.first_value.Goals as goal

pub returns-in-Some-default : goal.returns-in-Some-default
returns-in-Some-default c = ap (λ (o : Option Value). initial_of (record c.args.self.now { initial = o })) (sym c.in-Some-default.is-0)
