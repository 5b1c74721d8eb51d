use Rattle.fb_types.proofs.Common.{Option, sym, ap, ◌∙◌, declared_right, Value}
use Rattle.fb_types.proofs.library.Variable.is_declared_right.Goals as goal

pub returns-in-Some : goal.returns-in-Some
returns-in-Some c = c.holds.ensures ∙ ap (λ (o : Option Value). declared_right (record c.args.self.now { initial = o })) (sym c.in-Some.is)
