use Rattle.fb_types.proofs.lemmas.examples.Calc.{divide-trace, range-trace}
use Rattle.fb_types.proofs.laws.worked_faults.Goals as goal

pub returns : goal.returns
returns c = record { range = range-trace; divide = divide-trace }
