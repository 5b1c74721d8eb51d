use Rattle.fb_types.proofs.lemmas.examples.Calc.{counting-stops, counting-trace}
use Rattle.fb_types.proofs.lemmas.examples.Runs.{counts-in-five, stops-in-four}
use Rattle.fb_types.proofs.laws.worked_counting_loop.Goals as goal

pub returns : goal.returns
returns c = record { counts = counts-in-five; stops = stops-in-four; trace = counting-trace; stopped_trace = counting-stops }
