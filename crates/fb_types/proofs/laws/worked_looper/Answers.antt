use Rattle.fb_types.proofs.lemmas.examples.Looper.{looper-trace}
use Rattle.fb_types.proofs.lemmas.examples.Runs.{emits-four-times}
use Rattle.fb_types.proofs.laws.worked_looper.Goals as goal

pub returns : goal.returns
returns c = record { chart = emits-four-times; trace = looper-trace }
