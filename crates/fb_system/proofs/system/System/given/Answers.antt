use Rattle.std.proofs.lemmas.Option.{slice_get-get_or}
use Rattle.fb_system.proofs.lemmas.inputs.Stimuli.{number_there, row_stands}
use Rattle.fb_system.proofs.system.System.given.Goals as goal

pub bounds-top-instance : goal.bounds-top-instance
bounds-top-instance c = number_there _ _ _ _ _ c.top.ensures c.requires.1.at

pub returns-clause-represents : goal.returns-clause-represents
returns-clause-represents c =
    λ s is. row_stands c.args.self.now s _ _ _ _ is c.top.ensures (slice_get-get_or _ _ _ (number_there _ _ _ _ _ c.top.ensures is.at))
