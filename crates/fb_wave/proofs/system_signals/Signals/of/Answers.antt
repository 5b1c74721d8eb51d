use Rattle.fb_wave.proofs.system_signals.Signals.of.Goals as goal

pub returns-clause-signals : goal.returns-clause-signals
returns-clause-signals c = record { firsts = c.in_ok-firsts.ensures.firsts; counted = c.in_ok-firsts.ensures.levels.counted }
