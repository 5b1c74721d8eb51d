use Rattle.fb_sim.proofs.rounds.tally.Written.and.Goals as goal

pub returns : goal.returns
returns c = λ i. record { bytes = c.saturating_add.ensures i; lines = c.saturating_add-2.ensures i }
