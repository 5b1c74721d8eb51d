use Rattle.fb_sim.proofs.rounds.join_texts.joined_text.Goals as goal

pub returns : goal.returns
returns c = λ i form lists h. c.in_ok-join_all.ensures i form lists h (c.in_ok-rests.ensures i form lists h)
