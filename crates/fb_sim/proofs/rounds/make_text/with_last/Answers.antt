use Rattle.fb_sim.proofs.lemmas.Common.{ap, ◌∙◌, all_bytes}
use Rattle.fb_sim.proofs.lemmas.text.Texts.{all_bytes-snoc}
use Rattle.fb_sim.proofs.rounds.make_text.with_last.Goals as goal

pub returns : goal.returns
returns c = rw (c.in_ok-texts.was, c.in_ok-last.was) (ap all_bytes c.in_ok-push.ensures.items ∙ all_bytes-snoc c.in_ok-texts.texts.items c.in_ok-last.last)
