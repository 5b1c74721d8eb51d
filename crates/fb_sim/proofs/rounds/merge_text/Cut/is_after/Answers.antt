use Rattle.fb_sim.proofs.lemmas.text.MergedText.{cut_after, cut_at}
use Rattle.fb_sim.proofs.rounds.merge_text.Cut.is_after.Goals as goal

pub returns-then-index-self : goal.returns-then-index-self
returns-then-index-self c = cut_after c.args.self.now c.args.index c.args.tick c.if-index-self.true

pub returns-else-index-self : goal.returns-else-index-self
returns-else-index-self c = cut_at c.args.self.now c.args.index c.args.tick c.if-index-self.false
