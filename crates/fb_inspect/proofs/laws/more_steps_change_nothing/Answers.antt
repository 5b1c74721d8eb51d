use Rattle.fb_inspect.proofs.lemmas.reactions.FewerSteps.{reaction_begins}
use Rattle.fb_inspect.proofs.lemmas.reactions.MoreReactions.{reaction_longer}
use Rattle.fb_inspect.proofs.laws.more_steps_change_nothing.Goals as goal

pub returns : goal.returns
returns c = record {
  same = λ t e p q stop ps more shows goes. reaction_longer more t e p stop q ps shows goes;
  begins = λ t e p q u s r ps qs more one other. reaction_begins more t e p s r q u ps qs one other;
}
