use Rattle.fb_net.proofs.lemmas.blocks.OtherBlocks as others
use Rattle.fb_net.proofs.laws.others_stay.Goals as goal

pub returns : goal.returns
returns c = others.others_stay
