use Rattle.fb_deploy_positions.proofs.lemmas.Follows.{follows_reader}
use Rattle.fb_deploy_positions.proofs.laws.follows_reader.Goals as goal

pub returns : goal.returns
returns c = follows_reader
