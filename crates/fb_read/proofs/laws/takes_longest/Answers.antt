use Rattle.fb_read.proofs.lemmas.tokens.LongestLaws.{takes-longest}
use Rattle.fb_read.proofs.laws.takes_longest.Goals as goal

pub returns : goal.returns
returns c = takes-longest
