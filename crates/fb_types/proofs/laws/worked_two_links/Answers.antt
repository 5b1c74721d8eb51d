use Rattle.fb_types.proofs.lemmas.examples.TwoLinks.{two-links-trace}
use Rattle.fb_types.proofs.laws.worked_two_links.Goals as goal

pub returns : goal.returns
returns c = two-links-trace
