use Rattle.fb_laws.proofs.lemmas.takings.GivenRows as laws
use Rattle.fb_resource.proofs.determined.rows_may_follow.Goals as goal

pub returns : goal.returns
returns c = laws.rows_may_follow
