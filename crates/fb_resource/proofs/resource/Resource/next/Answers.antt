use Rattle.fb_resource.proofs.resource.Resource.next.Goals as goal

pub returns-clause-some : goal.returns-clause-some
returns-clause-some c = c.next.ensures.some

pub returns-clause-none : goal.returns-clause-none
returns-clause-none c = c.next.ensures.none
