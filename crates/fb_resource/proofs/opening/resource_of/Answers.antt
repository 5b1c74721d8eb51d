use Rattle.fb_resource.proofs.lemmas.OpenIs.{named_resource, narrow_resource}
use Rattle.fb_resource.proofs.opening.resource_of.Goals as goal

pub overflow_cast-result : goal.overflow_cast-result
overflow_cast-result c =
    record { fits = narrow_resource c.args.system.now c.facts.ensures.accepted c.facts.ensures.limits c.args.instance c.resource.result c.resource.ensures }

pub returns-clause-named : goal.returns-clause-named
returns-clause-named c =
    named_resource c.args.system.now c.facts.ensures.accepted c.facts.ensures.limits c.args.instance c.resource.result c.resource.ensures
