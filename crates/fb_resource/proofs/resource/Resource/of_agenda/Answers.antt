use Rattle.fb_resource.proofs.lemmas.Fresh.{fresh}
use Rattle.fb_resource.proofs.resource.Resource.of_agenda.Goals as goal

pub returns : goal.returns
returns c =
    fresh c.args.system.now c.args.number c.in_ok-tree.tree c.args.agenda c.in_ok-sent.sent c.in_ok-tree.ensures.resource c.requires.agenda
    c.facts.ensures.accepted c.in_ok-tree.ensures.opened c.in_ok-sent.ensures.counts c.requires.named c.in_ok-sent.ensures.counted
