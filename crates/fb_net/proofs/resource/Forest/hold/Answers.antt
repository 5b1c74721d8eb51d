use Rattle.fb_net.proofs.lemmas.values.HeldCopyAlone.{held_changes}
use Rattle.fb_net.proofs.resource.Forest.hold.Goals as goal

pub returns : goal.returns
returns c =
    held_changes c.args.system.now c.facts.ensures.accepted c.facts.ensures.numbered c.args.self.now c.args.output c.args.value _ c.requires c.set.ensures
