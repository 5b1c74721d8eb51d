use Rattle.fb_sim_machine.proofs.lemmas.OpenIs.{opened_more}
use Rattle.fb_sim_machine.proofs.open.open_trees.Goals as goal

pub loop-resource-preserved : goal.loop-resource-preserved
loop-resource-preserved c =
    opened_more c.args.system.now c.loop-resource.resource c.loop-resource.trees.items c.push.new.self.items c.in_ok-tree.tree
    c.loop-resource.invariant c.in_ok-push.ensures.items c.in_ok-tree.ensures.opened c.in_ok-tree.ensures.resource
