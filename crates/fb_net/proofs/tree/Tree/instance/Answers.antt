use Rattle.fb_net.proofs.lemmas.Common.{subst, system_of, path_at, World, IsForest, Represents, Forest}
use Rattle.fb_net.proofs.tree.Tree.instance.Goals as goal

pub returns-clause-block : goal.returns-clause-block
returns-clause-block c =
    let i = c.args.system.now in
    let p = path_at (system_of i) c.args.instance in
    subst (λ (t : Forest). (w : World) → IsForest i t w → Represents (system_of i) p c.block.result.now (w.blocks p)) c.self.view_is c.block.ensures
