use Rattle.std.proofs.Common.{◌+◌, ◌-◌, length}
use Rattle.fb_system.specs.Layers.{around, layer}
use Rattle.fb_system.proofs.lemmas.rows.LayoutSteps.{AreLaid, left}
use Rattle.fb_system.proofs.layout.+lay_out.Given as goal

abbrev pub decreases-lay_out : goal.decreases-lay_out
decreases-lay_out l = l.depth

abbrev pub invariant-loop-index : goal.invariant-loop-index
invariant-loop-index l =
    AreLaid (layer l.depth l.library l.numbers (around l.site.outside) l.first l.site.network.now l.site.types.now)
    (left (l.depth - 1) l.library l.numbers (around l.site.outside) (l.first + length l.layer.rows.items) l.index l.instances l.site.types.now)
    l.index l.layer.rows.items l.layer.numbers
