use Rattle.std.proofs.Common.{sym, ◌∙◌}
use Rattle.fb_net.proofs.lemmas.opening.Roots.{all_rooted, no_roots, root_more, root_skipped}
use Rattle.fb_net.proofs.opening.roots.roots_of.Goals as goal
use Rattle.fb_net.proofs.opening.roots.roots_of.Goals.{then-resource+in_ok-push-2, else-resource}

pub loop-instance-init : goal.loop-instance-init
loop-instance-init c = rw (c.new-indexes.ensures, c.new-instances.ensures) (no_roots c.args.system.now c.args.resource c.top-all.result.now)

pub loop-instance-preserved : goal.loop-instance-preserved
loop-instance-preserved c =
    elim c.if-resource.branch [
      | then-resource+in_ok-push-2 w ↦
          rw w.instances-is
          (root_more c.args.system.now c.args.resource c.loop-instance.instance-index c.top-all.result.now c.loop-instance.indexes c.loop-instance.instances _ _ _ c.loop-instance.invariant
          c.loop-instance-test.true c.len.ensures c.in_ok-push.ensures.ok (sym c.resource.ensures ∙ w.if-resource.true) w.in_ok-push-2.ensures.ok)
      | else-resource w ↦
          rw w.instances-is
          (root_skipped c.args.system.now c.args.resource c.loop-instance.instance-index c.top-all.result.now c.loop-instance.indexes c.loop-instance.instances _ _ c.loop-instance.invariant
          c.loop-instance-test.true c.in_ok-push.ensures.ok (λ e. w.if-resource.false (c.resource.ensures ∙ e)))
    ]

pub returns : goal.returns
returns c =
    all_rooted c.args.system.now c.args.resource c.loop-instance.instance-index c.top-all.result.now c.loop-instance.indexes c.loop-instance.instances c.top-all.ensures
    c.loop-instance-test.false c.loop-instance.invariant
