use Rattle.std.proofs.Common.{◌∙◌}
use Rattle.fb_net.proofs.lemmas.opening.OpeningCopies.{instance_covered, instance_skipped}
use Rattle.fb_net.proofs.opening.copies.held_of.Goals as goal
use Rattle.fb_net.proofs.opening.copies.held_of.Goals.{then-resource+in_ok-hold_sources+in_ok-hold_sources-2, else-resource}

pub loop-instance-preserved : goal.loop-instance-preserved
loop-instance-preserved c =
    elim c.if-resource.branch [
      | then-resource+in_ok-hold_sources+in_ok-hold_sources-2 w ↦
          rw w.held-is
          (instance_covered c.args.system.now c.args.resource c.loop-instance.instance c.loop-instance.held w.hold_sources.new.held w.hold_sources-then-resource.new.held c.loop-instance.invariant
          w.in_ok-hold_sources.ensures.covered w.in_ok-hold_sources.ensures.kept w.in_ok-hold_sources-2.ensures.covered w.in_ok-hold_sources-2.ensures.kept)
      | else-resource w ↦
          rw w.held-is
          (instance_skipped c.args.system.now c.args.resource c.loop-instance.instance c.loop-instance.held c.loop-instance.invariant
          (λ e. w.if-resource.false (c.resource.ensures ∙ e)))
    ]
