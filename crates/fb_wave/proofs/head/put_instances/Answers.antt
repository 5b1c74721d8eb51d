use Rattle.fb_wave.proofs.lemmas.Common.{◌<◌, ℕ, ◌+◌, ◌++◌, drop, length, sym, ap, ◌∙◌, arith, system_of, instances_declared, first_signal}
use Rattle.fb_wave.proofs.lemmas.Heading.{declared_on, declared_past}
use Rattle.fb_wave.proofs.head.put_instances.Goals as goal
use Rattle.fb_wave.proofs.head.put_instances.Goals.{then-resource+in_ok-height, else-resource}

pub loop-index-preserved : goal.loop-index-preserved
loop-index-preserved c =
    let sys = system_of c.args.system.now in
    let i = c.loop-index.index in
    let r = c.args.resource in
    let depth = c.loop-index.depth in
    let text = c.loop-index.text.items in
    let within : i < length sys.paths = omega arith in
    elim c.if-resource.branch [
      | then-resource+in_ok-height w ↦
          rw (w.text-is, w.depth-is)
          (ap (λ (k : ℕ). w.put_instance.new.text.items ++ instances_declared sys r k (first_signal sys (i + 1)) (drop (i + 1) sys.paths)) w.in_ok-height.ensures.height
          ∙ declared_on sys r depth i text w.put_instance.new.text.items _ within (sym c.resource.ensures ∙ w.if-resource.true)
          w.in_ok-height.ensures.text
          c.loop-index.invariant)
      | else-resource w ↦
          rw (w.text-is, w.depth-is)
          (declared_past sys r depth i text _ within (λ e. w.if-resource.false (c.resource.ensures ∙ e)) c.loop-index.invariant)
    ]
