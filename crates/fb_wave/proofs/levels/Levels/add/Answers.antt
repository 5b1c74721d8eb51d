use Rattle.std.proofs.Common.{◌≡◌, ℕ, ◌+◌, ◌-◌, refl, arith}
use Rattle.fb_wave.specs.declared.levels.Levels as code
use Rattle.fb_wave.proofs.lemmas.Noting.{counted_as, one_more_signal}
use Rattle.fb_wave.proofs.levels.Levels.add.Goals as goal

pub loop-left-preserved : goal.loop-left-preserved
loop-left-preserved c =
    let before = c.loop-left.invariant in
    let within = before.left in
    let old : code.Levels = c.loop-left.self in
    record {
      left = omega (arith, within);
      levels = λ n are.
          let so_far : ℕ = n + (c.args.count - c.loop-left.left) in
          let same : so_far + 1 ≡ n + (c.args.count - (c.loop-left.left - 1)) = omega (arith, within) in
          counted_as _ _ _ same (one_more_signal so_far old _ (before.levels n are) c.in_ok-push.ensures.items refl);
    }
