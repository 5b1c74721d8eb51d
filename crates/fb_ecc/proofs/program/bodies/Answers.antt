use Rattle.fb_types.proofs.Common.{[], ◌∷◌, length, length-append, refl, ◌∙◌, ap, arith, slice_get, slice_get_read}
use Rattle.fb_ecc.proofs.lemmas.Programs.{bodies_more}
use Rattle.fb_ecc.proofs.program.bodies.Goals as goal

pub loop-algorithm-preserved : goal.loop-algorithm-preserved
loop-algorithm-preserved c =
    let xs = c.args.algorithms.now in
    let inv = c.loop-algorithm.invariant in
    let x = c.algorithm-item.result in
    let there = slice_get_read xs (length xs) c.loop-algorithm.algorithm-index x refl c.loop-algorithm-test.true c.algorithm-item.is in
    let pushed = c.in_ok-push.ensures.ok in
    record {
      count = let n = ap length pushed in let m = length-append c.loop-algorithm.bodies (c.in_ok-body.field-0 ∷ []) in let k = inv.count in omega arith;
      are = bodies_more c.args.scope.now.layout.now xs c.loop-algorithm.bodies c.push.new.self x c.in_ok-body.field-0 inv.are pushed (ap (slice_get xs) inv.count ∙ there) c.in_ok-body.ensures;
    }
