use Rattle.fb_types.proofs.Common.{[], ◌∷◌, length, length-append, refl, ◌∙◌, ap, arith, slice_get, slice_get_read}
use Rattle.fb_ecc.proofs.lemmas.Programs.{guards_more}
use Rattle.fb_ecc.proofs.program.guards.Goals as goal

pub loop-transition-preserved : goal.loop-transition-preserved
loop-transition-preserved c =
    let xs = c.args.transitions.now in
    let inv = c.loop-transition.invariant in
    let x = c.transition-item.result in
    let there = slice_get_read xs (length xs) c.loop-transition.transition-index x refl c.loop-transition-test.true c.transition-item.is in
    let pushed = c.in_ok-push.ensures.ok in
    record {
      count = let n = ap length pushed in let m = length-append c.loop-transition.guards (c.in_ok-guard.field-0 ∷ []) in let k = inv.count in omega arith;
      are = guards_more c.args.scope.now.layout.now xs c.loop-transition.guards c.push.new.self x c.in_ok-guard.field-0 inv.are pushed (ap (slice_get xs) inv.count ∙ there) c.in_ok-guard.ensures;
    }
