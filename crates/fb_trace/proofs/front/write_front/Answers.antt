use Rattle.fb_types.proofs.Common.{◌-◌, ◌++◌, length, take, drop, sym, ap, subst, ◌∙◌, arith, length-take, take-take, Appends, Appends-trans}
use lib.Seq.{take-add}
use Rattle.fb_trace.proofs.front.write_front.Goals as goal

pub loop-taken-preserved : goal.loop-taken-preserved
loop-taken-preserved g c =
    let taken = c.loop-taken.taken in
    let count = c.in-Ok.count in
    let bytes = c.args.bytes.now in
    let before = c.loop-taken.invariant in
    let fits = c.in-Ok.ensures.bound in
    let most = length-take (length bytes - taken) (drop taken bytes) in
    let joined = ap (λ l. take taken bytes ++ l) (take-take count (length bytes - taken) (drop taken bytes) (omega arith)) ∙ sym (take-add taken count bytes) in
    (omega arith, subst (Appends _ _) joined (Appends-trans _ _ _ _ _ before.1 c.in-Ok.ensures.bytes))
