use Rattle.std.proofs.Common.{◌<◌, arith}
use Rattle.std.proofs.lemmas.Bool.{OnFalse_from, leb-false}
use Rattle.fb_resource.proofs.resource.Resource.is_idle.Goals as goal

pub returns-in-Some-clause-busy : goal.returns-in-Some-clause-busy
returns-in-Some-clause-busy c =
    OnFalse_from _ _ (λ e.
    let w = c.in-Some.ensures.some.waits in
    let at = w.1 in
    let low = leb-false c.args.to c.in-Some.tick e in
    let below : w.0.tick < c.args.to = omega (arith, at, low) in
    (w.0, below, w.2))
