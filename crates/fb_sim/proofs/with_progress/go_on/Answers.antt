use Rattle.fb_sim.proofs.lemmas.Common.{Err, refl, sym, subst, GoesOn, RunError}
use Rattle.fb_sim.proofs.lemmas.runs.LaterTicks.{goes_short, goes_well}
use Rattle.fb_sim.proofs.with_progress.go_on.Goals as goal

pub returns-in-Ok : goal.returns-in-Ok
returns-in-Ok g c =
    goes_well c.args.simulation.now c.go_on.new.self c.args.to (g.W.Write.contents c.args.out.now) (g.W.Write.contents c.go_on.new.out) c.args.tally.now c.with.result c.in-Ok.outcome c.in-Ok.written
    c.in-Ok.ensures c.with.ensures

pub returns-in-Err : goal.returns-in-Err
returns-in-Err g c =
    let s = c.args.simulation.now in
    let t = c.go_on.new.self in
    let old = g.W.Write.contents c.args.out.now in
    let new = g.W.Write.contents c.go_on.new.out in
    let n = c.args.tally.now in
    subst (λ (e : RunError). GoesOn s t c.args.to old new n n (Err e)) (sym c.with_written.ensures) (goes_short s t c.args.to old new n n c.in-Err.error c.in-Err.ensures refl)
