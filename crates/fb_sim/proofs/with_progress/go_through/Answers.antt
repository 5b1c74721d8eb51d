use Rattle.fb_sim.proofs.lemmas.Common.{Result, Ok, Err, sym, subst, Outcome, RunError, Comes}
use Rattle.fb_sim.specs.Reports.{Fails, HasReported}
use Rattle.fb_sim.proofs.lemmas.runs.Ending.{ends_short, ends_well, reports_short, reports_well}
use Rattle.fb_sim.proofs.with_progress.go_through.Goals as goal

pub returns-in-Ok-finish-clause-ends : goal.returns-in-Ok-finish-clause-ends
returns-in-Ok-finish-clause-ends g c =
    let i = c.args.simulation.inputs in
    let o = c.args.options in
    let t = c.go_far-end.new.simulation in
    let m = c.go_far-end.result.1 in
    let first = g.W.Write.contents c.args.out.now in
    let mid = g.W.Write.contents c.go_far-end.new.out in
    let quiet = g.E.Write.contents c.args.err.now in
    let err = g.E.Write.contents c.go_far-end.new.err in
    let comes : Comes i o t first mid quiet err 100 m (Ok c.in-Ok.field-0) = subst (λ (r : Result Outcome RunError). Comes i o t first mid quiet err 100 m r) c.in-Ok.is c.go_far-end.ensures in
    ends_well i o t first mid quiet err m c.in-Ok.field-0 comes (g.W.Write.contents c.finish.new.out) c.in-Ok-finish.outcome c.in-Ok-finish.ensures

pub returns-in-Ok-finish-clause-reported : goal.returns-in-Ok-finish-clause-reported
returns-in-Ok-finish-clause-reported g c =
    let i = c.args.simulation.inputs in
    let o = c.args.options in
    let t = c.go_far-end.new.simulation in
    let m = c.go_far-end.result.1 in
    let first = g.W.Write.contents c.args.out.now in
    let mid = g.W.Write.contents c.go_far-end.new.out in
    let quiet = g.E.Write.contents c.args.err.now in
    let err = g.E.Write.contents c.go_far-end.new.err in
    let comes : Comes i o t first mid quiet err 100 m (Ok c.in-Ok.field-0) = subst (λ (r : Result Outcome RunError). Comes i o t first mid quiet err 100 m r) c.in-Ok.is c.go_far-end.ensures in
    reports_well i o t first mid quiet err m c.in-Ok.field-0 comes (g.W.Write.contents c.finish.new.out) c.in-Ok-finish.outcome c.in-Ok-finish.ensures

pub returns-in-Err-finish-clause-ends : goal.returns-in-Err-finish-clause-ends
returns-in-Err-finish-clause-ends g c =
    let i = c.args.simulation.inputs in
    let o = c.args.options in
    let t = c.go_far-end.new.simulation in
    let m = c.go_far-end.result.1 in
    let first = g.W.Write.contents c.args.out.now in
    let mid = g.W.Write.contents c.go_far-end.new.out in
    let new = g.W.Write.contents c.finish.new.out in
    let quiet = g.E.Write.contents c.args.err.now in
    let err = g.E.Write.contents c.go_far-end.new.err in
    let comes : Comes i o t first mid quiet err 100 m (Ok c.in-Ok.field-0) = subst (λ (r : Result Outcome RunError). Comes i o t first mid quiet err 100 m r) c.in-Ok.is c.go_far-end.ensures in
    subst (λ (e : RunError). Fails i o first new e) (sym c.with_written.ensures) (ends_short i o t first mid quiet err m c.in-Ok.field-0 comes new c.in-Err-finish.error c.in-Err-finish.ensures)

pub returns-in-Err-finish-clause-reported : goal.returns-in-Err-finish-clause-reported
returns-in-Err-finish-clause-reported g c =
    let i = c.args.simulation.inputs in
    let o = c.args.options in
    let t = c.go_far-end.new.simulation in
    let m = c.go_far-end.result.1 in
    let first = g.W.Write.contents c.args.out.now in
    let mid = g.W.Write.contents c.go_far-end.new.out in
    let quiet = g.E.Write.contents c.args.err.now in
    let err = g.E.Write.contents c.go_far-end.new.err in
    let comes : Comes i o t first mid quiet err 100 m (Ok c.in-Ok.field-0) = subst (λ (r : Result Outcome RunError). Comes i o t first mid quiet err 100 m r) c.in-Ok.is c.go_far-end.ensures in
    let new = g.W.Write.contents c.finish.new.out in
    subst (λ (e : RunError). HasReported i o first new quiet err m.is_heard (Err e)) (sym c.with_written.ensures) (reports_short i o t first mid quiet err m c.in-Ok.field-0 comes new c.in-Err-finish.error c.in-Err-finish.ensures)
