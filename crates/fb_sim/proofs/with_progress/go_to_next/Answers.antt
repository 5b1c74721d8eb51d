use Rattle.fb_sim.proofs.lemmas.Common.{◌≡◌, ◌∙◌, ◌≤◌, ◌<◌, ◌++◌, ℕ, Bool, Ok, Err, suc, sym, ap, subst, arith, Outcome, End, Stop, Comes, GoesOn, hundredth}
use Rattle.std.proofs.Common.{add-one}
use Rattle.fb_sim.specs.Reports.{Hears, report_text}
use Rattle.fb_sim.proofs.lemmas.rounds.HundredthSteps.{came_failed, came_more, came_same, came_stop, goes_here, hears_more, hears_no_more, same_view}
use Rattle.fb_sim.proofs.with_progress.go_to_next.Goals as goal

pub returns-then-tick-before : goal.returns-then-tick-before
returns-then-tick-before g c first quiet came =
    let i = c.args.simulation.now.inputs in
    let o = c.args.options in
    let out = g.W.Write.contents c.args.out.now in
    let err = g.E.Write.contents c.args.err.now in
    let more = add-one c.args.count in
    let tick : c.hundredth-tick.result ≡ hundredth o.horizon (suc c.args.count) = c.hundredth-tick.ensures.value ∙ ap (hundredth o.horizon) more in
    let before : c.hundredth-before.result ≡ hundredth o.horizon c.args.count = c.hundredth-before.ensures.value in
    let late : hundredth o.horizon (suc c.args.count) ≤ hundredth o.horizon c.args.count =
    subst (λ (k : ℕ). k ≤ hundredth o.horizon c.args.count) tick (subst (λ (k : ℕ). c.hundredth-tick.result ≤ k) before c.if-tick-before.true) in
    let stays = came_same i o first out quiet err c.args.tally.now c.args.count came late in
    let at = c.requires.at ∙ same_view i o first out quiet err c.args.tally.now c.args.count came late in
    subst (λ (k : ℕ). Comes i o c.args.simulation.now first out quiet err k c.args.tally.now (Ok (End (hundredth o.horizon k)))) (sym more) (stays, at)

pub returns-then-tally : goal.returns-then-tally
returns-then-tally g c first quiet came =
    let i = c.args.simulation.now.inputs in
    let o = c.args.options in
    let out = g.W.Write.contents c.args.out.now in
    let err = g.E.Write.contents c.args.err.now in
    let mid = g.W.Write.contents c.go_on.new.out in
    let t = c.go_on.new.simulation in
    let m = c.go_on.new.tally in
    let n = c.args.tally.now in
    let k = c.in-Ok-End.field-0-0 in
    let more = add-one c.args.count in
    let tick : c.hundredth-tick.result ≡ hundredth o.horizon (suc c.args.count) = c.hundredth-tick.ensures.value ∙ ap (hundredth o.horizon) more in
    let before : c.hundredth-before.result ≡ hundredth o.horizon c.args.count = c.hundredth-before.ensures.value in
    let later : hundredth o.horizon c.args.count < hundredth o.horizon (suc c.args.count) =
    subst (λ (k : ℕ). hundredth o.horizon c.args.count < k) tick (subst (λ (k : ℕ). k < c.hundredth-tick.result) before c.if-tick-before.false) in
    let went : GoesOn c.args.simulation.now t c.hundredth-tick.result out mid n m (Ok (End k)) =
    subst (λ (x : Outcome). GoesOn c.args.simulation.now t c.hundredth-tick.result out mid n m (Ok x)) c.in-Ok-End.field-0-is c.in-Ok-End.ensures in
    let goes = goes_here i o first out quiet err n c.args.count came c.args.simulation.now t c.hundredth-tick.result mid m (Ok (End k)) c.requires.at tick went in
    let new = g.E.Write.contents c.report-tally.new.err in
    let heard = c.report-tally.result in
    let reported : Hears heard err new (report_text o.horizon (hundredth o.horizon (suc c.args.count)) m.lines) =
    subst (λ (k : ℕ). Hears heard err new (report_text o.horizon k m.lines)) tick c.report-tally.ensures in
    let hears = hears_more i o first out quiet err n c.args.count came mid t m k heard new goes c.if-tally.true reported in
    let comes = came_more i o first out quiet err n c.args.count came t mid m k heard new later goes hears in
    subst (λ (j : ℕ). Comes i o t first mid quiet new j (record m { is_heard = heard }) (Ok (End (hundredth o.horizon j)))) (sym more) comes

pub returns-else-tally : goal.returns-else-tally
returns-else-tally g c first quiet came =
    let i = c.args.simulation.now.inputs in
    let o = c.args.options in
    let out = g.W.Write.contents c.args.out.now in
    let err = g.E.Write.contents c.args.err.now in
    let mid = g.W.Write.contents c.go_on.new.out in
    let t = c.go_on.new.simulation in
    let m = c.go_on.new.tally in
    let n = c.args.tally.now in
    let k = c.in-Ok-End.field-0-0 in
    let more = add-one c.args.count in
    let tick : c.hundredth-tick.result ≡ hundredth o.horizon (suc c.args.count) = c.hundredth-tick.ensures.value ∙ ap (hundredth o.horizon) more in
    let before : c.hundredth-before.result ≡ hundredth o.horizon c.args.count = c.hundredth-before.ensures.value in
    let later : hundredth o.horizon c.args.count < hundredth o.horizon (suc c.args.count) =
    subst (λ (k : ℕ). hundredth o.horizon c.args.count < k) tick (subst (λ (k : ℕ). k < c.hundredth-tick.result) before c.if-tick-before.false) in
    let went : GoesOn c.args.simulation.now t c.hundredth-tick.result out mid n m (Ok (End k)) =
    subst (λ (x : Outcome). GoesOn c.args.simulation.now t c.hundredth-tick.result out mid n m (Ok x)) c.in-Ok-End.field-0-is c.in-Ok-End.ensures in
    let goes = goes_here i o first out quiet err n c.args.count came c.args.simulation.now t c.hundredth-tick.result mid m (Ok (End k)) c.requires.at tick went in
    let text = report_text o.horizon (hundredth o.horizon (suc c.args.count)) m.lines in
    let hears : Hears m.is_heard quiet err (came.reports ++ text) =
    subst (λ (b : Bool). Hears b quiet err (came.reports ++ text)) (sym c.if-tally.false) (hears_no_more i o first out quiet err n c.args.count came mid t m k goes c.if-tally.false) in
    let comes = came_more i o first out quiet err n c.args.count came t mid m k m.is_heard err later goes hears in
    subst (λ (j : ℕ). Comes i o t first mid quiet err j m (Ok (End (hundredth o.horizon j)))) (sym more) comes

pub returns-in-Ok-Stop : goal.returns-in-Ok-Stop
returns-in-Ok-Stop g c first quiet came =
    let i = c.args.simulation.now.inputs in
    let o = c.args.options in
    let out = g.W.Write.contents c.args.out.now in
    let err = g.E.Write.contents c.args.err.now in
    let mid = g.W.Write.contents c.go_on.new.out in
    let t = c.go_on.new.simulation in
    let m = c.go_on.new.tally in
    let tick : c.hundredth-tick.result ≡ hundredth o.horizon (suc c.args.count) = c.hundredth-tick.ensures.value ∙ ap (hundredth o.horizon) (add-one c.args.count) in
    let early : hundredth o.horizon (suc c.args.count) ≤ o.horizon = subst (λ (k : ℕ). k ≤ o.horizon) tick c.hundredth-tick.ensures.early in
    let went : GoesOn c.args.simulation.now t c.hundredth-tick.result out mid c.args.tally.now m (Ok (Stop c.in-Ok-Stop.mark)) =
    subst (λ (x : Outcome). GoesOn c.args.simulation.now t c.hundredth-tick.result out mid c.args.tally.now m (Ok x)) c.in-Ok-Stop.field-0-is c.in-Ok-Stop.ensures in
    let goes = goes_here i o first out quiet err c.args.tally.now c.args.count came c.args.simulation.now t c.hundredth-tick.result mid m (Ok (Stop c.in-Ok-Stop.mark)) c.requires.at tick went in
    came_stop i o first out quiet err c.args.tally.now c.args.count came (omega (arith, c.requires.count)) early t mid m c.in-Ok-Stop.mark goes

pub returns-in-Err : goal.returns-in-Err
returns-in-Err g c first quiet came =
    let i = c.args.simulation.now.inputs in
    let o = c.args.options in
    let out = g.W.Write.contents c.args.out.now in
    let err = g.E.Write.contents c.args.err.now in
    let mid = g.W.Write.contents c.go_on.new.out in
    let t = c.go_on.new.simulation in
    let m = c.go_on.new.tally in
    let tick : c.hundredth-tick.result ≡ hundredth o.horizon (suc c.args.count) = c.hundredth-tick.ensures.value ∙ ap (hundredth o.horizon) (add-one c.args.count) in
    let early : hundredth o.horizon (suc c.args.count) ≤ o.horizon = subst (λ (k : ℕ). k ≤ o.horizon) tick c.hundredth-tick.ensures.early in
    let goes = goes_here i o first out quiet err c.args.tally.now c.args.count came c.args.simulation.now t c.hundredth-tick.result mid m (Err c.in-Err.error) c.requires.at tick c.in-Err.ensures in
    came_failed i o first out quiet err c.args.tally.now c.args.count came c.requires.good (omega (arith, c.requires.count)) early t mid m c.in-Err.error goes
