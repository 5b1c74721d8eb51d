use Rattle.fb_sim.proofs.lemmas.Common.{◌≡◌, ◌∙◌, ◌+◌, ℕ, Ok, Err, sym, ap, subst, arith, Inputs, AreGood, SimulationView, Outcome, End, Came, Comes, hundredth, view_at}
use Rattle.fb_sim.proofs.lemmas.rounds.HundredthSteps.{at_own, came_first, comes_so, hundredth_first}
use Rattle.fb_sim.proofs.with_progress.go_far.Goals as goal

pub loop-count-init : goal.loop-count-init
loop-count-init g c = record {
  at = c.requires.first ∙ ap (view_at c.args.simulation.now.inputs c.args.options) (sym (hundredth_first c.args.options.horizon));
  came = came_first c.args.simulation.now.inputs c.args.options (g.W.Write.contents c.args.out.now) (g.E.Write.contents c.args.err.now);
}

pub go_to_next-requires-clause-good : goal.go_to_next-requires-clause-good
go_to_next-requires-clause-good g c κs w =
    subst (λ (j : Inputs). AreGood j) (sym (ap (λ (z : SimulationView). z.inputs) c.loop-count.invariant.at)) c.requires.good

pub go_to_next-requires-clause-at : goal.go_to_next-requires-clause-at
go_to_next-requires-clause-at g c κs w =
    at_own c.loop-count.simulation c.args.simulation.now.inputs c.args.options (hundredth c.args.options.horizon c.loop-count.count) c.loop-count.invariant.at

pub loop-count-preserved : goal.loop-count-preserved
loop-count-preserved g c =
    let i = c.args.simulation.now.inputs in
    let o = c.args.options in
    let first = g.W.Write.contents c.args.out.now in
    let out = g.W.Write.contents c.loop-count.out in
    let new = g.W.Write.contents c.go_to_next.new.out in
    let quiet = g.E.Write.contents c.args.err.now in
    let err = g.E.Write.contents c.loop-count.err in
    let reported = g.E.Write.contents c.go_to_next.new.err in
    let t = c.go_to_next.new.simulation in
    let k = c.loop-count.count in
    let comes =
    comes_so c.loop-count.simulation i o (hundredth o.horizon k) c.loop-count.invariant.at t first out new quiet err reported k (k + 1) c.loop-count.tally c.go_to_next.new.tally
    (Ok c.in-Ok-End.field-0) c.in-Ok-End.ensures c.loop-count.invariant.came in
    let so : Comes i o t first new quiet reported (k + 1) c.go_to_next.new.tally (Ok (End c.in-Ok-End.field-0-0)) =
    subst (λ (x : Outcome). Comes i o t first new quiet reported (k + 1) c.go_to_next.new.tally (Ok x)) c.in-Ok-End.field-0-is comes in
    record { at = so.1; came = so.0 }

pub returns-in-Ok-Stop : goal.returns-in-Ok-Stop
returns-in-Ok-Stop g c =
    let i = c.args.simulation.now.inputs in
    let o = c.args.options in
    let first = g.W.Write.contents c.args.out.now in
    let out = g.W.Write.contents c.loop-count.out in
    let new = g.W.Write.contents c.go_to_next.new.out in
    let quiet = g.E.Write.contents c.args.err.now in
    let err = g.E.Write.contents c.loop-count.err in
    let reported = g.E.Write.contents c.go_to_next.new.err in
    let t = c.go_to_next.new.simulation in
    let k = c.loop-count.count in
    let comes =
    comes_so c.loop-count.simulation i o (hundredth o.horizon k) c.loop-count.invariant.at t first out new quiet err reported k (k + 1) c.loop-count.tally c.go_to_next.new.tally
    (Ok c.in-Ok-Stop.field-0) c.in-Ok-Stop.ensures c.loop-count.invariant.came in
    subst (λ (x : Outcome). Comes i o t first new quiet reported (k + 1) c.go_to_next.new.tally (Ok x)) c.in-Ok-Stop.field-0-is comes

pub returns-in-Err : goal.returns-in-Err
returns-in-Err g c =
    let i = c.args.simulation.now.inputs in
    let o = c.args.options in
    let k = c.loop-count.count in
    comes_so c.loop-count.simulation i o (hundredth o.horizon k) c.loop-count.invariant.at c.go_to_next.new.simulation (g.W.Write.contents c.args.out.now) (g.W.Write.contents c.loop-count.out)
    (g.W.Write.contents c.go_to_next.new.out) (g.E.Write.contents c.args.err.now) (g.E.Write.contents c.loop-count.err) (g.E.Write.contents c.go_to_next.new.err) k (k + 1) c.loop-count.tally
    c.go_to_next.new.tally (Err c.in-Err.error) c.in-Err.ensures c.loop-count.invariant.came

-- all hundredths are visited
pub returns : goal.returns
returns g c =
    let i = c.args.simulation.now.inputs in
    let o = c.args.options in
    let first = g.W.Write.contents c.args.out.now in
    let out = g.W.Write.contents c.loop-count.out in
    let quiet = g.E.Write.contents c.args.err.now in
    let err = g.E.Write.contents c.loop-count.err in
    let least = c.loop-count-test.false in
    let most = c.loop-count.auto.count-end in
    let all : c.loop-count.count ≡ 100 = omega (arith, least, most) in (
      subst (λ (k : ℕ). Came i o first out quiet err k c.loop-count.tally) all c.loop-count.invariant.came,
      subst (λ (k : ℕ). c.loop-count.simulation ≡ view_at i o (hundredth o.horizon k)) all c.loop-count.invariant.at,
    )
