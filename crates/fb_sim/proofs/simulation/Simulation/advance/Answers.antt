use Rattle.fb_sim.proofs.lemmas.Common.{◌≡◌, ◌∙◌, ◌^◌, ◌<◌, ◌≤◌, ap, subst, sym, SimulationView}
use Rattle.fb_sim.specs.declared.state.Stage.TheVariants as going
use Rattle.fb_sim.proofs.lemmas.rounds.AdvanceIs.{fails_there, gets_there}
use Rattle.fb_sim.proofs.simulation.Simulation.advance.Goals as goal

pub go_on-requires-clause-later : goal.go_on-requires-clause-later
go_on-requires-clause-later g c κs w = subst (λ (s : SimulationView). s.to < c.args.to) c.self.view_is c.if-to-self.false

pub returns-in-Ok : goal.returns-in-Ok
returns-in-Ok g c =
    let early : c.args.to ≤ 10 ^ 12 = c.if-to-gt-LATEST_TICK.false in
    let running : c.args.self.now.stage ≡ going.Running = sym (ap (λ (s : SimulationView). s.stage) c.self.view_is) ∙ sym c.stage.ensures ∙ c.in-Running-2.is in
    gets_there c.args.self.now c.go_on.new.self running c.args.to early (g.W.Write.contents c.args.out.now) (g.W.Write.contents c.go_on.new.out) c.in-Ok.outcome c.in-Ok.ensures.0

pub returns-in-Err : goal.returns-in-Err
returns-in-Err g c =
    let early : c.args.to ≤ 10 ^ 12 = c.if-to-gt-LATEST_TICK.false in
    let running : c.args.self.now.stage ≡ going.Running = sym (ap (λ (s : SimulationView). s.stage) c.self.view_is) ∙ sym c.stage.ensures ∙ c.in-Running-2.is in
    fails_there c.args.self.now c.go_on.new.self running c.args.to early (g.W.Write.contents c.args.out.now) (g.W.Write.contents c.go_on.new.out) c.in-Err.error c.in-Err.ensures
