use Rattle.fb_types.proofs.Common.{subst, stimuli_of, system_of, opening}
use Rattle.fb_sim_machine.specs.Pauses.{Pauses}
use Rattle.fb_sim.proofs.one_agenda.is_quicker.Goals as goal

pub loop-machine-init : goal.loop-machine-init
loop-machine-init g c = record {
  ready = (0, c.in_ok-machine.ensures.ready c.args.options.steps);
  represents = (opening (system_of c.args.system.now) (stimuli_of c.args.system.now), c.in_ok-machine.ensures.at);
}

pub loop-machine-preserved : goal.loop-machine-preserved
loop-machine-preserved g c =
    let i = c.args.system.now in
    let o = c.args.options in
    let inv = c.loop-machine.invariant in
    let at = inv.represents.0 in
    let pauses = subst (λ p. Pauses i o.horizon o.steps at c.loop-machine.machine c.go_on.new.self p) c.in-Lines.is (c.in_ok-pause.ensures.pauses at inv.represents.1) in
    let ready = c.in_ok-pause.ensures.ready in
    record {
      ready = (ready.0, c.clear_lines.ensures.ready i o.steps ready.0 ready.1);
      represents = (pauses.0, c.clear_lines.ensures.at i pauses.0.state pauses.0.agenda pauses.2);
    }
