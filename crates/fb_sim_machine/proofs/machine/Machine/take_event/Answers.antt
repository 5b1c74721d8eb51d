use Rattle.fb_types.proofs.Common.{sym, ◌∙◌, agenda_after}
use Rattle.fb_resource.specs.Takings.{with_next}
use Rattle.fb_resource.proofs.lemmas.Lone.{due_next}
use Rattle.fb_sim_machine.proofs.lemmas.Nexts.{at_alike, machine_alike}
use Rattle.fb_sim_machine.proofs.machine.Machine.take_event.Goals as goal

pub returns-clause-taken : goal.returns-clause-taken
returns-clause-taken c s a at =
    let i = c.args.system.now in
    let m = c.take.new.self in
    let z = c.take.new.least in
    let next = with_next c.in_ok-taken.taken.raised z.key z.event m.traffic.agenda in
    let t = c.in_ok-taken.ensures.taken s a at in
    record {
      effect = t.effect;
      takes = t.takes;
      stops = t.stops;
      lines = t.lines;
      at = at_alike i m next c.put_next.new.agenda c.in_ok-put_next.ensures.put t.effect.state (agenda_after c.args.least.now.key a t.effect) t.at;
    }

pub returns-clause-ready : goal.returns-clause-ready
returns-clause-ready c =
    let m = c.take.new.self in
    let raised = c.in_ok-taken.taken.raised in
    let z = c.take.new.least in
    machine_alike c.args.system.now m (with_next raised z.key z.event m.traffic.agenda) c.put_next.new.agenda c.in_ok-put_next.ensures.put
    c.args.limit c.args.least.now.key.tick (c.put_next.ensures.due ∙ sym (due_next raised z.key z.event m.traffic.agenda)) c.in_ok-taken.ensures.ready

pub returns-clause-spent : goal.returns-clause-spent
returns-clause-spent c going = c.in_ok-taken.ensures.spent going
