use Rattle.fb_net.proofs.lemmas.Common.{◌-◌, length, map, system_of, carried_of, port_of, LeadsTo, carried_by}
use Rattle.fb_net.specs.Emitting.{home_of}
use Rattle.fb_net.proofs.lemmas.taking.Targets.{HaveGone}
use Rattle.fb_net.proofs.taking.emit.send_out.Given as goal

abbrev pub invariant-loop-next : goal.invariant-loop-next
invariant-loop-next l =
    let sys = system_of l.system in
    HaveGone sys (home_of l.system l.from) (map (carried_of sys) (carried_by l.from.instance l.indexes l.values)) (sys.targets (port_of sys l.from)) l.initial.outs.items l.index l.outs.items
    × LeadsTo sys l.from l.index l.next

abbrev pub decreases-loop-next : goal.decreases-loop-next
decreases-loop-next l = let sys = system_of l.system in length (sys.targets (port_of sys l.from)) - l.index
