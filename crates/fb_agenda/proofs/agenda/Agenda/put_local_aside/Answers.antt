use Rattle.fb_agenda.proofs.lemmas.Common.{arith, local_events, contents_of}
use Rattle.fb_types.specs.declared.run.Event.TheVariants.{Local}
use Rattle.fb_agenda.proofs.lemmas.QueueAndOthers.{moved_apart, moved_waits}
use Rattle.fb_agenda.proofs.agenda.Agenda.put_local_aside.Goals as goal

pub put-requires : goal.put-requires
put-requires c = λ timer. let local = c.requires in omega (arith, timer, local)

pub remove-requires : goal.remove-requires
remove-requires c = c.self.invariant.queue

pub invariant_of-self-2 : goal.invariant_of-self-2
invariant_of-self-2 c =
    let new = c.put.new.self in
    moved_apart (contents_of c.self.inside) c.self.invariant c.args.key (Local c.args.target) (local_events c.remove.new.self) new.events c.remove.ensures.gone c.in_ok-put.ensures.put new.due c.remove.ensures.queue

pub returns-clause-put : goal.returns-clause-put
returns-clause-put c =
    let new = c.put.new.self in
    rw (← c.self.view_is)
    (moved_waits (contents_of c.self.inside) c.self.invariant c.args.key (Local c.args.target) (local_events c.remove.new.self) new.events c.remove.ensures.gone c.in_ok-put.ensures.put new.due)
