use Rattle.fb_agenda.proofs.lemmas.TimersAndOthers.{absent_other, put_kept, put_other}
use Rattle.fb_agenda.proofs.later.Later.put.Goals as goal

pub invariant_of-self : goal.invariant_of-self
invariant_of-self c =
    let i = c.self.inside in
    put_kept i.timers i.others i.has_local i.quiet c.self.invariant c.args.key c.args.event c.put.new.self c.is_local.result c.lower.new.self c.of.result c.requires c.is_local.ensures.local.1
    c.lower.ensures.first c.lower.ensures.second c.of.ensures.tick c.of.ensures.resource c.put.result c.put.ensures.put c.put.ensures.err

pub returns-clause-put : goal.returns-clause-put
returns-clause-put c =
    let i = c.self.inside in
    rw (← c.self.view_is) (put_other i.timers i.others i.has_local i.quiet c.self.invariant c.args.key c.args.event c.put.new.self c.requires c.put.result c.put.ensures.put)

pub returns-clause-absent : goal.returns-clause-absent
returns-clause-absent c =
    let i = c.self.inside in
    rw (← c.self.view_is) (absent_other i.timers i.others i.has_local i.quiet c.self.invariant c.args.key c.requires c.put.result c.put.ensures.absent)
