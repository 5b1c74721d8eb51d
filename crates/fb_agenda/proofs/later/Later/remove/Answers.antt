use Rattle.std.proofs.Common.{None}
use Rattle.fb_agenda.proofs.lemmas.TimersAndOthers.{other_sets, removed_kept}
use Rattle.fb_agenda.proofs.later.Later.remove.Goals as goal

pub invariant_of-self : goal.invariant_of-self
invariant_of-self c =
    let i = c.self.inside in
    removed_kept i.timers i.others i.has_local i.quiet c.self.invariant c.args.key.now c.remove.new.self c.requires c.remove.ensures

pub returns-clause-gone : goal.returns-clause-gone
returns-clause-gone c =
    let i = c.self.inside in
    rw (← c.self.view_is) (other_sets i.timers i.others i.has_local i.quiet c.self.invariant c.args.key.now None c.remove.new.self c.requires c.remove.ensures)
