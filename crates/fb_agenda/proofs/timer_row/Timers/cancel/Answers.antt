use Rattle.fb_agenda.proofs.lemmas.Common.{None, subst, Key, Sets}
use Rattle.fb_agenda.proofs.lemmas.TimerKeys.{none_sets}
use Rattle.fb_agenda.proofs.timer_row.Timers.cancel.Goals as goal

pub returns-then-is_before-clause-sets : goal.returns-then-is_before-clause-sets
returns-then-is_before-clause-sets c =
    let es = c.args.self.now in
    subst (λ (k : Key). Sets k None es es) c.timer-key.ensures (none_sets c.timer-key.result es c.if-is_before.ensures)

pub returns-clause-sets : goal.returns-clause-sets
returns-clause-sets c = subst (λ (k : Key). Sets k None c.args.self.now c.remove_within.new.self) c.timer-key.ensures c.remove_within.ensures.sets
