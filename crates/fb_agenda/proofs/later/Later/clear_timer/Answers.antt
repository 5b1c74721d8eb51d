use Rattle.fb_agenda.proofs.lemmas.Common.{◌≡◌, ◌<◌, ◌++◌, ◌∙◌, None, length, refl, sym, subst, timer_key, Pending, Sets}
use Rattle.fb_types.proofs.Common.{slice_index, get_or_default}
use Rattle.fb_agenda.proofs.lemmas.TimersAndOthers.{cleared_kept, timer_sets}
use Rattle.fb_agenda.proofs.later.Later.clear_timer.Goals as goal

pub invariant_of-self : goal.invariant_of-self
invariant_of-self c =
    let i = c.self.inside in
    cleared_kept i.timers i.others i.has_local i.quiet c.self.invariant (timer_key c.index-tick.result.now c.args.resource c.args.instance) c.cancel.new.self refl c.cancel.ensures.sets c.cancel.ensures.rising

pub returns-clause-gone : goal.returns-clause-gone
returns-clause-gone c =
    let i = c.self.inside in
    let n = c.args.instance in
    let tick = c.index-tick.result.now in
    let count : n < length i.due.items = subst (λ (l : Pending). n < length l.due) (sym c.self.view_is) c.requires in
    let same : tick ≡ slice_index i.due.items n = c.index-tick.ensures ∙ get_or_default i.due.items n tick 0 count in
    rw (← c.self.view_is)
    (subst (λ t. Sets (timer_key t c.args.resource n) None (i.timers ++ i.others) (c.cancel.new.self ++ i.others)) same
    (timer_sets i.timers i.others i.has_local i.quiet c.self.invariant (timer_key tick c.args.resource n) None c.cancel.new.self refl c.cancel.ensures.sets))
