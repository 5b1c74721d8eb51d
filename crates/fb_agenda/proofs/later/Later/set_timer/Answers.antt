use Rattle.fb_agenda.proofs.lemmas.Common.{Some, refl, sym, subst, timer_key, Timer, Moment}
use Rattle.fb_agenda.specs.Laters.{AreKept}
use Rattle.fb_agenda.proofs.lemmas.TimersAndOthers.{quieter, set_kept, timer_sets}
use Rattle.fb_agenda.proofs.lemmas.Lists.{put_rises, put_sets}
use Rattle.fb_agenda.proofs.later.Later.set_timer.Goals as goal

pub invariant_of-self : goal.invariant_of-self
invariant_of-self c =
    let i = c.self.inside in
    let r = c.lower.new.self in
    subst (λ ts. AreKept ts i.others i.has_local r) (sym c.in_err-set.ensures.err) (quieter i.timers i.others i.has_local i.quiet c.self.invariant r c.lower.ensures.first)

pub invariant_of-self-2 : goal.invariant_of-self-2
invariant_of-self-2 c =
    let i = c.self.inside in
    let k = timer_key c.args.tick c.args.resource c.args.instance in
    let e = Timer c.args.instance in
    let m : Moment = record { tick = c.args.tick; resource = c.args.resource } in
    let is = c.in_ok-set.ensures.ok in
    set_kept i.timers i.others i.has_local i.quiet c.self.invariant k e c.set.new.self c.lower.new.self m refl c.lower.ensures.first c.lower.ensures.second refl refl
    (put_sets i.timers c.set.new.self k e is) (put_rises i.timers c.set.new.self k e c.self.invariant.split.rising is)

pub returns-clause-put : goal.returns-clause-put
returns-clause-put c =
    let i = c.self.inside in
    let k = timer_key c.args.tick c.args.resource c.args.instance in
    let e = Timer c.args.instance in
    rw (← c.self.view_is) (timer_sets i.timers i.others i.has_local i.quiet c.self.invariant k (Some e) c.set.new.self refl (put_sets i.timers c.set.new.self k e c.in_ok-set.ensures.ok))
