use Rattle.fb_agenda.proofs.lemmas.Common.{refl, sym, subst, arith, AreRising, BeginsAt, timer_events}
use Rattle.fb_agenda.proofs.lemmas.TimerKeys.{first_timer, timer_popped}
use Rattle.fb_agenda.proofs.timer_row.Timers.pop_below.Goals as goal

pub returns-clause-items : goal.returns-clause-items
returns-clause-items c = timer_popped c.self.inside.row.items c.pop_front.new.self.items c.pop_front.result c.args.self.now c.self.view_is c.pop_front.ensures.items

pub returns-then-first-horizon-clause-none : goal.returns-then-first-horizon-clause-none
returns-then-first-horizon-clause-none c some =
    let ts = c.self.inside.row.items in
    let t = c.in_ok-first.first.now in
    let facts = c.in_ok-first.ensures in
    let rising : AreRising (timer_events ts) = subst (λ es. AreRising es) (sym c.self.view_is) c.requires in
    subst (λ es. BeginsAt c.args.horizon es) c.self.view_is
    (λ more. (_, omega (arith, c.if-first-horizon.true), first_timer ts t t rising (omega (arith, facts.variant.0 refl)) (sym facts.lookup))) some
