use Rattle.fb_agenda.proofs.lemmas.Common.{refl, sym, subst, arith, Key, AreRising, IsFirst, timer_events}
use Rattle.fb_agenda.proofs.lemmas.TimerKeys.{first_timer}
use Rattle.fb_agenda.proofs.timer_row.Timers.first.Goals as goal

pub returns-clause-some : goal.returns-clause-some
returns-clause-some c =
    let ts = c.self.inside.row.items in
    let t = c.in_ok-first.first.now in
    let facts = c.in_ok-first.ensures in
    let rising : AreRising (timer_events ts) = subst (λ es. AreRising es) (sym c.self.view_is) c.requires in
    let first = first_timer ts t t rising (omega (arith, facts.variant.0 refl)) (sym facts.lookup) in
    subst (λ es. IsFirst es c.key.result) c.self.view_is (subst (λ (k : Key). IsFirst (timer_events ts) k) (sym c.key.ensures) first)
