use Rattle.fb_agenda.proofs.lemmas.Common.{deque_len, refl, sym, subst, ◌∙◌, arith, Precedes, key_cmp, Key, AreRising, timer_event, timer_events, Timed}
use Rattle.fb_types.proofs.Common.{◌-◌, false≢true}
use Rattle.fb_agenda.proofs.lemmas.Lists.{when_true}
use Rattle.fb_agenda.proofs.lemmas.Orders.{AllBefore, less_from, less_is}
use Rattle.fb_agenda.proofs.lemmas.TimerKeys.{before_no_timer, before_timer}
use Rattle.fb_agenda.proofs.timer_row.Timers.is_past.Goals as goal

-- the last key is the greatest of those that are there
pub returns-in-Some : goal.returns-in-Some
returns-in-Some c =
    let ts = c.self.inside.row.items in
    let k = c.args.key.now in
    let t = c.in-Some.last.now in
    let facts = c.in-Some.ensures in
    let rising : AreRising (timer_events ts) = subst (λ es. AreRising es) (sym c.self.view_is) c.requires in
    when_true c.lt.result
    (λ less.
    let before : Precedes c.key.result k = less_from (key_cmp c.key.result k) (sym (c.lt.ensures ∙ less_is c.key.result k) ∙ less) in
    let last : Precedes (timer_event t).0 k = subst (λ (z : Key). Precedes z k) c.key.ensures before in
    subst (λ es. AllBefore k es) c.self.view_is
    (before_timer k ts (deque_len c.self.inside.row - 1) t rising (omega (arith, facts.variant.0 refl)) (subst (λ (z : Timed). Precedes (timer_event z).0 k) facts.lookup last)))

pub returns-in-None : goal.returns-in-None
returns-in-None c =
    let facts = c.in-None.ensures in
    subst (λ es. AllBefore c.args.key.now es) c.self.view_is
    (before_no_timer c.args.key.now c.self.inside.row.items (λ more. false≢true (facts.variant.1 (omega (arith, more)))))
