use Rattle.fb_agenda.proofs.lemmas.Common.{◌≡◌, None, refl, sym, subst, ◌∙◌, arith, lookup, Precedes, key_cmp, same_key, Key, AreRising, timer_event, timer_events, Timed}
use Rattle.fb_types.proofs.Common.{false≢true}
use Rattle.fb_agenda.proofs.lemmas.Lists.{when_true}
use Rattle.fb_agenda.proofs.lemmas.Orders.{less_from, less_is}
use Rattle.fb_agenda.proofs.lemmas.TimerKeys.{absent_no_timer, absent_timer}
use Rattle.fb_agenda.proofs.timer_row.Timers.is_before.Goals as goal

pub returns-in-Some : goal.returns-in-Some
returns-in-Some c =
    let ts = c.self.inside.row.items in
    let k = c.args.key.now in
    let t = c.in-Some.first.now in
    let facts = c.in-Some.ensures in
    let rising : AreRising (timer_events ts) = subst (λ es. AreRising es) (sym c.self.view_is) c.requires in
    when_true c.lt.result
    (λ less.
    let before : Precedes k c.key.result = less_from (key_cmp k c.key.result) (sym (c.lt.ensures ∙ less_is k c.key.result) ∙ less) in
    let first : Precedes k (timer_event t).0 = subst (λ (z : Key). Precedes k z) c.key.ensures before in
    subst (λ es. lookup (same_key k) es ≡ None) c.self.view_is
    (absent_timer k ts t rising (omega (arith, facts.variant.0 refl)) (subst (λ (z : Timed). Precedes k (timer_event z).0) facts.lookup first)))

pub returns-in-None : goal.returns-in-None
returns-in-None c =
    let facts = c.in-None.ensures in
    subst (λ es. lookup (same_key c.args.key.now) es ≡ None) c.self.view_is
    (absent_no_timer c.args.key.now c.self.inside.row.items (λ more. false≢true (facts.variant.1 (omega (arith, more)))))
