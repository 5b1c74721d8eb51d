use Rattle.fb_agenda.proofs.lemmas.Common.{◌≡◌, None, sym, subst, arith, rules, IsSome, lookup, answers_always, same_key, Key, AreRising, timer_event, timer_events, Timed}
use Rattle.fb_agenda.proofs.lemmas.TimerKeys.{timer_absent, timer_here, timers_searchable}
use Rattle.fb_agenda.proofs.timer_row.Timers.has.Goals as goal

pub returns-in-Ok-clause-there : goal.returns-in-Ok-clause-there
returns-in-Ok-clause-there c =
    let ts = c.self.inside.row.items in
    let k = c.timer-key.result in
    let found = c.in-Ok.ensures.position (λ (z : Timed). (timer_event z).0) (answers_always _ _ _ (λ f a r g called. search rules)) in
    subst (λ (z : Key). IsSome (lookup (same_key z) c.args.self.now)) c.timer-key.ensures
    (subst (λ es. IsSome (lookup (same_key k) es)) c.self.view_is (timer_here k ts c.in-Ok.field-0 (omega (arith, c.in-Ok.ensures.bound)) found))

pub returns-in-Err-clause-none : goal.returns-in-Err-clause-none
returns-in-Err-clause-none c =
    let ts = c.self.inside.row.items in
    let k = c.timer-key.result in
    let rising : AreRising (timer_events ts) = subst (λ es. AreRising es) (sym c.self.view_is) c.requires in
    let parted = c.in-Err.ensures.position (λ (z : Timed). (timer_event z).0) (answers_always _ _ _ (λ f a r g called. search rules)) (timers_searchable k ts rising) in
    subst (λ (z : Key). lookup (same_key z) c.args.self.now ≡ None) c.timer-key.ensures
    (subst (λ es. lookup (same_key k) es ≡ None) c.self.view_is
    (timer_absent k ts c.in-Err.field-0 (λ j d less. parted.0 j d (omega arith) less) (λ j d le less. parted.1 j d le less) (omega (arith, c.in-Err.ensures.bound))))
