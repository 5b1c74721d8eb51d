use Rattle.fb_agenda.proofs.lemmas.Common.{◌≡◌, ◌<◌, length, None, sym, subst, arith, rules, lookup, answers_always, same_key, AreRising, Sets, timer_event, timer_events, Timed}
use Rattle.fb_agenda.proofs.lemmas.Queueing.{where_some}
use Rattle.fb_agenda.proofs.lemmas.TimerKeys.{none_sets, timer_absent, timer_gone, timer_gone_rises, timers_searchable}
use Rattle.fb_agenda.proofs.timer_row.Timers.remove_within.Goals as goal

pub returns-in-Ok-clause-sets : goal.returns-in-Ok-clause-sets
returns-in-Ok-clause-sets c =
    let ts = c.self.inside.row.items in
    let k = c.args.key.now in
    let i = c.in-Ok.index in
    let rising : AreRising (timer_events ts) = subst (λ es. AreRising es) (sym c.self.view_is) c.requires in
    let within : i < length ts = omega (arith, c.in-Ok.ensures.bound) in
    let found = c.in-Ok.ensures.position (λ (z : Timed). (timer_event z).0) (answers_always _ _ _ (λ f a r g called. search rules)) in
    let is = where_some c.remove.result (c.remove.ensures.variant.1 (omega (arith, within))) c.remove.ensures.items in
    subst (λ es. Sets k None es (timer_events c.remove.new.self.items)) c.self.view_is (subst (λ xs. Sets k None (timer_events ts) (timer_events xs)) (sym is) (timer_gone k ts i within found rising))

pub returns-in-Ok-clause-rising : goal.returns-in-Ok-clause-rising
returns-in-Ok-clause-rising c =
    let ts = c.self.inside.row.items in
    let k = c.args.key.now in
    let i = c.in-Ok.index in
    let rising : AreRising (timer_events ts) = subst (λ es. AreRising es) (sym c.self.view_is) c.requires in
    let within : i < length ts = omega (arith, c.in-Ok.ensures.bound) in
    let found = c.in-Ok.ensures.position (λ (z : Timed). (timer_event z).0) (answers_always _ _ _ (λ f a r g called. search rules)) in
    let is = where_some c.remove.result (c.remove.ensures.variant.1 (omega (arith, within))) c.remove.ensures.items in
    subst (λ xs. AreRising (timer_events xs)) (sym is) (timer_gone_rises k ts i within found rising)

pub returns-in_default-clause-sets : goal.returns-in_default-clause-sets
returns-in_default-clause-sets c =
    let ts = c.self.inside.row.items in
    let k = c.args.key.now in
    let rising : AreRising (timer_events ts) = subst (λ es. AreRising es) (sym c.self.view_is) c.requires in
    let parted = c.in_default.ensures.position (λ (z : Timed). (timer_event z).0) (answers_always _ _ _ (λ f a r g called. search rules)) (timers_searchable k ts rising) in
    none_sets k c.args.self.now
    (subst (λ es. lookup (same_key k) es ≡ None) c.self.view_is
    (timer_absent k ts c.in_default.field-0 (λ j d less. parted.0 j d (omega arith) less) (λ j d le less. parted.1 j d le less) (omega (arith, c.in_default.ensures.bound))))
