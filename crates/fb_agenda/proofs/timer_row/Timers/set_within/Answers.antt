use Rattle.fb_agenda.proofs.lemmas.Common.{ap, sym, subst, ◌∙◌, arith, rules, insert_entry, answers_always, key_cmp, Key, Timer, AreRising, timer_event, timer_events, Timed}
use Rattle.fb_agenda.proofs.lemmas.TimerKeys.{timer_put_between, timer_put_over, timers_searchable}
use Rattle.fb_agenda.proofs.timer_row.Timers.set_within.Goals as goal

-- the timer is there
pub returns-in-Ok-clause-ok : goal.returns-in-Ok-clause-ok
returns-in-Ok-clause-ok c =
    let ts = c.self.inside.row.items in
    let t : Timed = record { tick = c.args.tick; resource = c.args.resource; instance = c.args.instance } in
    let k = c.key.result in
    let rising : AreRising (timer_events ts) = subst (λ es. AreRising es) (sym c.self.view_is) c.requires in
    let found = c.in-Ok.ensures.position (λ (z : Timed). (timer_event z).0) (answers_always _ _ _ (λ f a r g called. search rules)) in
    timer_put_over k ts c.in-Ok.index (omega (arith, c.in-Ok.ensures.bound)) found t rising (sym c.key.ensures)
    ∙ ap (λ es. insert_entry key_cmp es k (Timer t.instance)) c.self.view_is ∙ ap (λ (z : Key). insert_entry key_cmp c.args.self.now z (Timer t.instance)) c.key.ensures

-- the timer goes between those before it and those after it
pub returns-in_ok-insert-in-Err-clause-ok : goal.returns-in_ok-insert-in-Err-clause-ok
returns-in_ok-insert-in-Err-clause-ok c =
    let ts = c.self.inside.row.items in
    let t : Timed = record { tick = c.args.tick; resource = c.args.resource; instance = c.args.instance } in
    let k = c.key.result in
    let rising : AreRising (timer_events ts) = subst (λ es. AreRising es) (sym c.self.view_is) c.requires in
    let parted = c.in-Err.ensures.position (λ (z : Timed). (timer_event z).0) (answers_always _ _ _ (λ f a r g called. search rules)) (timers_searchable k ts rising) in
    ap timer_events c.in_ok-insert-in-Err.ensures.items
    ∙ timer_put_between k ts c.in-Err.index (λ j d less. parted.0 j d (omega arith) less) (λ j d le less. parted.1 j d le less) (omega (arith, c.in-Err.ensures.bound)) t (sym c.key.ensures)
    ∙ ap (λ es. insert_entry key_cmp es k (Timer t.instance)) c.self.view_is ∙ ap (λ (z : Key). insert_entry key_cmp c.args.self.now z (Timer t.instance)) c.key.ensures
