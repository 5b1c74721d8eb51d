use Rattle.fb_agenda.proofs.lemmas.Common.{[], ◌∷◌, ◌++◌, ap, subst, ◌∙◌, Key, Timed}
use Rattle.fb_agenda.proofs.lemmas.Orders.{AllBefore}
use Rattle.fb_agenda.proofs.lemmas.TimerKeys.{timer_pushed}
use Rattle.fb_agenda.proofs.timer_row.Timers.set.Goals as goal

pub returns-then-is_past-clause-ok : goal.returns-then-is_past-clause-ok
returns-then-is_past-clause-ok c =
    let t : Timed = record { tick = c.args.tick; resource = c.args.resource; instance = c.args.instance } in
    let is = c.push_back_reserved.ensures.items ∙ ap (λ ts. ts ++ t ∷ []) c.in_ok-make_room.ensures.items in
    timer_pushed c.self.inside.row.items c.push_back_reserved.new.self.items t c.args.self.now c.self.view_is is
    (subst (λ (k : Key). AllBefore k c.args.self.now) c.timer.ensures c.if-is_past.ensures)
