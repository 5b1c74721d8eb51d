use Rattle.fb_types.proofs.Common.{◌≡◌, ◌<◌, ◌++◌, ◌∙◌, None, ap, length, refl, sym, subst, IsSome, lookup, get_or_default, or_else, same_key, timer_key}
use Rattle.fb_agenda.specs.Laters.{Pending}
use Rattle.fb_agenda.proofs.lemmas.Lists.{lookup_both}
use Rattle.fb_agenda.proofs.lemmas.Orders.{first_some}
use Rattle.fb_agenda.proofs.later.Later.timer.Goals as goal

pub returns-then-has-clause-some : goal.returns-then-has-clause-some
returns-then-has-clause-some c =
    let i = c.self.inside in
    let key = timer_key c.index-tick.result.now c.args.resource c.args.instance in
    rw (← c.self.view_is)
    (subst (λ o. IsSome o) (sym (lookup_both key i.timers i.others)) (first_some (lookup (same_key key) i.timers) (lookup (same_key key) i.others) c.if-has.ensures.there))

pub returns-else-has-clause-none : goal.returns-else-has-clause-none
returns-else-has-clause-none c =
    let i = c.self.inside in
    let n = c.args.instance in
    let tick = c.index-tick.result.now in
    let count : n < length i.due.items = subst (λ (l : Pending). n < length l.due) (sym c.self.view_is) c.requires in
    let same = c.index-tick.ensures ∙ get_or_default i.due.items n tick 0 count in
    let key = timer_key tick c.args.resource n in
    rw (← c.self.view_is)
    (subst (λ t. lookup (same_key (timer_key t c.args.resource n)) (i.timers ++ i.others) ≡ None) same
    (lookup_both key i.timers i.others ∙ ap (λ o. or_else o (lookup (same_key key) i.others)) c.if-has.ensures.none ∙ c.self.invariant.untimed key refl))
