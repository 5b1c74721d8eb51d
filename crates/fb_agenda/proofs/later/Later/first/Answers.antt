use Rattle.fb_agenda.proofs.lemmas.Lists.{first_few, many_is_first, none_first}
use Rattle.fb_agenda.proofs.later.Later.first.Goals as goal

pub returns-then-is_timer_first-clause-some : goal.returns-then-is_timer_first-clause-some
returns-then-is_timer_first-clause-some c =
    rw (← c.self.view_is) (first_few c.self.inside.timers c.self.inside.others c.if-is_timer_first.ensures.timers c.first.result c.first.ensures.some)

pub returns-then-is_timer_first-clause-none : goal.returns-then-is_timer_first-clause-none
returns-then-is_timer_first-clause-none c =
    rw (← c.self.view_is) (none_first c.self.inside.timers c.self.inside.others c.if-is_timer_first.ensures.timers c.first.result c.first.ensures.none)

pub returns-clause-some : goal.returns-clause-some
returns-clause-some c =
    rw (← c.self.view_is) (many_is_first c.self.inside.timers c.self.inside.others c.if-is_timer_first.ensures.others c.in_ok-first.first.now c.in_ok-first.ensures.some)
