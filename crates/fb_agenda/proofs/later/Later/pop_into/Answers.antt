use Rattle.fb_agenda.specs.LeastEvents.{taken}
use Rattle.fb_agenda.proofs.lemmas.TimersAndOthers.{other_popped, timer_popped}
use Rattle.fb_agenda.proofs.lemmas.Lists.{begins_few, begins_many, popped_few, popped_many}
use Rattle.fb_agenda.proofs.later.Later.pop_into.Goals as goal

-- ---- A timer comes first

pub invariant_of-self : goal.invariant_of-self
invariant_of-self c =
    let i = c.self.inside in
    let pop = c.pop_into in
    timer_popped i.timers i.others i.has_local i.quiet c.self.invariant c.if-is_timer_first.ensures.timers pop.new.self (taken pop.result pop.new.least_event) pop.ensures.rising pop.ensures.popped

pub returns-then-is_timer_first-clause-popped : goal.returns-then-is_timer_first-clause-popped
returns-then-is_timer_first-clause-popped c =
    let i = c.self.inside in
    let pop = c.pop_into in
    rw (← c.self.view_is) (popped_few i.timers i.others c.self.invariant.split c.if-is_timer_first.ensures.timers pop.new.self (taken pop.result pop.new.least_event) pop.ensures.popped)

pub returns-then-is_timer_first-clause-none : goal.returns-then-is_timer_first-clause-none
returns-then-is_timer_first-clause-none c =
    let i = c.self.inside in
    let pop = c.pop_into in
    rw (← c.self.view_is) (begins_few i.timers i.others c.if-is_timer_first.ensures.timers c.args.horizon (taken pop.result pop.new.least_event) pop.ensures.none)

-- ---- Another event comes first

pub invariant_of-self-else-is_timer_first : goal.invariant_of-self-else-is_timer_first
invariant_of-self-else-is_timer_first c =
    let i = c.self.inside in
    let pop = c.pop_into-else-is_timer_first in
    other_popped i.timers i.others i.has_local i.quiet c.self.invariant c.if-is_timer_first.ensures.others pop.new.self (taken pop.result pop.new.least_event) pop.ensures.popped

pub returns-else-is_timer_first-clause-popped : goal.returns-else-is_timer_first-clause-popped
returns-else-is_timer_first-clause-popped c =
    let i = c.self.inside in
    let pop = c.pop_into-else-is_timer_first in
    rw (← c.self.view_is) (popped_many i.timers i.others c.self.invariant.split c.if-is_timer_first.ensures.others pop.new.self (taken pop.result pop.new.least_event) pop.ensures.popped)

pub returns-else-is_timer_first-clause-none : goal.returns-else-is_timer_first-clause-none
returns-else-is_timer_first-clause-none c =
    let i = c.self.inside in
    let pop = c.pop_into-else-is_timer_first in
    rw (← c.self.view_is) (begins_many i.timers i.others c.if-is_timer_first.ensures.others c.args.horizon (taken pop.result pop.new.least_event) pop.ensures.none)
