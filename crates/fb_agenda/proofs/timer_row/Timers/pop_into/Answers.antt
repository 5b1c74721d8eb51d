use Rattle.fb_agenda.proofs.lemmas.Common.{None, Some, sym, subst, Key, Timer, IsPopped, timer_event}
use Rattle.fb_agenda.proofs.lemmas.Lists.{front_popped, rest_rises}
use Rattle.fb_agenda.proofs.timer_row.Timers.pop_into.Goals as goal

pub returns-in_default-clause-popped : goal.returns-in_default-clause-popped
returns-in_default-clause-popped c = front_popped c.args.self.now c.pop_below.new.self c.requires None c.in_default.ensures.items

pub returns-in_default-clause-rising : goal.returns-in_default-clause-rising
returns-in_default-clause-rising c = rest_rises c.args.self.now c.pop_below.new.self c.requires None c.in_default.ensures.items

pub returns-clause-popped : goal.returns-clause-popped
returns-clause-popped c =
    let t = c.in-Some.first in
    subst (λ (k : Key). IsPopped c.args.self.now c.pop_below.new.self (Some (k, Timer t.instance))) (sym c.key-least_event.ensures)
    (front_popped c.args.self.now c.pop_below.new.self c.requires (Some (timer_event t)) c.in-Some.ensures.items)

pub returns-clause-rising : goal.returns-clause-rising
returns-clause-rising c = rest_rises c.args.self.now c.pop_below.new.self c.requires (Some (timer_event c.in-Some.first)) c.in-Some.ensures.items
