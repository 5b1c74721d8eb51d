use Rattle.std.proofs.Common.{◌≡◌, ◌≤◌, Option, Some, None, ap, sym, subst, arith}
use Rattle.std.specs.Prelude.{is_some, unwrap_or}
use Rattle.std.proofs.lemmas.Bool.{true≢false}
use Rattle.fb_expect.specs.Events.{Event, event_of}
use Rattle.fb_expect.proofs.judging.next_entry.Goals as goal

pub returns-else-tick-entry-clause-none : goal.returns-else-tick-entry-clause-none
returns-else-tick-entry-clause-none c = λ e line up.
    let read = event_of c.in-Some.entry in
    let same = ap (λ (o : Option Event). (unwrap_or o read).tick) (c.in-Some.ensures.only e line) in
    let late = c.if-tick-entry.false in
    omega (arith, same, late, up)

pub returns-in-None-clause-none : goal.returns-in-None-clause-none
returns-in-None-clause-none c = λ e line up. true≢false (sym (ap (λ (o : Option Event). is_some o) (c.in-None.ensures.only e line)))
