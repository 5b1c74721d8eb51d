use Rattle.fb_lint.proofs.lemmas.Common.{◌≡◌, ◌++◌, drop, each_from, names_are}
use Rattle.fb_lint.specs.Reads as spec
use Rattle.fb_lint.proofs.uses.push_unassigned_events.Given as goal

-- with what is found in the rest, all is there
abbrev pub invariant-loop-event : goal.invariant-loop-event
invariant-loop-event l =
    l.all.items ++ each_from (spec.unassigned_event l.block (names_are l.assigned)) l.event (drop l.event l.events) ≡ l.fn.all.items ++ each_from (spec.unassigned_event l.block (names_are l.assigned)) 0 l.events
