use Rattle.fb_lint.proofs.lemmas.Common.{◌≡◌, ◌++◌, drop, each_from}
use Rattle.fb_lint.specs.Events as spec
use Rattle.fb_lint.proofs.events.push_unnamed_events.Given as goal

-- with what is found in the rest, all is there
abbrev pub invariant-loop-event : goal.invariant-loop-event
invariant-loop-event l =
    l.all.items ++ each_from (spec.unnamed_event l.block l.basic) l.event (drop l.event l.events) ≡ l.fn.all.items ++ each_from (spec.unnamed_event l.block l.basic) 0 l.events
