use Rattle.fb_lint.proofs.lemmas.Common.{◌≡◌, ◌++◌, drop, each_from}
use Rattle.fb_lint.specs.Instances as spec
use Rattle.fb_lint.proofs.instances.push_unreached_events.Given as goal

-- with what is found in the rest, all is there
abbrev pub invariant-loop-event : goal.invariant-loop-event
invariant-loop-event l =
    l.all.items ++ each_from (spec.unreached_event l.at.site l.connections l.stimuli l.at.index l.at.instance.now l.inputs) l.event (drop l.event l.events) ≡ l.fn.all.items ++ each_from (spec.unreached_event l.at.site l.connections l.stimuli l.at.index l.at.instance.now l.inputs) 0 l.events
