use Rattle.fb_types.proofs.Common.{◌≡◌, drop, list_any}
use Rattle.fb_lint.specs.Instances.{is_for_event}
use Rattle.fb_lint.proofs.instances.is_event_stimulated.Given as goal

abbrev pub invariant-loop-stimulus : goal.invariant-loop-stimulus
invariant-loop-stimulus l = list_any (is_for_event l.instance l.event) l.stimuli ≡ list_any (is_for_event l.instance l.event) (drop l.stimulus-index l.stimuli)
