use Rattle.fb_resource.specs.Openings.{HasRestarts, HasStimuli}
use Rattle.fb_resource.proofs.opening.open_agenda.Given as goal

abbrev pub invariant-loop-row : goal.invariant-loop-row
invariant-loop-row l = HasStimuli l.system l.of l.row l.agenda

abbrev pub invariant-loop-instance : goal.invariant-loop-instance
invariant-loop-instance l = HasRestarts l.system l.of l.instance l.agenda
