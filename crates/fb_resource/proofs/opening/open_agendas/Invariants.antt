use Rattle.fb_resource.proofs.lemmas.Common.{◌≡◌, ℕ, Some, length, slice_get, Contents, HasRestarts, HasStimuli}
use Rattle.fb_resource.specs.Openings.{OneEach}
use Rattle.fb_resource.proofs.opening.open_agendas.Given as goal

abbrev pub invariant-loop : goal.invariant-loop
invariant-loop l = record {
  counted : length l.agendas.items ≡ l.counter;
  each : (r : ℕ) (a : Contents) → slice_get l.agendas.items r ≡ Some a → HasStimuli l.system (Some r) 0 a;
}

abbrev pub invariant-loop-row : goal.invariant-loop-row
invariant-loop-row l = OneEach l.system (λ r. HasStimuli l.system (Some r) l.row) l.agendas.items

abbrev pub invariant-loop-instance : goal.invariant-loop-instance
invariant-loop-instance l = OneEach l.system (λ r. HasRestarts l.system (Some r) l.instance) l.agendas.items
