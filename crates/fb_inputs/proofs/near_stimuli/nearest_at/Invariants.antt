use Rattle.std.proofs.Common.{◌≡◌, ◌<◌, ℕ}
use Rattle.fb_read.specs.declared.token.Span.{Span}
use Rattle.fb_inputs.specs.NearSpans.{IsInStimuli, IsSearch}
use Rattle.fb_inputs.specs.Positions.{around_stimuli, stepped}
use Rattle.fb_inputs.proofs.near_stimuli.nearest_at.Given as goal

abbrev pub invariant-loop : goal.invariant-loop
invariant-loop l = record {
  here : l.here ≡ stepped around_stimuli l.counter l.fn.position;
  nearer : (k : ℕ) → k < l.counter → (other : Span) → IsInStimuli l.text (stepped around_stimuli k l.fn.position) other → ⊥;
  search : IsSearch l.text l.search;
}
