use Rattle.std.proofs.Common.{◌≡◌, ◌<◌, ℕ}
use Rattle.fb_read.specs.declared.token.Span.{Span}
use Rattle.fb_inputs.specs.Positions.{around_deploy, stepped}
use Rattle.fb_deploy_positions.specs.Entries.{IsAt}
use Rattle.fb_deploy_positions.proofs.outline.Outline.nearest.Given as goal

abbrev pub invariant-loop : goal.invariant-loop
invariant-loop l = record {
  here : l.here ≡ stepped around_deploy l.counter l.fn.position;
  nearer : (k : ℕ) → k < l.counter → (other : Span) → IsAt l.self.text.now (stepped around_deploy k l.fn.position) other → ⊥;
}
