use Rattle.std.proofs.Common.{◌≡◌, ◌+◌}
use Rattle.fb_wave.specs.Scopes.{variable_declarations, variable_declared}
use Rattle.fb_wave.proofs.lemmas.Listing.{SoFar}
use Rattle.fb_wave.proofs.signals.put_variables.Given as goal

abbrev pub invariant-loop-variable : goal.invariant-loop-variable
invariant-loop-variable l = record {
  number : l.signal ≡ l.first + l.variable-index;
  text : SoFar (variable_declarations variable_declared l.events) l.initial.text.items l.text.items l.first l.signal l.variable-index l.variables;
}
