use Rattle.fb_types.proofs.Common.{◌≡◌, ◌+◌, map, variable_names, Name}
use Rattle.fb_types.specs.declared.value.Value.{Value}
use Rattle.fb_wave.specs.Scopes.{variable_begun, variable_declarations}
use Rattle.fb_wave.proofs.lemmas.Listing.{SoFar}
use Rattle.fb_wave.proofs.begun.put_values.Given as goal

abbrev pub invariant-loop-index : goal.invariant-loop-index
invariant-loop-index l = record {
  number : l.signal ≡ l.first + l.index;
  text :
      (initial : Name → Value) → l.values ≡ map initial (variable_names l.variables)
      → SoFar (variable_declarations (variable_begun initial) l.events) l.initial.text.items l.text.items l.first l.signal l.index l.variables;
}
