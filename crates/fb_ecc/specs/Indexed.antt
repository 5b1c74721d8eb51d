-- The names of a type by their indexes, while its chart is made (that names represent indexes is this project's profile).
use Rattle.std.specs.Prelude.{ℕ, suc, Bool, List, [], ◌∷◌, map, take, if◌then◌else◌}
use Rattle.std.specs.Borrow.{Bor}
use Rattle.fb_types.specs.Names.{Name}
use Rattle.fb_types.specs.Blocks.{event_names, variable_names}
use Rattle.fb_types.specs.Repeated.{algorithm_names, state_names}
use Rattle.fb_types.specs.declared.library.BasicType.{BasicType}
use Rattle.fb_types.specs.declared.library.State.{State}
use Rattle.fb_check_names.specs.Indexes.{IsIndex}
use Rattle.fb_ecc.specs.Numbered.{act_of, exits_from, row_with}
use Rattle.fb_ecc.specs.declared.chart.ChartState.{ChartState}
use Rattle.fb_ecc.specs.declared.numbers.Numbers.{Numbers}

-- The names of each kind differ, and their maps give the index of each.
pub record AreNumbers (t : BasicType) (n : Numbers) : Type 0 where
  pub states : IsIndex (state_names t) n.states
  pub algorithms : IsIndex (algorithm_names t) n.algorithms
  pub event_inputs : IsIndex (event_names t.ports.event_inputs) n.event_inputs
  pub event_outputs : IsIndex (event_names t.ports.event_outputs) n.event_outputs
  pub inputs : IsIndex (variable_names t.ports.inputs) n.inputs
  pub outputs : IsIndex (variable_names t.ports.outputs) n.outputs

-- an index with the name that is there
abbrev pub entry_of : ℕ × Bor Name → ℕ × Name
entry_of e = (e.0, e.1.now)

-- the names that pass, each with its index, where the first of the list is at that index
abbrev pub picked : (Name → Bool) → List Name → ℕ → List (ℕ × Name)
picked passes [] index = []
picked passes (n ∷ ns) index = if passes n then (index, n) ∷ picked passes ns (suc index) else picked passes ns (suc index)

-- the row of a state, with as many of the first transitions as were visited
abbrev pub row_within : BasicType → ℕ → State → ChartState
row_within t count s = row_with (exits_from t s.name 0 (take count t.transitions)) (map (act_of t) s.actions)
