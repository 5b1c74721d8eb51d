-- A chart with indexes in place of names (IEC 61499-1, 5.2; that names represent indexes is this project's profile).
use Rattle.std.specs.Prelude.{ℕ, suc, Bool, List, [], ◌∷◌, map, length, position, option_map, unwrap_or, slice_get, is_some, Some, None, if◌then◌else◌}
use Rattle.std.specs.List.{list_all}
use Rattle.fb_types.specs.Names.{Name, same_name}
use Rattle.fb_types.specs.declared.library.Action.{Action}
use Rattle.fb_types.specs.declared.library.BasicType.{BasicType}
use Rattle.fb_types.specs.declared.library.State.{State}
use Rattle.fb_types.specs.declared.library.Transition.{Transition}
use Rattle.fb_ecc.specs.Located.{slots_with_each}
use Rattle.fb_ecc.specs.declared.chart.Exit.{Exit}
use Rattle.fb_ecc.specs.declared.chart.Act.{Act}
use Rattle.fb_ecc.specs.declared.chart.ChartState.{ChartState}
use Rattle.fb_ecc.specs.declared.chart.Chart.{Chart}

-- the index of the first that has the name, or the length of the list where none has it
abbrev pub number_in : {A : Type 0} → (A → Name) → List A → Name → ℕ
number_in name_of xs n = unwrap_or (position (λ x. same_name n (name_of x)) xs) (length xs)

-- the transition at an index
abbrev pub exit_of : BasicType → ℕ → Transition → Exit
exit_of t index x =
    record {
      transition = index;
      event = option_map (number_in (λ p. p.name) t.ports.event_inputs) x.condition.event;
      is_guarded = is_some x.condition.guard;
      target = number_in (λ s. s.name) t.states x.to;
    }

-- the transitions that leave a state, where the first of the list is at that index
abbrev pub exits_from : BasicType → Name → ℕ → List Transition → List Exit
exits_from t state index [] = []
exits_from t state index (x ∷ xs) =
    if same_name x.from state then exit_of t index x ∷ exits_from t state (suc index) xs else exits_from t state (suc index) xs

abbrev pub act_of : BasicType → Action → Act
act_of t a =
    record {
      algorithm = option_map (number_in (λ x. x.name) t.algorithms) a.algorithm;
      output = option_map (number_in (λ p. p.name) t.ports.event_outputs) a.output;
    }

-- whether each transition waits for an event
abbrev pub are_waiting : List Exit → Bool
are_waiting = list_all (λ e. is_some e.event)

-- a row with these transitions
abbrev pub row_with : List Exit → List Act → ChartState
row_with exits acts = record { exits = exits; acts = acts; waits = are_waiting exits }

abbrev pub row_of : BasicType → State → ChartState
row_of t s = row_with (exits_from t s.name 0 t.transitions) (map (act_of t) s.actions)

-- the transitions that leave the state at an index, none where there is no state
abbrev pub exits_at : List ChartState → ℕ → List Exit
exits_at rows i = elim (slice_get rows i) [ None ↦ [] | Some r ↦ r.exits ]

abbrev pub chart_of : BasicType → Chart
chart_of t =
    record {
      rows = map (row_of t) t.states;
      sampled = slots_with_each t.ports.event_inputs t.ports.inputs 0;
      shown = slots_with_each t.ports.event_outputs t.ports.outputs (length t.ports.inputs);
    }
