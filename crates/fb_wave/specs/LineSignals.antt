-- The signals of the lines of a trace (this project's profile).
use Rattle.std.specs.Prelude.{ℕ, ◌+◌, List, [], ◌∷◌, map, unwrap_or, position}
use Rattle.std.specs.List.{flat_map}
use Rattle.fb_types.specs.Names.{Name, same_name}
use Rattle.fb_types.specs.Blocks.{variable_names}
use Rattle.fb_types.specs.Systems.{System}
use Rattle.fb_types.specs.declared.library.Variable.{Variable}
use Rattle.fb_types.specs.declared.run.Line.{Line}
use Rattle.fb_types.specs.declared.value.Value.{Value}
use Rattle.fb_system.specs.Lines.{line_variables}
use Rattle.fb_wave.specs.Lines.{line_side}
use Rattle.fb_wave.specs.Signals.{event_signal, first_variable}

-- the index of a variable among those
abbrev pub index_of : List Variable → Name → ℕ
index_of vs n = unwrap_or (position (same_name n) (variable_names vs)) 0

-- the signal of a line's event
abbrev pub fired : System → Line → ℕ
fired sys l = event_signal sys l.instance l.taken l.event

-- numbers, each with the value at its index
abbrev pub pairs : List ℕ → List Value → List (ℕ × Value)
pairs [] vs = []
pairs (s ∷ ss) [] = []
pairs (s ∷ ss) (v ∷ vs) = (s, v) ∷ pairs ss vs

-- the signals of the values of a line
abbrev pub changed_signals : System → Line → List ℕ
changed_signals sys l =
    map (λ n. first_variable sys l.instance l.taken + index_of (line_side sys l) n) (line_variables sys l)

abbrev pub set_by : System → Line → List (ℕ × Value)
set_by sys l = pairs (changed_signals sys l) l.values

-- the signals of a line
abbrev pub touched : System → Line → List ℕ
touched sys l = fired sys l ∷ map (λ t. t.0) (set_by sys l)

-- the events of lines, and their values
abbrev pub fires_of : System → List Line → List ℕ
fires_of sys = map (fired sys)

abbrev pub has_signal : System → List Line → List (ℕ × Value)
has_signal sys = flat_map (set_by sys)

-- the signals of lines
abbrev pub touches_of : System → List Line → List ℕ
touches_of sys = flat_map (touched sys)
