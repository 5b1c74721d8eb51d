-- The signals of a line are those that the dump finds for it.
use Rattle.fb_wave.proofs.lemmas.Common.{◌≡◌, ℕ, ◌+◌, ◌<◌, get_or, arith, Bool, true, false, cond, List, [], ◌∷◌, ◌++◌, length, map, sym, ap, subst, ◌∙◌, append_assoc, inputs_with, outputs_with, variable_names, Inputs, system_of, event_at, path_at, ports_at, Twice, System, Ports, Line, Value, AreLevels, AreIndexes, first_signal, pairs}
use Rattle.fb_types.proofs.Common.{AreAccepted}
use Rattle.fb_wave.specs.declared.levels.Levels.{Levels}
use Rattle.fb_system.specs.Lines.{BelongsTo, line_variables}
use Rattle.fb_wave.specs.Lines.{line_side}
use Rattle.fb_wave.specs.LineSignals.{fired, index_of, set_by, changed_signals, touched}
use Rattle.fb_wave.specs.Writing.{AreFirsts, AreMarks}
use Rattle.fb_wave.specs.declared.system_signals.Marks.{Marks}
use Rattle.fb_wave.proofs.lemmas.Numbering.{signals_within}
use Rattle.fb_wave.proofs.lemmas.Known.{inputs_once, outputs_once}
use Rattle.fb_wave.proofs.lemmas.Placing.{names_shown}

pub line_once : (i : Inputs) (l : Line) → AreAccepted i → ¬ (Twice (variable_names (line_side (system_of i) l)))
line_once i l accepted = by l.taken
  where
    its : Ports
    its = ports_at (system_of i) (path_at (system_of i) l.instance)

    by : (b : Bool) → ¬ (Twice (variable_names (cond b its.inputs its.outputs)))
    by true = inputs_once i accepted (path_at (system_of i) l.instance)
    by false = outputs_once i accepted (path_at (system_of i) l.instance)

signals_are : (sys : System) (l : Line) (m : Marks) → ¬ (Twice (variable_names (line_side sys l))) → AreMarks sys l m → map (λ k. m.first + k) m.indexes.now ≡ changed_signals sys l
signals_are sys l m once are =
    names_shown (line_side sys l) m.first (line_variables sys l) m.indexes.now once are.indexes_are
    ∙ ap (λ (f : ℕ). map (λ n. f + index_of (line_side sys l) n) (line_variables sys l)) are.first_is

pub marks_shown :
    (sys : System) (l : Line) (m : Marks) (n : ℕ) (f u : List ℕ) (t : List (ℕ × Value)) (y : Levels) → ¬ (Twice (variable_names (line_side sys l))) → AreMarks sys l m
    → AreLevels n (f ++ m.event ∷ []) (t ++ pairs (map (λ k. m.first + k) m.indexes.now) l.values)
    ((u ++ m.event ∷ []) ++ map (λ p. p.0) (pairs (map (λ k. m.first + k) m.indexes.now) l.values)) y
    → AreLevels n (f ++ fired sys l ∷ []) (t ++ set_by sys l) (u ++ touched sys l) y
marks_shown sys l m n f u t y once are is =
    let at : (e : ℕ) → (ss : List ℕ) → Type 0 =
    λ e ss. AreLevels n (f ++ e ∷ []) (t ++ pairs ss l.values) ((u ++ e ∷ []) ++ map (λ p. p.0) (pairs ss l.values)) y
    in
    let one : at m.event (changed_signals sys l) = subst (at m.event) (signals_are sys l m once are) is in
    let two : at (fired sys l) (changed_signals sys l) = subst (λ (e : ℕ). at e (changed_signals sys l)) are.event_is one in
    subst (λ (us : List ℕ). AreLevels n (f ++ fired sys l ∷ []) (t ++ set_by sys l) us y)
    (append_assoc u (fired sys l ∷ []) (map (λ (p : ℕ × Value). p.0) (set_by sys l))) two

-- ---- Where the signals of a line are

pub taken_within : (sys : System) (l : Line) → BelongsTo sys l → l.taken ≡ true → l.event < length (ports_at sys (path_at sys l.instance)).event_inputs
taken_within sys l is taken =
    let its = ports_at sys (path_at sys l.instance) in
    subst (λ (b : Bool). l.event < length (cond b its.event_inputs its.event_outputs)) taken is.event

pub emitted_within : (sys : System) (l : Line) → BelongsTo sys l → l.taken ≡ false → l.event < length (ports_at sys (path_at sys l.instance)).event_outputs
emitted_within sys l is taken =
    let its = ports_at sys (path_at sys l.instance) in
    subst (λ (b : Bool). l.event < length (cond b its.event_inputs its.event_outputs)) taken is.event

abbrev with_sign : Line → Bool → Line
with_sign l b = record l { taken = b }

pub marks_taken :
    (sys : System) (l : Line) (m : Marks) (firsts : List ℕ) (its : Ports) → AreFirsts sys firsts → BelongsTo sys l → l.taken ≡ true → its ≡ ports_at sys (path_at sys l.instance)
    → m.event ≡ get_or firsts l.instance 0 + l.event → m.first ≡ get_or firsts l.instance 0 + length its.event_inputs + length its.event_outputs
    → AreIndexes (ports_at sys (path_at sys l.instance)).inputs (inputs_with (ports_at sys (path_at sys l.instance)) (event_at (ports_at sys (path_at sys l.instance)).event_inputs l.event)) m.indexes.now
    → AreMarks sys l m
marks_taken sys l m firsts its are is taken same event first stand =
    let own = ports_at sys (path_at sys l.instance) in
    let at = are.each l.instance (omega (arith, is.instance)) in
    let all = signals_within sys l.instance is.instance in
    let few = taken_within sys l is taken in
    let variables : m.first ≡ first_signal sys l.instance + length own.event_inputs + length own.event_outputs =
    first ∙ ap (λ (x : Ports). get_or firsts l.instance 0 + length x.event_inputs + length x.event_outputs) same
    ∙ ap (λ (k : ℕ). k + length own.event_inputs + length own.event_outputs) at
    in
    let made : AreMarks sys (with_sign l true) m = record {
      event_is = event ∙ ap (λ (k : ℕ). k + l.event) at;
      event_within = omega (arith, event, at, all, few);
      first_is = omega (arith, variables);
      indexes_are = stand;
      within = λ k d h. let w = stand.within k d h in omega (arith, w, variables, all);
    } in
    subst (λ (x : Line). AreMarks sys x m) (sym (ap (with_sign l) taken)) made

pub marks_emitted :
    (sys : System) (l : Line) (m : Marks) (firsts : List ℕ) (its : Ports) → AreFirsts sys firsts → BelongsTo sys l → l.taken ≡ false → its ≡ ports_at sys (path_at sys l.instance)
    → m.event ≡ get_or firsts l.instance 0 + length its.event_inputs + l.event
    → m.first ≡ get_or firsts l.instance 0 + length its.event_inputs + length its.event_outputs + length its.inputs
    → AreIndexes (ports_at sys (path_at sys l.instance)).outputs (outputs_with (ports_at sys (path_at sys l.instance)) (event_at (ports_at sys (path_at sys l.instance)).event_outputs l.event)) m.indexes.now
    → AreMarks sys l m
marks_emitted sys l m firsts its are is taken same event first stand =
    let own = ports_at sys (path_at sys l.instance) in
    let at = are.each l.instance (omega (arith, is.instance)) in
    let all = signals_within sys l.instance is.instance in
    let few = emitted_within sys l is taken in
    let variables : m.first ≡ first_signal sys l.instance + length own.event_inputs + length own.event_outputs + length own.inputs =
    first ∙ ap (λ (x : Ports). get_or firsts l.instance 0 + length x.event_inputs + length x.event_outputs + length x.inputs) same
    ∙ ap (λ (k : ℕ). k + length own.event_inputs + length own.event_outputs + length own.inputs) at
    in
    let here : m.event ≡ first_signal sys l.instance + length own.event_inputs + l.event =
    event ∙ ap (λ (x : Ports). get_or firsts l.instance 0 + length x.event_inputs + l.event) same
    ∙ ap (λ (k : ℕ). k + length own.event_inputs + l.event) at
    in
    let made : AreMarks sys (with_sign l false) m = record {
      event_is = omega (arith, here);
      event_within = omega (arith, here, all, few);
      first_is = omega (arith, variables);
      indexes_are = stand;
      within = λ k d h. let w = stand.within k d h in omega (arith, w, variables, all);
    } in
    subst (λ (x : Line). AreMarks sys x m) (sym (ap (with_sign l) taken)) made
