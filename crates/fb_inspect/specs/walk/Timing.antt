-- How the reaction of an event block is gone through in a trace (this project's own).
use Rattle.std.specs.Prelude.{◌≡◌, ◌<◌, ◌≤◌, ◌⊎◌, ◌^◌, ℕ, List, [], ◌∷◌, ◌++◌, map, All, false, Option, Some, None}
use Rattle.fb_types.specs.Blocks.{Event, ports_of_event_block, variable_names}
use Rattle.fb_types.specs.EventBlocks as blocks
use Rattle.fb_types.specs.Numbers.{line_of, path_at}
use Rattle.fb_types.specs.Reactions.{memory_of, with_values}
use Rattle.fb_types.specs.States.{Remembers}
use Rattle.fb_types.specs.Systems.{System}
use Rattle.fb_types.specs.Text.{line_text}
use Rattle.fb_types.specs.Values.{Values}
use Rattle.fb_types.specs.declared.event_kind.EventKind.{EventKind}
use Rattle.fb_types.specs.declared.run.Emission as run
use Rattle.fb_types.specs.declared.run.Form.{Form}
use Rattle.fb_types.specs.declared.run.Line.{Line}
use Rattle.fb_types.specs.declared.value.Value.{Value}
use Rattle.fb_event.specs.Reactions.{FitInputs, IsWellFormed, emissions_of, meanings}
use Rattle.fb_wave.specs.Lines.{IsLineOf}
use Rattle.fb_inspect.specs.walk.Looks.{Seen, due_after, emission_line, emissions_by, emits_pieces, memory_pieces, pieces_text, reacted}
use Rattle.fb_inspect.specs.walk.Moves.{Goes, IsEmission, StaysAlone, shown_text}
use Rattle.fb_inspect.specs.declared.walk.blocks.EventBlock.{EventBlock}
use Rattle.fb_inspect.specs.declared.walk.trail.Trail.{Trail}

-- The inputs are those that were sampled last; no reaction reads another variable.
pub record IsBlockKept (kind : EventKind) (b : EventBlock) (s : Seen) : Type 0 where
  pub kind_is : b.state.kind ≡ kind
  pub memory_is : s.memory ≡ Remembers b.state.memory
  pub inputs_are : b.inputs ≡ map s.variables (variable_names (ports_of_event_block kind).inputs)
  pub typed : FitInputs kind b.inputs
  pub due_is : b.due ≡ s.due

-- A line of the system is one of this event block, of which the inputs have values of their types.
pub record IsBlockLine (sys : System) (b : EventBlock) (l : Line) : Type 0 where
  pub line : IsLineOf sys l
  pub kind : sys.kind (path_at sys l.instance) ≡ Some (Event b.state.kind)
  pub early : l.key.tick ≤ 10 ^ 12
  pub typed : FitInputs b.state.kind b.inputs

-- ---- The block

-- the inputs after a line with these values
abbrev pub inputs_after : (inputs values : List Value) → List Value
inputs_after inputs [] = inputs
inputs_after inputs (v ∷ vs) = v ∷ vs

-- An event block has reacted. The timer goes off at this tick where the reaction leaves it as it is.
pub record HasReacted (r : blocks.Reaction) (due : Option ℕ) (old new : EventBlock) (es : List run.Emission) : Type 0 where
  pub memory : new.state.memory ≡ r.memory
  pub kind : new.state.kind ≡ old.state.kind
  pub inputs : new.inputs ≡ old.inputs
  pub due_is : new.due ≡ due_after r.timer due
  pub emitted : meanings old.state.kind es ≡ emissions_of old.state.kind r

-- The line is that of the only emission.
abbrev pub IsOnly : Line → List run.Emission → Type 0
IsOnly l es = (e : run.Emission) × (es ≡ e ∷ []) × IsEmission l l e

-- The timer went off at the tick of a line, which is that of the only emission.
pub record HasExpired (l : Line) (old new : EventBlock) : Type 0 where
  pub due : old.due ≡ Some l.key.tick
  pub emits : List run.Emission
  pub reacted : HasReacted (blocks.expiry old.state.kind old.state.memory l.key.tick) None old new emits
  pub only : IsOnly l emits

-- Where there is one emission alone, the line is not that of it.
abbrev pub IsNotOnly : Line → List run.Emission → Type 0
IsNotOnly l es = (e : run.Emission) → es ≡ e ∷ [] → (e.event < 2 ^ 32) × (IsEmission l l e → ⊥)

-- The timer does not go off in the tick of the line, or something else is emitted.
abbrev pub IsNoExpiry : Line → EventBlock → Type 0
IsNoExpiry l b =
    (b.due ≡ Some l.key.tick → ⊥)
    ⊎ ((es : List run.Emission) × (meanings b.state.kind es ≡ emissions_of b.state.kind (blocks.expiry b.state.kind b.state.memory l.key.tick))
    × All (IsWellFormed b.state.kind) es × IsNotOnly l es)

-- ---- The reaction

-- the variables of a block after it has sampled what a line says
abbrev pub taken_variables : System → Seen → Line → Values
taken_variables sys s l = with_values (line_of sys l).values s.variables

abbrev pub taken_reaction : System → EventKind → Seen → Line → blocks.Reaction
taken_reaction sys kind s l = blocks.reaction kind (memory_of s.memory) (line_of sys l).event l.key.tick (taken_variables sys s l)

abbrev pub timer_reaction : EventKind → Seen → Line → blocks.Reaction
timer_reaction kind s l = blocks.expiry kind (memory_of s.memory) l.key.tick

-- The reaction of an event block was gone through: its emissions are in the lines that were read, and what is shown of it was added.
pub record BlockGoes (sys : System) (form : Form) (kind : EventKind) (line : Line) (r : blocks.Reaction) (vars : Values) (due : Option ℕ) (s : Seen) (b : EventBlock) (old new : Trail) (left after : Option (List ℕ)) : Type 0 where
  pub kept : IsBlockKept kind b (reacted s r vars due)
  pub lines : List Line
  pub are : map (line_of sys) lines ≡ map (emission_line (line_of sys line)) (emissions_by kind r)
  pub goes : Goes sys form line.key.tick lines (shown_text old.is_shown (pieces_text form sys (line_of sys line) (memory_pieces s (reacted s r vars due) ++ emits_pieces (emissions_by kind r)))) old new left after
  pub alone : StaysAlone old.reading new.reading left after

-- The timer of an event block went off at a line, which was passed.
pub record TimerGoes (sys : System) (form : Form) (kind : EventKind) (line : Line) (s : Seen) (b : EventBlock) (old new : Trail) (left after : Option (List ℕ)) : Type 0 where
  pub emitted : line.taken ≡ false
  pub due : s.due ≡ Some line.key.tick
  pub only : record { event = (line_of sys line).event; values = (line_of sys line).values } ∷ [] ≡ emissions_by kind (timer_reaction kind s line)
  pub kept : IsBlockKept kind b (reacted s (timer_reaction kind s line) s.variables None)
  pub goes :
      let here = line_of sys line in
      Goes sys form line.key.tick (line ∷ [])
      (shown_text old.is_shown (line_text form sys here ++ pieces_text form sys here (memory_pieces s (reacted s (timer_reaction kind s line) s.variables None) ++ [])))
      old new left after
  pub alone : StaysAlone old.reading new.reading left after
