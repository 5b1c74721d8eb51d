-- The chart of a basic type: its states with their actions, and its transitions with their conditions (IEC 61499-1, 5.2.1.2).
use Rattle.std.specs.Prelude.{ℕ, List, [], ◌∷◌, ◌++◌, Option, Some, None, unwrap_or, codes}
use Rattle.std.specs.List.{flat_map}
use Rattle.fb_types.specs.Names.{Name}
use Rattle.fb_types.specs.declared.library.Action.{Action}
use Rattle.fb_types.specs.declared.library.State.{State}
use Rattle.fb_types.specs.declared.library.Transition.{Transition}
use Rattle.fb_types.specs.declared.library.BasicType.{BasicType}
use Rattle.fb_text.specs.Conditions.{condition_text}
use Rattle.fb_text.specs.Pieces.{joined}
use Rattle.fb_draw.specs.Dot.{head, foot}

-- ---- States

abbrev pub output_text : Option Name → List ℕ
output_text None = []
output_text (Some e) = codes " -> " ++ e

-- an action is on a line of its own
abbrev pub action_text : Action → List ℕ
action_text a = codes "\\n" ++ unwrap_or a.algorithm [] ++ output_text a.output

abbrev pub state_node : (attributes : List ℕ) → State → List ℕ
state_node attributes s =
    joined (codes "  \"" ∷ s.name ∷ codes "\" [" ∷ attributes ∷ codes "label=\"" ∷ s.name ∷ []) ++ flat_map action_text s.actions ++ codes "\"];\n"

-- the first state is the initial one, with a double border
abbrev pub state_nodes : List State → List ℕ
state_nodes [] = []
state_nodes (s ∷ ss) = state_node (codes "peripheries=2, ") s ++ flat_map (state_node []) ss

-- ---- Transitions

abbrev pub transition_edge : Transition → List ℕ
transition_edge t =
    joined (codes "  \"" ∷ t.from ∷ codes "\" -> \"" ∷ t.to ∷ codes "\" [label=\"" ∷ [])
    ++ condition_text t.condition.event t.condition.guard ++ codes "\"];\n"

-- ---- Charts

abbrev pub chart_text : BasicType → List ℕ
chart_text t = head (codes "box") t.name ++ state_nodes t.states ++ flat_map transition_edge t.transitions ++ foot
