-- The tests of each block type, except for networks (IEC 61499-1, 5.2; IEC 61131-3, 7.3).
use Rattle.std.specs.Prelude.{◌≡◌, ℕ, length, slice_get, List, [], ◌++◌, map, Bool, true, ◌&&◌, Some, None}
use Rattle.std.specs.List.{list_all}
use Rattle.fb_types.specs.Syntax.{body_of, expr_of}
use Rattle.fb_types.specs.Blocks.{among, event_names, variable_names, ports_of}
use Rattle.fb_types.specs.Flat.{kind_of, variables_in}
use Rattle.fb_types.specs.Repeated.{algorithm_names}
use Rattle.fb_types.specs.Unknown.{Required, all_of, optional, required_transition, required_withs, required_chart, Mention, mentions, mentions_body, mentioned, is_known, guards_of}
use Rattle.fb_types.specs.Kinds.{Context, context_in, is_condition, body_right, declared_right}
use Rattle.fb_types.specs.declared.library.BlockType.{BlockType}
use Rattle.fb_types.specs.declared.library.BlockType.TheVariants as block
use Rattle.fb_types.specs.declared.library.BasicType.{BasicType}
use Rattle.fb_types.specs.declared.library.Action.{Action}
use Rattle.fb_types.specs.declared.library.Algorithm.{Algorithm}
use Rattle.fb_types.specs.declared.library.EventPort.{EventPort}
use Rattle.fb_types.specs.declared.library.Ports.{Ports}
use Rattle.fb_types.specs.declared.library.State.{State}
use Rattle.fb_types.specs.declared.library.Transition.{Transition}
use Rattle.fb_check_names.specs.Catalog.{IsBlock}
use Rattle.fb_check_names.specs.declared.catalog.BlockIndexes.{BlockIndexes}

-- The indexes of the names of each block type, in the order of the types.
pub record AreBlocks (ts : List BlockType) (xs : List BlockIndexes) : Type 0 where
  pub counted : length xs ≡ length ts
  pub blocks : (k : ℕ) (t : BlockType) (x : BlockIndexes) → slice_get ts k ≡ Some t → slice_get xs k ≡ Some x → IsBlock t x

-- ---- Names

-- a name is among those of the required kind
abbrev pub is_met : Required → Bool
is_met w = among w.1 w.0

abbrev pub all_met : List Required → Bool
all_met ws = list_all is_met ws

abbrev pub required_action : BasicType → Action → List Required
required_action t a = all_of (optional a.algorithm) (algorithm_names t) ++ all_of (optional a.output) (event_names t.ports.event_outputs)

-- the variables WITH an event input
abbrev pub with_inputs : Ports → EventPort → Bool
with_inputs p e = list_all (among (variable_names p.inputs)) e.with

-- the variables WITH an event output
abbrev pub with_outputs : Ports → EventPort → Bool
with_outputs p e = list_all (among (variable_names p.outputs)) e.with

abbrev pub transition_met : BasicType → Transition → Bool
transition_met t x = all_met (required_transition t x)

abbrev pub action_met : BasicType → Action → Bool
action_met t a = all_met (required_action t a)

abbrev pub actions_met : BasicType → State → Bool
actions_met t s = list_all (action_met t) s.actions

abbrev pub all_known : BasicType → List Mention → Bool
all_known t ms = list_all (is_known t) ms

abbrev pub guard_mentions : Transition → List Mention
guard_mentions x = elim x.condition.guard [ None ↦ [] | Some g ↦ mentions (expr_of g) ]

abbrev pub body_known : BasicType → Algorithm → Bool
body_known t a = all_known t (mentions_body (body_of a.body))

abbrev pub guard_known : BasicType → Transition → Bool
guard_known t x = all_known t (guard_mentions x)

abbrev pub is_known_chart : BlockType → Bool
is_known_chart (block.Basic t) = all_met (required_chart t) && all_known t (mentioned t)
is_known_chart (block.Composite t) = true

abbrev pub is_known_block : BlockType → Bool
is_known_block b = all_met (required_withs (ports_of (kind_of b))) && is_known_chart b

-- ---- Kinds

-- the statements of a type, in a loop or not
abbrev pub in_place : BasicType → Bool → Context
in_place t looped = record (context_in t) { in_loop = looped }

abbrev pub is_guard_right : BasicType → Transition → Bool
is_guard_right t x = elim x.condition.guard [ None ↦ true | Some g ↦ is_condition (context_in t) (expr_of g) ]

abbrev pub algorithm_right : BasicType → Algorithm → Bool
algorithm_right t a = body_right (context_in t) (body_of a.body)

abbrev pub chart_right : BasicType → Bool
chart_right t =
    list_all (is_condition (context_in t)) (guards_of t) && list_all (body_right (context_in t)) (map (λ a. body_of a.body) t.algorithms)

abbrev pub is_right_chart : BlockType → Bool
is_right_chart (block.Basic t) = chart_right t
is_right_chart (block.Composite t) = true

abbrev pub is_right_block : BlockType → Bool
is_right_block b = list_all declared_right (variables_in (kind_of b)) && is_right_chart b
