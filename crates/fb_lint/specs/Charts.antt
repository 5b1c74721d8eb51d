-- States, transitions, events and algorithms of a chart that have no effect (IEC 61499-1, 5.2).
use Rattle.std.specs.Prelude.{ℕ, List, take, Bool, true, false, not, ◌&&◌, Option, Some, None}
use Rattle.std.specs.List.{list_any}
use Rattle.fb_types.specs.Names.{Name, same_name}
use Rattle.fb_types.specs.Syntax.{Expr as Said, Truth, expr_of}
use Rattle.fb_types.specs.declared.library.Action.{Action}
use Rattle.fb_types.specs.declared.library.Algorithm.{Algorithm}
use Rattle.fb_types.specs.declared.library.EventPort.{EventPort}
use Rattle.fb_types.specs.declared.library.State.{State}
use Rattle.fb_types.specs.declared.library.Transition.{Transition}
use Rattle.fb_types.specs.declared.text.Expr.{Expr}
use Rattle.fb_check_names.specs.declared.ports.PortKind.TheVariants as kind
use Rattle.fb_lint.specs.Findings.{when, each_from}
use Rattle.fb_lint.specs.declared.warning.Warning.{Warning}
use Rattle.fb_lint.specs.declared.warning.Warning.TheVariants.{FinalState, ShadowedTransition, UnusedAlgorithm, UnusedPort}

-- a name that may be left out is this one
abbrev pub is_named : Name → Option Name → Bool
is_named n None = false
is_named n (Some m) = same_name n m

-- ---- L06

abbrev pub leaves : (state : Name) → Transition → Bool
leaves s x = same_name s x.from

abbrev pub final_state : (block : ℕ) → List Transition → ℕ → State → List Warning
final_state b xs k s = when (not (list_any (leaves s.name) xs)) (FinalState b k)

abbrev pub final_states : (block : ℕ) → List Transition → List State → List Warning
final_states b xs ss = each_from (final_state b xs) 0 ss

-- ---- L07

-- the expression is TRUE; parentheses mean nothing
abbrev pub is_true : Said → Bool
is_true (Truth b) = b
is_true _ = false

-- there is no guard, or it is TRUE
abbrev pub always_holds : Option Expr → Bool
always_holds None = true
always_holds (Some g) = is_true (expr_of g)

-- the event of an earlier transition is present whenever that of a later one is
abbrev pub is_met_with : (earlier later : Option Name) → Bool
is_met_with None later = true
is_met_with (Some e) later = is_named e later

-- the earlier transition leaves the same state, and clears whenever the later one would
abbrev pub shadows : (later earlier : Transition) → Bool
shadows x y = same_name x.from y.from && always_holds y.condition.guard && is_met_with y.condition.event x.condition.event

abbrev pub shadowed_transition : (block : ℕ) → List Transition → ℕ → Transition → List Warning
shadowed_transition b xs k x = when (list_any (shadows x) (take k xs)) (ShadowedTransition b k)

abbrev pub shadowed_transitions : (block : ℕ) → List Transition → List Warning
shadowed_transitions b xs = each_from (shadowed_transition b xs) 0 xs

-- ---- L09

abbrev pub runs : (algorithm : Name) → Action → Bool
runs n a = is_named n a.algorithm

abbrev pub runs_in : (algorithm : Name) → State → Bool
runs_in n s = list_any (runs n) s.actions

abbrev pub unused_algorithm : (block : ℕ) → List State → ℕ → Algorithm → List Warning
unused_algorithm b ss k a = when (not (list_any (runs_in a.name) ss)) (UnusedAlgorithm b k)

abbrev pub unused_algorithms : (block : ℕ) → List State → List Algorithm → List Warning
unused_algorithms b ss as' = each_from (unused_algorithm b ss) 0 as'

-- ---- L11, of event outputs

abbrev pub emits : (event : Name) → Action → Bool
emits n a = is_named n a.output

abbrev pub emits_in : (event : Name) → State → Bool
emits_in n s = list_any (emits n) s.actions

abbrev pub silent_output : (block : ℕ) → List State → ℕ → EventPort → List Warning
silent_output b ss k e = when (not (list_any (emits_in e.name) ss)) (UnusedPort b kind.EventOutput k)

abbrev pub silent_outputs : (block : ℕ) → List State → List EventPort → List Warning
silent_outputs b ss es = each_from (silent_output b ss) 0 es
