-- States that go in a circle by transitions that always clear: a reaction that enters one never ends (IEC 61499-1, 5.2.2).
use Rattle.std.specs.Prelude.{ℕ, List, take, Bool, not, ◌&&◌, is_some}
use Rattle.std.specs.List.{list_any}
use Rattle.fb_types.specs.Names.{Name, same_name}
use Rattle.fb_types.specs.declared.library.State.{State}
use Rattle.fb_types.specs.declared.library.Transition.{Transition}
use Rattle.fb_lint.specs.Charts.{always_holds}
use Rattle.fb_lint.specs.Findings.{when, each_from}
use Rattle.fb_lint.specs.Reached.{Edge, edge_of, leads}
use Rattle.fb_lint.specs.declared.warning.Warning.{Warning}
use Rattle.fb_lint.specs.declared.warning.Warning.TheVariants.{EndlessState}

-- ---- L19

abbrev pub is_eventless_from : (state : Name) → Transition → Bool
is_eventless_from s x = same_name s x.from && not (is_some x.condition.event)

-- Its condition is 1 or TRUE, and each earlier transition from the state waits for an event: after the first transition of a
-- reaction no event is there.
abbrev pub is_certain : (earlier : List Transition) → Transition → Bool
is_certain earlier x = not (is_some x.condition.event) && always_holds x.condition.guard && not (list_any (is_eventless_from x.from) earlier)

abbrev pub edge_if : Bool → Transition → List Edge
edge_if b x = when b (edge_of x)

abbrev pub certain_edge : List Transition → ℕ → Transition → List Edge
certain_edge xs k x = edge_if (is_certain (take k xs) x) x

abbrev pub certain_edges : List Transition → List Edge
certain_edges xs = each_from (certain_edge xs) 0 xs

-- the edge leaves the state, and edges lead back from its end
abbrev pub leads_back : List Edge → (state : Name) → Edge → Bool
leads_back es s e = same_name s e.0 && leads es e.1 s

abbrev pub endless_state : (block : ℕ) → List Edge → ℕ → State → List Warning
endless_state b es k s = when (list_any (leads_back es s.name) es) (EndlessState b k)

abbrev pub endless_states : (block : ℕ) → List Transition → List State → List Warning
endless_states b xs ss = each_from (endless_state b (certain_edges xs)) 0 ss
