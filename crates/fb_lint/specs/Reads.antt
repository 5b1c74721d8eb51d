-- Data inputs that are read and not sampled, variables that nothing mentions, and output events without assigned data (IEC
-- 61499-1, 5.2; IEC 61131-3, 7.3).
use Rattle.std.specs.Prelude.{ℕ, List, [], ◌∷◌, ◌++◌, flat_map, map, Bool, true, false, not, ◌&&◌, Option, Some, None}
use Rattle.std.specs.List.{filter, list_any}
use Rattle.fb_types.specs.Names.{Name, same_name}
use Rattle.fb_types.specs.Blocks.{among, goes_with}
use Rattle.fb_types.specs.Syntax.{Assign, For, body_of}
use Rattle.fb_types.specs.Unknown.{Mention, OfVariable, OfFunction, mentions_body}
use Rattle.fb_types.specs.declared.library.Algorithm.{Algorithm}
use Rattle.fb_types.specs.declared.library.EventPort.{EventPort}
use Rattle.fb_types.specs.declared.library.Library.{Library}
use Rattle.fb_types.specs.declared.library.State.{State}
use Rattle.fb_types.specs.declared.library.Transition.{Transition}
use Rattle.fb_types.specs.declared.library.Variable.{Variable}
use Rattle.fb_check_names.specs.declared.ports.PortKind.{PortKind}
use Rattle.fb_check.specs.types.Checks.{guard_mentions}
use Rattle.fb_check.specs.types.Statements.{Standing, each_in_body}
use Rattle.fb_lint.specs.Charts.{runs}
use Rattle.fb_lint.specs.Findings.{when, each_from}
use Rattle.fb_lint.specs.Parameters.{is_given}
use Rattle.fb_lint.specs.Reached.{edge_of, leads}
use Rattle.fb_lint.specs.declared.algorithms.Chart as code
use Rattle.fb_lint.specs.declared.warning.Warning.{Warning}
use Rattle.fb_lint.specs.declared.warning.Warning.TheVariants.{UnsampledInGuard, UnsampledInAlgorithm, UnusedPort, UnassignedEvent}

-- what a guard or an algorithm names is the variable. Of a data input that is a reading, since none is assigned.
abbrev pub is_variable : Name → Mention → Bool
is_variable n (OfVariable m) = same_name n m
is_variable n (OfFunction f) = false

-- there is an event, and it does not sample the variable
abbrev pub is_unsampled : List EventPort → (event : Option Name) → (variable : Name) → Bool
is_unsampled es None v = false
is_unsampled es (Some e) v = not (list_any (goes_with e v) es)

-- ---- L03

-- the variable is named, and the event does not sample it
abbrev pub is_read_unsampled : List EventPort → (event : Option Name) → List Mention → (variable : Name) → Bool
is_read_unsampled es e ms v = list_any (is_variable v) ms && is_unsampled es e v

-- the same, and the variable has no parameter at each instance of the type
abbrev pub is_read_late : Library → (of : Name) → List EventPort → (event : Option Name) → List Mention → (variable : Name) → Bool
is_read_late lib n es e ms v = is_read_unsampled es e ms v && not (is_given lib n v)

abbrev pub unsampled_in_guard : Library → (of : Name) → (block transition : ℕ) → List EventPort → (event : Option Name) → List Mention → ℕ → Variable → List Warning
unsampled_in_guard lib n b x es e ms k v = when (is_read_late lib n es e ms v.name) (UnsampledInGuard b x k)

abbrev pub unsampled_by_guard : Library → (of : Name) → (block transition : ℕ) → List EventPort → (event : Option Name) → List Mention → List Variable → List Warning
unsampled_by_guard lib n b x es e ms vs = each_from (unsampled_in_guard lib n b x es e ms) 0 vs

abbrev pub unsampled_at : Library → (of : Name) → (block : ℕ) → List EventPort → List Variable → ℕ → Transition → List Warning
unsampled_at lib n b es vs x t = unsampled_by_guard lib n b x es t.condition.event (guard_mentions t) vs

abbrev pub unsampled_in_guards : Library → (of : Name) → (block : ℕ) → List EventPort → List Variable → List Transition → List Warning
unsampled_in_guards lib n b es vs xs = each_from (unsampled_at lib n b es vs) 0 xs

-- ---- L04

-- the state of that name runs the algorithm
abbrev pub runs_at : (algorithm state : Name) → State → Bool
runs_at a n s = same_name n s.name && list_any (runs a) s.actions

-- A chart: its states, its transitions, and the event inputs of its type.
pub record Chart : Type 0 where
  pub states : List State
  pub transitions : List Transition
  pub events : List EventPort

abbrev pub chart_of : code.Chart → Chart
chart_of c = record { states = c.states.now; transitions = c.transitions.now; events = c.events.now }

-- no event of the transition samples the variable
abbrev pub passes_by : List EventPort → (variable : Name) → Transition → Bool
passes_by es v x = elim x.condition.event [ None ↦ true | Some e ↦ not (list_any (goes_with e v) es) ]

abbrev pub passing : Chart → (variable : Name) → List Transition
passing c v = filter (passes_by c.events v) c.transitions

-- such transitions alone lead from the first state to this one
abbrev pub leads_passing : Chart → (variable : Name) → List State → (state : Name) → Bool
leads_passing c v [] n = false
leads_passing c v (s ∷ ss) n = leads (map edge_of (passing c v)) s.name n

-- An event that does not sample the variable leads to a state that runs the algorithm, and nothing on the way from the first state
-- to it has sampled the variable.
abbrev pub leads_unsampled : Chart → (algorithm variable : Name) → Transition → Bool
leads_unsampled c a v x =
    is_unsampled c.events x.condition.event v && list_any (runs_at a x.to) c.states && leads_passing c v c.states x.from

-- the variable is named, and an event that does not sample it leads to the algorithm
abbrev pub is_led_unsampled : Chart → (algorithm : Name) → List Mention → (variable : Name) → Bool
is_led_unsampled c a ms v = list_any (is_variable v) ms && list_any (leads_unsampled c a v) c.transitions

-- the same, and the variable has no parameter at each instance of the type
abbrev pub is_led_late : Library → (of : Name) → Chart → (algorithm : Name) → List Mention → (variable : Name) → Bool
is_led_late lib of c a ms v = is_led_unsampled c a ms v && not (is_given lib of v)

abbrev pub unsampled_in_algorithm : Library → (of : Name) → Chart → (block algorithm : ℕ) → (name : Name) → List Mention → ℕ → Variable → List Warning
unsampled_in_algorithm lib of c b a n ms k v = when (is_led_late lib of c n ms v.name) (UnsampledInAlgorithm b a k)

abbrev pub unsampled_by_algorithm : Library → (of : Name) → Chart → (block algorithm : ℕ) → (name : Name) → List Mention → List Variable → List Warning
unsampled_by_algorithm lib of c b a n ms vs = each_from (unsampled_in_algorithm lib of c b a n ms) 0 vs

abbrev pub unsampled_in : Library → (of : Name) → Chart → (block : ℕ) → List Variable → ℕ → Algorithm → List Warning
unsampled_in lib of c b vs a x = unsampled_by_algorithm lib of c b a x.name (mentions_body (body_of x.body)) vs

abbrev pub unsampled_in_algorithms : Library → (of : Name) → Chart → (block : ℕ) → List Variable → List Algorithm → List Warning
unsampled_in_algorithms lib of c b vs as' = each_from (unsampled_in lib of c b vs) 0 as'

-- ---- L11, of variables

abbrev pub mentions_of_algorithm : Algorithm → List Mention
mentions_of_algorithm a = mentions_body (body_of a.body)

-- what the algorithms and the guards name
abbrev pub mentions_of : List Algorithm → List Transition → List Mention
mentions_of as' xs = flat_map mentions_of_algorithm as' ++ flat_map guard_mentions xs

abbrev pub unmentioned : (block : ℕ) → PortKind → List Mention → ℕ → Variable → List Warning
unmentioned b p ms k v = when (not (list_any (is_variable v.name) ms)) (UnusedPort b p k)

abbrev pub unmentioned_variables : (block : ℕ) → PortKind → List Mention → List Variable → List Warning
unmentioned_variables b p ms vs = each_from (unmentioned b p ms) 0 vs

-- ---- L12

-- the variable that a statement assigns, or that controls a FOR
abbrev pub assigned_by : Standing → List Name
assigned_by (l, Assign n e) = n ∷ []
assigned_by (l, For n from to step body) = n ∷ []
assigned_by (l, s) = []

abbrev pub assigned_in : Algorithm → List Name
assigned_in a = flat_map assigned_by (each_in_body false (body_of a.body))

abbrev pub assigned : List Algorithm → List Name
assigned as' = flat_map assigned_in as'

abbrev pub has_some : List Name → Bool
has_some [] = false
has_some (n ∷ ns) = true

-- it has data outputs WITH it, and none of them is assigned
abbrev pub is_unassigned : (assigned outputs : List Name) → Bool
is_unassigned ns vs = has_some vs && not (list_any (among ns) vs)

abbrev pub unassigned_event : (block : ℕ) → (assigned : List Name) → ℕ → EventPort → List Warning
unassigned_event b ns k e = when (is_unassigned ns e.with) (UnassignedEvent b k)

abbrev pub unassigned_events : (block : ℕ) → (assigned : List Name) → List EventPort → List Warning
unassigned_events b ns es = each_from (unassigned_event b ns) 0 es
