-- The names of an event block's ports differ.
use Rattle.fb_types.proofs.Common.{◌≡◌, Bool, true, not, ◌&&◌, List, [], ◌∷◌, ◌++◌, refl, sym, ◌∙◌, inl, inr, and_parts, not-true, true≢false, among, event_names, ports_of_event_block, variable_names, Name, Twice, EventKind, Ports}
use Rattle.fb_types.proofs.lemmas.events.AllKinds.{of_each}
use Rattle.fb_types.proofs.lemmas.names.NameLaws.{any_from_contains}
use Rattle.fb_types.proofs.lemmas.lists.TwiceLaws.{Twice-append_left, Twice-append_right}

-- whether names differ
abbrev differ : List Name → Bool
differ [] = true
differ (n ∷ ns) = not (among ns n) && differ ns

once_from_test : (ns : List Name) → differ ns ≡ true → ¬ (Twice ns)
once_from_test [] h t = t
once_from_test (n ∷ ns) h t =
    let parts = and_parts (not (among ns n)) (differ ns) h in
    elim t [
      | inl c ↦ true≢false (sym (any_from_contains n ns c) ∙ not-true (among ns n) parts.0)
      | inr rest ↦ once_from_test ns parts.1 rest
    ]

-- the names of the events, and those of the variables
abbrev pub events : Ports → List Name
events p = event_names p.event_inputs ++ event_names p.event_outputs

abbrev pub variables : Ports → List Name
variables p = variable_names p.inputs ++ variable_names p.outputs

-- no name is that of two ports
pub ports_once : (k : EventKind) → ¬ (Twice (events (ports_of_event_block k) ++ variables (ports_of_event_block k)))
ports_once k =
    once_from_test (events (ports_of_event_block k) ++ variables (ports_of_event_block k))
    (of_each (λ k. differ (events (ports_of_event_block k) ++ variables (ports_of_event_block k))) refl k)

pub events_once : (k : EventKind) → ¬ (Twice (events (ports_of_event_block k)))
events_once k t = ports_once k (Twice-append_left (events (ports_of_event_block k)) (variables (ports_of_event_block k)) t)

pub variables_once : (k : EventKind) → ¬ (Twice (variables (ports_of_event_block k)))
variables_once k t = ports_once k (Twice-append_right (events (ports_of_event_block k)) (variables (ports_of_event_block k)) t)
