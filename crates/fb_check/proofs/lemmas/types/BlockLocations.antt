-- Block types in which a name is unknown, and those in which each is known.
use Rattle.fb_check.proofs.lemmas.Common.{◌≡◌, ◌&&◌, ℕ, true, false, List, Some, Option, sym, ◌∙◌, ap, slice_get, option_map, option_and_then, list_all, Name, among, required_withs, required_chart, Mention, Action, BasicType, BlockType, EventPort, Library, Ports, Transition, State, all_met, with_inputs, with_outputs, transition_met, actions_met, ports_of_block, Direction, basic_at, Unmet, events_of, variables_for, required_transition, required_action}
use Rattle.fb_check.proofs.lemmas.types.Checks.{withs_met, chart_met}
use Rattle.fb_check_names.specs.declared.location.ActionPart.{ActionPart}
use Rattle.fb_check_names.specs.declared.location.TransitionPart.{TransitionPart}
use Rattle.fb_check.specs.types.Unknown.{UnknownAmong, IsUnknownMention, with_required}
use Rattle.fb_check.proofs.lemmas.types.NetworkLocations.{unmet_is}

-- ---- WITH lists

-- the result of the search for a variable that does not exist
abbrev pub FoundWith : List Name → List EventPort → ℕ × ℕ → Type 0
FoundWith ns es r = (e : EventPort) × (slice_get es r.0 ≡ Some e) × ((n : Name) × (slice_get e.with r.1 ≡ Some n) × (among ns n ≡ false))

pub with_location :
    (lib : Library) (b : ℕ) (t : BlockType) (d : Direction) (p : Ports) (es : List EventPort) (r : ℕ × ℕ) → slice_get lib.blocks b ≡ Some t → p ≡ ports_of_block t
    → es ≡ events_of d p → FoundWith (variables_for d p) es r → Unmet (option_and_then (λ t. with_required (ports_of_block t) d r.0 r.1) (slice_get lib.blocks b))
with_location lib b t d p es r at of_type of_side found =
    let q = ports_of_block t in
    let all : es ≡ events_of d q = of_side ∙ ap (events_of d) of_type in
    let n = found.2.0 in (
      (n, variables_for d q),
      ap (option_and_then (λ (t : BlockType). with_required (ports_of_block t) d r.0 r.1)) at
          ∙ ap (option_and_then (λ (x : EventPort). option_map (λ (n : Name). (n, variables_for d q)) (slice_get x.with r.1))) (ap (λ (es : List EventPort). slice_get es r.0) (sym all) ∙ found.1)
          ∙ ap (option_map (λ (n : Name). (n, variables_for d q))) found.2.1,
      unmet_is (n, variables_for d q) (ap (λ (p : Ports). among (variables_for d p) n) (sym of_type) ∙ found.2.2),
    )

pub withs_known :
    (p : Ports) → list_all (with_inputs p) p.event_inputs ≡ true → list_all (with_outputs p) p.event_outputs ≡ true → all_met (required_withs p) ≡ true
withs_known p ins outs = withs_met p ∙ (λ i. ins i && outs i)

-- ---- Charts

abbrev pub FoundTransition : BasicType → List Transition → ℕ × TransitionPart → Type 0
FoundTransition t xs r = (x : Transition) × (slice_get xs r.0 ≡ Some x) × Unmet (required_transition t x r.1)

pub transition_location :
    (lib : Library) (b : ℕ) (t : BasicType) (xs : List Transition) (r : ℕ × TransitionPart) → basic_at lib b ≡ Some t → xs ≡ t.transitions → FoundTransition t xs r
    → Unmet (option_and_then (λ t. option_and_then (λ y. required_transition t y r.1) (slice_get t.transitions r.0)) (basic_at lib b))
transition_location lib b t xs r at all found = (
  found.2.0,
  ap (option_and_then (λ (t : BasicType). option_and_then (λ (y : Transition). required_transition t y r.1) (slice_get t.transitions r.0))) at
      ∙ ap (option_and_then (λ (y : Transition). required_transition t y r.1)) (ap (λ (xs : List Transition). slice_get xs r.0) (sym all) ∙ found.1)
      ∙ found.2.1,
  found.2.2,
)

abbrev pub FoundAction : BasicType → List State → ℕ × (ℕ × ActionPart) → Type 0
FoundAction t ss r = (s : State) × (slice_get ss r.0 ≡ Some s) × ((a : Action) × (slice_get s.actions r.1.0 ≡ Some a) × Unmet (required_action t a r.1.1))

pub action_location :
    (lib : Library) (b : ℕ) (t : BasicType) (ss : List State) (r : ℕ × (ℕ × ActionPart)) → basic_at lib b ≡ Some t → ss ≡ t.states → FoundAction t ss r
    → Unmet (option_and_then (λ t. option_and_then (λ y. option_and_then (λ z. required_action t z r.1.1) (slice_get y.actions r.1.0)) (slice_get t.states r.0)) (basic_at lib b))
action_location lib b t ss r at all found =
    let a = found.2 in (
      a.2.0,
      ap (option_and_then (λ (t : BasicType). option_and_then (λ (y : State). option_and_then (λ (z : Action). required_action t z r.1.1) (slice_get y.actions r.1.0)) (slice_get t.states r.0))) at
          ∙ ap (option_and_then (λ (y : State). option_and_then (λ (z : Action). required_action t z r.1.1) (slice_get y.actions r.1.0))) (ap (λ (ss : List State). slice_get ss r.0) (sym all) ∙ found.1)
          ∙ ap (option_and_then (λ (z : Action). required_action t z r.1.1)) a.1
          ∙ a.2.1,
      a.2.2,
    )

pub chart_known :
    (t : BasicType) → list_all (transition_met t) t.transitions ≡ true → list_all (actions_met t) t.states ≡ true → all_met (required_chart t) ≡ true
chart_known t transitions states = chart_met t ∙ (λ i. transitions i && states i)

-- ---- Guards and algorithms

pub mention_location :
    (lib : Library) (b : ℕ) (t : BasicType) (all : BasicType → Option (List Mention)) (ms : List Mention) (k : ℕ) → basic_at lib b ≡ Some t → all t ≡ Some ms
    → UnknownAmong t ms k → IsUnknownMention lib b all k
mention_location lib b t all ms k at there found =
    record { in_type = t; among = ms; at_index = found.0; at = at; there = there; found = found.1; unknown = found.2 }
