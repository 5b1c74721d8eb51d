-- A basic type of an accepted declaration is sound.
use Rattle.fb_types.proofs.Common.{◌≡◌, Bool, true, false, ◌&&◌, ◌||◌, List, [], ◌∷◌, ◌++◌, map, Option, Some, None, Contains, refl, sym, ◌∙◌, ap, subst, inl, inr, append_assoc, flat_map, true≢false, map-append, Contains-append_left, Contains-append_right, Name, same_name, Stmt, Empty, Exit, Return, Assign, If, Case, For, While, Repeat, Stmts, no_stmt, then_stmts, Choices, no_choice, then_choices, Branches, no_branch, then_branches, body_of, among, event_names, variable_names, variables_of, resource_names_of, Twice, OwnedNetwork, NameTwice, networks, basics, basics_in, interfaces, port_names, name_spaces, block_type_names, algorithm_names, state_names, instance_names, with_lists, parameter_lists, Required, required, all_of, required_types, required_withs, required_chart, required_parameters, required_deployment, Mention, mentions, mentions_body, mentioned, is_known, NameUnknown}
use Rattle.fb_types.specs.declared.library.Action.{Action}
use Rattle.fb_types.specs.declared.library.Algorithm.{Algorithm}
use Rattle.fb_types.specs.declared.library.BasicType.{BasicType}
use Rattle.fb_types.specs.declared.library.BlockType.{BlockType}
use Rattle.fb_types.specs.declared.library.EventPort.{EventPort}
use Rattle.fb_types.specs.declared.library.Library.{Library}
use Rattle.fb_types.specs.declared.library.Transition.{Transition}
use Rattle.fb_types.specs.declared.library.Variable.{Variable}
use Rattle.fb_types.specs.declared.deploy.Plan.{Plan}
use Rattle.fb_types.specs.Unknown.{optional, required_transition, required_actions, OfVariable, OfFunction, mentions_in, mentions_choices, mentions_branches, guards_of}
use Rattle.fb_types.specs.declared.library.BlockType.TheVariants as block
use Rattle.fb_types.specs.declared.library.State.{State}
use Rattle.fb_types.proofs.lemmas.names.NameLaws.{same_name-itself}
use Rattle.fb_st.specs.Frames.{Declared, is_declared}
use Rattle.fb_st.specs.Known.{AssignsKnown, AllKnown, ChoicesKnown, BranchesKnown}
use Rattle.fb_st.proofs.lemmas.Indexes.{index_of_once}
use Rattle.fb_ecc.specs.Opened.{IsOfDeclaration}
use Rattle.fb_ecc.specs.Sound.{Each, IsSound, AreFirst, action_known, actions_known, declared_by, is_named}
use Rattle.fb_types.proofs.lemmas.lists.ListTests.{passes_from}
use Rattle.fb_types.proofs.lemmas.lists.ByIndex.{element_of_index}
use Rattle.fb_types.proofs.lemmas.lists.TwiceLaws.{Twice-append_left, Twice-append_right}
use Rattle.fb_types.proofs.lemmas.lists.Elements.{Contains-cons_cases, Contains-nil, Contains-here, Contains-there, Contains-map, Contains-flat_map}
use Rattle.fb_ecc.proofs.lemmas.Links.{names_declared}

-- ---- Lists

both : (a b : Bool) → a ≡ true → b ≡ true → (a && b) ≡ true
both true b h g = g
both false b h g = h

contains-among : (ns : List Name) (n : Name) → Contains ns n → among ns n ≡ true
contains-among [] n h = absurd (Contains-nil n h)
contains-among (m ∷ ms) n h =
    elim (Contains-cons_cases m ms n h) [
      | inl e ↦ let same : same_name n m ≡ true = subst (λ (k : Name). same_name n k ≡ true) (sym e) (same_name-itself n) in rw same refl
      | inr rest ↦
          let later = contains-among ms n rest in
          elim (same_name n m) as (λ b. (b || among ms n) ≡ true) [ true ↦ refl | false ↦ later ]
    ]

-- names that differ are first
first_from_once : {A : Type 0} (f : A → Name) (xs : List A) → ¬ (Twice (map f xs)) → AreFirst f xs
first_from_once f xs once i x at = index_of_once f (f x) xs i x once at (same_name-itself (f x))

-- ---- Algorithms

abbrev IsFine : List Declared → Mention → Type 0
IsFine ds (OfVariable n) = is_declared ds n ≡ true
IsFine ds (OfFunction n) = Unit {0}

mutual
  assigns_known : (ds : List Declared) (s : Stmt) → ((m : Mention) → Contains (mentions_in s) m → IsFine ds m) → AssignsKnown ds s
  assigns_known ds Empty fine = tt
  assigns_known ds Exit fine = tt
  assigns_known ds Return fine = tt
  assigns_known ds (Assign n e) fine = fine (OfVariable n) (Contains-here (OfVariable n) (mentions e))
  assigns_known ds (If cs others) fine = (
    choices_known ds cs (λ m c. fine m (Contains-append_left (mentions_choices cs) (mentions_body others) m c)),
    all_known ds others (λ m c. fine m (Contains-append_right (mentions_choices cs) (mentions_body others) m c)),
  )
  assigns_known ds (Case e bs others) fine = (
    branches_known ds bs
        (λ m c. fine m (Contains-append_left (mentions e ++ mentions_branches bs) (mentions_body others) m (Contains-append_right (mentions e) (mentions_branches bs) m c))),
    all_known ds others (λ m c. fine m (Contains-append_right (mentions e ++ mentions_branches bs) (mentions_body others) m c)),
  )
  assigns_known ds (For n a b c body) fine =
      let bounds : List Mention = (OfVariable n ∷ mentions a) ++ mentions b in (
        fine (OfVariable n)
            (Contains-append_left (bounds ++ mentions c) (mentions_body body) (OfVariable n)
            (Contains-append_left bounds (mentions c) (OfVariable n)
            (Contains-append_left (OfVariable n ∷ mentions a) (mentions b) (OfVariable n) (Contains-here (OfVariable n) (mentions a))))),
        all_known ds body (λ m d. fine m (Contains-append_right (bounds ++ mentions c) (mentions_body body) m d)),
      )
  assigns_known ds (While e body) fine = all_known ds body (λ m c. fine m (Contains-append_right (mentions e) (mentions_body body) m c))
  assigns_known ds (Repeat body e) fine = all_known ds body (λ m c. fine m (Contains-append_left (mentions_body body) (mentions e) m c))

  all_known : (ds : List Declared) (b : Stmts) → ((m : Mention) → Contains (mentions_body b) m → IsFine ds m) → AllKnown ds b
  all_known ds no_stmt fine = tt
  all_known ds (then_stmts s rest) fine = (
    assigns_known ds s (λ m c. fine m (Contains-append_left (mentions_in s) (mentions_body rest) m c)),
    all_known ds rest (λ m c. fine m (Contains-append_right (mentions_in s) (mentions_body rest) m c)),
  )

  choices_known : (ds : List Declared) (cs : Choices) → ((m : Mention) → Contains (mentions_choices cs) m → IsFine ds m) → ChoicesKnown ds cs
  choices_known ds no_choice fine = tt
  choices_known ds (then_choices e body rest) fine = (
    all_known ds body
        (λ m c. fine m (Contains-append_left (mentions e ++ mentions_body body) (mentions_choices rest) m (Contains-append_right (mentions e) (mentions_body body) m c))),
    choices_known ds rest (λ m c. fine m (Contains-append_right (mentions e ++ mentions_body body) (mentions_choices rest) m c)),
  )

  branches_known : (ds : List Declared) (bs : Branches) → ((m : Mention) → Contains (mentions_branches bs) m → IsFine ds m) → BranchesKnown ds bs
  branches_known ds no_branch fine = tt
  branches_known ds (then_branches ls body rest) fine = (
    all_known ds body (λ m c. fine m (Contains-append_left (mentions_body body) (mentions_branches rest) m c)),
    branches_known ds rest (λ m c. fine m (Contains-append_right (mentions_body body) (mentions_branches rest) m c)),
  )

-- ---- Types of a declaration

basic_among : (bs : List BlockType) (t : BasicType) → Contains (flat_map basics_in bs) t → Contains bs (block.Basic t)
basic_among [] t h = absurd (Contains-nil t h)
basic_among (block.Basic b ∷ bs) t h =
    elim (Contains-cons_cases b (flat_map basics_in bs) t h) [
      | inl e ↦ subst (λ (z : BasicType). Contains (block.Basic b ∷ bs) (block.Basic z)) e (Contains-here (block.Basic b) bs)
      | inr rest ↦ Contains-there (block.Basic b) bs (block.Basic t) (basic_among bs t rest)
    ]
basic_among (block.Composite c ∷ bs) t h = Contains-there (block.Composite c) bs (block.Basic t) (basic_among bs t h)

-- The names of each kind differ.
pub record NamesOnce (t : BasicType) : Type 0 where
  pub states : ¬ (Twice (state_names t))
  pub algorithms : ¬ (Twice (algorithm_names t))
  pub event_inputs : ¬ (Twice (event_names t.ports.event_inputs))
  pub event_outputs : ¬ (Twice (event_names t.ports.event_outputs))
  pub inputs : ¬ (Twice (variable_names t.ports.inputs))
  pub outputs : ¬ (Twice (variable_names t.ports.outputs))

module _ (lib : Library) (plan : Plan) (t : BasicType) (once : ¬ (NameTwice lib plan)) (unknown : ¬ (NameUnknown lib plan)) (declared : Contains (basics lib) t) where
  -- a name space of the first three sorts
  space_once :
      (ns : List Name) → Contains ((block_type_names lib ∷ map port_names lib.blocks) ++ map algorithm_names (basics lib) ++ map state_names (basics lib)) ns → ¬ (Twice ns)
  space_once ns among_first twice =
      let first : List (List Name) = (block_type_names lib ∷ map port_names lib.blocks) ++ map algorithm_names (basics lib) ++ map state_names (basics lib) in
      let instances : List (List Name) = map (λ (n : OwnedNetwork). instance_names n.1) (networks lib) in
      let withs : List (List Name) = flat_map with_lists (interfaces lib) in
      let parameters : List (List Name) = flat_map (λ (n : OwnedNetwork). parameter_lists n.1) (networks lib) in
      let among_all : Contains (name_spaces lib plan) ns =
      Contains-append_left (first ++ instances ++ withs ++ parameters) (resource_names_of plan ∷ []) ns
      (Contains-append_left (first ++ instances ++ withs) parameters ns
      (Contains-append_left (first ++ instances) withs ns (Contains-append_left first instances ns among_first))) in
      once (inl (ns, among_all, twice))

  states_once : ¬ (Twice (state_names t))
  states_once =
      space_once (state_names t)
      (Contains-append_right ((block_type_names lib ∷ map port_names lib.blocks) ++ map algorithm_names (basics lib)) (map state_names (basics lib)) (state_names t)
      (Contains-map state_names (basics lib) t declared))

  ports_once : ¬ (Twice (port_names (block.Basic t)))
  ports_once =
      let ns : List Name = port_names (block.Basic t) in
      let types : List (List Name) = block_type_names lib ∷ map port_names lib.blocks in
      space_once ns
      (Contains-append_left (types ++ map algorithm_names (basics lib)) (map state_names (basics lib)) ns
      (Contains-append_left types (map algorithm_names (basics lib)) ns
      (Contains-there (block_type_names lib) (map port_names lib.blocks) ns (Contains-map port_names lib.blocks (block.Basic t) (basic_among lib.blocks t declared)))))

  algorithms_once : ¬ (Twice (algorithm_names t))
  algorithms_once =
      let ns : List Name = algorithm_names t in
      let first : List (List Name) = block_type_names lib ∷ map port_names lib.blocks in
      space_once ns
      (Contains-append_left (first ++ map algorithm_names (basics lib)) (map state_names (basics lib)) ns
      (Contains-append_right first (map algorithm_names (basics lib)) ns (Contains-map algorithm_names (basics lib) t declared)))

  -- the events and the inputs and outputs, in this order
  interface_once : ¬ (Twice (event_names t.ports.event_inputs ++ event_names t.ports.event_outputs ++ variable_names t.ports.inputs ++ variable_names t.ports.outputs))
  interface_once twice =
      ports_once
      (Twice-append_left (event_names t.ports.event_inputs ++ event_names t.ports.event_outputs ++ variable_names t.ports.inputs ++ variable_names t.ports.outputs) (variable_names t.internals)
      twice)

  names_differ : NamesOnce t
  names_differ =
      let ins : List Name = event_names t.ports.event_inputs in
      let outs : List Name = event_names t.ports.event_outputs in
      let inputs : List Name = variable_names t.ports.inputs in
      let outputs : List Name = variable_names t.ports.outputs in
      let before_outputs : Twice (ins ++ outs ++ inputs) → ⊥ = λ twice. interface_once (Twice-append_left (ins ++ outs ++ inputs) outputs twice) in
      let before_inputs : Twice (ins ++ outs) → ⊥ = λ twice. before_outputs (Twice-append_left (ins ++ outs) inputs twice) in
      record {
        states = states_once;
        algorithms = algorithms_once;
        event_inputs = λ twice. before_inputs (Twice-append_left ins outs twice);
        event_outputs = λ twice. before_inputs (Twice-append_right ins outs twice);
        inputs = λ twice. before_outputs (Twice-append_right (ins ++ outs) inputs twice);
        outputs = λ twice. interface_once (Twice-append_right (ins ++ outs ++ inputs) outputs twice);
      }

  variables_once : ¬ (Twice (variable_names (variables_of t)))
  variables_once twice =
      let events : List Name = event_names t.ports.event_inputs ++ event_names t.ports.event_outputs in
      let inputs : List Name = variable_names t.ports.inputs in
      let outputs : List Name = variable_names t.ports.outputs in
      let internals : List Name = variable_names t.internals in
      let names : variable_names (variables_of t) ≡ (inputs ++ outputs) ++ internals =
      map-append (λ (v : Variable). v.name) (t.ports.inputs ++ t.ports.outputs) t.internals
      ∙ ap (λ (ns : List Name). ns ++ internals) (map-append (λ (v : Variable). v.name) t.ports.inputs t.ports.outputs) in
      let all : events ++ ((inputs ++ outputs) ++ internals) ≡ port_names (block.Basic t) =
      sym (append_assoc events (inputs ++ outputs) internals) ∙ ap (λ (ns : List Name). ns ++ internals) (sym (append_assoc events inputs outputs)) in
      let P : List Name → Type 0 = λ ns. Twice ns in
      ports_once (subst P all (Twice-append_right events ((inputs ++ outputs) ++ internals) (subst P names twice)))

  -- what the chart names is there
  chart_named : (w : Required) → Contains (required_chart t) w → among w.1 w.0 ≡ true
  chart_named w among_chart =
      let networked : List Required = flat_map (λ (n : OwnedNetwork). required_types lib n.1) (networks lib) in
      let withs : List Required = flat_map required_withs (interfaces lib) in
      let charts : List Required = flat_map required_chart (basics lib) in
      let parameters : List Required = flat_map (λ (n : OwnedNetwork). flat_map (required_parameters lib) n.1.instances) (networks lib) in
      let among_all : Contains (required lib plan) w =
      Contains-append_left (networked ++ withs ++ charts ++ parameters) (required_deployment lib plan) w
      (Contains-append_left (networked ++ withs ++ charts) parameters w
      (Contains-append_right (networked ++ withs) charts w (Contains-flat_map required_chart (basics lib) t w declared among_chart))) in
      elim (among w.1 w.0) as (λ b. among w.1 w.0 ≡ b → b ≡ true) [
        | true ↦ λ e. refl
        | false ↦ λ e. absurd (unknown (inl (w, among_all, λ c. true≢false (sym (contains-among w.1 w.0 c) ∙ e))))
      ] refl

  source_named : (x : Transition) → Contains t.transitions x → among (state_names t) x.from ≡ true
  source_named x at =
      let w : Required = (x.from, state_names t) in
      let others : List Required = (x.to, state_names t) ∷ all_of (optional x.condition.event) (event_names t.ports.event_inputs) in
      chart_named w
      (Contains-append_left (flat_map (required_transition t) t.transitions) (flat_map (required_actions t) t.states) w
      (Contains-flat_map (required_transition t) t.transitions x w at (Contains-here w others)))

  target_named : (x : Transition) → Contains t.transitions x → among (state_names t) x.to ≡ true
  target_named x at =
      let w : Required = (x.to, state_names t) in
      let events : List Required = all_of (optional x.condition.event) (event_names t.ports.event_inputs) in
      chart_named w
      (Contains-append_left (flat_map (required_transition t) t.transitions) (flat_map (required_actions t) t.states) w
      (Contains-flat_map (required_transition t) t.transitions x w at (Contains-there (x.from, state_names t) (w ∷ events) w (Contains-here w events))))

  optional_named :
      (names : List Name) (n : Option Name) → ((m : Name) → Contains (all_of (optional n) names) (m, names) → among names m ≡ true) → is_named names n ≡ true
  optional_named names None each = refl
  optional_named names (Some n) each = each n (Contains-here (n, names) [])

  action_named : (s : State) (a : Action) → Contains t.states s → Contains s.actions a → action_known t a ≡ true
  action_named s a at in_actions =
      let algorithms : List Required = all_of (optional a.algorithm) (algorithm_names t) in
      let outputs : List Required = all_of (optional a.output) (event_names t.ports.event_outputs) in
      let wants : Action → List Required = λ b.
      all_of (optional b.algorithm) (algorithm_names t) ++ all_of (optional b.output) (event_names t.ports.event_outputs) in
      let named : (w : Required) → Contains (algorithms ++ outputs) w → among w.1 w.0 ≡ true = λ w c.
      chart_named w
      (Contains-append_right (flat_map (required_transition t) t.transitions) (flat_map (required_actions t) t.states) w
      (Contains-flat_map (required_actions t) t.states s w at (Contains-flat_map wants s.actions a w in_actions c))) in
      both (is_named (algorithm_names t) a.algorithm) (is_named (event_names t.ports.event_outputs) a.output)
      (optional_named (algorithm_names t) a.algorithm (λ m c. named (m, algorithm_names t) (Contains-append_left algorithms outputs (m, algorithm_names t) c)))
      (optional_named (event_names t.ports.event_outputs) a.output
      (λ m c. named (m, event_names t.ports.event_outputs) (Contains-append_right algorithms outputs (m, event_names t.ports.event_outputs) c)))

  mention_known : (m : Mention) → Contains (mentioned t) m → is_known t m ≡ true
  mention_known m at =
      elim (is_known t m) as (λ b. is_known t m ≡ b → b ≡ true) [
        | true ↦ λ e. refl
        | false ↦ λ e. absurd (unknown (inr (inl (t, m, declared, at, e))))
      ] refl

  mention_fine : (m : Mention) → is_known t m ≡ true → IsFine (declared_by t) m
  mention_fine (OfVariable n) h = ap (λ ns. among ns n) (names_declared (variables_of t)) ∙ h
  mention_fine (OfFunction n) h = tt

  body_known : Each (λ a. AllKnown (declared_by t) (body_of a.body)) t.algorithms
  body_known i a at =
      all_known (declared_by t) (body_of a.body)
      (λ m c. mention_fine m
      (mention_known m
      (Contains-append_left (flat_map (λ (x : Algorithm). mentions_body (body_of x.body)) t.algorithms) (flat_map mentions (guards_of t)) m
      (Contains-flat_map (λ (x : Algorithm). mentions_body (body_of x.body)) t.algorithms a m (element_of_index t.algorithms i a at) c))))

  -- Each basic type of an accepted declaration is sound.
  sound_when_accepted : IsSound t
  sound_when_accepted =
      record {
        states = first_from_once (λ (s : State). s.name) t.states states_once;
        events = first_from_once (λ (p : EventPort). p.name) t.ports.event_inputs names_differ.event_inputs;
        variables = variables_once;
        sources = passes_from (λ (x : Transition). among (state_names t) x.from) t.transitions source_named;
        targets = passes_from (λ (x : Transition). among (state_names t) x.to) t.transitions target_named;
        actions = passes_from (actions_known t) t.states (λ s c. passes_from (action_known t) s.actions (λ a d. action_named s a c d));
        bodies = body_known;
      }

pub sound_in_declaration : (t : BasicType) → IsOfDeclaration t → IsSound t
sound_in_declaration t is = sound_when_accepted is.library is.plan t is.once is.known is.declared

pub names_once : (t : BasicType) → IsOfDeclaration t → NamesOnce t
names_once t is = names_differ is.library is.plan t is.once is.known is.declared
