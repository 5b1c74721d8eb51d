-- The variables WITH an output event, if the names of a type differ.
use Rattle.fb_types.proofs.Common.{◌≡◌, ◌||◌, ◌&&◌, true, false, cond, List, [], ◌∷◌, ◌++◌, map, Option, Some, None, Contains, refl, sym, ap, subst, inl, inr, option_map, flat_map, list_any, and_parts, Contains-append_left, Name, same_name, Kind, Event, named, among, event_names, variable_names, variables_with, event_blocks, ports_of, ports_of_event_block, kind_of, type_name, type_named, resource_names_of, Twice, NameTwice, networks, basics, interfaces, block_type_names, port_names, algorithm_names, state_names, instance_names, with_lists, parameter_lists, internals_of}
use Rattle.fb_types.specs.declared.event_kind.EventKind.{EventKind}
use Rattle.fb_types.specs.declared.library.Library.{Library}
use Rattle.fb_types.specs.declared.library.BlockType.{BlockType}
use Rattle.fb_types.specs.declared.library.EventPort.{EventPort}
use Rattle.fb_types.specs.declared.library.Variable.{Variable}
use Rattle.fb_types.specs.declared.deploy.Plan.{Plan}
use Rattle.fb_types.specs.Blocks.{goes_with}
use Rattle.fb_types.proofs.lemmas.lists.TwiceLaws.{Twice-append_left, Twice-append_right}
use Rattle.fb_types.proofs.lemmas.lists.Options.{map_parts}
use Rattle.fb_types.proofs.lemmas.names.NameLaws.{contains_from_any, any_from_contains, same_from_same_name, named-Contains}
use Rattle.fb_types.proofs.lemmas.lists.Elements.{Contains-nil, Contains-here, Contains-there, Contains-map}
use Rattle.fb_types.proofs.lemmas.events.EventNames.{events_once}
use Rattle.fb_check.specs.networks.Serving.{listed_with}
use Rattle.fb_check.proofs.lemmas.networks.ListElements.{Contains-filter, filter-Contains}

-- ---- One list of events

-- a name that goes with an event is listed at an event of that name
any_named : (e v : Name) (ps : List EventPort) → list_any (goes_with e v) ps ≡ true → Contains (event_names ps) e
any_named e v [] h = absurd (cc)
any_named e v (p ∷ ps) h =
    elim (goes_with e v p) as (λ b. goes_with e v p ≡ b → (b || list_any (goes_with e v) ps) ≡ true → Contains (p.name ∷ event_names ps) e) [
      | true ↦ λ g h.
          let N : Name → Type 0 = λ n. Contains (p.name ∷ event_names ps) n in
          subst N (same_from_same_name p.name e (and_parts (same_name p.name e) (among p.with v) g).0) (Contains-here p.name (event_names ps))
      | false ↦ λ g h. Contains-there p.name (event_names ps) e (any_named e v ps h)
    ] refl h

listed_from : (e v : Name) (ps : List EventPort) → ¬ (Twice (event_names ps)) → list_any (goes_with e v) ps ≡ true → Contains (listed_with ps e) v
listed_from e v [] once h = absurd (cc)
listed_from e v (p ∷ ps) once h =
    elim (same_name p.name e) as (λ b. same_name p.name e ≡ b → ((b && among p.with v) || list_any (goes_with e v) ps) ≡ true
    → Contains (elim (cond b (Some p) (named (λ p. p.name) e ps)) as (λ _. List Name) [ None ↦ [] | Some q ↦ q.with ]) v) [
      | true ↦ λ g h.
          (elim (among p.with v) as (λ b. among p.with v ≡ b → (b || list_any (goes_with e v) ps) ≡ true → Contains p.with v) [
            | true ↦ λ w h. contains_from_any v p.with w
            | false ↦ λ w h.
                let N : Name → Type 0 = λ n. Contains (event_names ps) n in
                absurd (once (inl (subst N (sym (same_from_same_name p.name e g)) (any_named e v ps h))))
          ]) refl h
      | false ↦ λ g h. listed_from e v ps (λ t. once (inr t)) h
    ] refl h

any_from_listed : (e v : Name) (ps : List EventPort) → Contains (listed_with ps e) v → list_any (goes_with e v) ps ≡ true
any_from_listed e v [] c = absurd (Contains-nil v c)
any_from_listed e v (p ∷ ps) c =
    elim (same_name p.name e) as (λ b. Contains (elim (cond b (Some p) (named (λ p. p.name) e ps)) as (λ _. List Name) [ None ↦ [] | Some q ↦ q.with ]) v
    → ((b && among p.with v) || list_any (goes_with e v) ps) ≡ true) [
      | true ↦ λ c. ap (λ b. b || list_any (goes_with e v) ps) (any_from_contains v p.with c)
      | false ↦ λ c. any_from_listed e v ps c
    ] c

pub with_from_listed :
    (ps : List EventPort) (vs : List Variable) (e v : Name) → Contains (variable_names vs) v → Contains (listed_with ps e) v → Contains (variables_with ps vs e) v
with_from_listed ps vs e v declared c =
    Contains-filter (λ v. list_any (goes_with e v) ps) (variable_names vs) v declared (any_from_listed e v ps c)

pub listed_from_with :
    (ps : List EventPort) (vs : List Variable) (e v : Name) → ¬ (Twice (event_names ps)) → Contains (variables_with ps vs e) v → Contains (listed_with ps e) v
listed_from_with ps vs e v once c =
    listed_from e v ps once (filter-Contains (λ v. list_any (goes_with e v) ps) (variable_names vs) v c)

-- ---- The output events of a type differ

-- the ports of a declared type are a name space
declared_once : (lib : Library) (plan : Plan) (t : BlockType) → ¬ (NameTwice lib plan) → Contains lib.blocks t → ¬ (Twice (event_names (ports_of (kind_of t)).event_outputs))
declared_once lib plan t once there twice =
    let ps = ports_of (kind_of t) in
    let ins = event_names ps.event_inputs in
    let outs = event_names ps.event_outputs in
    let up_to_outs = Twice-append_right ins outs twice in
    let up_to_inputs = Twice-append_left (ins ++ outs) (variable_names ps.inputs) up_to_outs in
    let up_to_outputs = Twice-append_left (ins ++ outs ++ variable_names ps.inputs) (variable_names ps.outputs) up_to_inputs in
    let all = Twice-append_left (ins ++ outs ++ variable_names ps.inputs ++ variable_names ps.outputs) (variable_names (internals_of (kind_of t))) up_to_outputs in
    let own = port_names t in
    let first = block_type_names lib ∷ map port_names lib.blocks in
    let algorithms = map algorithm_names (basics lib) in
    let states = map state_names (basics lib) in
    let instances : List (List Name) = map (λ n. instance_names n.1) (networks lib) in
    let withs = flat_map with_lists (interfaces lib) in
    let parameters : List (List Name) = flat_map (λ n. parameter_lists n.1) (networks lib) in
    let here : Contains first own = Contains-there (block_type_names lib) (map port_names lib.blocks) own (Contains-map port_names lib.blocks t there) in
    once (inl (
      own,
      Contains-append_left (first ++ algorithms ++ states ++ instances ++ withs ++ parameters) (resource_names_of plan ∷ []) own
          (Contains-append_left (first ++ algorithms ++ states ++ instances ++ withs) parameters own
          (Contains-append_left (first ++ algorithms ++ states ++ instances) withs own
          (Contains-append_left (first ++ algorithms ++ states) instances own
          (Contains-append_left (first ++ algorithms) states own (Contains-append_left first algorithms own here))))),
      all,
    ))

pub outputs_once : (lib : Library) (plan : Plan) (n : Name) (k : Kind) → ¬ (NameTwice lib plan) → type_named lib n ≡ Some k → ¬ (Twice (event_names (ports_of k).event_outputs))
outputs_once lib plan n k once h =
    let P : Kind → Type 0 = λ k. ¬ (Twice (event_names (ports_of k).event_outputs)) in
    elim (named (λ (e : Name × EventKind). e.0) n event_blocks) as (λ o. elim o as (λ _. Option Kind) [ Some e ↦ Some (Event e.1) | None ↦ option_map kind_of (named type_name n lib.blocks) ] ≡ Some k → P k) [
      | Some e ↦ λ h.
          let same : Event e.1 ≡ k = cc in
          subst P same (λ t. let p = ports_of_event_block e.1 in events_once e.1 (Twice-append_right (event_names p.event_inputs) (event_names p.event_outputs) t))
      | None ↦ λ h.
          let t = map_parts kind_of (named type_name n lib.blocks) k h in
          subst P t.2 (declared_once lib plan t.0 once (named-Contains type_name n lib.blocks t.0 t.1))
    ] h
