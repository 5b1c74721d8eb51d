-- A data input of an instance of the application is connected exactly if a data connection of the application leads to
-- it.
use Rattle.fb_types.proofs.Common.{◌≡◌, Bool, true, false, ◌&&◌, ◌||◌, cond, List, [], ◌∷◌, ◌++◌, map, Option, Some, None, Contains, refl, sym, ◌∙◌, ap, subst, inl, inr, option_map, option_and_then, is_some, flat_map, list_any, list_all, filter, false_from_ne_true, and_parts, list_any-append, Contains-append_right, Name, Path, Port, same_name, same_port, Kind, Basic, Event, Composite, named, event_blocks, ports_of, event_names, variable_names, first_of, kind_of, type_name, type_named, network_of, instance_in, kind_of_instance, inside, network_at, port_in, pairs_in, data_inside, source_of, resource_names_of, Twice, OwnedNetwork, networks, networks_in, basics, interfaces, block_type_names, port_names, algorithm_names, state_names, instance_names, with_lists, parameter_lists, NameTwice, NameUnknown, is_end, data_ins, data_outs, event_ins, event_outs, ends_known}
use Rattle.fb_types.specs.declared.library.Library.{Library}
use Rattle.fb_types.specs.declared.library.BlockType.{BlockType}
use Rattle.fb_types.specs.declared.library.CompositeType.{CompositeType}
use Rattle.fb_types.specs.declared.library.Network.{Network}
use Rattle.fb_types.specs.declared.library.Connection.{Connection}
use Rattle.fb_types.specs.declared.library.PortName.{PortName}
use Rattle.fb_types.specs.declared.deploy.Plan.{Plan}
use Rattle.fb_types.specs.Flat.{data_at}
use Rattle.fb_types.specs.declared.library.BlockType.TheVariants as block
use Rattle.fb_check_names.specs.GivenTwice.{TwiceIn}
use Rattle.fb_types.proofs.lemmas.lists.Elements.{Contains-here, Contains-there, Contains-flat_map, Contains-map}
use Rattle.fb_types.proofs.lemmas.lists.TwiceLaws.{Twice-append_left, Twice-both}
use Rattle.fb_types.proofs.lemmas.names.NameLaws.{same_from_same_name, contains_from_any, named-Contains}
use Rattle.fb_check_names.proofs.lemmas.twice.TwiceIn.{TwiceIn-left}
use Rattle.fb_check.specs.Directory.{leads_to}

-- ---- A name twice among the ports of a type

abbrev of_ports : Library → List (List Name)
of_ports lib = block_type_names lib ∷ map port_names lib.blocks

abbrev of_algorithms : Library → List (List Name)
of_algorithms lib = map algorithm_names (basics lib)

abbrev of_states : Library → List (List Name)
of_states lib = map state_names (basics lib)

abbrev of_instances : Library → List (List Name)
of_instances lib = map (λ (n : OwnedNetwork). instance_names n.1) (networks lib)

abbrev of_with : Library → List (List Name)
of_with lib = flat_map with_lists (interfaces lib)

abbrev of_parameters : Library → List (List Name)
of_parameters lib = flat_map (λ (n : OwnedNetwork). parameter_lists n.1) (networks lib)

ports_twice : (lib : Library) (plan : Plan) (t : BlockType) → Contains lib.blocks t → Twice (port_names t) → NameTwice lib plan
ports_twice lib plan t c twice =
    let to_algorithms = of_ports lib ++ of_algorithms lib in
    let to_states = to_algorithms ++ of_states lib in
    let to_instances = to_states ++ of_instances lib in
    let to_with = to_instances ++ of_with lib in
    let to_parameters = to_with ++ of_parameters lib in
    let ports : TwiceIn (of_ports lib) =
    (port_names t, Contains-there (block_type_names lib) (map port_names lib.blocks) (port_names t) (Contains-map port_names lib.blocks t c), twice) in
    inl (TwiceIn-left to_parameters (resource_names_of plan ∷ []) (TwiceIn-left to_with (of_parameters lib) (TwiceIn-left to_instances (of_with lib)
    (TwiceIn-left to_states (of_instances lib) (TwiceIn-left to_algorithms (of_states lib) (TwiceIn-left (of_ports lib) (of_algorithms lib) ports))))))

-- an input of a composite type is not one of its outputs
input_not_output :
    (lib : Library) (plan : Plan) (t : CompositeType) (n : Name) → ¬ (NameTwice lib plan) → Contains lib.blocks (block.Composite t)
    → Contains (variable_names t.ports.inputs) n → ¬ (Contains (variable_names t.ports.outputs) n)
input_not_output lib plan t n once c input output =
    let events = event_names t.ports.event_inputs ++ event_names t.ports.event_outputs in
    let ins = variable_names t.ports.inputs in
    let outs = variable_names t.ports.outputs in
    once (ports_twice lib plan (block.Composite t) c
    (Twice-append_left (events ++ ins ++ outs) [] (Twice-both (events ++ ins) outs n (Contains-append_right events ins n input) output)))

-- ---- Connections inside a composite

abbrev pub port : Name → Name → Port
port c n = record { at = c ∷ []; name = n }

and-false : (a : Bool) → (a && false) ≡ false
and-false true = refl
and-false false = refl

and-false-and : (a b : Bool) → ((a && false) && b) ≡ false
and-false-and true b = refl
and-false-and false b = refl

abbrev at_end : Option Name → Name → PortName
at_end o m = record { component = o; port = m }

-- an end that is an output of the boundary, or an input of a component, is not an input of the boundary
end_apart :
    (lib : Library) (t : CompositeType) (o : Option Name) (m c n : Name) → ¬ (Contains (variable_names t.ports.outputs) n)
    → is_end lib (Some t, t.network) data_ins data_outs (at_end o m) ≡ true → same_port (port_in (c ∷ []) (at_end o m)) (port c n) ≡ false
end_apart lib t None m c n apart known =
    let same : same_name m n ≡ false =
    false_from_ne_true (same_name m n) (λ s.
    apart (subst (λ (k : Name). Contains (variable_names t.ports.outputs) k) (same_from_same_name m n s) (contains_from_any m (variable_names t.ports.outputs) known))) in
    ap (λ b. (same_name c c && true) && b) same ∙ and-false (same_name c c && true)
end_apart lib t (Some d) m c n apart known = and-false-and (same_name d c) (same_name m n)

inside_apart :
    (lib : Library) (t : CompositeType) (c n : Name) (ws : List Connection) → ¬ (Contains (variable_names t.ports.outputs) n)
    → list_all (λ w. is_end lib (Some t, t.network) data_outs data_ins w.from && is_end lib (Some t, t.network) data_ins data_outs w.to) ws ≡ true
    → list_any (λ w. same_port w.1 (port c n)) (pairs_in (c ∷ []) ws) ≡ false
inside_apart lib t c n [] apart known = refl
inside_apart lib t c n (w ∷ ws) apart known =
    let from = is_end lib (Some t, t.network) data_outs data_ins w.from in
    let to = is_end lib (Some t, t.network) data_ins data_outs w.to in
    let rest = list_all (λ w. is_end lib (Some t, t.network) data_outs data_ins w.from && is_end lib (Some t, t.network) data_ins data_outs w.to) ws in
    let here : same_port (port_in (c ∷ []) w.to) (port c n) ≡ false = end_apart lib t w.to.component w.to.port c n apart (and_parts from to (and_parts (from && to) rest known).0).1 in
    ap (λ b. b || list_any (λ w. same_port w.1 (port c n)) (pairs_in (c ∷ []) ws)) here
    ∙ inside_apart lib t c n ws apart (and_parts (from && to) rest known).1

-- ---- Types of instances

block_of : (b : BlockType) (t : CompositeType) → kind_of b ≡ Composite t → b ≡ block.Composite t
block_of (block.Basic s) t h = absurd (cc)
block_of (block.Composite s) t h = let e : s ≡ t = cc in ap block.Composite e

-- a composite type that a name represents is declared
declared_composite : (lib : Library) (n : Name) (t : CompositeType) → type_named lib n ≡ Some (Composite t) → Contains lib.blocks (block.Composite t)
declared_composite lib n t h =
    elim (named (λ e. e.0) n event_blocks) as (λ o. elim o as (λ _. Option Kind) [ Some e ↦ Some (Event e.1) | None ↦ option_map kind_of (named type_name n lib.blocks) ] ≡ Some (Composite t)
    → Contains lib.blocks (block.Composite t)) [
      | Some e ↦ λ g. absurd (cc)
      | None ↦
          elim (named type_name n lib.blocks) as (λ o. named type_name n lib.blocks ≡ o → option_map kind_of o ≡ Some (Composite t) → Contains lib.blocks (block.Composite t)) [
            | None ↦ λ e g. absurd (cc)
            | Some b ↦ λ e g.
                let k : kind_of b ≡ Composite t = cc in
                subst (λ (b : BlockType). Contains lib.blocks b) (block_of b t k) (named-Contains type_name n lib.blocks b e)
          ] refl
    ] h

abbrev kind_in : Library → Name → Option Kind
kind_in lib c = option_and_then (kind_of_instance lib) (instance_in lib.application.network c)

network_at-one : (lib : Library) (c : Name) → network_at lib (c ∷ []) ≡ option_and_then network_of (kind_in lib c)
network_at-one lib c =
    elim (instance_in lib.application.network c) as (λ o. option_and_then (inside lib) o ≡ option_and_then network_of (option_and_then (kind_of_instance lib) o)) [
      | None ↦ refl
      | Some i ↦ refl
    ]

composite_in : (lib : Library) (c : Name) (t : CompositeType) → kind_in lib c ≡ Some (Composite t) → Contains lib.blocks (block.Composite t)
composite_in lib c t h =
    elim (instance_in lib.application.network c) as (λ o. option_and_then (kind_of_instance lib) o ≡ Some (Composite t) → Contains lib.blocks (block.Composite t)) [
      | None ↦ λ g. absurd (cc)
      | Some i ↦ λ g. declared_composite lib i.block_type t g
    ] h

-- the ends of the data connections inside it are known
known_inside :
    (lib : Library) (plan : Plan) (t : CompositeType) → ¬ (NameUnknown lib plan) → Contains lib.blocks (block.Composite t)
    → list_all (λ w. is_end lib (Some t, t.network) data_outs data_ins w.from && is_end lib (Some t, t.network) data_ins data_outs w.to) t.network.data_connections ≡ true
known_inside lib plan t known c =
    let placed : OwnedNetwork = (Some t, t.network) in
    let there : Contains (networks lib) placed =
    Contains-there (None, lib.application.network) (flat_map networks_in lib.blocks) placed
    (Contains-flat_map networks_in lib.blocks (block.Composite t) placed c (Contains-here placed [])) in
    let events = list_all (λ w. is_end lib placed event_outs event_ins w.from && is_end lib placed event_ins event_outs w.to) t.network.event_connections in
    let carries = list_all (λ w. is_end lib placed data_outs data_ins w.from && is_end lib placed data_ins data_outs w.to) t.network.data_connections in
    elim (ends_known lib placed) as (λ b. ends_known lib placed ≡ b → carries ≡ true) [
      | true ↦ λ e. (and_parts events carries e).1
      | false ↦ λ e. absurd (known (inr (inr (placed, there, e))))
    ] refl

-- ---- The source

is_some-first : {A B : Type 0} (f : A → B) (p : A → Bool) (xs : List A) → is_some (first_of (map f (filter p xs))) ≡ list_any p xs
is_some-first f p [] = refl
is_some-first f p (x ∷ xs) =
    elim (p x) as (λ b. is_some (first_of (map f (cond b (x ∷ filter p xs) (filter p xs)))) ≡ (b || list_any p xs)) [
      | true ↦ refl
      | false ↦ is_some-first f p xs
    ]

any_pairs : (p : Path) (q : Port) (ws : List Connection) → list_any (λ w. same_port w.1 q) (pairs_in p ws) ≡ list_any (λ (w : Connection). same_port (port_in p w.to) q) ws
any_pairs p q [] = refl
any_pairs p q (w ∷ ws) = ap (λ b. same_port (port_in p w.to) q || b) (any_pairs p q ws)

inside_none :
    (lib : Library) (plan : Plan) (c n : Name) (k : Kind) → ¬ (NameTwice lib plan) → ¬ (NameUnknown lib plan) → kind_in lib c ≡ Some k
    → Contains (variable_names (ports_of k).inputs) n → list_any (λ w. same_port w.1 (port c n)) (data_inside lib (c ∷ [])) ≡ false
inside_none lib plan c n k once known of input =
    let P : Option Network → Type 0 = λ o. list_any (λ w. same_port w.1 (port c n)) (elim o as (λ _. List (Port × Port)) [ None ↦ [] | Some net ↦ pairs_in (c ∷ []) net.data_connections ]) ≡ false in
    subst P (sym (network_at-one lib c ∙ ap (option_and_then network_of) of))
    (elim k as (λ k. kind_in lib c ≡ Some k → Contains (variable_names (ports_of k).inputs) n → P (network_of k)) [
      | Basic t ↦ λ _ _. refl
      | Event e ↦ λ _ _. refl
      | Composite t ↦ λ of input.
          let c' = composite_in lib c t of in
          inside_apart lib t c n t.network.data_connections (input_not_output lib plan t n once c' input) (known_inside lib plan t known c')
    ] of input)

or-false : (b : Bool) → (b || false) ≡ b
or-false true = refl
or-false false = refl

-- an input has a source exactly if a data connection of the application leads to it
pub has_source :
    (lib : Library) (plan : Plan) (c n : Name) (k : Kind) → ¬ (NameTwice lib plan) → ¬ (NameUnknown lib plan) → kind_in lib c ≡ Some k
    → Contains (variable_names (ports_of k).inputs) n → is_some (source_of lib (port c n)) ≡ leads_to lib.application.network.data_connections c n
has_source lib plan c n k once known of input =
    is_some-first (λ w. w.0) (λ w. same_port w.1 (port c n)) (data_at lib (c ∷ []))
    ∙ list_any-append (λ w. same_port w.1 (port c n)) (data_inside lib []) (data_inside lib (c ∷ []))
    ∙ ap (λ b. list_any (λ w. same_port w.1 (port c n)) (data_inside lib []) || b) (inside_none lib plan c n k once known of input)
    ∙ or-false (list_any (λ w. same_port w.1 (port c n)) (data_inside lib []))
    ∙ any_pairs [] (port c n) lib.application.network.data_connections
