-- What a catalog and known names guarantee of each block type: its variables follow each other among all names, and its
-- WITH lists name variables, each once.
use Rattle.fb_system.proofs.lemmas.Common.{◌≡◌, ◌⊎◌, ℕ, ◌+◌, true, false, List, [], ◌∷◌, ◌++◌, length, map, Some, Contains, Bor, refl, sym, ◌∙◌, ap, subst, inl, inr, length-append, append_assoc, slice_get, position, option_map, flat_map, list_any, Contains-append_left, Contains-append_right, slice_get-map, same_Some, Name, same_name, event_names, variable_names, ports_of, kind_of, Twice, NameTwice, networks, NameUnknown, Library, BlockType, EventPort, Variable, Plan, WithIndexes, AreWithIndexes}
use Rattle.fb_types.proofs.Common.{BTreeMap, true≢false, basics, interfaces, internals_of, with_lists, Required, all_of, required, required_types, required_withs, required_chart, required_parameters, required_deployment}
use Rattle.fb_types.specs.declared.library.BlockType.TheVariants as block
use Rattle.fb_check_names.specs.Catalog.{IsCatalog, IsBlock}
use Rattle.fb_check_names.specs.GivenTwice.{TwiceIn, BlockTwice}
use Rattle.fb_check_names.specs.Indexes.{IsIndex}
use Rattle.fb_check_names.specs.declared.catalog.BlockIndexes.{BlockIndexes}
use Rattle.fb_check_names.specs.declared.catalog.Catalog.{Catalog}
use Rattle.fb_types.proofs.lemmas.names.NameLaws.{contains_from_any, any_from_contains}
use Rattle.fb_types.proofs.lemmas.lists.Elements.{Contains-map, Contains-flat_map}
use Rattle.fb_types.proofs.lemmas.lists.Positions.{position_of_once}
use Rattle.fb_types.proofs.lemmas.lists.TwiceLaws.{Twice-append_left, Twice-append_right}
use Rattle.fb_check_names.proofs.lemmas.twice.NameTwice.{block_twice}
use Rattle.fb_types.proofs.lemmas.lists.ByIndex.{slice_get-append_left, slice_get-push, slice_get-after, element_of_index}
use Rattle.fb_system.specs.Lookups.{AreIndexedFrom, AreEvents, IsIndexed}
use Rattle.fb_system.specs.Tables.{AreBlocks, AreOfBlocksUpTo}

-- ---- Lists

map-same : (ns : List Name) → map (λ (n : Name). n) ns ≡ ns
map-same [] = refl
map-same (n ∷ ns) = ap (λ ms. n ∷ ms) (map-same ns)

position_once : (ns : List Name) (i : ℕ) (n : Name) → ¬ (Twice ns) → slice_get ns i ≡ Some n → position (same_name n) ns ≡ Some i
position_once ns i n once h =
    let P : List Name → Type 0 = λ ms. ¬ (Twice ms) → position (same_name n) ms ≡ Some i in
    subst P (map-same ns) (λ once. position_of_once (λ (m : Name). m) ns i n once h) once

-- ---- Variables among all names

stand_from :
    (before : List Name) (vs : List Variable) (after : List Name) (indexes : BTreeMap (Bor Name) ℕ) → IsIndex ((before ++ variable_names vs) ++ after) indexes
    → AreIndexedFrom (length before) vs indexes
stand_from before vs after indexes index = record {
  once = λ t. index.once (Twice-append_left (before ++ variable_names vs) after (Twice-append_right before (variable_names vs) t));
  index = λ k v h.
      let named : slice_get (variable_names vs) k ≡ Some v.name = slice_get-map (λ (v : Variable). v.name) vs k ∙ ap (option_map (λ (v : Variable). v.name)) h in
      index.index v.name
      ∙ position_once ((before ++ variable_names vs) ++ after) (length before + k) v.name index.once
      (slice_get-append_left (before ++ variable_names vs) after (length before + k) v.name (slice_get-after before (variable_names vs) k ∙ named));
}

-- ---- WITH lists

list_twice : (t : BlockType) → TwiceIn (with_lists (ports_of (kind_of t))) → BlockTwice t
list_twice (block.Basic b) h = inl (inr h)
list_twice (block.Composite b) h = inl (inr h)

-- no name is in a WITH list twice
list_once : (lib : Library) (plan : Plan) (t : BlockType) (e : EventPort) → ¬ (NameTwice lib plan) → Contains lib.blocks t
    → Contains (ports_of (kind_of t)).event_inputs e ⊎ Contains (ports_of (kind_of t)).event_outputs e → ¬ (Twice e.with)
list_once lib plan t e once there among twice =
    let p = ports_of (kind_of t) in
    let all : Contains (p.event_inputs ++ p.event_outputs) e =
    elim among [ inl c ↦ Contains-append_left p.event_inputs p.event_outputs e c | inr c ↦ Contains-append_right p.event_inputs p.event_outputs e c ] in
    let lists : TwiceIn (with_lists p) = (e.with, Contains-map (λ (e : EventPort). e.with) (p.event_inputs ++ p.event_outputs) e all, twice) in
    once (block_twice lib plan t there (list_twice t lists))

known_from_required : (lib : Library) (plan : Plan) (n : Name) (ns : List Name) → ¬ (NameUnknown lib plan) → Contains (required lib plan) (n, ns) → Contains ns n
known_from_required lib plan n ns known c =
    elim (list_any (same_name n) ns) as (λ b. list_any (same_name n) ns ≡ b → Contains ns n) [
      | true ↦ λ e. contains_from_any n ns e
      | false ↦ λ e. absurd (known (inl ((n, ns), c, λ there. true≢false (sym (any_from_contains n ns there) ∙ e))))
    ] refl

withs_in_required : (lib : Library) (plan : Plan) (t : BlockType) (w : Required) → Contains lib.blocks t → Contains (required_withs (ports_of (kind_of t))) w → Contains (required lib plan) w
withs_in_required lib plan t w there c =
    let p = ports_of (kind_of t) in
    let types = flat_map (λ n. required_types lib n.1) (networks lib) in
    let withs = flat_map required_withs (interfaces lib) in
    let charts = flat_map required_chart (basics lib) in
    let parameters = flat_map (λ n. flat_map (required_parameters lib) n.1.instances) (networks lib) in
    let here : Contains withs w = Contains-flat_map required_withs (interfaces lib) p w (Contains-map (λ t. ports_of (kind_of t)) lib.blocks t there) c in
    Contains-append_left (((types ++ withs) ++ charts) ++ parameters) (required_deployment lib plan) w
    (Contains-append_left ((types ++ withs) ++ charts) parameters w (Contains-append_left (types ++ withs) charts w (Contains-append_right types withs w here)))

events_are :
    (lib : Library) (plan : Plan) (t : BlockType) (vs : List Variable) (events : List EventPort) → ¬ (NameTwice lib plan) → ¬ (NameUnknown lib plan) → Contains lib.blocks t
    → ¬ (Twice (event_names events))
    → ((e : EventPort) → Contains events e → Contains (ports_of (kind_of t)).event_inputs e ⊎ Contains (ports_of (kind_of t)).event_outputs e)
    → ((w : Required) → Contains (flat_map (λ e. all_of e.with (variable_names vs)) events) w → Contains (required_withs (ports_of (kind_of t))) w)
    → AreEvents vs events
events_are lib plan t vs events once known there differ among lists = record {
  once = differ;
  lists = λ i e h.
      let c = element_of_index events i e h in
      record {
        once = list_once lib plan t e once there (among e c);
        known = λ n m.
            let w : Contains (all_of e.with (variable_names vs)) (n, variable_names vs) = Contains-map (λ n. (n, variable_names vs)) e.with n m in
            known_from_required lib plan n (variable_names vs) known
            (withs_in_required lib plan t (n, variable_names vs) there
            (lists (n, variable_names vs) (Contains-flat_map (λ e. all_of e.with (variable_names vs)) events e (n, variable_names vs) c w)));
      };
}

-- ---- A block type

interface_is :
    (lib : Library) (plan : Plan) (t : BlockType) (x : BlockIndexes) → ¬ (NameTwice lib plan) → ¬ (NameUnknown lib plan) → Contains lib.blocks t → IsBlock t x
    → IsIndexed (ports_of (kind_of t)) x.ports
interface_is lib plan t x once known there is =
    let p = ports_of (kind_of t) in
    let ins = event_names p.event_inputs in
    let outs = event_names p.event_outputs in
    let from = variable_names p.inputs in
    let to = variable_names p.outputs in
    let rest = variable_names (internals_of (kind_of t)) in
    let index : IsIndex ((((ins ++ outs) ++ from) ++ to) ++ rest) x.ports = is.ports in
    let events_once : ¬ (Twice (ins ++ outs)) =
    λ e. index.once (Twice-append_left (((ins ++ outs) ++ from) ++ to) rest (Twice-append_left ((ins ++ outs) ++ from) to (Twice-append_left (ins ++ outs) from e))) in
    let shifted : IsIndex (((ins ++ outs) ++ from) ++ (to ++ rest)) x.ports =
    subst (λ (ns : List Name). IsIndex ns x.ports) (append_assoc ((ins ++ outs) ++ from) to rest) index in
    record {
      first_input = length (ins ++ outs);
      inputs = stand_from (ins ++ outs) p.inputs (to ++ rest) x.ports shifted;
      first_output = length ((ins ++ outs) ++ from);
      outputs = stand_from ((ins ++ outs) ++ from) p.outputs rest x.ports index;
      event_inputs =
          events_are lib plan t p.inputs p.event_inputs once known there (λ e. events_once (Twice-append_left ins outs e)) (λ e c. inl c)
          (λ w c. Contains-append_left (flat_map (λ e. all_of e.with from) p.event_inputs) (flat_map (λ e. all_of e.with to) p.event_outputs) w c);
      event_outputs =
          events_are lib plan t p.outputs p.event_outputs once known there (λ e. events_once (Twice-append_right ins outs e)) (λ e c. inr c)
          (λ w c. Contains-append_right (flat_map (λ e. all_of e.with from) p.event_inputs) (flat_map (λ e. all_of e.with to) p.event_outputs) w c);
    }

pub blocks_are : (lib : Library) (plan : Plan) (c : Catalog) → IsCatalog lib plan c → ¬ (NameUnknown lib plan) → AreBlocks lib.blocks c.blocks.items
blocks_are lib plan c is known = record {
  counted = is.counted;
  each = λ k t x h g. interface_is lib plan t x is.once known (element_of_index lib.blocks k t h) (is.blocks k t x h g);
}

-- one more block type
pub blocks_more :
    (n : ℕ) (ts : List BlockType) (all more : List WithIndexes) (t : BlockType) (x : WithIndexes) → slice_get ts n ≡ Some t → AreWithIndexes (ports_of (kind_of t)) x
    → AreOfBlocksUpTo n ts all → more ≡ all ++ x ∷ [] → AreOfBlocksUpTo (n + 1) ts more
blocks_more n ts all more t x there is so_far grown =
    let P : ℕ → WithIndexes → Type 0 = λ i y. (u : BlockType) → slice_get ts i ≡ Some u → AreWithIndexes (ports_of (kind_of u)) y in
    let Q : List WithIndexes → Type 0 = λ l. AreOfBlocksUpTo (n + 1) ts l in
    let here : P n x = λ u h. let same : t ≡ u = same_Some t u (sym there ∙ h) in subst (λ (v : BlockType). AreWithIndexes (ports_of (kind_of v)) x) same is in
    subst Q (sym grown) (record {
      counted = length-append all (x ∷ []) ∙ ap (λ m. m + 1) so_far.counted;
      each = λ k u y h g. slice_get-push P all x (λ k y g u h. so_far.each k u y h g) (subst (λ (m : ℕ). P m x) (sym so_far.counted) here) k y g u h;
    })
