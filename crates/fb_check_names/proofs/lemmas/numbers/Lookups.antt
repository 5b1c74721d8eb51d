-- Types, ports and instances by the indexes of their names.
use Rattle.fb_types.proofs.Common.{◌≡◌, ℕ, ◌<◌, ◌≤◌, ◌-◌, List, ◌++◌, length, map, get_or, Some, None, Option, Bor, MatchOption, refl, sym, ◌∙◌, ap, subst, append_assoc, slice_get, option_map, option_and_then, position, BTreeMap, length-map, slice_get_read, same_Some, Name, same_name, Kind, Event, named, event_blocks, event_block_named, ports_of, variable_names, kind_of, type_name, type_named, kind_of_instance, internals_of, event_ins, event_outs, data_ins, data_outs}
use Rattle.fb_types.specs.declared.library.BlockType.{BlockType}
use Rattle.fb_types.specs.declared.library.Instance.{Instance}
use Rattle.fb_types.specs.declared.library.Library.{Library}
use Rattle.fb_types.specs.declared.library.Ports.{Ports}
use Rattle.std.proofs.Common.{SomeIff}
use Rattle.fb_check_names.specs.Indexes.{IsIndex, index_in}
use Rattle.fb_check_names.specs.declared.catalog.BlockIndexes.{BlockIndexes}
use Rattle.fb_check_names.specs.declared.catalog.Catalog.{Catalog}
use Rattle.fb_types.proofs.lemmas.lists.Positions.{named-position, position_is}
use Rattle.fb_check_names.specs.Numbers.{each_or_none, index_of, type_number, kind_of_number, parameter_numbers}
use Rattle.fb_check_names.specs.PortKinds.{AreIndexesOf}
use Rattle.fb_check_names.specs.Types.{HasTypes, port_number, ports_of_block}
use Rattle.fb_check_names.specs.declared.numbers.TypeNumber.{TypeNumber}
use Rattle.fb_check_names.specs.declared.numbers.TypeNumber.TheVariants as number
use Rattle.fb_types.proofs.lemmas.lists.TwiceLaws.{once_right}
use Rattle.fb_check_names.proofs.lemmas.numbers.NamePartIndexes.{after_part, first_part}

-- ---- Ports by the indexes of all names of their type

abbrev from_data_outs : Ports → List Name → List Name
from_data_outs p ns = data_outs p ++ ns

abbrev from_data_ins : Ports → List Name → List Name
from_data_ins p ns = data_ins p ++ from_data_outs p ns

abbrev from_event_outs : Ports → List Name → List Name
from_event_outs p ns = event_outs p ++ from_data_ins p ns

abbrev from_event_ins : Ports → List Name → List Name
from_event_ins p ns = event_ins p ++ from_event_outs p ns

abbrev Skips : ℕ → Option ℕ → Option ℕ → Type 0
Skips k index r = MatchOption index (r ≡ None) (λ i. SomeIff r (k ≤ i) (i - k))

abbrev Keeps : ℕ → Option ℕ → Option ℕ → Type 0
Keeps k index r = MatchOption index (r ≡ None) (λ i. SomeIff r (i < k) i)

-- if the index of a name in the whole list is known
pub record IsIndexOfPort (p : Ports) (indexes : BTreeMap (Bor Name) ℕ) (n : Name) (index : Option ℕ) : Type 0 where
  pub are : AreIndexesOf p indexes
  pub at : index ≡ position (same_name n) (from_event_ins p are.internals)

pub is_index :
    (p : Ports) (indexes : BTreeMap (Bor Name) ℕ) (n m : Name) (index : Option ℕ) → AreIndexesOf p indexes → index ≡ index_in indexes m → m ≡ n
    → IsIndexOfPort p indexes n index
is_index p indexes n m index are e same = record { are = are; at = e ∙ ap (index_in indexes) same ∙ are.index.index n }

pub of_event_inputs :
    (p : Ports) (indexes : BTreeMap (Bor Name) ℕ) (n : Name) (k : ℕ) (index r : Option ℕ) → IsIndexOfPort p indexes n index
    → k ≡ length p.event_inputs → Keeps k index r → r ≡ index_of (event_ins p) n
of_event_inputs p indexes n k index r is counted keeps =
    first_part n (event_ins p) (from_event_outs p is.are.internals) k index r (counted ∙ sym (length-map p.event_inputs (λ e. e.name))) is.at keeps

after_event_ins :
    (p : Ports) (indexes : BTreeMap (Bor Name) ℕ) (n : Name) (k : ℕ) (index r : Option ℕ) (is : IsIndexOfPort p indexes n index)
    → k ≡ length p.event_inputs → Skips k index r → r ≡ position (same_name n) (from_event_outs p is.are.internals)
after_event_ins p indexes n k index r is counted skips =
    after_part n (event_ins p) (from_event_outs p is.are.internals) k index r is.are.index.once
    (counted ∙ sym (length-map p.event_inputs (λ e. e.name))) is.at skips

pub of_event_outputs :
    (p : Ports) (indexes : BTreeMap (Bor Name) ℕ) (n : Name) (k l : ℕ) (index q r : Option ℕ) → IsIndexOfPort p indexes n index
    → k ≡ length p.event_inputs → Skips k index q → l ≡ length p.event_outputs → Keeps l q r → r ≡ index_of (event_outs p) n
of_event_outputs p indexes n k l index q r is counted skips counted_l keeps =
    first_part n (event_outs p) (from_data_ins p is.are.internals) l q r (counted_l ∙ sym (length-map p.event_outputs (λ e. e.name)))
    (after_event_ins p indexes n k index q is counted skips) keeps

after_events :
    (p : Ports) (indexes : BTreeMap (Bor Name) ℕ) (n : Name) (k l : ℕ) (index q r : Option ℕ) (is : IsIndexOfPort p indexes n index)
    → k ≡ length p.event_inputs → Skips k index q → l ≡ length p.event_outputs → Skips l q r
    → r ≡ position (same_name n) (from_data_ins p is.are.internals)
after_events p indexes n k l index q r is counted skips counted_l skips_l =
    after_part n (event_outs p) (from_data_ins p is.are.internals) l q r
    (once_right (event_ins p) (from_event_outs p is.are.internals) is.are.index.once)
    (counted_l ∙ sym (length-map p.event_outputs (λ e. e.name))) (after_event_ins p indexes n k index q is counted skips) skips_l

pub of_inputs :
    (p : Ports) (indexes : BTreeMap (Bor Name) ℕ) (n : Name) (k l m : ℕ) (index q o r : Option ℕ) → IsIndexOfPort p indexes n index
    → k ≡ length p.event_inputs → Skips k index q → l ≡ length p.event_outputs → Skips l q o
    → m ≡ length p.inputs → Keeps m o r → r ≡ index_of (data_ins p) n
of_inputs p indexes n k l m index q o r is counted skips counted_l skips_l counted_m keeps =
    first_part n (data_ins p) (from_data_outs p is.are.internals) m o r (counted_m ∙ sym (length-map p.inputs (λ v. v.name)))
    (after_events p indexes n k l index q o is counted skips counted_l skips_l) keeps

pub of_outputs :
    (p : Ports) (indexes : BTreeMap (Bor Name) ℕ) (n : Name) (k l m h : ℕ) (index q o x r : Option ℕ) → IsIndexOfPort p indexes n index
    → k ≡ length p.event_inputs → Skips k index q → l ≡ length p.event_outputs → Skips l q o
    → m ≡ length p.inputs → Skips m o x → h ≡ length p.outputs → Keeps h x r → r ≡ index_of (data_outs p) n
of_outputs p indexes n k l m h index q o x r is counted skips counted_l skips_l counted_m skips_m counted_h keeps =
    first_part n (data_outs p) is.are.internals h x r (counted_h ∙ sym (length-map p.outputs (λ v. v.name)))
    (after_part n (data_ins p) (from_data_outs p is.are.internals) m o x
    (once_right (event_outs p) (from_data_ins p is.are.internals)
    (once_right (event_ins p) (from_event_outs p is.are.internals) is.are.index.once))
    (counted_m ∙ sym (length-map p.inputs (λ v. v.name)))
    (after_events p indexes n k l index q o is counted skips counted_l skips_l) skips_m)
    keeps

-- the names of a type, from the last part on
from_last : (a b c d e : List Name) → a ++ b ++ c ++ d ++ e ≡ a ++ (b ++ (c ++ (d ++ e)))
from_last a b c d e =
    append_assoc (a ++ b ++ c) d e ∙ append_assoc (a ++ b) c (d ++ e) ∙ append_assoc a b (c ++ (d ++ e))

-- the indexes of a block type's names are those of its ports
pub block_indexes :
    (lib : Library) (c : Catalog) (ds : List BlockIndexes) (k : ℕ) (t : BlockType) (x : BlockIndexes) (p : Ports) → HasTypes lib c
    → slice_get lib.blocks k ≡ Some t → ds ≡ c.blocks.items → k < length ds → x ≡ get_or ds k x → p ≡ ports_of_block t → AreIndexesOf p x.ports
block_indexes lib c ds k t x p has at e h there is =
    let x_at : slice_get c.blocks.items k ≡ Some x =
    ap (λ (ds : List BlockIndexes). slice_get ds k) (sym e) ∙ slice_get_read ds (length ds) k x refl h there in
    let q = ports_of_block t in
    let ns = variable_names (internals_of (kind_of t)) in
    subst (λ (p : Ports). AreIndexesOf p x.ports) (sym is)
    (record {
      internals = ns;
      index = subst (λ (names : List Name). IsIndex names x.ports) (from_last (event_ins q) (event_outs q) (data_ins q) (data_outs q) ns) (has.blocks k t x at x_at).ports;
    })

-- ---- Types

-- a type's name represents what its number does
pub type_named-number : (lib : Library) (n : Name) → type_named lib n ≡ option_and_then (kind_of_number lib) (type_number lib n)
type_named-number lib n =
    elim (named (λ e. e.0) n event_blocks) as
    (λ o. elim o [ Some e ↦ Some (Event e.1) | None ↦ option_map kind_of (named type_name n lib.blocks) ]
    ≡ option_and_then (kind_of_number lib)
    (elim (option_map (λ e. e.1) o) [ Some k ↦ Some (number.Event k) | None ↦ option_map (λ t. number.Declared t) (index_of (map type_name lib.blocks) n) ])) [
      | Some e ↦ refl
      | None ↦
          ap (option_map kind_of) (named-position type_name n lib.blocks)
          ∙ (elim (index_of (map type_name lib.blocks) n) as
          (λ o. option_map kind_of (option_and_then (slice_get lib.blocks) o) ≡ option_and_then (kind_of_number lib) (option_map (λ t. number.Declared t) o)) [
            | None ↦ refl
            | Some i ↦ refl
          ])
    ]

declared_known :
    (lib : Library) (n : Name) (t : TypeNumber) → option_map (λ i. number.Declared i) (index_of (map type_name lib.blocks) n) ≡ Some t
    → (k : Kind) × (kind_of_number lib t ≡ Some k)
declared_known lib n t h =
    elim (index_of (map type_name lib.blocks) n) as
    (λ o. index_of (map type_name lib.blocks) n ≡ o → option_map (λ i. number.Declared i) o ≡ Some t → (k : Kind) × (kind_of_number lib t ≡ Some k)) [
      | None ↦ λ _ h. absurd (cc)
      | Some i ↦ λ at h.
          let there = position_is type_name n lib.blocks i at in
          (kind_of there.0, ap (kind_of_number lib) (sym (same_Some (number.Declared i) t h)) ∙ ap (option_map kind_of) there.1)
    ] refl h

-- what has a number is a type
pub kind_known : (lib : Library) (n : Name) (t : TypeNumber) → type_number lib n ≡ Some t → (k : Kind) × (kind_of_number lib t ≡ Some k)
kind_known lib n t h =
    elim (event_block_named n) as
    (λ o. elim o [ Some k ↦ Some (number.Event k) | None ↦ option_map (λ i. number.Declared i) (index_of (map type_name lib.blocks) n) ] ≡ Some t
    → (k : Kind) × (kind_of_number lib t ≡ Some k)) [
      | Some k ↦ λ h. (Event k, ap (kind_of_number lib) (sym (same_Some (number.Event k) t h)))
      | None ↦ λ h. declared_known lib n t h
    ] h

-- the type of an instance that has a number
pub kind_of_numbered : (lib : Library) (i : Instance) (t : TypeNumber) → type_number lib i.block_type ≡ Some t → kind_of_instance lib i ≡ kind_of_number lib t
kind_of_numbered lib i t h = type_named-number lib i.block_type ∙ ap (option_and_then (kind_of_number lib)) h

-- ---- Parameters

pub parameters_are :
    (lib : Library) (i : Instance) (t : TypeNumber) → type_number lib i.block_type ≡ Some t
    → each_or_none (λ x. port_number lib t data_ins x.name) i.parameters ≡ parameter_numbers lib i
parameters_are lib i t h =
    let k = kind_known lib i.block_type t h in
    ap (λ (o : Option Kind). each_or_none (λ x. option_and_then (λ k. index_of (data_ins (ports_of k)) x.name) o) i.parameters) k.1
    ∙ ap (λ (o : Option Kind). elim o [ None ↦ None | Some k ↦ each_or_none (λ x. index_of (data_ins (ports_of k)) x.name) i.parameters ])
    (sym (kind_of_numbered lib i t h ∙ k.1))

pub no_parameters : (lib : Library) (i : Instance) → type_number lib i.block_type ≡ None → parameter_numbers lib i ≡ None
no_parameters lib i h =
    ap (λ (o : Option Kind). elim o as (λ _. Option (List ℕ)) [ None ↦ None | Some k ↦ each_or_none (λ x. index_of (data_ins (ports_of k)) x.name) i.parameters ])
    (type_named-number lib i.block_type ∙ ap (option_and_then (kind_of_number lib)) h)
