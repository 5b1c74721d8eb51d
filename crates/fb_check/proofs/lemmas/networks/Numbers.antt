-- What the numbers of a network's connections represent.
use Rattle.fb_check.proofs.lemmas.Common.{◌≡◌, ℕ, ◌<◌, List, [], ◌∷◌, length, map, get_or, Option, Some, None, Contains, refl, sym, ◌∙◌, ap, subst, slice_get, option_map, option_and_then, slice_get_read, Name, Port, Kind, Event, named, event_blocks, ports_of, kind_of, kind_of_instance, type_name, type_named, port_in, instance_names, event_ins, data_ins, data_outs, EventKind, Library, Connection, EventPort, Instance, PortName, Ports, IsNetwork, type_number, kind_of_number, index_of, end_at, end_number, TypeNumber, ConnectionEnd, NetworkNumbers}
use Rattle.fb_types.proofs.Common.{kind_at, event_outs}
use Rattle.fb_check_names.specs.Numbers.{ports_at_index, event_wire, data_wire}
use Rattle.fb_check_names.specs.declared.numbers.TypeNumber.TheVariants as number
use Rattle.fb_check_names.specs.declared.numbers.NumberedConnection.{NumberedConnection}
use Rattle.fb_check_names.proofs.lemmas.Each.{each_at}
use Rattle.fb_types.proofs.lemmas.lists.Positions.{named-position}
use Rattle.fb_types.proofs.lemmas.lists.Options.{and_then_parts, map_parts}
use Rattle.fb_check.specs.networks.Serving.{listed_with, withs_of, output_at, withs_at}

-- ---- Types

pub kind_of_type : (lib : Library) (n : Name) (t : TypeNumber) → type_number lib n ≡ Some t → kind_of_number lib t ≡ type_named lib n
kind_of_type lib n t h =
    elim (named (λ (e : Name × EventKind). e.0) n event_blocks) as (λ o.
    elim (option_map (λ (e : Name × EventKind). e.1) o) as (λ _. Option TypeNumber) [ Some k ↦ Some (number.Event k) | None ↦ option_map (λ t. number.Declared t) (index_of (map type_name lib.blocks) n) ] ≡ Some t
    → kind_of_number lib t ≡ elim o as (λ _. Option Kind) [ Some e ↦ Some (Event e.1) | None ↦ option_map kind_of (named type_name n lib.blocks) ]) [
      | Some e ↦ λ h. let same : number.Event e.1 ≡ t = cc in ap (kind_of_number lib) (sym same)
      | None ↦ λ h.
          let i = map_parts (λ (k : ℕ). number.Declared k) (index_of (map type_name lib.blocks) n) t h in
          ap (kind_of_number lib) (sym i.2)
          ∙ ap (option_map kind_of) (sym (named-position type_name n lib.blocks ∙ ap (option_and_then (slice_get lib.blocks)) i.1))
    ] h

-- ---- Ends of connections

-- an end of a connection of the application, with the port there
pub record IsKnown (lib : Library) (component : Ports → List Name) (p : PortName) (e : ConnectionEnd) : Type 0 where
  pub name : Name
  pub index : ℕ
  pub instance : Instance
  pub kind : Kind
  pub port : ℕ
  pub component_is : p.component ≡ Some name
  pub stands : slice_get lib.application.network.instances index ≡ Some instance
  pub own : kind_of_instance lib instance ≡ Some kind
  pub kind_is : kind_at lib (name ∷ []) ≡ Some kind
  pub port_is : index_of (component (ports_of kind)) p.port ≡ Some port
  pub is : record { component = Some index; port = port } ≡ e

abbrev the_end : Option ℕ → ℕ → ConnectionEnd
the_end c j = record { component = c; port = j }

abbrev wire : ConnectionEnd → ConnectionEnd → NumberedConnection
wire y z = record { from = y; to = z }

pub end_known :
    (lib : Library) (component boundary : Ports → List Name) (p : PortName) (e : ConnectionEnd)
    → end_number lib (None, lib.application.network) component boundary p ≡ Some e → IsKnown lib component p e
end_known lib component boundary p e h =
    let is = lib.application.network.instances in
    let at_index : ℕ → Option ConnectionEnd = λ i. option_and_then (λ ps. end_at (Some i) (component ps) p) (ports_at_index lib (None, lib.application.network) i) in
    elim p.component as (λ o. p.component ≡ o
    → elim o as (λ _. Option ConnectionEnd) [ None ↦ None | Some c ↦ option_and_then at_index (index_of (instance_names lib.application.network) c) ] ≡ Some e → IsKnown lib component p e) [
      | None ↦ λ o h. absurd (cc)
      | Some c ↦ λ o h.
          let a = and_then_parts at_index (index_of (instance_names lib.application.network) c) e h in
          let b = and_then_parts (λ (ps : Ports). end_at (Some a.0) (component ps) p) (ports_at_index lib (None, lib.application.network) a.0) e a.2 in
          let k = map_parts ports_of (option_and_then (kind_of_instance lib) (slice_get is a.0)) b.0 b.1 in
          let s = and_then_parts (kind_of_instance lib) (slice_get is a.0) k.0 k.1 in
          let d = map_parts (λ (j : ℕ). the_end (Some a.0) j) (index_of (component b.0) p.port) e b.2 in
          record {
            name = c;
            index = a.0;
            instance = s.0;
            kind = k.0;
            port = d.0;
            component_is = o;
            stands = s.1;
            own = s.2;
            kind_is = ap (option_and_then (kind_of_instance lib))
                (named-position (λ (i : Instance). i.name) c is ∙ ap (option_and_then (slice_get is)) a.1 ∙ s.1) ∙ s.2;
            port_is = ap (λ (ps : Ports). index_of (component ps) p.port) k.2 ∙ d.1;
            is = d.2;
          }
    ] refl h

-- the port that the names represent
pub known_port :
    (lib : Library) (component : Ports → List Name) (p : PortName) (e : ConnectionEnd) (k : IsKnown lib component p e) → port_in [] p ≡ record { at = k.name ∷ []; name = p.port }
known_port lib component p e k =
    ap (λ o. elim o as (λ _. Port) [ None ↦ record { at = []; name = p.port } | Some c ↦ record { at = c ∷ []; name = p.port } ]) k.component_is

abbrev with_of : Option EventPort → List Name
with_of o = elim o [ None ↦ [] | Some p ↦ p.with ]

-- the output event at an end
abbrev output_of : Library → NetworkNumbers → ConnectionEnd → Option EventPort
output_of lib x e =
    option_and_then (λ i. option_and_then (λ t. option_and_then (λ k. slice_get (ports_of k).event_outputs e.port) (kind_of_number lib t)) (slice_get x.types i)) e.component

abbrev output_of_type : Library → ℕ → TypeNumber → Option EventPort
output_of_type lib port t = option_and_then (λ k. slice_get (ports_of k).event_outputs port) (kind_of_number lib t)

-- the variables that an event connection's output event lists, by numbers and by names
pub withs_known :
    (lib : Library) (x : NetworkNumbers) (i : ℕ) (c : Connection) → IsNetwork lib (None, lib.application.network) x
    → slice_get lib.application.network.event_connections i ≡ Some c → withs_at lib x i ≡ withs_of lib (port_in [] c.from)
withs_known lib x i c network h =
    let net = lib.application.network in
    let w = each_at (event_wire lib (None, net)) net.event_connections x.event_wires i c network.event_wires h in
    let from_end = end_number lib (None, net) event_outs event_ins c.from in
    let to_end = end_number lib (None, net) event_ins event_outs c.to in
    let a = and_then_parts (λ (y : ConnectionEnd). option_map (λ (z : ConnectionEnd). wire y z) to_end) from_end w.0 w.2 in
    let b = map_parts (λ (z : ConnectionEnd). wire a.0 z) to_end w.0 a.2 in
    let k = end_known lib event_outs event_ins c.from a.0 a.1 in
    let from : w.0.from ≡ record { component = Some k.index; port = k.port } = sym (ap (λ (y : NumberedConnection). y.from) b.2) ∙ sym k.is in
    let t = each_at (λ (j : Instance). type_number lib j.block_type) net.instances x.types k.index k.instance network.types k.stands in
    let events = (ports_of k.kind).event_outputs in
    let by_number : output_at lib x i ≡ slice_get events k.port =
    ap (option_and_then (λ (y : NumberedConnection). output_of lib x y.from)) w.1
    ∙ ap (output_of lib x) from
    ∙ ap (option_and_then (output_of_type lib k.port)) t.1
    ∙ ap (option_and_then (λ (j : Kind). slice_get (ports_of j).event_outputs k.port)) (kind_of_type lib k.instance.block_type t.0 t.2 ∙ k.own) in
    let by_name : named (λ (p : EventPort). p.name) c.from.port events ≡ slice_get events k.port =
    named-position (λ (p : EventPort). p.name) c.from.port events ∙ ap (option_and_then (slice_get events)) k.port_is in
    ap with_of (by_number ∙ sym by_name)
    ∙ sym (ap (withs_of lib) (known_port lib event_outs c.from a.0 k)
    ∙ ap (λ (o : Option Kind). elim o as (λ _. List Name) [ None ↦ [] | Some j ↦ listed_with (ports_of j).event_outputs c.from.port ]) k.kind_is)

-- the same, of an element of a loop
pub withs_read :
    (lib : Library) (x : NetworkNumbers) (cs : List Connection) (i : ℕ) (c : Connection) → IsNetwork lib (None, lib.application.network) x
    → cs ≡ lib.application.network.event_connections → i < length cs → c ≡ get_or cs i c → withs_at lib x i ≡ withs_of lib (port_in [] c.from)
withs_read lib x cs i c network all h e =
    let G : List Connection → Type 0 = λ cs. slice_get cs i ≡ Some c in
    withs_known lib x i c network (subst G all (slice_get_read cs (length cs) i c refl h e))

-- the end at which a data connection begins
pub data_known :
    (lib : Library) (x : NetworkNumbers) (c : Connection) → IsNetwork lib (None, lib.application.network) x
    → Contains lib.application.network.data_connections c → (e : ConnectionEnd) × IsKnown lib data_outs c.from e
data_known lib x c network there =
    let net = lib.application.network in
    let w = each_at (data_wire lib (None, net)) net.data_connections x.data_wires there.0 c network.data_wires
    (slice_get_read net.data_connections (length net.data_connections) there.0 c refl there.1 (sym there.2)) in
    let from_end = end_number lib (None, net) data_outs data_ins c.from in
    let to_end = end_number lib (None, net) data_ins data_outs c.to in
    let a = and_then_parts (λ (y : ConnectionEnd). option_map (λ (z : ConnectionEnd). wire y z) to_end) from_end w.0 w.2 in
    (a.0, end_known lib data_outs data_ins c.from a.0 a.1)
