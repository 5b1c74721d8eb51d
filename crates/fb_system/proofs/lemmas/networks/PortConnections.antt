-- All connections of a port: those around its instance and those inside.
use Rattle.fb_system.proofs.lemmas.Common.{◌≡◌, ℕ, ◌<◌, Bool, true, false, cond, List, [], length, Option, Some, None, refl, sym, ◌∙◌, ap, subst, arith, slice_get, unwrap_or, length-map, Name, Path, Port, Kind, ports, ports_of, parent, paths_of, last_of, targets_of, source_of, event_ins, event_outs, data_ins, data_outs, Library, Ports, Target, InstanceVariable, ConnectionEnd, NetworkNumbers, IsRow, path_of, Layout, InstanceRow, port_of, variable_of, IsEndOf, IsThere, side}
use Rattle.fb_types.proofs.Common.{events_inside, data_inside}
use Rattle.fb_types.proofs.lemmas.lists.ByIndex.{element_of_index, element_at}
use Rattle.fb_system.specs.Netlists.{IsPort, IsVariable, ports_here, event_input, event_output, data_input, data_output}
use Rattle.fb_system.specs.Networks.{AreTables, path_around, source_along, targets_along}
use Rattle.fb_system.proofs.lemmas.networks.Leading.{MayBeWired, input_source, input_targets, output_source, output_targets}
use Rattle.fb_system.proofs.lemmas.networks.Wired.{around_wired, last_of_route, parent_around, parent_within, stands_there}

-- ---- Names at their indexes

abbrev name_at : List Name → ℕ → Name
name_at ns k = unwrap_or (slice_get ns k) []

name_there : (ns : List Name) (k : ℕ) → k < length ns → slice_get ns k ≡ Some (name_at ns k)
name_there ns k h =
    let x = element_at ns k h in x.1 ∙ ap (λ (o : Option Name). Some (unwrap_or o [])) (sym x.1)

-- the ports of the type of a row's instance
ports_of_row : (lib : Library) (i : ℕ) (r : InstanceRow) → (is : IsRow lib i r) → ports_here lib i ≡ ports_of is.kind
ports_of_row lib i r is = ap (λ (o : Option Kind). elim o as (λ _. Ports) [ None ↦ ports [] [] [] [] | Some k ↦ ports_of k ]) is.is_kind

-- ---- A port of an instance as an end of connections

around_end :
    (lib : Library) (component boundary : Ports → List Name) (i : ℕ) (r : InstanceRow) (o : Option ℕ) (k : ℕ) (n : Name) → (is : IsRow lib i r) → o ≡ last_of r.route
    → slice_get (component (ports_of is.kind)) k ≡ Some n
    → IsEndOf lib (path_around lib r.parent) component boundary (record { component = o; port = k }) (record { at = path_of lib i; name = n })
around_end lib component boundary i r o k n is e h =
    let some : o ≡ Some is.placed.index = e ∙ last_of_route lib i r is in
    record {
      there = subst (λ (p : Path). IsThere lib p o (path_of lib i)) (sym (parent_around lib i r.parent is.parent_is))
          (subst (λ (o : Option ℕ). IsThere lib (parent (path_of lib i)) o (path_of lib i)) (sym e) (stands_there lib i r is));
      kind = is.kind;
      is_kind = is.is_kind;
      name = ap (λ (c : Option ℕ). slice_get (side c component boundary (ports_of is.kind)) k) some ∙ h;
    }

inside_end :
    (lib : Library) (component boundary : Ports → List Name) (i : ℕ) (r : InstanceRow) (k : ℕ) (n : Name) → (is : IsRow lib i r)
    → slice_get (boundary (ports_of is.kind)) k ≡ Some n
    → IsEndOf lib (path_of lib i) component boundary (record { component = None; port = k }) (record { at = path_of lib i; name = n })
inside_end lib component boundary i r k n is h = record { there = refl; kind = is.kind; is_kind = is.is_kind; name = h }

-- ---- Networks around and inside

inside_wired :
    (lib : Library) (layout : Layout) (app : NetworkNumbers) (blocks : List (Option NetworkNumbers)) (i : ℕ) → AreTables lib layout app blocks
    → i < length (paths_of lib) → MayBeWired lib (path_of lib i)
inside_wired lib layout app blocks i are within = λ net is. around_wired lib layout app blocks (Some i) net are within is

outside_wired :
    (lib : Library) (layout : Layout) (app : NetworkNumbers) (blocks : List (Option NetworkNumbers)) (i : ℕ) (r : InstanceRow) → AreTables lib layout app blocks
    → i < length (paths_of lib) → IsRow lib i r → MayBeWired lib (parent (path_of lib i))
outside_wired lib layout app blocks i r are within is =
    subst (λ (p : Path). MayBeWired lib p) (parent_around lib i r.parent is.parent_is)
    (λ net h. around_wired lib layout app blocks r.parent net are (parent_within lib i r.parent within is.parent_is) h)

-- ---- Events

output_name :
    (lib : Library) (i e : ℕ) (r : InstanceRow) → (is : IsRow lib i r) → e < length (ports_here lib i).event_outputs
    → slice_get (event_outs (ports_of is.kind)) e ≡ Some (event_output lib i e).name
output_name lib i e r is h =
    let ns = event_outs (ports_here lib i) in
    let l : length ns ≡ length (ports_here lib i).event_outputs = length-map (ports_here lib i).event_outputs (λ (x : _). x.name) in
    ap (λ (p : Ports). slice_get (event_outs p) e) (sym (ports_of_row lib i r is)) ∙ name_there ns e (omega (arith, h, l))

input_name :
    (lib : Library) (i e : ℕ) (r : InstanceRow) → (is : IsRow lib i r) → e < length (ports_here lib i).event_inputs
    → slice_get (event_ins (ports_of is.kind)) e ≡ Some (event_input lib i e).name
input_name lib i e r is h =
    let ns = event_ins (ports_here lib i) in
    let l : length ns ≡ length (ports_here lib i).event_inputs = length-map (ports_here lib i).event_inputs (λ (x : _). x.name) in
    ap (λ (p : Ports). slice_get (event_ins p) e) (sym (ports_of_row lib i r is)) ∙ name_there ns e (omega (arith, h, l))

output_port : (lib : Library) (t : Target) → t.is_output ≡ true → port_of lib t ≡ event_output lib t.instance t.event
output_port lib t h = ap (λ b. cond b (event_output lib t.instance t.event) (event_input lib t.instance t.event)) h

input_port : (lib : Library) (t : Target) → t.is_output ≡ false → port_of lib t ≡ event_input lib t.instance t.event
input_port lib t h = ap (λ b. cond b (event_output lib t.instance t.event) (event_input lib t.instance t.event)) h

output_within : (lib : Library) (t : Target) → t.is_output ≡ true → IsPort lib t → t.event < length (ports_here lib t.instance).event_outputs
output_within lib t h is =
    subst (λ (b : Bool). t.event < length (cond b (ports_here lib t.instance).event_outputs (ports_here lib t.instance).event_inputs)) h is.event

input_within : (lib : Library) (t : Target) → t.is_output ≡ false → IsPort lib t → t.event < length (ports_here lib t.instance).event_inputs
input_within lib t h is =
    subst (λ (b : Bool). t.event < length (cond b (ports_here lib t.instance).event_outputs (ports_here lib t.instance).event_inputs)) h is.event

-- the end of a port that is known by its name
abbrev IsEventEnd : Library → Path → ConnectionEnd → Port → Type 0
IsEventEnd lib p e q = IsEndOf lib p event_outs event_ins e q

pub output_end :
    (lib : Library) (t : Target) (r : InstanceRow) (o : Option ℕ) → IsPort lib t → t.is_output ≡ true → IsRow lib t.instance r → o ≡ last_of r.route
    → IsEventEnd lib (path_around lib r.parent) (record { component = o; port = t.event }) (port_of lib t)
output_end lib t r o port out is e =
    subst (IsEventEnd lib (path_around lib r.parent) (record { component = o; port = t.event })) (sym (output_port lib t out))
    (around_end lib event_outs event_ins t.instance r o t.event (event_output lib t.instance t.event).name is e
    (output_name lib t.instance t.event r is (output_within lib t out port)))

pub input_end :
    (lib : Library) (t : Target) (r : InstanceRow) → IsPort lib t → t.is_output ≡ false → IsRow lib t.instance r
    → IsEventEnd lib (path_of lib t.instance) (record { component = None; port = t.event }) (port_of lib t)
input_end lib t r port out is =
    subst (IsEventEnd lib (path_of lib t.instance) (record { component = None; port = t.event })) (sym (input_port lib t out))
    (inside_end lib event_outs event_ins t.instance r t.event (event_input lib t.instance t.event).name is
    (input_name lib t.instance t.event r is (input_within lib t out port)))

-- The connections along which an event leads are all in the network of its end.
abbrev AllLead : Library → Path → Port → Type 0
AllLead lib p q = targets_along (events_inside lib p) q ≡ targets_of lib q

pub leads_around :
    (lib : Library) (layout : Layout) (app : NetworkNumbers) (blocks : List (Option NetworkNumbers)) (t : Target) (r : InstanceRow)
    → AreTables lib layout app blocks → IsPort lib t → t.is_output ≡ true → IsRow lib t.instance r → AllLead lib (path_around lib r.parent) (port_of lib t)
leads_around lib layout app blocks t r are port out is =
    let q : Port = event_output lib t.instance t.event in
    let named = output_name lib t.instance t.event r is (output_within lib t out port) in
    let all : targets_of lib q ≡ targets_along (events_inside lib (parent q.at)) q =
    output_targets lib are.plan q is.kind are.once (inside_wired lib layout app blocks t.instance are port.instance) is.is_kind
    (element_of_index (event_outs (ports_of is.kind)) t.event q.name named) in
    subst (AllLead lib (path_around lib r.parent)) (sym (output_port lib t out))
    (ap (λ (p : Path). targets_along (events_inside lib p) q) (parent_around lib t.instance r.parent is.parent_is) ∙ sym all)

pub leads_inside :
    (lib : Library) (layout : Layout) (app : NetworkNumbers) (blocks : List (Option NetworkNumbers)) (t : Target) (r : InstanceRow)
    → AreTables lib layout app blocks → IsPort lib t → t.is_output ≡ false → IsRow lib t.instance r → AllLead lib (path_of lib t.instance) (port_of lib t)
leads_inside lib layout app blocks t r are port out is =
    let q : Port = event_input lib t.instance t.event in
    let named = input_name lib t.instance t.event r is (input_within lib t out port) in
    let all : targets_of lib q ≡ targets_along (events_inside lib q.at) q =
    input_targets lib are.plan q is.kind is.placed.instance.name are.once (outside_wired lib layout app blocks t.instance r are port.instance is) is.is_kind
    (element_of_index (event_ins (ports_of is.kind)) t.event q.name named) is.placed.is_path in
    subst (AllLead lib (path_of lib t.instance)) (sym (input_port lib t out)) (sym all)

-- ---- Data

data_output_name :
    (lib : Library) (i v : ℕ) (r : InstanceRow) → (is : IsRow lib i r) → v < length (ports_here lib i).outputs
    → slice_get (data_outs (ports_of is.kind)) v ≡ Some (data_output lib i v).name
data_output_name lib i v r is h =
    let ns = data_outs (ports_here lib i) in
    let l : length ns ≡ length (ports_here lib i).outputs = length-map (ports_here lib i).outputs (λ (x : _). x.name) in
    ap (λ (p : Ports). slice_get (data_outs p) v) (sym (ports_of_row lib i r is)) ∙ name_there ns v (omega (arith, h, l))

data_input_name :
    (lib : Library) (i v : ℕ) (r : InstanceRow) → (is : IsRow lib i r) → v < length (ports_here lib i).inputs
    → slice_get (data_ins (ports_of is.kind)) v ≡ Some (data_input lib i v).name
data_input_name lib i v r is h =
    let ns = data_ins (ports_here lib i) in
    let l : length ns ≡ length (ports_here lib i).inputs = length-map (ports_here lib i).inputs (λ (x : _). x.name) in
    ap (λ (p : Ports). slice_get (data_ins p) v) (sym (ports_of_row lib i r is)) ∙ name_there ns v (omega (arith, h, l))

data_output_port : (lib : Library) (x : InstanceVariable) → x.is_output ≡ true → variable_of lib x ≡ data_output lib x.instance x.variable
data_output_port lib x h = ap (λ b. cond b (data_output lib x.instance x.variable) (data_input lib x.instance x.variable)) h

data_input_port : (lib : Library) (x : InstanceVariable) → x.is_output ≡ false → variable_of lib x ≡ data_input lib x.instance x.variable
data_input_port lib x h = ap (λ b. cond b (data_output lib x.instance x.variable) (data_input lib x.instance x.variable)) h

data_output_within : (lib : Library) (x : InstanceVariable) → x.is_output ≡ true → IsVariable lib x → x.variable < length (ports_here lib x.instance).outputs
data_output_within lib x h is =
    subst (λ (b : Bool). x.variable < length (cond b (ports_here lib x.instance).outputs (ports_here lib x.instance).inputs)) h is.variable

data_input_within : (lib : Library) (x : InstanceVariable) → x.is_output ≡ false → IsVariable lib x → x.variable < length (ports_here lib x.instance).inputs
data_input_within lib x h is =
    subst (λ (b : Bool). x.variable < length (cond b (ports_here lib x.instance).outputs (ports_here lib x.instance).inputs)) h is.variable

abbrev IsDataEnd : Library → Path → ConnectionEnd → Port → Type 0
IsDataEnd lib p e q = IsEndOf lib p data_ins data_outs e q

pub data_input_end :
    (lib : Library) (x : InstanceVariable) (r : InstanceRow) (o : Option ℕ) → IsVariable lib x → x.is_output ≡ false → IsRow lib x.instance r → o ≡ last_of r.route
    → IsDataEnd lib (path_around lib r.parent) (record { component = o; port = x.variable }) (variable_of lib x)
data_input_end lib x r o variable out is e =
    subst (IsDataEnd lib (path_around lib r.parent) (record { component = o; port = x.variable })) (sym (data_input_port lib x out))
    (around_end lib data_ins data_outs x.instance r o x.variable (data_input lib x.instance x.variable).name is e
    (data_input_name lib x.instance x.variable r is (data_input_within lib x out variable)))

pub data_output_end :
    (lib : Library) (x : InstanceVariable) (r : InstanceRow) → IsVariable lib x → x.is_output ≡ true → IsRow lib x.instance r
    → IsDataEnd lib (path_of lib x.instance) (record { component = None; port = x.variable }) (variable_of lib x)
data_output_end lib x r variable out is =
    subst (IsDataEnd lib (path_of lib x.instance) (record { component = None; port = x.variable })) (sym (data_output_port lib x out))
    (inside_end lib data_ins data_outs x.instance r x.variable (data_output lib x.instance x.variable).name is
    (data_output_name lib x.instance x.variable r is (data_output_within lib x out variable)))

-- The connection from which a variable comes is in the network of its end.
abbrev Comes : Library → Path → Port → Type 0
Comes lib p q = source_along (data_inside lib p) q ≡ source_of lib q

pub comes_around :
    (lib : Library) (layout : Layout) (app : NetworkNumbers) (blocks : List (Option NetworkNumbers)) (x : InstanceVariable) (r : InstanceRow)
    → AreTables lib layout app blocks → IsVariable lib x → x.is_output ≡ false → IsRow lib x.instance r → Comes lib (path_around lib r.parent) (variable_of lib x)
comes_around lib layout app blocks x r are variable out is =
    let q : Port = data_input lib x.instance x.variable in
    let named = data_input_name lib x.instance x.variable r is (data_input_within lib x out variable) in
    let all : source_of lib q ≡ source_along (data_inside lib (parent q.at)) q =
    input_source lib are.plan q is.kind are.once (inside_wired lib layout app blocks x.instance are variable.instance) is.is_kind
    (element_of_index (data_ins (ports_of is.kind)) x.variable q.name named) in
    subst (Comes lib (path_around lib r.parent)) (sym (data_input_port lib x out))
    (ap (λ (p : Path). source_along (data_inside lib p) q) (parent_around lib x.instance r.parent is.parent_is) ∙ sym all)

pub comes_inside :
    (lib : Library) (layout : Layout) (app : NetworkNumbers) (blocks : List (Option NetworkNumbers)) (x : InstanceVariable) (r : InstanceRow)
    → AreTables lib layout app blocks → IsVariable lib x → x.is_output ≡ true → IsRow lib x.instance r → Comes lib (path_of lib x.instance) (variable_of lib x)
comes_inside lib layout app blocks x r are variable out is =
    let q : Port = data_output lib x.instance x.variable in
    let named = data_output_name lib x.instance x.variable r is (data_output_within lib x out variable) in
    let all : source_of lib q ≡ source_along (data_inside lib q.at) q =
    output_source lib are.plan q is.kind is.placed.instance.name are.once (outside_wired lib layout app blocks x.instance r are variable.instance is) is.is_kind
    (element_of_index (data_outs (ports_of is.kind)) x.variable q.name named) is.placed.is_path in
    subst (Comes lib (path_of lib x.instance)) (sym (data_output_port lib x out)) (sym all)
