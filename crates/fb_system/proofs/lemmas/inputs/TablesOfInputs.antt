-- What the tables say of the inputs that a system represents.
use Rattle.fb_system.proofs.lemmas.Common.{◌≡◌, ℕ, ◌<◌, ◌≤◌, ◌+◌, List, [], length, get_or, Option, Some, None, refl, sym, ◌∙◌, ap, subst, inl, inr, IfSome, IsTrue, ◌↔◌, option_map, slice_get, length-map, slice_get-get_or, kind_at, paths_of, source_of, targets_of, Inputs, system_of, NameTwice, NameUnknown, Plan, Library, Ports, Target, InstanceVariable, kind_of_number, TypeNumber, AreComponents, AreNumbers, path_of, route_to, NetlistTarget, IsLinked, inputs_of, AreTables, Whole}
use Rattle.fb_types.proofs.Common.{Ok, IfOk, Result, cases_lt, latency_at, AreAccepted, inputs, TooHigh, port_of, path_text, ArePortsOfKinds}
use Rattle.fb_types.specs.declared.deploy.Link.{Link}
use Rattle.fb_types.specs.declared.deploy.ResourceEntry.{ResourceEntry}
use Rattle.fb_types.specs.declared.deploy.Stimulus.{Stimulus}
use Rattle.fb_types.specs.Flat.{instance_at, link_between, number_of}
use Rattle.fb_types.specs.declared.library.Instance.{Instance}
use Rattle.fb_system.specs.Layouts.{IsParent}
use Rattle.fb_system.specs.Netlists as netlist
use Rattle.fb_system.specs.Tables.{AreInterfaces}
use Rattle.fb_system.specs.declared.interfaces.Interfaces.{Interfaces}
use Rattle.fb_system.specs.Rows.{AreRows}
use Rattle.fb_system.specs.declared.rows.StimulusRow.{StimulusRow}
use Rattle.fb_system.specs.Linking.{AreInstanceResources, Linked, link_at, receiver_at, sender_at}
use Rattle.fb_system.specs.Ports.{IsPort, IsSource, IsTarget, IsVariable, variable_of}
use Rattle.fb_system.specs.declared.kept.Kept.{Kept}

-- ---- What acceptance says

pub once_of : (i : Inputs) → AreAccepted i → ¬ (NameTwice i.library i.plan)
once_of i h t = h 20 (inl (refl, t))

pub known_of : (i : Inputs) → AreAccepted i → ¬ (NameUnknown i.library i.plan)
known_of i h t = h 21 (inr (inl (refl, t)))

pub low_of : (i : Inputs) → AreAccepted i → ¬ (TooHigh i.library)
low_of i h t = h 25 (inr (inr (inr (inr (inr (inl (refl, t)))))))

pub few_of : (i : Inputs) → AreAccepted i → length (paths_of i.library) ≤ 4096
few_of i h =
    elim (cases_lt 4096 (length (paths_of i.library))) [
      | inl over ↦ absurd (h 30 (inr (inr (inr (inr (inr (inr (inr (inr (inr (inr (refl, inl over))))))))))))
      | inr within ↦ within
    ]

-- ---- The tables are those of the inputs

pub library_seen : (v w : Whole) (i : Inputs) → v ≡ w → inputs_of w ≡ i → v.netlist ≡ i.library
library_seen v w i e s = ap (λ (w : Whole). w.netlist) e ∙ ap (λ (i : Inputs). i.library) s

pub plan_seen : (v w : Whole) (i : Inputs) → v ≡ w → inputs_of w ≡ i → v.deploy ≡ i.plan
plan_seen v w i e s = ap (λ (w : Whole). w.deploy) e ∙ ap (λ (i : Inputs). i.plan) s

pub accepted_seen : (w : Whole) (i : Inputs) → AreTables w → inputs_of w ≡ i → AreAccepted i
accepted_seen w i is s = subst (λ (i : Inputs). AreAccepted i) s is.accepted

pub within_seen : (v w : Whole) (i : Inputs) (k : ℕ) → v ≡ w → inputs_of w ≡ i → k < length (paths_of i.library) → k < length (paths_of v.netlist)
within_seen v w i k e s h = subst (λ (lib : Library). k < length (paths_of lib)) (sym (library_seen v w i e s)) h

pub count_seen : (v w : Whole) (i : Inputs) → v ≡ w → inputs_of w ≡ i → length (paths_of v.netlist) ≡ length (paths_of i.library)
count_seen v w i e s = ap (λ (lib : Library). length (paths_of lib)) (library_seen v w i e s)

pub stand_seen : (v w : Whole) → v ≡ w → AreTables w → AreTables v
stand_seen v w e is = subst (λ (w : Whole). AreTables w) (sym e) is

-- ---- Instances

abbrev Numbered : Library → Type 0
Numbered lib = (k : ℕ) → k < length (paths_of lib) → number_of (paths_of lib) (path_of lib k) ≡ k

pub numbered_seen : (v w : Whole) (i : Inputs) → v ≡ w → inputs_of w ≡ i → Numbered v.netlist → Numbered i.library
numbered_seen v w i e s h = subst (λ (lib : Library). Numbered lib) (library_seen v w i e s) h

pub kind_seen :
    (v w : Whole) (i : Inputs) (k : ℕ) (t : TypeNumber) → v ≡ w → inputs_of w ≡ i → kind_of_number v.netlist t ≡ kind_at v.netlist (path_of v.netlist k)
    → kind_of_number i.library t ≡ kind_at i.library (path_of i.library k)
kind_seen v w i k t e s h =
    subst (λ (lib : Library). kind_of_number lib t ≡ kind_at lib (path_of lib k)) (library_seen v w i e s) h

pub declared_seen :
    (v w : Whole) (i : Inputs) (k : ℕ) (x : Instance) → v ≡ w → inputs_of w ≡ i → instance_at v.netlist (path_of v.netlist k) ≡ Some x
    → instance_at i.library (path_of i.library k) ≡ Some x
declared_seen v w i k x e s h = subst (λ (lib : Library). instance_at lib (path_of lib k) ≡ Some x) (library_seen v w i e s) h

pub text_seen :
    (v w : Whole) (i : Inputs) (k : ℕ) (bytes : List ℕ) → v ≡ w → inputs_of w ≡ i → bytes ≡ path_text (path_of v.netlist k)
    → bytes ≡ path_text (path_of i.library k)
text_seen v w i k bytes e s h = subst (λ (lib : Library). bytes ≡ path_text (path_of lib k)) (library_seen v w i e s) h

pub parent_seen :
    (v w : Whole) (i : Inputs) (k : ℕ) (o : Option ℕ) → v ≡ w → inputs_of w ≡ i → IsParent v.netlist k o → IsParent i.library k o
parent_seen v w i k o e s h = subst (λ (lib : Library). IsParent lib k o) (library_seen v w i e s) h

pub route_seen :
    (v w : Whole) (i : Inputs) (k : ℕ) (indexes : List ℕ) → v ≡ w → inputs_of w ≡ i → indexes ≡ route_to v.netlist (path_of v.netlist k)
    → indexes ≡ route_to i.library (path_of i.library k)
route_seen v w i k indexes e s h =
    subst (λ (lib : Library). indexes ≡ route_to lib (path_of lib k)) (library_seen v w i e s) h

pub components_seen :
    (v w : Whole) (i : Inputs) (k : ℕ) (numbers : List ℕ) → v ≡ w → inputs_of w ≡ i → AreComponents v.netlist (path_of v.netlist k) numbers
    → AreComponents i.library (path_of i.library k) numbers
components_seen v w i k numbers e s h =
    subst (λ (lib : Library). AreComponents lib (path_of lib k) numbers) (library_seen v w i e s) h

pub top_seen :
    (v w : Whole) (i : Inputs) (numbers : List ℕ) → v ≡ w → inputs_of w ≡ i → AreNumbers v.netlist [] v.netlist.application.network.instances numbers
    → AreNumbers i.library [] i.library.application.network.instances numbers
top_seen v w i numbers e s h =
    subst (λ (lib : Library). AreNumbers lib [] lib.application.network.instances numbers) (library_seen v w i e s) h

-- ---- Events

pub port_there : (v w : Whole) (i : Inputs) (t : Target) → v ≡ w → inputs_of w ≡ i → IsPort (system_of i) t → netlist.IsPort v.netlist t
port_there v w i t e s h =
    subst (λ (lib : Library). netlist.IsPort lib t) (sym (library_seen v w i e s)) (record { instance = h.instance; event = h.event })

reached_up : (i : Inputs) (o : Option NetlistTarget) → IfSome o (λ (r : NetlistTarget). netlist.IsTarget i.library r.target) → IfSome o (λ (r : NetlistTarget). IsTarget (system_of i) r.target)
reached_up i None h = h
reached_up i (Some r) h = record { port = record { instance = h.port.instance; event = h.port.event }; composite = h.composite }

pub reached_within :
    (v w : Whole) (i : Inputs) (o : Option NetlistTarget) → v ≡ w → inputs_of w ≡ i → IfSome o (λ (r : NetlistTarget). netlist.IsTarget v.netlist r.target)
    → IfSome o (λ (r : NetlistTarget). IsTarget (system_of i) r.target)
reached_within v w i o e s h =
    reached_up i o (subst (λ (lib : Library). IfSome o (λ (r : NetlistTarget). netlist.IsTarget lib r.target)) (library_seen v w i e s) h)

pub reached_leads :
    (v w : Whole) (i : Inputs) (from : Target) (index : ℕ) (o : Option NetlistTarget) → v ≡ w → inputs_of w ≡ i
    → option_map (λ (r : NetlistTarget). netlist.port_of v.netlist r.target) o ≡ slice_get (targets_of v.netlist (netlist.port_of v.netlist from)) index
    → option_map (λ (r : NetlistTarget). port_of (system_of i) r.target) o ≡ slice_get ((system_of i).targets (port_of (system_of i) from)) index
reached_leads v w i from index o e s h =
    subst (λ (lib : Library). option_map (λ (r : NetlistTarget). netlist.port_of lib r.target) o ≡ slice_get (targets_of lib (netlist.port_of lib from)) index)
    (library_seen v w i e s) h

pub reached_more :
    (v w : Whole) (i : Inputs) (from : Target) (index : ℕ) (o : Option NetlistTarget) → v ≡ w → inputs_of w ≡ i
    → IfSome o (λ (r : NetlistTarget). IsTrue r.more ↔ (index + 1 < length (targets_of v.netlist (netlist.port_of v.netlist from))))
    → IfSome o (λ (r : NetlistTarget). IsTrue r.more ↔ (index + 1 < length ((system_of i).targets (port_of (system_of i) from))))
reached_more v w i from index o e s h =
    subst (λ (lib : Library). IfSome o (λ (r : NetlistTarget). IsTrue r.more ↔ (index + 1 < length (targets_of lib (netlist.port_of lib from)))))
    (library_seen v w i e s) h

-- ---- Variables

pub variable_there : (v w : Whole) (i : Inputs) (x : InstanceVariable) → v ≡ w → inputs_of w ≡ i → IsVariable (system_of i) x → netlist.IsVariable v.netlist x
variable_there v w i x e s h =
    subst (λ (lib : Library). netlist.IsVariable lib x) (sym (library_seen v w i e s)) (record { instance = h.instance; variable = h.variable })

sources_up : (i : Inputs) (o : Option InstanceVariable) → IfSome o (netlist.IsSource i.library) → IfSome o (IsSource (system_of i))
sources_up i None h = h
sources_up i (Some x) h = record { variable = record { instance = h.variable.instance; variable = h.variable.variable }; composite = h.composite }

pub sources_seen :
    (v w : Whole) (i : Inputs) (o : Option InstanceVariable) → v ≡ w → inputs_of w ≡ i → IfSome o (netlist.IsSource v.netlist)
    → IfSome o (IsSource (system_of i))
sources_seen v w i o e s h =
    sources_up i o (subst (λ (lib : Library). IfSome o (netlist.IsSource lib)) (library_seen v w i e s) h)

pub comes_seen :
    (v w : Whole) (i : Inputs) (to : InstanceVariable) (o : Option InstanceVariable) → v ≡ w → inputs_of w ≡ i
    → option_map (netlist.variable_of v.netlist) o ≡ source_of v.netlist (netlist.variable_of v.netlist to)
    → option_map (variable_of (system_of i)) o ≡ (system_of i).source (variable_of (system_of i) to)
comes_seen v w i to o e s h =
    subst (λ (lib : Library). option_map (netlist.variable_of lib) o ≡ source_of lib (netlist.variable_of lib to)) (library_seen v w i e s) h

-- ---- The deployment

pub stimuli_seen : (v w : Whole) (i : Inputs) → v ≡ w → inputs_of w ≡ i → v.stimuli ≡ i.stimuli
stimuli_seen v w i e s = ap (λ (w : Whole). w.stimuli) e ∙ ap (λ (i : Inputs). i.stimuli) s

-- the plan that is read from the tables
pub plan_read : (v w : Whole) (i : Inputs) (p : Plan) → v ≡ w → inputs_of w ≡ i → p ≡ v.deploy → p ≡ i.plan
plan_read v w i p e s r = r ∙ plan_seen v w i e s

pub links_counted : (v w : Whole) (i : Inputs) (p : Plan) → v ≡ w → inputs_of w ≡ i → p ≡ v.deploy → length p.links ≡ (system_of i).links
links_counted v w i p e s r = ap (λ (p : Plan). length p.links) (plan_read v w i p e s r)

pub resources_counted :
    (v w : Whole) (i : Inputs) (p : Plan) → v ≡ w → inputs_of w ≡ i → p ≡ v.deploy → length p.resources ≡ length (system_of i).resource_names
resources_counted v w i p e s r =
    ap (λ (p : Plan). length p.resources) (plan_read v w i p e s r) ∙ sym (length-map i.plan.resources (λ (x : ResourceEntry). x.name))

-- ---- Links

pub linked_seen : (w : Whole) (i : Inputs) → AreTables w → inputs_of w ≡ i → IsLinked i.library i.plan w.links
linked_seen w i is s = subst (λ (i : Inputs). IsLinked i.library i.plan w.links) s is.links

pub sender_seen : (v w : Whole) (i : Inputs) (l : ℕ) → AreTables w → v ≡ w → inputs_of w ≡ i → sender_at v.links l ≡ (system_of i).sender l
sender_seen v w i l is e s = ap (λ (w : Whole). sender_at w.links l) e ∙ (linked_seen w i is s).senders l

pub receiver_seen : (v w : Whole) (i : Inputs) (l : ℕ) → AreTables w → v ≡ w → inputs_of w ≡ i → receiver_at v.links l ≡ (system_of i).receiver l
receiver_seen v w i l is e s = ap (λ (w : Whole). receiver_at w.links l) e ∙ (linked_seen w i is s).receivers l

pub link_seen :
    (v w : Whole) (i : Inputs) (from to : ℕ) → AreTables w → v ≡ w → inputs_of w ≡ i → from < length (system_of i).resource_names
    → to < length (system_of i).resource_names → link_at v.links from to ≡ link_between i.plan from to
link_seen v w i from to is e s f t =
    let counted : length (system_of i).resource_names ≡ length i.plan.resources = length-map i.plan.resources (λ (x : ResourceEntry). x.name) in
    ap (λ (w : Whole). link_at w.links from to) e ∙ (linked_seen w i is s).links from to (subst (λ n. from < n) counted f) (subst (λ n. to < n) counted t)

pub link_within :
    (v w : Whole) (i : Inputs) (p : Plan) (l : ℕ) → v ≡ w → inputs_of w ≡ i → p ≡ v.deploy → l < (system_of i).links → l < length p.links
link_within v w i p l e s r h = subst (λ (p : Plan). l < length p.links) (sym (plan_read v w i p e s r)) h

pub latency_there :
    (v w : Whole) (i : Inputs) (p : Plan) (l : ℕ) (x : Link) (sent : ℕ) → v ≡ w → inputs_of w ≡ i → p ≡ v.deploy → slice_get p.links l ≡ Some x
    → (system_of i).arrival l sent ≡ sent + latency_at x.latency sent
latency_there v w i p l x sent e s r h =
    let there : slice_get i.plan.links l ≡ Some x = ap (λ (p : Plan). slice_get p.links l) (sym (plan_read v w i p e s r)) ∙ h in
    ap (λ (o : Option Link). sent + elim o [ None ↦ 1 | Some x ↦ latency_at x.latency sent ]) there

pub latency_read :
    (v w : Whole) (i : Inputs) (p : Plan) (links : List Link) (l : ℕ) (d : Link) (sent : ℕ) → v ≡ w → inputs_of w ≡ i → p ≡ v.deploy → links ≡ p.links
    → l < (system_of i).links → (system_of i).arrival l sent ≡ sent + latency_at (get_or links l d).latency sent
latency_read v w i p links l d sent e s r q h =
    let within : l < length links = subst (λ (ls : List Link). l < length ls) (sym q) (link_within v w i p l e s r h) in
    latency_there v w i p l (get_or links l d) sent e s r (ap (λ (ls : List Link). slice_get ls l) (sym q) ∙ slice_get-get_or links l d within)

-- ---- Making

abbrev whole_of : Plan → List Stimulus → Library → Linked → List Ports → Interfaces → List StimulusRow → List ℕ → Kept → Whole
whole_of plan stimuli lib links blocks interfaces rows instance_resources kept =
    record { deploy = plan; stimuli = stimuli; netlist = lib; links = links; event_blocks = blocks; interfaces = interfaces; rows = rows; instance_resources = instance_resources; kept = kept }

-- what a result that is Ok guarantees
pub ok_read : {A E : Type 0} (r : Result A E) (P : A → Type 0) (a : A) → IfOk r P → r ≡ Ok a → P a
ok_read {A} {E} r P a h e = subst (λ (r : Result A E). IfOk r P) e h

pub view_made :
    (lib f : Library) (plan p : Plan) (stimuli xs : List Stimulus) → f ≡ lib → p ≡ plan → xs ≡ stimuli → inputs f p xs ≡ inputs lib plan stimuli
view_made lib f plan p stimuli xs library deploy same = λ j. inputs (library j) (deploy j) (same j)

pub ok_seen : {A E : Type 0} (r : Result A E) (a b : A) → a ≡ b → IfOk r (λ s. s ≡ a) → IfOk r (λ s. s ≡ b)
ok_seen {A} r a b e h = subst (λ (x : A). IfOk r (λ s. s ≡ x)) e h

pub made :
    (lib f : Library) (plan p : Plan) (stimuli xs : List Stimulus) (links : Linked) (blocks : List Ports) (interfaces its : Interfaces) (rows rs : List StimulusRow) (kept : Kept)
    → AreAccepted (inputs lib plan stimuli) → AreInterfaces lib interfaces → AreRows lib stimuli rows → IsLinked lib plan links → ArePortsOfKinds blocks
    → f ≡ lib → p ≡ plan → xs ≡ stimuli → its ≡ interfaces → rs ≡ rows
    → (instance_resources : List ℕ) → (IsLinked f p links → AreInstanceResources f p instance_resources) → AreTables (whole_of p xs f links blocks its rs instance_resources kept)
made lib f plan p stimuli xs links blocks interfaces its rows rs kept accepted of_types by_number linked of_kinds library deploy same types numbers instance_resources at =
    let view = view_made lib f plan p stimuli xs library deploy same in
    let joined : IsLinked f p links = subst (λ (i : Inputs). IsLinked i.library i.plan links) (sym view) linked in
    record {
      accepted = subst (λ (i : Inputs). AreAccepted i) (sym view) accepted;
      links = joined;
      event_blocks = of_kinds;
      interfaces = subst (λ (l : Library). AreInterfaces l its) (sym library) (subst (λ (t : Interfaces). AreInterfaces lib t) (sym types) of_types);
      rows = subst (λ (i : Inputs). AreRows i.library i.stimuli rs) (sym view) (subst (λ (s : List StimulusRow). AreRows lib stimuli s) (sym numbers) by_number);
      instance_resources = at joined;
    }
