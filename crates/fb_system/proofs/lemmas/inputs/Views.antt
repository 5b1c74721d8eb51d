-- What the tables say of the declaration that a netlist represents.
use Rattle.fb_system.proofs.lemmas.Common.{◌≡◌, ℕ, ◌<◌, ◌≤◌, List, length, Option, None, Some, ◌+◌, sym, ◌∙◌, ap, subst, instance_at, kind_at, paths_of, source_of, targets_of, Instance, Library, Target, InstanceVariable, Port, IfSome, IsTrue, ◌↔◌, option_map, slice_get, kind_of_number, parameter_numbers, AreComponents, IsRow, path_of, InstanceRow, port_of, variable_of, NetlistTarget, ConnectionEnd}
use Rattle.fb_types.specs.Flat.{number_of}
use Rattle.fb_system.specs.Netlists.{IsPort, IsVariable}
use Rattle.fb_system.specs.Networks.{IsNetlist}
use Rattle.fb_system.specs.declared.tables.Tables.{Tables}

pub few_of : (t : Tables) (lib : Library) → IsNetlist t → t.library ≡ lib → length (paths_of lib) ≤ 4096
few_of t lib is e = subst (λ (lib : Library). length (paths_of lib) ≤ 4096) e is.few

pub numbers_of : (t : Tables) (lib : Library) → IsNetlist t → t.library ≡ lib → (k : ℕ) → k < length (paths_of lib) → number_of (paths_of lib) (path_of lib k) ≡ k
numbers_of t lib is e =
    subst (λ (lib : Library). (k : ℕ) → k < length (paths_of lib) → number_of (paths_of lib) (path_of lib k) ≡ k) e is.is_layout.numbers

pub count_of : (t : Tables) (lib : Library) → IsNetlist t → t.library ≡ lib → length t.layout.rows ≡ length (paths_of lib)
count_of t lib is e = is.is_layout.counted ∙ ap (λ (lib : Library). length (paths_of lib)) e

pub within_of : (t : Tables) (lib : Library) (i : ℕ) → t.library ≡ lib → i < length (paths_of lib) → i < length (paths_of t.library)
within_of t lib i e h = subst (λ (lib : Library). i < length (paths_of lib)) (sym e) h

pub row_of : (t : Tables) (lib : Library) (i : ℕ) (r : InstanceRow) → t.library ≡ lib → IsRow t.library i r → IsRow lib i r
row_of t lib i r e h = subst (λ (lib : Library). IsRow lib i r) e h

pub kind_of_row : (lib : Library) (i : ℕ) (r : InstanceRow) → IsRow lib i r → kind_of_number lib r.kind ≡ kind_at lib (path_of lib i)
kind_of_row lib i r is = is.numbered ∙ sym is.is_kind

pub components_of_row : (lib : Library) (i : ℕ) (r : InstanceRow) (ks : List ℕ) → IsRow lib i r → ks ≡ r.components → AreComponents lib (path_of lib i) ks
components_of_row lib i r ks is e = subst (λ (ks : List ℕ). AreComponents lib (path_of lib i) ks) (sym e) is.components

pub declared_seen :
    (t : Tables) (lib : Library) (i : ℕ) (x : Instance) → t.library ≡ lib → instance_at t.library (path_of t.library i) ≡ Some x → instance_at lib (path_of lib i) ≡ Some x
declared_seen t lib i x e h = subst (λ (lib : Library). instance_at lib (path_of lib i) ≡ Some x) e h

abbrev AreParameters : Library → ℕ → List ℕ → Type 0
AreParameters lib i ks = (x : Instance) → instance_at lib (path_of lib i) ≡ Some x → parameter_numbers lib x ≡ Some ks

pub parameters_seen : (t : Tables) (lib : Library) (i : ℕ) (ks : List ℕ) → t.library ≡ lib → AreParameters t.library i ks → AreParameters lib i ks
parameters_seen t lib i ks e h = subst (λ (lib : Library). AreParameters lib i ks) e h

-- ---- Ports and variables

pub port_of_tables : (t : Tables) (lib : Library) (x : Target) → t.library ≡ lib → IsPort lib x → IsPort t.library x
port_of_tables t lib x e h = subst (λ (lib : Library). IsPort lib x) (sym e) h

pub variable_of_tables : (t : Tables) (lib : Library) (x : InstanceVariable) → t.library ≡ lib → IsVariable lib x → IsVariable t.library x
variable_of_tables t lib x e h = subst (λ (lib : Library). IsVariable lib x) (sym e) h

abbrev Leads : Library → Target → ℕ → Option NetlistTarget → Type 0
Leads lib from index result = option_map (λ r. port_of lib r.target) result ≡ slice_get (targets_of lib (port_of lib from)) index

pub leads_seen :
    (t : Tables) (lib : Library) (from : Target) (index : ℕ) (qs : List Port) (result : Option NetlistTarget) → t.library ≡ lib
    → option_map (λ (r : NetlistTarget). port_of t.library r.target) result ≡ slice_get qs index → qs ≡ targets_of t.library (port_of t.library from) → Leads lib from index result
leads_seen t lib from index qs result e h all =
    subst (λ (lib : Library). Leads lib from index result) e (h ∙ ap (λ (qs : List Port). slice_get qs index) all)

abbrev FollowsIn : List Port → ℕ → NetlistTarget → Type 0
FollowsIn qs index r = IsTrue r.more ↔ (index + 1 < length qs)

pub more_seen :
    (t : Tables) (lib : Library) (from : Target) (index : ℕ) (e : ConnectionEnd) (qs : Port → List Port) (IsEnd : ConnectionEnd → Port → Type 0) (result : Option NetlistTarget) → t.library ≡ lib
    → IfSome result (λ r. (q : Port) → IsEnd e q → FollowsIn (qs q) index r) → IsEnd e (port_of t.library from)
    → qs (port_of t.library from) ≡ targets_of t.library (port_of t.library from) → IfSome result (FollowsIn (targets_of lib (port_of lib from)) index)
more_seen t lib from index e qs IsEnd None same h end all = tt
more_seen t lib from index e qs IsEnd (Some r) same h end all =
    subst (λ (lib : Library). FollowsIn (targets_of lib (port_of lib from)) index r) same
    (subst (λ (qs : List Port). FollowsIn qs index r) all (h (port_of t.library from) end))

pub comes_seen :
    (t : Tables) (lib : Library) (x : InstanceVariable) (o : Option Port) (result : Option InstanceVariable) → t.library ≡ lib
    → option_map (variable_of t.library) result ≡ o → o ≡ source_of t.library (variable_of t.library x) → option_map (variable_of lib) result ≡ source_of lib (variable_of lib x)
comes_seen t lib x o result e h all = subst (λ (lib : Library). option_map (variable_of lib) result ≡ source_of lib (variable_of lib x)) e (h ∙ all)
