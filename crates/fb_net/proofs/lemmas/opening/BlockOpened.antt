-- One block before the first event.
use Rattle.fb_net.proofs.lemmas.Common.{◌≡◌, ◌≢◌, ℕ, ◌<◌, suc, List, [], ◌∷◌, ◌++◌, map, length, Contains, true, false, Option, Some, None, refl, sym, ◌∙◌, ap, subst, if◌then◌else◌, option_map, slice_get, unwrap_or, slice_get-map, same_Some, Name, Path, Values, Kind, Basic, among, ports, ports_of, variable_names, kind_of, AreAccepted, Inputs, system_of, path_at, ports_at, opening_block, System, BasicType, BlockType, Ports, Variable, Value, values_of, BasicState, ShellRepresents, Shell, begun_all}
use Rattle.fb_types.proofs.Common.{variables_of}
use Rattle.fb_types.specs.Simulation.{first_state, opening_memory}
use Rattle.fb_types.specs.States as model
use Rattle.fb_types.specs.declared.library.State.{State}
use Rattle.fb_st.specs.Frames.{Declared, declared_in, is_declared}
use Rattle.fb_st.specs.declared.frame.Slot.{Slot}
use Rattle.fb_ecc.specs.Opened.{IsOfDeclaration, IsOpened, slot_of}
use Rattle.fb_ecc.specs.Indexes.{state_at}
use Rattle.fb_system.specs.Stimuli.{initial_inputs, initial_outputs}
use Rattle.fb_net.specs.Worlds.{BasicRepresents, ValuesRepresent, begins}
use Rattle.fb_net.specs.Opening.{AreDeclared}
use Rattle.fb_types.proofs.lemmas.lists.ByIndex.{slice_get-append_left}
use Rattle.fb_types.proofs.lemmas.lists.Options.{map_parts}
use Rattle.fb_types.proofs.lemmas.lists.Positions.{slice_get-Contains}
use Rattle.fb_types.proofs.lemmas.names.NameLaws.{any_from_contains}
use Rattle.fb_net.proofs.lemmas.opening.Frames.{begun_at, other_begins}
use Rattle.fb_net.proofs.lemmas.values.Acceptance.{basic_at, kind_there, known_of, once_of, parameter_input, stood}

-- ---- Values

map_long : (f : Values) (names : List Name) → length (map f names) ≡ length names
map_long f [] = refl
map_long f (n ∷ names) = ap suc (map_long f names)

values_begin : (sys : System) (p : Path) (names : List Name) (values : List Value) → values ≡ map (begins sys p) names → ValuesRepresent sys p names values (begins sys p)
values_begin sys p names values is = record {
  each = ap (λ (vs : List Value). length vs) is ∙ map_long (begins sys p) names;
  at_index = λ index n v h g.
      same_Some (begins sys p n) v
      (sym (ap (λ (vs : List Value). slice_get vs index) is ∙ slice_get-map (begins sys p) names index ∙ ap (option_map (begins sys p)) h) ∙ g);
  others = λ n h. refl;
}

pub shell_begins :
    (sys : System) (p : Path) (s : Shell) → s.slots ≡ initial_inputs sys p → s.published ≡ initial_outputs sys p
    → (((t : BasicType) → sys.kind p ≢ Some (Basic t)) → s.inputs ≡ initial_inputs sys p) → ShellRepresents sys p s (opening_block sys p)
shell_begins sys p s slots published inputs = record {
  slots = values_begin sys p (variable_names (ports_at sys p).inputs) s.slots slots;
  published = values_begin sys p (variable_names (ports_at sys p).outputs) s.published published;
  inputs = λ no_basic. values_begin sys p (variable_names (ports_at sys p).inputs) s.inputs (inputs no_basic);
}

-- ---- Basic blocks

abbrev ports_by : Option Kind → Ports
ports_by None = ports [] [] [] []
ports_by (Some k) = ports_of k

first_is : (t : BasicType) → first_state t.states ≡ state_at t 0
first_is t = of t.states
  where
    of : (ss : List State) → first_state ss ≡ unwrap_or (slice_get (map (λ (s : State). s.name) ss) 0) []
    of [] = refl
    of (s ∷ ss) = refl

pub of_declaration : (i : Inputs) (k : ℕ) (t : BasicType) → AreAccepted i → (system_of i).kind (path_at (system_of i) k) ≡ Some (Basic t) → IsOfDeclaration t
of_declaration i k t accepted h = record {
  library = i.library;
  plan = i.plan;
  once = once_of i accepted;
  known = known_of i accepted;
  declared = basic_at i.library (path_at (system_of i) k) t h;
}

variables_begin :
    (i : Inputs) (k : ℕ) (t : BasicType) (old : Values) → AreAccepted i → k < length (system_of i).paths → (system_of i).kind (path_at (system_of i) k) ≡ Some (Basic t)
    → old ≡ values_of (map slot_of (variables_of t)) → (n : Name)
    → begins (system_of i) (path_at (system_of i) k) n ≡ begun_all (variable_names t.ports.inputs) (map (begins (system_of i) (path_at (system_of i) k)) (variable_names t.ports.inputs)) old n
variables_begin i k t old accepted within is first n =
    let sys = system_of i in
    let p = path_at sys k in
    let ins = variable_names t.ports.inputs in
    let s = stood i k accepted within in
    let known = kind_there i.library i.plan (known_of i accepted) p s.instance s.is_instance in
    let same : known.0 ≡ Basic t = same_Some known.0 (Basic t) (sym known.2 ∙ is) in
    sym (begun_at (begins sys p) ins old n
    ∙ (elim (among ins n) as (λ b. among ins n ≡ b → (if b then begins sys p n else old n) ≡ begins sys p n) [
      | true ↦ λ e. refl
      | false ↦ λ e.
          ap (λ (m : Values). m n) first
          ∙ sym (other_begins i.library p s.instance t n s.is_instance is
          (parameter_input i.library i.plan (known_of i accepted) p s.instance (Basic t) n s.is_instance (known.1 ∙ ap (λ (k : Kind). Some k) same))
          e)
    ] refl))

pub opens :
    (i : Inputs) (k : ℕ) (t : BasicType) (old : BasicState) (frame : List Slot) (values : List Value) → AreAccepted i → k < length (system_of i).paths
    → (system_of i).kind (path_at (system_of i) k) ≡ Some (Basic t) → IsOpened t old
    → values ≡ initial_inputs (system_of i) (path_at (system_of i) k)
    → values_of frame ≡ begun_all (variable_names t.ports.inputs) values (values_of old.frame) → declared_in frame ≡ declared_in old.frame
    → BasicRepresents t (record old { frame = frame }) (opening_block (system_of i) (path_at (system_of i) k)).memory (opening_block (system_of i) (path_at (system_of i) k)).variables
opens i k t old frame values accepted within is opened given put declared =
    let sys = system_of i in
    let p = path_at sys k in
    let ins = variable_names t.ports.inputs in
    let ports : (ports_at sys p) ≡ t.ports = ap ports_by is in
    let those : values ≡ map (begins sys p) ins = given ∙ ap (λ its. map (begins sys p) (variable_names its.inputs)) ports in
    record {
      sound = opened.sound;
      block = record { state = opened.block.state; chart = opened.block.chart; declared = declared ∙ opened.block.declared };
      memory = ap opening_memory is ∙ ap (λ n. model.InState n) (first_is t ∙ ap (state_at t) (sym opened.first));
      variables = λ n.
          variables_begin i k t (values_of old.frame) accepted within is (ap values_of opened.variables) n
          ∙ ap (λ (vs : List Value). begun_all ins vs (values_of old.frame) n) (sym those)
          ∙ sym (ap (λ (m : Values). m n) put);
    }

-- ---- What is declared, and what has a type

names_declared : (vs : List Variable) → map (λ (d : Declared). d.0) (declared_in (map slot_of vs)) ≡ variable_names vs
names_declared [] = refl
names_declared (v ∷ vs) = ap (λ (ns : List Name). v.name ∷ ns) (names_declared vs)

named_at : (vs : List Variable) (index : ℕ) (n : Name) → slice_get (variable_names vs) index ≡ Some n → (x : Variable) × (slice_get vs index ≡ Some x) × (x.name ≡ n)
named_at vs index n h = map_parts (λ (v : Variable). v.name) (slice_get vs index) n (sym (slice_get-map (λ (v : Variable). v.name) vs index) ∙ h)

pub inputs_declared : (t : BasicType) (s : BasicState) → IsOpened t s → AreDeclared (declared_in s.frame) (variable_names t.ports.inputs)
inputs_declared t s opened index n h =
    let vs = variables_of t in
    let x = named_at t.ports.inputs index n h in
    let there = slice_get-append_left (t.ports.inputs ++ t.ports.outputs) t.internals index x.0 (slice_get-append_left t.ports.inputs t.ports.outputs index x.0 x.1) in
    let among_all : Contains (variable_names vs) n =
    subst (λ (m : Name). Contains (variable_names vs) m) x.2 (slice_get-Contains (λ (v : Variable). v.name) vs index x.0 there) in
    ap (λ (slots : List Slot). is_declared (declared_in slots) n) opened.variables
    ∙ ap (λ (ns : List Name). among ns n) (names_declared vs)
    ∙ any_from_contains n (variable_names vs) among_all

pub typed :
    (i : Inputs) (k : ℕ) (o : Option BlockType) → AreAccepted i → k < length (system_of i).paths → None ≡ o
    → option_map kind_of o ≡ (system_of i).kind (path_at (system_of i) k) → ⊥
typed i k o accepted h none is =
    let p = path_at (system_of i) k in
    let s = stood i k accepted h in
    let known = kind_there i.library i.plan (known_of i accepted) p s.instance s.is_instance in
    none_some known.0 (ap (option_map kind_of) none ∙ is ∙ known.2)
  where
    none_some : (x : Kind) → None ≡ Some x → ⊥
    none_some x e = cc
