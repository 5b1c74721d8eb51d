-- From what the code asks of each name to what it says of a system.
use Rattle.fb_types.proofs.Common.{◌≡◌, ℕ, zero, suc, ◌<◌, Bool, true, false, ◌&&◌, List, [], ◌∷◌, ◌++◌, map, length, Option, Some, None, Contains, slice_index_or, refl, sym, ap, subst, ◌∙◌, inl, inr, arith, list_all, and_from, and_parts, true≢false, Contains-append_cases, Contains-append_left, Contains-append_right, unwrap_or-slice_get, event_names, variable_names, inside, paths_inside, Inputs, system_of, Name, Path, path_at, ports_at, System}
use Rattle.fb_types.specs.declared.library.EventPort.{EventPort}
use Rattle.fb_types.specs.declared.library.Library.{Library}
use Rattle.fb_types.specs.declared.library.Network.{Network}
use Rattle.fb_types.specs.declared.library.Ports.{Ports}
use Rattle.fb_types.specs.declared.library.Variable.{Variable}
use Rattle.fb_types.proofs.lemmas.lists.Elements.{Contains-cons_cases, Contains-flat_map, Contains-here, Contains-nil, Contains-there, flat_map-Contains}
use Rattle.fb_system.proofs.lemmas.networks.Distinct.{below, paths_from}
use Rattle.fb_wave.specs.Named.{AreNames, HasNames, are_ports_named, is_name, is_named_at, port_names}
use Rattle.fb_wave.specs.Scopes.{own_name}
use Rattle.fb_wave.proofs.lemmas.Known.{path_some, there}

-- ---- Names of a list

cons_names : (n : Name) (ns : List Name) → is_name n ≡ true → AreNames ns → AreNames (n ∷ ns)
cons_names n ns first rest m c =
    elim (Contains-cons_cases n ns m c) [ inl e ↦ subst (λ (k : Name). is_name k ≡ true) e first | inr d ↦ rest m d ]

both_names : (ns ms : List Name) → AreNames ns → AreNames ms → AreNames (ns ++ ms)
both_names ns ms first second m c = elim (Contains-append_cases ns ms m c) [ inl d ↦ first m d | inr d ↦ second m d ]

from_test : {A : Type 0} (f : A → Name) (xs : List A) → list_all (λ x. is_name (f x)) xs ≡ true → AreNames (map f xs)
from_test f [] h = λ m c. absurd (Contains-nil m c)
from_test f (x ∷ xs) h =
    let parts = and_parts (is_name (f x)) (list_all (λ x. is_name (f x)) xs) h in cons_names (f x) (map f xs) parts.0 (from_test f xs parts.1)

to_test : {A : Type 0} (f : A → Name) (xs : List A) → AreNames (map f xs) → list_all (λ x. is_name (f x)) xs ≡ true
to_test f [] h = refl
to_test f (x ∷ xs) h =
    and_from (is_name (f x)) (list_all (λ x. is_name (f x)) xs) (h (f x) (Contains-here (f x) (map f xs)))
    (to_test f xs (λ m c. h m (Contains-there (f x) (map f xs) m c)))

abbrev event_name : EventPort → Name
event_name e = e.name

abbrev variable_name : Variable → Name
variable_name v = v.name

ports_named : (its : Ports) → are_ports_named its ≡ true → AreNames (port_names its)
ports_named its h =
    let a = list_all (λ (e : EventPort). is_name e.name) its.event_inputs in
    let b = list_all (λ (e : EventPort). is_name e.name) its.event_outputs in
    let c = list_all (λ (v : Variable). is_name v.name) its.inputs in
    let d = list_all (λ (v : Variable). is_name v.name) its.outputs in
    let first = and_parts a (b && (c && d)) h in
    let second = and_parts b (c && d) first.1 in
    let third = and_parts c d second.1 in
    both_names ((event_names its.event_inputs ++ event_names its.event_outputs) ++ variable_names its.inputs) (variable_names its.outputs)
    (both_names (event_names its.event_inputs ++ event_names its.event_outputs) (variable_names its.inputs)
    (both_names (event_names its.event_inputs) (event_names its.event_outputs) (from_test event_name its.event_inputs first.0) (from_test event_name its.event_outputs second.0))
    (from_test variable_name its.inputs third.0))
    (from_test variable_name its.outputs third.1)

named_ports : (its : Ports) → AreNames (port_names its) → are_ports_named its ≡ true
named_ports its h =
    let ei = event_names its.event_inputs in
    let eo = event_names its.event_outputs in
    let vi = variable_names its.inputs in
    let vo = variable_names its.outputs in
    let a = to_test event_name its.event_inputs (λ m c. h m (Contains-append_left ((ei ++ eo) ++ vi) vo m (Contains-append_left (ei ++ eo) vi m (Contains-append_left ei eo m c)))) in
    let b = to_test event_name its.event_outputs (λ m c. h m (Contains-append_left ((ei ++ eo) ++ vi) vo m (Contains-append_left (ei ++ eo) vi m (Contains-append_right ei eo m c)))) in
    let c = to_test variable_name its.inputs (λ m c. h m (Contains-append_left ((ei ++ eo) ++ vi) vo m (Contains-append_right (ei ++ eo) vi m c))) in
    let d = to_test variable_name its.outputs (λ m c. h m (Contains-append_right ((ei ++ eo) ++ vi) vo m c)) in
    let t : Bool = list_all (λ (v : Variable). is_name v.name) its.outputs in
    let s : Bool = list_all (λ (v : Variable). is_name v.name) its.inputs in
    let r : Bool = list_all (λ (e : EventPort). is_name e.name) its.event_outputs in
    let q : Bool = list_all (λ (e : EventPort). is_name e.name) its.event_inputs in
    and_from q (r && (s && t)) a (and_from r (s && t) b (and_from s t c d))

-- ---- Names along paths

module _ (lib : Library) where
  abbrev AreOwn : List Path → Type 0
  AreOwn ps = (q : Path) → Contains ps q → is_name (own_name q) ≡ true

  abbrev AreWhole : List Path → Type 0
  AreWhole ps = (q : Path) → Contains ps q → AreNames q

  named_below : (d : ℕ) (p : Path) (o : Option Network) → ((net : Network) → AreOwn (paths_inside d lib p net) → AreWhole (paths_inside d lib p net)) → AreOwn (below d lib p o) → AreWhole (below d lib p o)
  named_below d p None inner own q c = absurd (Contains-nil q c)
  named_below d p (Some net) inner own q c = inner net own q c

  -- where each instance on a path has a name, all names of the path are some
  named_inside : (d : ℕ) (p : Path) (net : Network) → AreNames p → AreOwn (paths_inside d lib p net) → AreWhole (paths_inside d lib p net)
  named_inside zero p net outer own q c = absurd (Contains-nil q c)
  named_inside (suc d) p net outer own q c =
      let f = flat_map-Contains (paths_from d lib p) net.instances q c in
      let here : Path = f.0.name ∷ p in
      let deeper : List Path = below d lib here (inside lib f.0) in
      let up : (z : Path) → Contains (paths_from d lib p f.0) z → Contains (paths_inside (suc d) lib p net) z = λ z e. Contains-flat_map (paths_from d lib p) net.instances f.0 z f.1 e in
      let are : AreNames here = cons_names f.0.name p (own here (up here (Contains-here here deeper))) outer in
      elim (Contains-cons_cases here deeper q f.2) [
        | inl e ↦ subst (λ (z : Path). AreNames z) e are
        | inr b ↦ named_below d here (inside lib f.0) (λ net own. named_inside d here net are own) (λ z e. own z (up z (Contains-there here deeper z e))) q b
      ]

-- ---- Names of a system

at_any : {A : Type 0} (xs : List A) (k : ℕ) (d e : A) → k < length xs → slice_index_or xs k d ≡ slice_index_or xs k e
at_any [] k d e h = absurd (omega (arith, h))
at_any (x ∷ xs) zero d e h = refl
at_any (x ∷ xs) (suc k) d e h = at_any xs k d e (omega (arith, h))

-- the element that is contained
at_index : {A : Type 0} (xs : List A) (d x : A) (c : Contains xs x) → slice_index_or xs c.0 d ≡ x
at_index xs d x c = at_any xs c.0 d x c.1 ∙ c.2

abbrev is_named : System → Path → Bool
is_named sys q = is_name (own_name q) && are_ports_named (ports_at sys q)

module _ (i : Inputs) where
  named_path : ((k : ℕ) → k < length (system_of i).paths → is_named_at (system_of i) k ≡ true) → (q : Path) → Contains (system_of i).paths q → is_named (system_of i) q ≡ true
  named_path h q c =
      let sys = system_of i in
      let at : path_at sys c.0 ≡ q = unwrap_or-slice_get sys.paths c.0 [] ∙ at_index sys.paths [] q c in
      subst (λ (z : Path). is_named sys z ≡ true) at (h c.0 c.1)

  pub has_names :
      ((k : ℕ) → k < length (system_of i).resource_names → is_name (slice_index_or (system_of i).resource_names k []) ≡ true)
      → ((k : ℕ) → k < length (system_of i).paths → is_named_at (system_of i) k ≡ true) → HasNames (system_of i)
  has_names resources instances =
      let sys = system_of i in
      record {
        resources = λ n c. subst (λ (m : Name). is_name m ≡ true) (at_index sys.resource_names [] n c) (resources c.0 c.1);
        paths =
            named_inside i.library 17 [] i.library.application.network (λ m c. absurd (Contains-nil m c))
            (λ q c. (and_parts (is_name (own_name q)) (are_ports_named (ports_at sys q)) (named_path instances q c)).0);
        ports = λ q c. ports_named (ports_at sys q) (and_parts (is_name (own_name q)) (are_ports_named (ports_at sys q)) (named_path instances q c)).1;
      }

  -- ---- What is no name

  pub resource_unnamed :
      (k : ℕ) → k < length (system_of i).resource_names → is_name (slice_index_or (system_of i).resource_names k []) ≡ false → HasNames (system_of i) → ⊥
  resource_unnamed k h is names =
      let rs = (system_of i).resource_names in true≢false (sym (names.resources _ (there rs k [] h)) ∙ ap is_name (unwrap_or-slice_get rs k []) ∙ is)

  own_named : (p : Path) → 0 < length p → AreNames p → is_name (own_name p) ≡ true
  own_named [] h are = absurd (omega (arith, h))
  own_named (n ∷ p) h are = are n (Contains-here n p)

  pub instance_unnamed : (k : ℕ) → k < length (system_of i).paths → is_named_at (system_of i) k ≡ false → HasNames (system_of i) → ⊥
  instance_unnamed k h is names =
      let sys = system_of i in
      let p = path_at sys k in
      let c : Contains sys.paths p = there sys.paths k [] h in
      let own = own_named p (path_some i k h) (names.paths p c) in
      let its = named_ports (ports_at sys p) (names.ports p c) in
      true≢false (sym (and_from (is_name (own_name p)) (are_ports_named (ports_at sys p)) own its) ∙ is)
