-- What the directory says of a stimulus is whether it is good.
use Rattle.fb_check.proofs.lemmas.Common.{◌≡◌, ℕ, Bool, true, false, not, ◌&&◌, cond, List, [], ◌∷◌, map, Option, Some, None, Contains, Bor, refl, sym, ◌∙◌, ap, subst, inl, inr, option_map, option_and_then, is_some, position, slice_get, Decides, list_all, true≢false, and_parts, Name, same_name, fits, Kind, named, ports_of, event_names, variable_names, Twice, NameTwice, instance_names, NameUnknown, Library, EventPort, Variable, Ports, Plan, Stimulus, Setting, IsIndex, index_in, StimulusLocation, IsBadAt, IsFound, TypeInputs}
use Rattle.fb_types.proofs.Common.{BTreeMap, is_event_input, inputs_with, source_of, IsGood, BadStimulus}
use Rattle.fb_types.specs.Accepted.{kind_of_stimulus, set_names, is_held}
use Rattle.fb_types.proofs.lemmas.lists.Positions.{is_some-position, named-position, position_is}
use Rattle.fb_types.proofs.lemmas.lists.Elements.{Contains-nil, Contains-cons_cases, Contains-here, Contains-there, Contains-map, map-Contains}
use Rattle.fb_types.proofs.lemmas.names.NameLaws.{same_from_same_name}
use Rattle.fb_types.proofs.lemmas.lists.ByIndex.{element_of_index}
use Rattle.fb_check.specs.declared.location.StimulusFault.{StimulusFault}
use Rattle.fb_check.specs.declared.location.StimulusFault.TheVariants as fault
use Rattle.fb_check.specs.Stimuli.{Fits, HasNoEvent, IsBad, IsUnfit}
use Rattle.fb_check.specs.Directory.{first_of, input_in, input_of, lists, leads_to, ports_at, ports_at_index, is_settable, can_set, CanTake, IsInputs, IsDirectory}
use Rattle.fb_check.specs.declared.directory_making.Input.{Input}
use Rattle.fb_check.specs.declared.directory.Directory.{Directory}
use Rattle.fb_types.proofs.lemmas.lists.Options.{none_from_is_some}
use Rattle.fb_types.proofs.lemmas.lists.ListTests.{passes_from}
use Rattle.fb_check.proofs.lemmas.DirectoryEntries.{ports_placed}
use Rattle.fb_check.proofs.lemmas.RefusedStimuli.{HasRefused}
use Rattle.fb_check_names.proofs.lemmas.twice.FirstRepeats.{repeat_twice}
use Rattle.fb_check.proofs.lemmas.DataSources.{has_source, port}
use Rattle.fb_check.proofs.lemmas.networks.ListElements.{Contains-filter, filter-Contains}

-- ---- Lists

each_from_all : {A : Type 0} (p : A → Bool) (xs : List A) → list_all p xs ≡ true → (x : A) → Contains xs x → p x ≡ true
each_from_all p [] all x c = absurd (Contains-nil x c)
each_from_all p (y ∷ ys) all x c =
    elim (Contains-cons_cases y ys x c) [
      | inl same ↦ ap p (sym same) ∙ (and_parts (p y) (list_all p ys) all).0
      | inr rest ↦ each_from_all p ys (and_parts (p y) (list_all p ys) all).1 x rest
    ]

named-among : {A : Type 0} (f : A → Name) (n : Name) (xs : List A) (x : A) → named f n xs ≡ Some x → Contains (map f xs) n
named-among f n [] x h = absurd (cc)
named-among {A} f n (y ∷ ys) x h =
    elim (same_name (f y) n) as (λ b. same_name (f y) n ≡ b → cond b (Some y) (named f n ys) ≡ Some x → Contains (f y ∷ map f ys) n) [
      | true ↦ λ e _. subst (λ (m : Name). Contains (f y ∷ map f ys) m) (same_from_same_name (f y) n e) (Contains-here (f y) (map f ys))
      | false ↦ λ _ g. Contains-there (f y) (map f ys) n (named-among f n ys x g)
    ] refl h

-- ---- Event inputs

-- the first with a name is at its index
pub first_index :
    {A : Type 0} (name : A → Name) (xs : List A) (n : Name) → first_of {A = A} {X = ℕ} name (λ k x. k) xs n ≡ position (same_name n) (map name xs)
first_index {A} name xs n =
    elim (position (same_name n) (map name xs)) as (λ o. position (same_name n) (map name xs) ≡ o → option_and_then (λ k. option_map (λ (x : A). k) (slice_get xs k)) o ≡ o) [
      | None ↦ λ e. refl
      | Some k ↦ λ e. ap (option_map (λ (x : A). k)) (position_is name n xs k e).1
    ] refl

is_event-is : (p : Ports) (x : TypeInputs) (n : Name) → IsInputs p x → is_some (index_in x.events n) ≡ is_event_input p n
is_event-is p x n is =
    ap is_some (is.events.first n ∙ first_index (λ (e : EventPort). e.name) p.event_inputs n) ∙ is_some-position (same_name n) (event_names p.event_inputs)

-- ---- One setting

abbrev value_held : Option Variable → Setting → Bool
value_held o v = elim o as (λ _. Bool) [ None ↦ false | Some w ↦ fits w.ty v.value ]

abbrev input_held : Option Input → Setting → Bool
input_held o v = elim o as (λ _. Bool) [ None ↦ false | Some i ↦ fits i.ty v.value ]

held-is : (p : Ports) (x : TypeInputs) (v : Setting) → IsInputs p x → input_held (input_in x.variables v.variable) v ≡ is_held p v
held-is p x v is =
    let name : Variable → Name = λ w. w.name in
    ap (λ (o : Option Input). input_held o v) (is.variables.first v.variable)
    ∙ (elim (position (same_name v.variable) (map name p.inputs)) as (λ o.
    input_held (option_and_then (λ k. option_map (input_of k) (slice_get p.inputs k)) o) v ≡ value_held (option_and_then (slice_get p.inputs) o) v) [
      | None ↦ refl
      | Some k ↦ (elim (slice_get p.inputs k) as (λ o. input_held (option_map (input_of k) o) v ≡ value_held o v) [ None ↦ refl | Some w ↦ refl ])
    ])
    ∙ sym (ap (λ (o : Option Variable). value_held o v) (named-position name v.variable p.inputs))

settable-is : (lib : Library) (d : Directory) (p : Ports) (x : TypeInputs) (s : Stimulus) (v : Setting) → IsDirectory lib d → IsInputs p x → is_settable d x s v ≡ can_set lib p s v
settable-is lib d p x s v directory is =
    λ i. is.withs.has s.event v.variable i && (not (directory.targets.has s.instance v.variable i) && held-is p x v is i)

input_of_held : (p : Ports) (v : Setting) → is_held p v ≡ true → Contains (variable_names p.inputs) v.variable
input_of_held p v h =
    elim (named (λ w. w.name) v.variable p.inputs) as (λ o. named (λ w. w.name) v.variable p.inputs ≡ o → value_held o v ≡ true → Contains (variable_names p.inputs) v.variable) [
      | None ↦ λ _ g. absurd (true≢false (sym g))
      | Some w ↦ λ e _. named-among (λ w. w.name) v.variable p.inputs w e
    ] refl h

not-true : (b : Bool) → not b ≡ true → b ≡ false
not-true true h = absurd (true≢false (sym h))
not-true false h = refl

pub record Known (lib : Library) : Type 0 where
  pub plan : Plan
  pub once : ¬ (NameTwice lib plan)
  pub known : ¬ (NameUnknown lib plan)

settable_from : (lib : Library) (k : Kind) (s : Stimulus) (v : Setting) → Known lib → kind_of_stimulus lib s ≡ Some k → can_set lib (ports_of k) s v ≡ true → Fits lib s k v
settable_from lib k s v known of h =
    let p = ports_of k in
    let with = lists p.event_inputs s.event v.variable in
    let led = leads_to lib.application.network.data_connections s.instance v.variable in
    let rest = (and_parts with (not led && is_held p v) h).1 in
    let held = (and_parts (not led) (is_held p v) rest).1 in
    let input = input_of_held p v held in
    record {
      with_event = Contains-filter (lists p.event_inputs s.event) (variable_names p.inputs) v.variable input (and_parts with (not led && is_held p v) h).0;
      unconnected =
          none_from_is_some (source_of lib (port s.instance v.variable))
          (has_source lib known.plan s.instance v.variable k known.once known.known of input ∙ not-true led (and_parts (not led) (is_held p v) rest).0);
      held = held;
    }

can_set_from : (lib : Library) (k : Kind) (s : Stimulus) (v : Setting) → Known lib → kind_of_stimulus lib s ≡ Some k → Fits lib s k v → can_set lib (ports_of k) s v ≡ true
can_set_from lib k s v known of is =
    let p = ports_of k in
    let input = input_of_held p v is.held in
    let free : leads_to lib.application.network.data_connections s.instance v.variable ≡ false =
    sym (has_source lib known.plan s.instance v.variable k known.once known.known of input) ∙ ap is_some is.unconnected in
    λ i. filter-Contains (lists p.event_inputs s.event) (variable_names p.inputs) v.variable is.with_event i && (not (free i) && is.held i)

-- ---- A stimulus

pub the_ports : (o : Option Ports) (x : TypeInputs) → IsFound o (Some x) → (p : Ports) × (o ≡ Some p) × IsInputs p x
the_ports None x found = absurd found
the_ports (Some p) x found = (p, refl, found)

inputs_of_ports : (o : Option Ports) (x : TypeInputs) (p : Ports) → IsFound o (Some x) → o ≡ Some p → IsInputs p x
inputs_of_ports o x p found of = let P : Option Ports → Type 0 = λ o. IsFound o (Some x) in subst P of found

-- the index that a table has for a name
pub placed_at :
    (names : List Name) (m : BTreeMap (Bor Name) ℕ) (n b : Name) (o : Option ℕ) → IsIndex names m → b ≡ n → o ≡ index_in m b → position (same_name n) names ≡ o
placed_at names m n b o index same is = sym (index.index n) ∙ ap (index_in m) (sym same) ∙ sym is

-- what was found for the instance at the index of its name
abbrev pub IsFoundAt : Library → Stimulus → (index : ℕ) → Option TypeInputs → Type 0
IsFoundAt lib s k o = (position (same_name s.instance) (instance_names lib.application.network) ≡ Some k) × IsFound (ports_at_index lib k) o

pub found_at : (lib : Library) (s : Stimulus) (k : ℕ) (o : Option TypeInputs) → IsFoundAt lib s k o → IsFound (ports_at lib s.instance) o
found_at lib s k o h = let P : Option Ports → Type 0 = λ p. IsFound p o in subst P (sym (ports_placed lib s.instance k h.0)) h.1

pub kind_of_ports : (o : Option Kind) (p : Ports) → option_map ports_of o ≡ Some p → (k : Kind) × (o ≡ Some k) × (ports_of k ≡ p)
kind_of_ports None p h = absurd (cc)
kind_of_ports (Some k) p h = (k, refl, (let e : ports_of k ≡ p = cc in e))

-- there is no such instance
pub no_instance : (lib : Library) (s : Stimulus) → IsFound (ports_at lib s.instance) None → HasNoEvent lib s
no_instance lib s found =
    elim (kind_of_stimulus lib s) as (λ o. kind_of_stimulus lib s ≡ o → IsFound (option_map ports_of o) None → HasNoEvent lib s) [
      | None ↦ λ e _. inl e
      | Some k ↦ λ _ f. absurd f
    ] refl found

-- it has no such event input
pub no_event : (lib : Library) (s : Stimulus) (x : TypeInputs) → IsFound (ports_at lib s.instance) (Some x) → is_some (index_in x.events s.event) ≡ false → HasNoEvent lib s
no_event lib s x found absent =
    let its = the_ports (ports_at lib s.instance) x found in
    let kind = kind_of_ports (kind_of_stimulus lib s) its.0 its.1 in
    inr (kind.0, kind.1, ap (λ (p : Ports). is_event_input p s.event) kind.2 ∙ sym (is_event-is its.0 x s.event its.2) ∙ absent)

-- the setting can't be made
pub unfit : (lib : Library) (d : Directory) (x : TypeInputs) (s : Stimulus) (v : Setting) → Known lib → IsDirectory lib d → IsFound (ports_at lib s.instance) (Some x) → is_settable d x s v ≡ false → IsUnfit lib s v
unfit lib d x s v known directory found fails =
    let its = the_ports (ports_at lib s.instance) x found in
    let kind = kind_of_ports (kind_of_stimulus lib s) its.0 its.1 in (
      kind.0,
      kind.1,
      λ fits.
          true≢false (sym (can_set_from lib kind.0 s v known kind.1 fits) ∙ ap (λ (p : Ports). can_set lib p s v) kind.2 ∙ sym (settable-is lib d its.0 x s v directory its.2) ∙ fails),
    )

pub all-is : {A : Type 0} (p q : A → Bool) (xs : List A) → ((x : A) → p x ≡ q x) → list_all p xs ≡ list_all q xs
all-is p q [] same = refl
all-is p q (x ∷ xs) same = λ i. same x i && all-is p q xs same i

pub can_take :
    (lib : Library) (d : Directory) (x : TypeInputs) (s : Stimulus) → IsDirectory lib d → IsFound (ports_at lib s.instance) (Some x) → is_some (index_in x.events s.event) ≡ true
    → ¬ (Twice (set_names s)) → Decides (list_all (is_settable d x s) s.settings) (CanTake lib s)
can_take lib d x s directory found event distinct = (
  λ all.
      let at = the_ports (ports_at lib s.instance) x found in
      record {
        ports = at.0;
        of_ports = at.1;
        is_event = sym (is_event-is at.0 x s.event at.2) ∙ event;
        once = distinct;
        each = sym (all-is (is_settable d x s) (can_set lib at.0 s) s.settings (λ v. settable-is lib d at.0 x s v directory at.2)) ∙ all;
      },
  λ take.
      let is = inputs_of_ports (ports_at lib s.instance) x take.ports found take.of_ports in
      all-is (is_settable d x s) (can_set lib take.ports s) s.settings (λ v. settable-is lib d take.ports x s v directory is) ∙ take.each,
)

-- ---- The definition

pub good_from : (lib : Library) (s : Stimulus) → Known lib → CanTake lib s → IsGood lib s
good_from lib s known take =
    let at = kind_of_ports (kind_of_stimulus lib s) take.ports take.of_ports in
    let k = at.0 in
    let all : list_all (can_set lib (ports_of k) s) s.settings ≡ true = subst (λ (p : Ports). list_all (can_set lib p s) s.settings ≡ true) (sym at.2) take.each in
    let each : (v : Setting) → Contains s.settings v → Fits lib s k v =
    λ v c. settable_from lib k s v known at.1 (each_from_all (can_set lib (ports_of k) s) s.settings all v c) in
    record {
      kind = k;
      of_kind = at.1;
      is_event = ap (λ (p : Ports). is_event_input p s.event) at.2 ∙ take.is_event;
      once = take.once;
      with_event = λ n c.
          let r = map-Contains (λ (v : Setting). v.variable) s.settings n c in
          subst (λ (m : Name). Contains (inputs_with (ports_of k) s.event) m) r.2 (each r.0 r.1).with_event;
      unconnected = λ n c.
          let r = map-Contains (λ (v : Setting). v.variable) s.settings n c in
          subst (λ (m : Name). source_of lib (port s.instance m) ≡ None) r.2 (each r.0 r.1).unconnected;
      held = passes_from (is_held (ports_of k)) s.settings (λ v c. (each v c).held);
    }

-- what is wrong makes a stimulus bad
not_good : (lib : Library) (s : Stimulus) (f : StimulusFault) → IsBad lib s f → ¬ (IsGood lib s)
not_good lib s fault.Event (inl none) good = absurd (let no = sym none ∙ good.of_kind in cc)
not_good lib s fault.Event (inr w) good =
    let both : Some w.0 ≡ Some good.kind = sym w.1 ∙ good.of_kind in
    let same : w.0 ≡ good.kind = cc in
    true≢false (sym good.is_event ∙ ap (λ (k : Kind). is_event_input (ports_of k) s.event) (sym same) ∙ w.2)
not_good lib s (fault.Setting k) w good =
    let both : Some w.2.0 ≡ Some good.kind = sym w.2.1 ∙ good.of_kind in
    let same : w.2.0 ≡ good.kind = cc in
    let there = element_of_index s.settings k w.0 w.1 in
    let n = Contains-map (λ (v : Setting). v.variable) s.settings w.0 there in
    w.2.2 (subst (λ (k : Kind). Fits lib s k w.0) (sym same) (record {
      with_event = good.with_event w.0.variable n;
      unconnected = good.unconnected w.0.variable n;
      held = each_from_all (is_held (ports_of good.kind)) s.settings good.held w.0 there;
    }))
not_good lib s (fault.Twice k) r good = good.once (repeat_twice (set_names s) k r)

pub bad_applies : (lib : Library) (ss : List Stimulus) (p : StimulusLocation) → IsBadAt lib ss p → BadStimulus lib ss
bad_applies lib ss p h = (h.0, element_of_index ss p.row h.0 h.1, not_good lib h.0 p.fault h.2)

-- none is bad if each can be taken
pub none_bad : (lib : Library) (plan : Plan) (ss : List Stimulus) → ¬ (NameTwice lib plan) → ¬ (NameUnknown lib plan) → ¬ (HasRefused lib ss) → ¬ (BadStimulus lib ss)
none_bad lib plan ss once known none bad =
    let names : Known lib = record { plan = plan; once = once; known = known } in none (bad.0, bad.1, λ take. bad.2 (good_from lib bad.0 names take))
