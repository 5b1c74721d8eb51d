-- A line of a run is a line of its system, by numbers.
use Rattle.fb_inspect.proofs.lemmas.Common.{◌≡◌, ◌<◌, ◌^◌, ℕ, Bool, true, false, cond, List, [], ◌∷◌, map, length, Option, Some, None, refl, sym, ap, subst, ◌∙◌, arith, if◌then◌else◌, option_map, position, slice_get, unwrap_or, list_any, length-map, All-cons, All-nil, Bound, Kind, among, bound, inputs_with, outputs_with, ports_of, variable_names, Inputs, system_of, Each, Name, Path, same_name, event_at, line_of, pair_up, path_at, ports_at, System, Values, fits, Key, EventPort, Ports, Variable, Value, AllFit, AreIndexes, line_variables, IsInRange, IsLineOf, fit_each, type_at, IsGiven}
use Rattle.fb_types.proofs.Common.{option_and_then, and_from, slice_get-map, named, ports, variables_with, IsNarrow}
use Rattle.std.proofs.Common.{filter}
use Rattle.fb_types.specs.Blocks.{goes_with}
use Rattle.fb_types.specs.States.{Line}
use Rattle.fb_types.specs.declared.run.Line as run
use Rattle.fb_types.specs.declared.value.Ty.TheVariants.{Bool as Boolean}
use Rattle.fb_types.proofs.lemmas.names.NameLaws.{any_from_contains}
use Rattle.fb_types.proofs.lemmas.lists.Options.{some_from_is_some}
use Rattle.fb_types.proofs.lemmas.lists.Positions.{is_some-position, named-position, position_is}
use Rattle.fb_laws.specs.Sound.{AreGood}
use Rattle.fb_laws.proofs.lemmas.soundness.Accepting.{sound_of}
use Rattle.fb_laws.proofs.lemmas.lists.Indexes.{is_at}
use Rattle.fb_system.specs.IndexLists.{variable_at}
use Rattle.fb_system.specs.Networks.{AreNarrow}
use Rattle.fb_wave.specs.Lines.{line_side}
use Rattle.fb_inspect.specs.walk.RunLines.{side_events, side_variables}
use Rattle.fb_inspect.proofs.lemmas.runs.Numbered.{numbered}
use Rattle.fb_inspect.proofs.lemmas.reactions.EventPorts.{each_of, kind_narrow, low}

-- ---- Names among others

record IsFound {A : Type 0} (f : A → Name) (n : Name) (xs : List A) : Type 0 where
  index : ℕ
  position_of : position (same_name n) (map f xs) ≡ Some index
  element : A
  there : slice_get xs index ≡ Some element
  name : f element ≡ n

found : {A : Type 0} (f : A → Name) (n : Name) (xs : List A) → among (map f xs) n ≡ true → IsFound f n xs
found f n xs h =
    let at = some_from_is_some (position (same_name n) (map f xs)) (is_some-position (same_name n) (map f xs) ∙ h) in
    let is = position_is f n xs at.0 at.1 in
    record { index = at.0; position_of = at.1; element = is.0; there = is.1; name = is.2 }

each_filtered : (P : Name → Type 0) (test : Name → Bool) (ns : List Name) → Each P ns → Each P (filter test ns)
each_filtered P test [] h = tt
each_filtered P test (n ∷ ns) h = by (test n) (each_filtered P test ns h.1)
  where
    by : (b : Bool) → Each P (filter test ns) → Each P (cond b (n ∷ filter test ns) (filter test ns))
    by true rest = (h.0, rest)
    by false rest = rest

-- the variables WITH an event are some of the interface
with_among : (es : List EventPort) (vs : List Variable) (e : Name) → Each (λ (n : Name). among (variable_names vs) n ≡ true) (variables_with es vs e)
with_among es vs e =
    each_filtered (λ (n : Name). among (variable_names vs) n ≡ true) (λ v. list_any (goes_with e v) es) (variable_names vs)
    (each_of (λ (n : Name). among (variable_names vs) n ≡ true) (variable_names vs) (λ n c. any_from_contains n (variable_names vs) c))

pair_bound : (ns : List Name) (vars : Values) → pair_up ns (map vars ns) ≡ bound ns vars
pair_bound [] vars = refl
pair_bound (n ∷ ns) vars = ap (λ (bs : List Bound). record { variable = n; value = vars n } ∷ bs) (pair_bound ns vars)

-- ---- Values by their indices

record AreTypedAt (vs : List Variable) (vars : Values) (ns : List Name) : Type 0 where
  indexes : List ℕ
  stand : AreIndexes vs ns indexes
  typed : fit_each (map (type_at vs) indexes) (map vars ns) ≡ true

typed_at : (vs : List Variable) (vars : Values) → AllFit vs vars → (ns : List Name) → Each (λ (n : Name). among (variable_names vs) n ≡ true) ns → AreTypedAt vs vars ns
typed_at vs vars fit [] h = record { indexes = []; stand = record { named = refl; within = All-nil (λ k. k < length vs) }; typed = refl }
typed_at vs vars fit (n ∷ ns) h =
    let rest = typed_at vs vars fit ns h.1 in
    let at = found (λ (v : Variable). v.name) n vs h.0 in
    let named : variable_at vs at.index ≡ n =
    ap (λ (o : Option Name). unwrap_or o []) (slice_get-map (λ (v : Variable). v.name) vs at.index ∙ ap (option_map (λ (v : Variable). v.name)) at.there) ∙ at.name
    in
    let ty : type_at vs at.index ≡ at.element.ty =
    ap (λ o. unwrap_or o Boolean) (slice_get-map (λ (v : Variable). v.ty) vs at.index ∙ ap (option_map (λ (v : Variable). v.ty)) at.there)
    in
    let fits_so : fits (type_at vs at.index) (vars n) ≡ true =
    ap (λ t. fits t (vars n)) ty
    ∙ fit n at.element (named-position (λ (v : Variable). v.name) n vs ∙ ap (option_and_then (slice_get vs)) at.position_of ∙ at.there)
    in
    record {
      indexes = at.index ∷ rest.indexes;
      stand = record {
        named = ap (λ (m : Name). m ∷ map (variable_at vs) rest.indexes) named ∙ ap (λ (ms : List Name). n ∷ ms) rest.stand.named;
        within = All-cons (λ k. k < length vs) at.index rest.indexes (is_at vs at.index at.element at.there) rest.stand.within;
      };
      typed = and_from (fits (type_at vs at.index) (vars n)) (fit_each (map (type_at vs) rest.indexes) (map vars ns)) fits_so rest.typed;
    }

-- ---- A line by numbers

-- a line of the model by the interface of its instance and its numbers
abbrev made : (taken : Bool) (key : Key) (p : Path) (its : Ports) (event : ℕ) (values : List Value) → Line
made taken key p its event values =
    let n = if taken then event_at its.event_inputs event else event_at its.event_outputs event in
    record { key = key; taken = taken; at = p; event = n; values = pair_up (if taken then inputs_with its n else outputs_with its n) values }

abbrev own_variables : (taken : Bool) (its : Ports) (n : Name) → List Name
own_variables taken its n = variables_with (side_events taken its) (side_variables taken its) n

made_is :
    (taken : Bool) (key : Key) (p : Path) (its : Ports) (event : ℕ) (n : Name) (vars : Values) → event_at (side_events taken its) event ≡ n
    → made taken key p its event (map vars (own_variables taken its n)) ≡ record { key = key; taken = taken; at = p; event = n; values = bound (own_variables taken its n) vars }
made_is true key p its event n vars e =
    ap (λ (m : Name). record { key = key; taken = true; at = p; event = m; values = pair_up (inputs_with its m) (map vars (inputs_with its n)) }) e
    ∙ ap (λ (bs : List Bound). record { key = key; taken = true; at = p; event = n; values = bs }) (pair_bound (inputs_with its n) vars)
made_is false key p its event n vars e =
    ap (λ (m : Name). record { key = key; taken = false; at = p; event = m; values = pair_up (outputs_with its m) (map vars (outputs_with its n)) }) e
    ∙ ap (λ (bs : List Bound). record { key = key; taken = false; at = p; event = n; values = bs }) (pair_bound (outputs_with its n) vars)

with_same :
    (taken : Bool) (its : Ports) (event : ℕ)
    → (let n = if taken then event_at its.event_inputs event else event_at its.event_outputs event in if taken then inputs_with its n else outputs_with its n)
    ≡ own_variables taken its (event_at (side_events taken its) event)
with_same true its event = refl
with_same false its event = refl

few_events : (taken : Bool) (its : Ports) → IsNarrow its → length (side_events taken its) < 2 ^ 32
few_events true its narrow = narrow.event_inputs
few_events false its narrow = narrow.event_outputs

-- What holds of a line by its numbers and an interface.
record IsOf (its : Ports) (l : run.Line) : Type 0 where
  event : l.event < length (side_events l.taken its)
  values : length l.values ≡ length (own_variables l.taken its (event_at (side_events l.taken its) l.event))
  indexes : List ℕ
  stand : AreIndexes (side_variables l.taken its) (own_variables l.taken its (event_at (side_events l.taken its) l.event)) indexes
  typed : fit_each (map (type_at (side_variables l.taken its)) indexes) l.values ≡ true

-- A line of the system that is this one of the model.
pub record IsLineThere (sys : System) (l : Line) : Type 0 where
  pub line : run.Line
  pub is : line_of sys line ≡ l
  pub of : IsLineOf sys line

module _ (i : Inputs) (good : AreGood i) (narrow : AreNarrow i.library.blocks) where
  abbrev sys : System
  sys = system_of i

  module _ (k : Key) (l : Line) (given : IsGiven sys k l) (range : IsInRange l.key) where
    abbrev its : Ports
    its = ports_of given.kind

    abbrev names : List Name
    names = own_variables l.taken its l.event

    at : IsFound (λ (e : EventPort). e.name) l.event (side_events l.taken its)
    at = found (λ (e : EventPort). e.name) l.event (side_events l.taken its) given.event

    event_is : event_at (side_events l.taken its) at.index ≡ l.event
    event_is =
        ap (λ (o : Option Name). unwrap_or o []) (slice_get-map (λ (e : EventPort). e.name) (side_events l.taken its) at.index ∙ ap (option_map (λ (e : EventPort). e.name)) at.there) ∙ at.name

    abbrev line : run.Line
    line = record { key = l.key; taken = l.taken; instance = sys.number l.at; event = at.index; values = map given.vars names }

    path_is : path_at sys (sys.number l.at) ≡ l.at
    path_is = ap (λ (o : Option Path). unwrap_or o []) (numbered i.library (low i good.accepted) l.at given.kind given.kind_is).there

    its_is : ports_at sys (path_at sys (sys.number l.at)) ≡ its
    its_is = ap (ports_at sys) path_is ∙ ap (λ (o : Option Kind). elim o as (λ _. Ports) [ None ↦ ports [] [] [] [] | Some kind ↦ ports_of kind ]) given.kind_is

    is_l : line_of sys line ≡ l
    is_l =
        ap (λ (p : Path). made l.taken l.key p (ports_at sys (path_at sys (sys.number l.at))) at.index (map given.vars names)) path_is
        ∙ ap (λ (p : Ports). made l.taken l.key l.at p at.index (map given.vars names)) its_is
        ∙ made_is l.taken l.key l.at its at.index l.event given.vars event_is
        ∙ ap (λ (bs : List Bound). record { key = l.key; taken = l.taken; at = l.at; event = l.event; values = bs }) (sym given.values)

    of_its : IsOf its line
    of_its =
        let typed = typed_at (side_variables l.taken its) given.vars given.fit names (with_among (side_events l.taken its) (side_variables l.taken its) l.event) in
        record {
          event = is_at (side_events l.taken its) at.index at.element at.there;
          values = length-map names given.vars ∙ ap (λ (n : Name). length (own_variables l.taken its n)) (sym event_is);
          indexes = typed.indexes;
          stand = subst (λ (n : Name). AreIndexes (side_variables l.taken its) (own_variables l.taken its n) typed.indexes) (sym event_is) typed.stand;
          typed = typed.typed;
        }

    of_here : IsOf (ports_at sys (path_at sys (sys.number l.at))) line
    of_here = subst (λ (p : Ports). IsOf p line) (sym its_is) of_its

    variables_is :
        line_variables sys line
        ≡ own_variables l.taken (ports_at sys (path_at sys (sys.number l.at))) (event_at (side_events l.taken (ports_at sys (path_at sys (sys.number l.at)))) at.index)
    variables_is = with_same l.taken (ports_at sys (path_at sys (sys.number l.at))) at.index

    pub line_there : IsLineThere sys l
    line_there =
        let small = few_events l.taken its (kind_narrow i.library narrow l.at given.kind given.kind_is) in
        let within = of_its.event in
        let home : l.key.resource ≡ sys.resource l.at = ap (λ (z : Key). z.resource) given.key_is ∙ given.home in
        record {
          line = line;
          is = is_l;
          of = record {
            range = range;
            small = omega (arith, small, within);
            belongs = record {
              instance = (numbered i.library (low i good.accepted) l.at given.kind given.kind_is).within;
              resource = subst (λ (r : ℕ). r < length sys.resource_names) (sym home) ((sound_of i good).counted l.at);
              event = of_here.event;
              values = of_here.values ∙ ap length (sym variables_is);
            };
            held = home ∙ ap sys.resource (sym path_is);
            indexes = of_here.indexes;
            stand = subst (λ (ns : List Name). AreIndexes (line_side sys line) ns of_here.indexes) (sym variables_is) of_here.stand;
            typed = of_here.typed;
          };
        }
