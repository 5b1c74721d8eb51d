-- Values that are sampled one by one are what the model's variables hold then.
use Rattle.fb_net.proofs.lemmas.Common.{◌≡◌, ℕ, Bool, true, false, cond, List, [], ◌∷◌, ◌++◌, map, refl, sym, ap, subst, ◌∙◌, Option, None, Some, fun_ext, append-nil, Kind, among, Bound, inputs_with, ports, ports_of, Inputs, system_of, Name, Path, Port, same_name, with_value, event_at, event_output, line_of, pair_up, path_at, port_of, ports_at, Outcome, World, sampled_from, taking, with_block, with_values, System, Values, Key, Ports, Target, Value, AreIndexes, RepresentsOutcome, gathered, out_of, Outbox, all_sampled, names_in, Changes, InForest, IsForest, Forest, ComesTo, IsReady, sampling}
use Rattle.fb_types.proofs.Common.{◌||◌, or_left, or_right, bound, sampled}
use Rattle.fb_types.specs.Numbers.{event_input}
use Rattle.fb_types.specs.States.{Line}
use Rattle.fb_types.specs.declared.run.Line as run_line
use Rattle.fb_types.proofs.lemmas.names.NameLaws.{same_from_same_name, same_name-itself}
use Rattle.fb_system.specs.Ports.{data_input}
use Rattle.fb_net.specs.Samples.{AreSampled}

-- ---- Values with their names

paired_step : (g : Name → Value) (m n : Name) (v : Value) (b : Bool) → (b ≡ true → g m ≡ g n) → (a : Bool)
    → cond a (g n) (cond b (g m) v) ≡ cond (b || a) (g n) v
paired_step g m n v true f true = refl
paired_step g m n v true f false = f refl
paired_step g m n v false f true = refl
paired_step g m n v false f false = refl

with_values-paired : (g : Name → Value) (ns : List Name) (vars : Values) (n : Name)
    → with_values (pair_up ns (map g ns)) vars n ≡ cond (among ns n) (g n) (vars n)
with_values-paired g [] vars n = refl
with_values-paired g (m ∷ ms) vars n =
    with_values-paired g ms (with_value m (g m) vars) n
    ∙ paired_step g m n (vars n) (same_name n m) (λ e. ap g (sym (same_from_same_name n m e))) (among ms n)

-- values that represent names are what the names hold
pub bound-paired : (h : Values) (ns : List Name) → pair_up ns (map h ns) ≡ bound ns h
bound-paired h [] = refl
bound-paired h (n ∷ ns) = ap (λ (l : List Bound). record { variable = n; value = h n } ∷ l) (bound-paired h ns)

map-among : (g h : Name → Value) (ns : List Name) → ((n : Name) → among ns n ≡ true → g n ≡ h n) → map g ns ≡ map h ns
map-among g h [] f = refl
map-among g h (n ∷ ns) f =
    let here : g n ≡ h n = f n (or_left (same_name n n) (among ns n) (same_name-itself n)) in
    let rest : map g ns ≡ map h ns = map-among g h ns (λ m e. f m (or_right (same_name m n) (among ns m) e)) in
    cc

-- ---- What is sampled

-- what a data input of an instance samples
abbrev pub sample_at : System → (resource : ℕ) → World → Path → Name → Value
sample_at sys r w p n = sampled_from sys r w (record { at = p; name = n })

-- the variables hold the sampled values at their names
pub sampled-paired : (sys : System) (r : ℕ) (w : World) (p : Path) (ns : List Name)
    → with_values (pair_up ns (map (sample_at sys r w p) ns)) (w.blocks p).variables ≡ sampled sys r w p ns
sampled-paired sys r w p ns = fun_ext (λ n. with_values-paired (sample_at sys r w p) ns (w.blocks p).variables n)

-- the line of the event shows the sampled values
pub sampled-wrote : (sys : System) (r : ℕ) (w : World) (p : Path) (ns : List Name)
    → pair_up ns (map (sample_at sys r w p) ns) ≡ bound ns (sampled sys r w p ns)
sampled-wrote sys r w p ns =
    let g : Name → Value = sample_at sys r w p in
    ap (pair_up ns) (map-among g (sampled sys r w p ns) ns (λ n e. sym (ap (λ (b : Bool). cond b (g n) ((w.blocks p).variables n)) e)))
    ∙ bound-paired (sampled sys r w p ns) ns

-- ---- Ports

abbrev pub port_named : Path → Name → Port
port_named p n = record { at = p; name = n }

-- the ports of an instance are those of its kind
pub ports-of_kind : (sys : System) (p : Path) (kind : Kind) → sys.kind p ≡ Some kind → ports_at sys p ≡ ports_of kind
ports-of_kind sys p kind is = ap (λ (o : Option Kind). elim o [ None ↦ ports [] [] [] [] | Some k ↦ ports_of k ]) is

-- the port of an event input
pub input_port : (sys : System) (at : Target) → at.is_output ≡ false → port_of sys at ≡ event_input sys at.instance at.event
input_port sys at e = ap (λ (b : Bool). cond b (event_output sys at.instance at.event) (event_input sys at.instance at.event)) e

pub output_port : (sys : System) (at : Target) → at.is_output ≡ true → port_of sys at ≡ event_output sys at.instance at.event
output_port sys at e = ap (λ (b : Bool). cond b (event_output sys at.instance at.event) (event_input sys at.instance at.event)) e

-- ---- An event input

-- the line of an event that is taken
abbrev pub taken_line : Key → Target → List Value → run_line.Line
taken_line k at values = record { key = k; taken = true; instance = at.instance; event = at.event; values = values }

-- the line of an event that is taken, as it reads at an instance with these ports
abbrev pub line_at : Key → Path → Ports → (event : ℕ) → List Value → Line
line_at k p its e values =
    let n = event_at its.event_inputs e in record { key = k; taken = true; at = p; event = n; values = pair_up (inputs_with its n) values }

module _ (i : Inputs) (k : Key) (at : Target) (its : Ports) (ports : ports_at (system_of i) (path_at (system_of i) at.instance) ≡ its) (input : at.is_output ≡ false)
    (old : Forest) (resource : k.resource ≡ old.resource) (here : InForest i old at.instance) (values : List Value) (are : AreSampled i old at values) where
  abbrev sys : System
  sys = system_of i

  abbrev p : Path
  p = path_at sys at.instance

  abbrev n : Name
  n = event_at its.event_inputs at.event

  abbrev ns : List Name
  ns = inputs_with its n

  -- the port at which the event arrives
  pub port-here : port_of sys at ≡ port_named p n
  port-here = input_port sys at input ∙ ap (λ (x : Ports). port_named p (event_at x.event_inputs at.event)) ports

  -- the values, where the resource is that of the key
  pub values-sampled : (w : World) → IsForest i old w → values ≡ map (sample_at sys k.resource w p) ns
  values-sampled w h =
      subst (λ (r : ℕ). values ≡ map (sample_at sys r w p) (names_in sys at)) (sym resource) (are w h here)
      ∙ ap (λ (x : Ports). map (sample_at sys k.resource w p) (inputs_with x (event_at x.event_inputs at.event))) ports

  -- the variables once they are sampled
  pub variables-sampled : (w : World) → IsForest i old w → with_values (pair_up ns values) (w.blocks p).variables ≡ sampled sys k.resource w p ns
  variables-sampled w h =
      ap (λ (vs : List Value). with_values (pair_up ns vs) (w.blocks p).variables) (values-sampled w h) ∙ sampled-paired sys k.resource w p ns

  -- the line of the event
  pub line-sampled : (w : World) → IsForest i old w → (left : ℕ)
      → line_of sys (taken_line k at values) ∷ [] ≡ (taking sys k w (port_named p n) its left).lines
  line-sampled w h left =
      ap (λ (x : Ports). line_at k p x at.event values ∷ []) ports
      ∙ ap (λ (bs : List Bound). record { key = k; taken = true; at = p; event = n; values = bs } ∷ [])
      (ap (pair_up ns) (values-sampled w h) ∙ sampled-wrote sys k.resource w p ns)

  -- what the model makes of the event
  pub sampling-here : (w : World) (left : ℕ) → sampling i k at w left ≡ taking sys k w (port_named p n) its left
  sampling-here w left =
      ap (λ (x : Ports). taking sys k w (port_of sys at) x left) ports ∙ ap (λ (q : Port). taking sys k w q its left) port-here

-- An event block or a composite has taken the event.
pub sampling-represents : (i : Inputs) (k : Key) (at : Target) (old new : Forest) (x y : Outbox) (values : List Value)
    → IsReady k old → at.is_output ≡ false → InForest i old at.instance → AreSampled i old at values
    → Changes i old at.instance (all_sampled (names_in (system_of i) at) values) new
    → map (line_of (system_of i)) y.lines.items ≡ map (line_of (system_of i)) x.lines.items ++ line_of (system_of i) (taken_line k at values) ∷ []
    → y.outs.items ≡ x.outs.items → y.timer ≡ x.timer → ComesTo i (sampling i k at) old x new y
sampling-represents i k at old new x y values ready input here are changes written outs timer w left h =
    let sys = system_of i in
    let p : Path = path_at sys at.instance in
    let its : Ports = ports_at sys p in
    let wrote = line-sampled i k at its refl input old ready.resource here values are w h left in
    subst (λ (o : Outcome). RepresentsOutcome i (gathered i x) new y o)
    (sym (sampling-here i k at its refl input old ready.resource here values are w left))
    (record {
      world = subst (λ (v : Values). IsForest i new (with_block p (record (w.blocks p) { variables = v }) w))
          (variables-sampled i k at its refl input old ready.resource here values are w h) (changes.represents w h here);
      lines = written ∙ ap (λ (l : List Line). map (line_of sys) x.lines.items ++ l) wrote;
      outs = ap (map (out_of sys)) outs ∙ sym (append-nil (map (out_of sys) x.outs.items));
      timer = timer;
    })

-- no variable WITH the event, and one
pub none-sampled : (i : Inputs) (f : Forest) (at : Target) (values : List Value)
    → AreIndexes (ports_at (system_of i) (path_at (system_of i) at.instance)).inputs (names_in (system_of i) at) [] → values ≡ [] → AreSampled i f at values
none-sampled i f at values stand empty w h lies =
    empty ∙ ap (map (sample_at (system_of i) f.resource w (path_at (system_of i) at.instance))) stand.named

pub one-sampled : (i : Inputs) (f : Forest) (at : Target) (index : ℕ) (value : Value) (values : List Value)
    → AreIndexes (ports_at (system_of i) (path_at (system_of i) at.instance)).inputs (names_in (system_of i) at) (index ∷ [])
    → ((w : World) → IsForest i f w → InForest i f at.instance → value ≡ sampled_from (system_of i) f.resource w (data_input (system_of i) at.instance index))
    → values ≡ value ∷ [] → AreSampled i f at values
one-sampled i f at index value values stand sampled is w h lies =
    is
    ∙ ap (λ (v : Value). v ∷ []) (sampled w h lies)
    ∙ ap (map (sample_at (system_of i) f.resource w (path_at (system_of i) at.instance))) stand.named
