-- The text of a line, put together from what was read of it.
use Rattle.fb_wave.proofs.lemmas.Common.{◌≡◌, ℕ, ◌<◌, Bool, true, false, List, [], ◌∷◌, ◌++◌, length, map, get_or, codes, sym, ap, ◌∙◌, append_assoc, IfSome, MatchOption, Option, Some, None, option_map, slice_get, unwrap_or, length-map, slice_get-map, unwrap_or-slice_get, inputs_with, outputs_with, Name, event_at, pair_up, path_at, ports_at, System, path_text, values_text, Variable, Form, One, Two, Line, Value, AreIndexes, AreRead, number_text, AreValuesOf, IsTextOf, IsPortOf, holder_name, port_text, Port}
use Rattle.fb_types.proofs.Common.{IfNone, IfOk, Ok, Err, Result, tick_and_resource_text, reason_text}
use Rattle.fb_types.specs.declared.key.Key.{Key}
use Rattle.fb_types.specs.declared.value.Reason.{Reason}
use Rattle.fb_types.specs.Text.{key_text}
use Rattle.fb_wave.specs.Reading.{name_at}
use Rattle.fb_wave.specs.Lines.{IsHead, IsInRange}
use Rattle.fb_wave.specs.declared.line.Parts.{Parts}

abbrev pub port_at : (instance event : ℕ) → (taken : Bool) → Port
port_at i e taken = record { instance = i; event = e; taken = taken }

abbrev pub key_with : (tick resource : ℕ) → Parts → Key
key_with t r p = record { tick = t; resource = r; class = p.class; a = p.a; b = p.b }

abbrev pub line_with : Key → Port → List Value → Line
line_with k p vs = record { key = k; taken = p.taken; instance = p.instance; event = p.event; values = vs }

-- ---- Heads and values

head_is : (form : Form) (text rest : List ℕ) (p : Parts) (t r : ℕ) → IsHead form text p rest → text ≡ key_text form (key_with t r p) ++ rest
head_is One text rest p t r h = h
head_is Two text rest p t r h = h

abbrev of_names : (names : List Name) → (text : List ℕ) → List Value → Type 0
of_names names text values = text ≡ values_text (pair_up names values) ++ 10 ∷ []

read_names :
    (vs : List Variable) (names : List Name) (ks text : List ℕ) (values : List Value) → AreIndexes vs names ks → AreRead vs ks text values → of_names names text values
read_names vs names ks text values stand are = are.parts ∙ ap (λ (ns : List Name). values_text (pair_up ns values) ++ 10 ∷ []) stand.named

read_counted :
    (vs : List Variable) (names : List Name) (ks text : List ℕ) (values : List Value) → AreIndexes vs names ks → AreRead vs ks text values → length values ≡ length names
read_counted vs names ks text values stand are =
    are.counted ∙ sym (length-map ks (name_at vs)) ∙ ap length stand.named

pub input_values :
    (sys : System) (i e : ℕ) (taken : Bool) (ks text : List ℕ) (values : List Value) → taken ≡ true
    → AreIndexes (ports_at sys (path_at sys i)).inputs (inputs_with (ports_at sys (path_at sys i)) (event_at (ports_at sys (path_at sys i)).event_inputs e)) ks
    → AreRead (ports_at sys (path_at sys i)).inputs ks text values → AreValuesOf sys (port_at i e taken) text values
input_values sys i e false ks text values is stand are = absurd (cc)
input_values sys i e true ks text values is stand are =
    let its = ports_at sys (path_at sys i) in
    let names = inputs_with its (event_at its.event_inputs e) in
    record {
      indexes = ks;
      stand = stand;
      typed = are.typed;
      counted = read_counted its.inputs names ks text values stand are;
      parts = read_names its.inputs names ks text values stand are;
    }

pub output_values :
    (sys : System) (i e : ℕ) (taken : Bool) (ks text : List ℕ) (values : List Value) → taken ≡ false
    → AreIndexes (ports_at sys (path_at sys i)).outputs (outputs_with (ports_at sys (path_at sys i)) (event_at (ports_at sys (path_at sys i)).event_outputs e)) ks
    → AreRead (ports_at sys (path_at sys i)).outputs ks text values → AreValuesOf sys (port_at i e taken) text values
output_values sys i e true ks text values is stand are = absurd (cc)
output_values sys i e false ks text values is stand are =
    let its = ports_at sys (path_at sys i) in
    let names = outputs_with its (event_at its.event_outputs e) in
    record {
      indexes = ks;
      stand = stand;
      typed = are.typed;
      counted = read_counted its.outputs names ks text values stand are;
      parts = read_names its.outputs names ks text values stand are;
    }

pub some_read :
    {V E : Type 0} (P : Type 0) (Q R : V → Type 0) (r : Result (Option V) E) → ((v : V) → Q v → R v) → IfOk r (λ o. MatchOption o P Q)
    → IfOk r (λ o. IfSome o R)
some_read P Q R (Ok None) f h = tt
some_read P Q R (Ok (Some v)) f h = f v h
some_read P Q R (Err e) f h = tt

pub none_read :
    {V E : Type 0} (P : Type 0) (Q : V → Type 0) (N : Type 0) (r : Result (Option V) E) → (P → N) → IfOk r (λ o. MatchOption o P Q) → IfOk r (λ o. IfNone o N)
none_read P Q N (Ok None) f h = f h
none_read P Q N (Ok (Some v)) f h = tt
none_read P Q N (Err e) f h = tt

-- ---- Ports

-- the text at the index of a port is that of the port
pub port_named :
    (sys : System) (ports : List Port) (texts : List Name) (k : ℕ) (p : Port) (n : Name) → texts ≡ map (port_text sys) ports → slice_get ports k ≡ Some p
    → slice_get texts k ≡ Some n → n ≡ port_text sys p
port_named sys ports texts k p n are at is =
    let same : Some n ≡ Some (port_text sys p) =
    sym is ∙ ap (λ (ts : List Name). slice_get ts k) are ∙ slice_get-map (port_text sys) ports k ∙ ap (option_map (port_text sys)) at
    in
    cc

-- ---- Lines

regroup :
    (k n h s p d e v l : List ℕ) → k ++ (n ++ (((((h ++ s) ++ p) ++ d) ++ e) ++ (v ++ l))) ≡ ((((((k ++ (n ++ h)) ++ s) ++ p) ++ d) ++ e) ++ v) ++ l
regroup k n h s p d e v l = simp append_assoc

abbrev names_of_resource : System → ℕ → Name
names_of_resource sys r = unwrap_or (slice_get sys.resource_names r) []

pub line_read :
    (sys : System) (form : Form) (i e : ℕ) (taken : Bool) (t r : ℕ) (p : Parts) (vs : List Value) (text rest more last : List ℕ)
    → IsHead form text p rest → rest ≡ number_text t ++ more → IsPortOf sys (port_at i e taken) → more ≡ port_text sys (port_at i e taken) ++ last
    → AreValuesOf sys (port_at i e taken) last vs → r ≡ sys.resource (path_at sys i) → r < length sys.resource_names → IsInRange (key_with t r p)
    → IsTextOf sys form (line_with (key_with t r p) (port_at i e taken) vs) text
line_read sys form i e true t r p vs text rest more last head tick is port are held within range =
    let its = ports_at sys (path_at sys i) in
    let n = event_at its.event_inputs e in
    let K = key_text form (key_with t r p) in
    let at = path_text (path_at sys i) in
    let V = values_text (pair_up (inputs_with its n) vs) in
    record {
      line = record {
        range = range;
        small = is.small;
        belongs = record { instance = is.instance; resource = within; event = is.event; values = are.counted };
        held = held;
        indexes = are.indexes;
        stand = are.stand;
        typed = are.typed;
      };
      is =
          head_is form text rest p t r head
          ∙ ap (λ (u : List ℕ). K ++ u)
          (tick ∙ ap (λ (u : List ℕ). number_text t ++ u) (port ∙ ap (λ (u : List ℕ). port_text sys (port_at i e true) ++ u) are.parts))
          ∙ regroup K (number_text t) (holder_name sys i) (codes " > ") at (codes ".") n V (10 ∷ [])
          ∙ ap (λ (h : Name). ((((((K ++ (number_text t ++ h)) ++ codes " > ") ++ at) ++ codes ".") ++ n) ++ V) ++ 10 ∷ []) (sym (unwrap_or-slice_get sys.resource_names (sys.resource (path_at sys i)) []))
          ∙ ap (λ (q : ℕ). ((((((K ++ (number_text t ++ names_of_resource sys q)) ++ codes " > ") ++ at) ++ codes ".") ++ n) ++ V) ++ 10 ∷ []) (sym held);
    }
line_read sys form i e false t r p vs text rest more last head tick is port are held within range =
    let its = ports_at sys (path_at sys i) in
    let n = event_at its.event_outputs e in
    let K = key_text form (key_with t r p) in
    let at = path_text (path_at sys i) in
    let V = values_text (pair_up (outputs_with its n) vs) in
    record {
      line = record {
        range = range;
        small = is.small;
        belongs = record { instance = is.instance; resource = within; event = is.event; values = are.counted };
        held = held;
        indexes = are.indexes;
        stand = are.stand;
        typed = are.typed;
      };
      is =
          head_is form text rest p t r head
          ∙ ap (λ (u : List ℕ). K ++ u)
          (tick ∙ ap (λ (u : List ℕ). number_text t ++ u) (port ∙ ap (λ (u : List ℕ). port_text sys (port_at i e false) ++ u) are.parts))
          ∙ regroup K (number_text t) (holder_name sys i) (codes " < ") at (codes ".") n V (10 ∷ [])
          ∙ ap (λ (h : Name). ((((((K ++ (number_text t ++ h)) ++ codes " < ") ++ at) ++ codes ".") ++ n) ++ V) ++ 10 ∷ []) (sym (unwrap_or-slice_get sys.resource_names (sys.resource (path_at sys i)) []))
          ∙ ap (λ (q : ℕ). ((((((K ++ (number_text t ++ names_of_resource sys q)) ++ codes " < ") ++ at) ++ codes ".") ++ n) ++ V) ++ 10 ∷ []) (sym held);
    }

-- ---- Stops

stop_parts : (n h b r l : List ℕ) → n ++ (h ++ (b ++ (r ++ l))) ≡ (((n ++ h) ++ b) ++ r) ++ l
stop_parts n h b r l = simp append_assoc

pub stop_glued :
    (sys : System) (t r : ℕ) (reason : Reason) (text rest name more : List ℕ) → text ≡ number_text t ++ rest → rest ≡ name ++ more
    → more ≡ codes " " ++ reason_text reason ++ 10 ∷ [] → name ≡ get_or sys.resource_names r []
    → text ≡ tick_and_resource_text sys t r ++ codes " " ++ reason_text reason ++ 10 ∷ []
stop_glued sys t r reason text rest name more tick word end named =
    tick
    ∙ ap (λ (u : List ℕ). number_text t ++ u) (word ∙ ap (λ (u : List ℕ). name ++ u) end)
    ∙ stop_parts (number_text t) name (codes " ") (reason_text reason) (10 ∷ [])
    ∙ ap (λ (n : Name). (((number_text t ++ n) ++ codes " ") ++ reason_text reason) ++ 10 ∷ []) (named ∙ sym (unwrap_or-slice_get sys.resource_names r []))
