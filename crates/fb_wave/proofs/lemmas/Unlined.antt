-- What keeps a text from being that of a line.
use Rattle.fb_wave.proofs.lemmas.Common.{◌≡◌, ℕ, ◌+◌, ◌<◌, ◌≤◌, ◌^◌, Bool, true, false, List, [], ◌∷◌, ◌++◌, length, map, decimal, refl, sym, ap, subst, ◌∙◌, arith, length-map, inputs_with, outputs_with, variable_names, system_of, Name, event_at, pair_up, path_at, ports_at, Twice, System, values_text, Variable, Form, One, Two, Line, Value, AreIndexes, AreValuesOf, IsLineOf, IsTextOf, HasNames, AreRead, number_text, Port}
use Rattle.fb_types.specs.declared.key.Key.{Key}
use Rattle.fb_system.specs.IndexLists.{variable_at}
use Rattle.fb_wave.specs.Lines.{AreInRange, AreNoValuesOf, HasNoHead, IsHead, IsInRange, IsNoTextOf}
use Rattle.fb_wave.specs.Ports.{BeginsWith, HasNoPort}
use Rattle.fb_wave.specs.Reading.{AreUnread, HasNoNumber, fit_each, type_at}
use Rattle.fb_wave.specs.declared.line.Parts.{Parts}
use Rattle.fb_wave.specs.declared.table.PortTable.{PortTable}
use Rattle.fb_wave.proofs.lemmas.Finding.{begins_once, same_port}
use Rattle.fb_wave.proofs.lemmas.Gluing.{port_at}
use Rattle.fb_wave.proofs.lemmas.Lining.{after_key, key_parts, line_begins, line_end, line_parts, port_of_line, with_sign}
use Rattle.fb_wave.proofs.lemmas.Numerals.{number_once}
use Rattle.fb_wave.proofs.lemmas.Placing.{names_shown}

-- ---- Heads

-- a class and a part, and no number after them
pub no_a : (text t : List ℕ) (c : ℕ) → c < 2 ^ 128 → text ≡ number_text c ++ t → HasNoNumber (2 ^ 128) t → HasNoHead Two text
no_a text t c small is none p rest range head =
    let class = range.class in
    let one = number_once c p.class t _ small (omega (arith, class)) (sym is ∙ head ∙ key_parts (decimal p.class) (decimal p.a) (decimal p.b) rest) in
    none p.a _ range.a one.1

pub no_b : (text t u : List ℕ) (c a : ℕ) → c < 2 ^ 128 → a < 2 ^ 128 → text ≡ number_text c ++ t → t ≡ number_text a ++ u → HasNoNumber (2 ^ 128) u → HasNoHead Two text
no_b text t u c a small little is more none p rest range head =
    let class = range.class in
    let one = number_once c p.class t _ small (omega (arith, class)) (sym is ∙ head ∙ key_parts (decimal p.class) (decimal p.a) (decimal p.b) rest) in
    let two = number_once a p.a u _ little range.a (sym more ∙ one.1) in
    none p.b _ range.b two.1

pub no_class : (text t : List ℕ) (c : ℕ) → c < 2 ^ 128 → text ≡ number_text c ++ t → 2 ^ 8 ≤ c → HasNoHead Two text
no_class text t c small is wide p rest range head =
    let class = range.class in
    let same = (number_once c p.class t _ small (omega (arith, class)) (sym is ∙ head ∙ key_parts (decimal p.class) (decimal p.a) (decimal p.b) rest)).0 in
    omega (arith, same, class, wide)

-- a text has one head in a form
head_once : (form : Form) (text : List ℕ) (p q : Parts) (rest more : List ℕ) → AreInRange p → AreInRange q → IsHead form text p rest → IsHead form text q more → rest ≡ more
head_once One text p q rest more range other head is = sym head ∙ is
head_once Two text p q rest more range other head is =
    let class = range.class in
    let second = other.class in
    let one = number_once p.class q.class _ _ (omega (arith, class)) (omega (arith, second))
    (sym (key_parts (decimal p.class) (decimal p.a) (decimal p.b) rest) ∙ sym head ∙ is ∙ key_parts (decimal q.class) (decimal q.a) (decimal q.b) more)
    in
    let two = number_once p.a q.a _ _ range.a other.a one.1 in
    (number_once p.b q.b rest more range.b other.b two.1).1

abbrev parts_of : Key → Parts
parts_of k = record { class = k.class; a = k.a; b = k.b }

in_range : (k : Key) → IsInRange k → AreInRange (parts_of k)
in_range k range = record { class = range.class; a = range.a; b = range.b }

line_head : (sys : System) (form : Form) (l : Line) (text : List ℕ) → IsTextOf sys form l text → IsHead form text (parts_of l.key) (after_key sys l)
line_head sys One l text is = is.is ∙ line_parts sys One l is.line.held
line_head sys Two l text is = is.is ∙ line_parts sys Two l is.line.held

-- ---- Lines

pub headless : (sys : System) (form : Form) (text : List ℕ) → HasNoHead form text → IsNoTextOf sys form text
headless sys form text none l is = none (parts_of l.key) (after_key sys l) (in_range l.key is.line.range) (line_head sys form l text is)

module _ (sys : System) (form : Form) (text rest : List ℕ) (p : Parts) (head : IsHead form text p rest) (range : AreInRange p) where
  rest_is : (l : Line) → IsTextOf sys form l text → rest ≡ after_key sys l
  rest_is l is = head_once form text p (parts_of l.key) rest (after_key sys l) range (in_range l.key is.line.range) head (line_head sys form l text is)

  pub tickless : HasNoNumber (2 ^ 64) rest → IsNoTextOf sys form text
  tickless none l is = none l.key.tick _ is.line.range.tick (rest_is l is)

  module _ (t : ℕ) (more : List ℕ) (small : t < 2 ^ 64) (tick : rest ≡ number_text t ++ more) where
    begins : (l : Line) → IsTextOf sys form l text → BeginsWith sys more (port_of_line l) (line_end sys l)
    begins l is =
        let last = is.line.range.tick in
        let same = number_once t l.key.tick more _ (omega (arith, small)) (omega (arith, last)) (sym tick ∙ rest_is l is) in
        let begins = line_begins sys l is.line in
        record { port = begins.port; ended = begins.ended; parts = same.1 }

    pub portless : HasNoPort sys more → IsNoTextOf sys form text
    portless none l is = none (port_of_line l) (line_end sys l) (begins l is)

-- ---- Values

values_of_line : (sys : System) (l : Line) → IsLineOf sys l → AreValuesOf sys (port_of_line l) (line_end sys l) l.values
values_of_line sys l is = by l.taken is
  where
    by : (b : Bool) → IsLineOf sys (with_sign l b) → AreValuesOf sys (port_of_line (with_sign l b)) (line_end sys (with_sign l b)) l.values
    by true is = record { indexes = is.indexes; stand = is.stand; typed = is.typed; counted = is.belongs.values; parts = refl }
    by false is = record { indexes = is.indexes; stand = is.stand; typed = is.typed; counted = is.belongs.values; parts = refl }

pub valueless :
    (t : PortTable) → HasNames (system_of t.system.now) → (form : Form) (text rest more last : List ℕ) (p : Parts) (tick : ℕ) (q : Port)
    → IsHead form text p rest → AreInRange p → rest ≡ number_text tick ++ more → tick < 2 ^ 64 → BeginsWith (system_of t.system.now) more q last
    → AreNoValuesOf (system_of t.system.now) q last → IsNoTextOf (system_of t.system.now) form text
valueless t names form text rest more last p tick q head range numbered small begun none l is =
    let sys = system_of t.system.now in
    let other = begins sys form text rest p head range tick more small numbered l is in
    let once = begins_once sys more q (port_of_line l) last (line_end sys l) names begun other in
    let same = same_port t q (port_of_line l) begun.port other.port once.0 in
    none l.values (subst (λ (r : Port). AreValuesOf sys r last l.values) (sym same) (subst (λ (u : List ℕ). AreValuesOf sys (port_of_line l) u l.values) (sym once.1) (values_of_line sys l is.line)))

plain_sums : (ks : List ℕ) → map (λ k. 0 + k) ks ≡ ks
plain_sums [] = refl
plain_sums (k ∷ ks) =
    let same : 0 + k ≡ k = omega arith in ap (λ (j : ℕ). j ∷ map (λ k. 0 + k) ks) same ∙ ap (λ (js : List ℕ). k ∷ js) (plain_sums ks)

-- names are at the same indexes, where each is at one
indexes_once : (vs : List Variable) (names : List Name) (ks js : List ℕ) → ¬ (Twice (variable_names vs)) → AreIndexes vs names ks → AreIndexes vs names js → js ≡ ks
indexes_once vs names ks js once stand other =
    sym (plain_sums js) ∙ names_shown vs 0 names js once other ∙ sym (names_shown vs 0 names ks once stand) ∙ plain_sums ks

read_so :
    (vs : List Variable) (names : List Name) (ks js text : List ℕ) (values : List Value) → ¬ (Twice (variable_names vs)) → AreIndexes vs names ks → AreIndexes vs names js
    → fit_each (map (type_at vs) js) values ≡ true → length values ≡ length names → text ≡ values_text (pair_up names values) ++ 10 ∷ [] → AreRead vs ks text values
read_so vs names ks js text values once stand other typed counted parts =
    record {
      counted = counted ∙ ap length (sym stand.named) ∙ length-map ks (variable_at vs);
      typed = ap (λ (is : List ℕ). fit_each (map (type_at vs) is) values) (sym (indexes_once vs names ks js once stand other)) ∙ typed;
      parts = parts ∙ ap (λ (ns : List Name). values_text (pair_up ns values) ++ 10 ∷ []) (sym stand.named);
    }

pub no_input_values :
    (sys : System) (i e : ℕ) (taken : Bool) (ks text : List ℕ) → taken ≡ true → ¬ (Twice (variable_names (ports_at sys (path_at sys i)).inputs))
    → AreIndexes (ports_at sys (path_at sys i)).inputs (inputs_with (ports_at sys (path_at sys i)) (event_at (ports_at sys (path_at sys i)).event_inputs e)) ks
    → AreUnread (ports_at sys (path_at sys i)).inputs ks text → AreNoValuesOf sys (port_at i e taken) text
no_input_values sys i e false ks text is once stand unread values are = absurd (cc)
no_input_values sys i e true ks text is once stand unread values are =
    let its = ports_at sys (path_at sys i) in
    unread values (read_so its.inputs (inputs_with its (event_at its.event_inputs e)) ks are.indexes text values once stand are.stand are.typed are.counted are.parts)

pub no_output_values :
    (sys : System) (i e : ℕ) (taken : Bool) (ks text : List ℕ) → taken ≡ false → ¬ (Twice (variable_names (ports_at sys (path_at sys i)).outputs))
    → AreIndexes (ports_at sys (path_at sys i)).outputs (outputs_with (ports_at sys (path_at sys i)) (event_at (ports_at sys (path_at sys i)).event_outputs e)) ks
    → AreUnread (ports_at sys (path_at sys i)).outputs ks text → AreNoValuesOf sys (port_at i e taken) text
no_output_values sys i e true ks text is once stand unread values are = absurd (cc)
no_output_values sys i e false ks text is once stand unread values are =
    let its = ports_at sys (path_at sys i) in
    unread values (read_so its.outputs (outputs_with its (event_at its.event_outputs e)) ks are.indexes text values once stand are.stand are.typed are.counted are.parts)
