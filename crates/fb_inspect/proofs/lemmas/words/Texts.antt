-- Texts to which parts were added, one after another.
use Rattle.fb_inspect.proofs.lemmas.Common.{◌≡◌, ◌∙◌, ◌<◌, ℕ, List, [], ◌++◌, length, get_or, append_assoc, ap, arith, nat_tests, refl, subst, sym, Name, System, Variable, ports_at, path_at}
use Rattle.std.specs.Prelude.{Bool, true, false, codes, if◌then◌else◌, nat_lt, slice_index_or}
use Rattle.fb_types.specs.Numbers.{emission_of, event_at, pair_up}
use Rattle.fb_types.specs.Blocks.{outputs_with}
use Rattle.fb_types.specs.Text.{path_text}
use Rattle.fb_types.specs.declared.run.Emission as run
use Rattle.fb_types.specs.declared.library.EventPort.{EventPort}
use Rattle.fb_wave.specs.Ports.{events, holder_name}
use Rattle.fb_wave.specs.declared.ports.Port.{Port}
use Rattle.fb_inspect.specs.refused.LineFaults.{variables}
use Rattle.fb_inspect.specs.declared.refused.line_fault.ValueFault.{ValueFault}
use Rattle.fb_wave.specs.Reading.{name_at, type_at}
use Rattle.fb_wave.proofs.lemmas.Valued.{type_at-get_or}
use Rattle.fb_inspect.specs.refused.Messages.{bindings_text, elsewhere_text, emission_text, instance_text, port_value_text, shown, type_word, value_fault_text, variable_text}
use Rattle.fb_inspect.proofs.lemmas.words.BoundValues.{same_variable}

pub three_added : (o a b c : List ℕ) → ((o ++ a) ++ b) ++ c ≡ o ++ (a ++ (b ++ c))
three_added o a b c = simp append_assoc

four_added : (o a b c d : List ℕ) → (((o ++ a) ++ b) ++ c) ++ d ≡ o ++ (a ++ (b ++ (c ++ d)))
four_added o a b c d = simp append_assoc

named_and_typed : (o a b c d : List ℕ) → (((o ++ a) ++ b) ++ c) ++ d ≡ o ++ (a ++ b ++ c ++ d)
named_and_typed o a b c d = simp append_assoc

pub two_and_one : (o a b c : List ℕ) → (o ++ (a ++ b)) ++ c ≡ o ++ (a ++ b ++ c)
two_and_one o a b c = simp append_assoc

chosen : (b : Bool) (x : List ℕ) → b ≡ true → (if b then x else []) ≡ x
chosen true x is = refl
chosen false x is = absurd (cc)

below : (i n : ℕ) → i < n → nat_lt i n ≡ true
below i n less = grind (arith, nat_tests)

-- an event that an instance emits, with its values
pub emission_added :
    (sys : System) (i : ℕ) (e : run.Emission) (o p d n b path name : List ℕ) (ns : List Name) → i < length sys.paths → e.event < length (ports_at sys (path_at sys i)).event_outputs
    → path ≡ path_text (path_at sys i) → name ≡ event_at (ports_at sys (path_at sys i)).event_outputs e.event
    → ns ≡ outputs_with (ports_at sys (path_at sys i)) (event_at (ports_at sys (path_at sys i)).event_outputs e.event) → p ≡ o ++ shown path → d ≡ p ++ codes "." → n ≡ d ++ shown name
    → b ≡ n ++ bindings_text (pair_up ns e.values) → b ≡ o ++ emission_text sys i e
emission_added sys i e o p d n b path name ns less event path_is name_is ns_is p_is d_is n_is b_is =
    let its = ports_at sys (path_at sys i) in
    let P : List ℕ = shown (path_text (path_at sys i)) in
    let N : List ℕ = shown (event_at its.event_outputs e.event) in
    let B : List ℕ = bindings_text (emission_of its e).values in
    subst (λ (t : Bool). b ≡ o ++ (if t then P ++ (if nat_lt e.event (length its.event_outputs) then codes "." ++ N ++ B else []) else [])) (sym (below i (length sys.paths) less))
    (subst (λ (t : Bool). b ≡ o ++ (P ++ (if t then codes "." ++ N ++ B else []))) (sym (below e.event (length its.event_outputs) event))
    (b_is
    ∙ ap (λ (t : List ℕ). t ++ bindings_text (pair_up ns e.values)) (n_is ∙ ap (λ (t : List ℕ). t ++ shown name) (d_is ∙ ap (λ (t : List ℕ). t ++ codes ".") p_is))
    ∙ ap (λ (w : List ℕ). (((o ++ shown w) ++ codes ".") ++ shown name) ++ bindings_text (pair_up ns e.values)) path_is
    ∙ ap (λ (w : List ℕ). (((o ++ P) ++ codes ".") ++ shown w) ++ bindings_text (pair_up ns e.values)) name_is
    ∙ ap (λ (ws : List Name). (((o ++ P) ++ codes ".") ++ N) ++ bindings_text (pair_up ws e.values)) ns_is
    ∙ four_added o P (codes ".") N B))

-- an instance with its resource
pub elsewhere_added :
    (sys : System) (i r : ℕ) (o a b c name : List ℕ) → i < length sys.paths → r ≡ sys.resource (path_at sys i) → r < length sys.resource_names → name ≡ slice_index_or sys.resource_names r []
    → a ≡ o ++ instance_text sys i → b ≡ a ++ codes " is in resource " → c ≡ b ++ shown name → c ≡ o ++ elsewhere_text sys i
elsewhere_added sys i r o a b c name less r_is there name_is a_is b_is c_is =
    let I : List ℕ = instance_text sys i in
    let H : List ℕ = shown (holder_name sys i) in
    let held : sys.resource (path_at sys i) < length sys.resource_names = subst (λ (n : ℕ). n < length sys.resource_names) r_is there in
    subst (λ (t : Bool). c ≡ o ++ (if t then I ++ (if nat_lt (sys.resource (path_at sys i)) (length sys.resource_names) then codes " is in resource " ++ H else []) else []))
    (sym (below i (length sys.paths) less))
    (subst (λ (t : Bool). c ≡ o ++ (I ++ (if t then codes " is in resource " ++ H else []))) (sym (below (sys.resource (path_at sys i)) (length sys.resource_names) held))
    (c_is
    ∙ ap (λ (t : List ℕ). t ++ shown name) (b_is ∙ ap (λ (t : List ℕ). t ++ codes " is in resource ") a_is)
    ∙ ap (λ (w : List ℕ). ((o ++ I) ++ codes " is in resource ") ++ shown w) (name_is ∙ ap (λ (n : ℕ). slice_index_or sys.resource_names n []) r_is)
    ∙ three_added o I (codes " is in resource ") H))

-- a variable with its type
pub variable_added :
    (vs : List Variable) (k : ℕ) (v : Variable) (o a b c e name word : List ℕ) → k < length vs → name ≡ (get_or vs k v).name → word ≡ type_word (get_or vs k v).ty → a ≡ o ++ shown name
    → b ≡ a ++ codes " (" → c ≡ b ++ word → e ≡ c ++ codes ")" → e ≡ o ++ variable_text vs k
variable_added vs k v o a b c e name word less name_is word_is a_is b_is c_is e_is =
    let N : List ℕ = shown (name_at vs k) in
    let W : List ℕ = type_word (type_at vs k) in
    let X : List ℕ = N ++ codes " (" ++ W ++ codes ")" in
    e_is
    ∙ ap (λ (t : List ℕ). t ++ codes ")") (c_is ∙ ap (λ (t : List ℕ). t ++ word) (b_is ∙ ap (λ (t : List ℕ). t ++ codes " (") a_is))
    ∙ ap (λ (w : List ℕ). (((o ++ shown w) ++ codes " (") ++ word) ++ codes ")") (same_variable vs k v name less name_is)
    ∙ ap (λ (w : List ℕ). (((o ++ N) ++ codes " (") ++ w) ++ codes ")") (word_is ∙ ap type_word (sym (type_at-get_or vs k v less)))
    ∙ named_and_typed o N (codes " (") W (codes ")") ∙ ap (λ (t : List ℕ). o ++ t) (sym (chosen (nat_lt k (length vs)) X (below k (length vs) less)))

-- what is wrong with the values of a port
pub value_added :
    (sys : System) (p : Port) (fault : ValueFault) (o new : List ℕ) (vs : List Variable) (es : List EventPort) → p.instance < length sys.paths → vs ≡ variables (ports_at sys (path_at sys p.instance)) p.taken
    → es ≡ events (ports_at sys (path_at sys p.instance)) p.taken → new ≡ o ++ port_value_text vs es p fault → new ≡ o ++ value_fault_text sys p fault
value_added sys p fault o new vs es less vs_are es_are is =
    let its = ports_at sys (path_at sys p.instance) in
    is ∙ ap (λ (us : List Variable). o ++ port_value_text us es p fault) vs_are ∙ ap (λ (fs : List EventPort). o ++ port_value_text (variables its p.taken) fs p fault) es_are
    ∙ ap (λ (t : List ℕ). o ++ t) (sym (chosen (nat_lt p.instance (length sys.paths)) (port_value_text (variables its p.taken) (events its p.taken) p fault) (below p.instance (length sys.paths) less)))
