-- What the text of a line begins with, and what it has after that.
use Rattle.fb_wave.proofs.lemmas.Common.{◌≡◌, ℕ, ◌<◌, ◌≤◌, ◌^◌, Bool, true, false, List, [], ◌∷◌, ◌++◌, length, map, get_or, codes, decimal, Contains, refl, sym, ap, subst, ◌∙◌, arith, append_assoc, if◌then◌else◌, slice_get, unwrap_or, get_or_append_left, length-map, Contains-append_left, unwrap_or-slice_get, event_names, inputs_with, outputs_with, variable_names, Name, event_at, line_of, pair_up, path_at, ports_at, Ending, System, last_line, path_text, values_text, EventPort, Variable, Form, One, Two, Line, Value, AreIndexes, IsLineOf, AreNames, HasNames, is_name, IsPortOf, holder_name, port_text, side, number_text, is_ended, Port}
use Rattle.fb_types.proofs.Common.{Contains-append_right, AtHorizon, AtStop, line_text, reason_text}
use Rattle.fb_types.specs.declared.key.Key.{Key}
use Rattle.fb_types.specs.declared.value.Reason.{Reason}
use Rattle.fb_types.specs.declared.value.Reason.TheVariants.{Steps, Divide, Range}
use Rattle.fb_types.specs.Text.{key_text}
use Rattle.fb_types.proofs.lemmas.lists.Elements.{map-Contains}
use Rattle.fb_system.specs.Lines.{line_variables}
use Rattle.fb_system.specs.IndexLists.{variable_at}
use Rattle.fb_wave.specs.Lines.{IsEndOf, IsInRange, line_side}
use Rattle.fb_wave.specs.Ports.{BeginsWith}
use Rattle.fb_wave.specs.Reading.{type_at}
use Rattle.fb_wave.proofs.lemmas.Gluing.{port_at}
use Rattle.fb_wave.proofs.lemmas.Known.{there}
use Rattle.fb_wave.proofs.lemmas.Numerals.{digits_of, number_once}
use Rattle.fb_wave.proofs.lemmas.Plain.{flat_both, is_flat, name_first, name_word, number_flat, path_word, values_flat, word_flat}

-- ---- Parts of a line

abbrev pub with_sign : Line → Bool → Line
with_sign l b = record l { taken = b }

abbrev pub port_of_line : Line → Port
port_of_line l = port_at l.instance l.event l.taken

-- what a line has after its port
abbrev pub line_end : System → Line → List ℕ
line_end sys l = values_text (pair_up (line_variables sys l) l.values) ++ 10 ∷ []

abbrev pub after_key : System → Line → List ℕ
after_key sys l = number_text l.key.tick ++ (port_text sys (port_of_line l) ++ line_end sys l)

ungroup :
    (k n h s p d e v l : List ℕ) → (((((k ++ (n ++ h)) ++ s) ++ p) ++ d) ++ e) ++ v ++ l ≡ k ++ (n ++ (((((h ++ s) ++ p) ++ d) ++ e) ++ (v ++ l)))
ungroup k n h s p d e v l = simp append_assoc

pub line_parts : (sys : System) (form : Form) (l : Line) → l.key.resource ≡ sys.resource (path_at sys l.instance) → line_text form sys (line_of sys l) ≡ key_text form l.key ++ after_key sys l
line_parts sys form l held = by l.taken
  where
    holder : unwrap_or (slice_get sys.resource_names l.key.resource) [] ≡ holder_name sys l.instance
    holder = unwrap_or-slice_get sys.resource_names l.key.resource [] ∙ ap (λ (r : ℕ). get_or sys.resource_names r []) held

    by : (b : Bool) → line_text form sys (line_of sys (with_sign l b)) ≡ key_text form l.key ++ after_key sys (with_sign l b)
    by true =
        let its = ports_at sys (path_at sys l.instance) in
        let n = event_at its.event_inputs l.event in
        let V = values_text (pair_up (inputs_with its n) l.values) in
        ungroup (key_text form l.key) (number_text l.key.tick) (unwrap_or (slice_get sys.resource_names l.key.resource) []) (codes " > ") (path_text (path_at sys l.instance)) (codes ".") n V (10 ∷ [])
        ∙ ap (λ (h : Name). key_text form l.key ++ (number_text l.key.tick ++ (((((h ++ codes " > ") ++ path_text (path_at sys l.instance)) ++ codes ".") ++ n) ++ (V ++ 10 ∷ [])))) holder
    by false =
        let its = ports_at sys (path_at sys l.instance) in
        let n = event_at its.event_outputs l.event in
        let V = values_text (pair_up (outputs_with its n) l.values) in
        ungroup (key_text form l.key) (number_text l.key.tick) (unwrap_or (slice_get sys.resource_names l.key.resource) []) (codes " < ") (path_text (path_at sys l.instance)) (codes ".") n V (10 ∷ [])
        ∙ ap (λ (h : Name). key_text form l.key ++ (number_text l.key.tick ++ (((((h ++ codes " < ") ++ path_text (path_at sys l.instance)) ++ codes ".") ++ n) ++ (V ++ 10 ∷ [])))) holder

pub end_ended : (ns : List Name) (vs : List Value) → is_ended (values_text (pair_up ns vs) ++ 10 ∷ []) ≡ true
end_ended [] vs = refl
end_ended (n ∷ ns) [] = refl
end_ended (n ∷ ns) (v ∷ vs) = refl

-- the text of a line begins with that of its port, after the tick
pub line_begins : (sys : System) (l : Line) → IsLineOf sys l → BeginsWith sys (port_text sys (port_of_line l) ++ line_end sys l) (port_of_line l) (line_end sys l)
line_begins sys l is =
    record { port = record { instance = is.belongs.instance; small = is.small; event = is.belongs.event }; ended = end_ended (line_variables sys l) l.values; parts = refl }

-- ---- Keys

pub key_parts : (c a b rest : List ℕ) → (((((c ++ codes " ") ++ a) ++ codes " ") ++ b) ++ codes " ") ++ rest ≡ (c ++ codes " ") ++ ((a ++ codes " ") ++ ((b ++ codes " ") ++ rest))
key_parts c a b rest = simp append_assoc

-- a key of the second form is three numbers
pub key_three : (k : Key) (rest : List ℕ) → key_text Two k ++ rest ≡ number_text k.class ++ (number_text k.a ++ (number_text k.b ++ rest))
key_three k rest = key_parts (decimal k.class) (decimal k.a) (decimal k.b) rest

-- ---- Names of a line

-- a line's event is one of its port's
event_in : (es : List EventPort) (k : ℕ) → k < length es → Contains (event_names es) (event_at es k)
event_in es k h = there (event_names es) k [] (omega (arith, h, length-map es (λ (e : EventPort). e.name)))

pub holder_named : (sys : System) (l : Line) → HasNames sys → IsLineOf sys l → is_name (holder_name sys l.instance) ≡ true
holder_named sys l names is =
    let within = is.belongs.resource in
    let at : Contains sys.resource_names (unwrap_or (slice_get sys.resource_names l.key.resource) []) = there sys.resource_names l.key.resource [] within in
    subst (λ (n : Name). is_name n ≡ true) (unwrap_or-slice_get sys.resource_names l.key.resource [] ∙ ap (λ (r : ℕ). get_or sys.resource_names r []) is.held)
    (names.resources _ at)

pub path_named : (sys : System) (i : ℕ) → HasNames sys → i < length sys.paths → AreNames (path_at sys i)
path_named sys i names within = names.paths (path_at sys i) (there sys.paths i [] within)

pub event_named : (sys : System) (p : Port) → HasNames sys → IsPortOf sys p → is_name (event_at (side sys p.instance p.taken) p.event) ≡ true
event_named sys p names is = by p.taken is.event
  where
    by : (b : Bool) → p.event < length (side sys p.instance b) → is_name (event_at (side sys p.instance b) p.event) ≡ true
    by true within =
        let its = ports_at sys (path_at sys p.instance) in
        names.ports (path_at sys p.instance) (there sys.paths p.instance [] is.instance) _
        (Contains-append_left ((event_names its.event_inputs ++ event_names its.event_outputs) ++ variable_names its.inputs) (variable_names its.outputs) _
        (Contains-append_left (event_names its.event_inputs ++ event_names its.event_outputs) (variable_names its.inputs) _
        (Contains-append_left (event_names its.event_inputs) (event_names its.event_outputs) _ (event_in its.event_inputs p.event within))))
    by false within =
        let its = ports_at sys (path_at sys p.instance) in
        names.ports (path_at sys p.instance) (there sys.paths p.instance [] is.instance) _
        (Contains-append_left ((event_names its.event_inputs ++ event_names its.event_outputs) ++ variable_names its.inputs) (variable_names its.outputs) _
        (Contains-append_left (event_names its.event_inputs ++ event_names its.event_outputs) (variable_names its.inputs) _
        (Contains-append_right (event_names its.event_inputs) (event_names its.event_outputs) _ (event_in its.event_outputs p.event within))))

side_named : (sys : System) (l : Line) → HasNames sys → l.instance < length sys.paths → AreNames (variable_names (line_side sys l))
side_named sys l names within = by l.taken
  where
    by : (b : Bool) → AreNames (variable_names (line_side sys (with_sign l b)))
    by true n c =
        let its = ports_at sys (path_at sys l.instance) in
        names.ports (path_at sys l.instance) (there sys.paths l.instance [] within) n
        (Contains-append_left ((event_names its.event_inputs ++ event_names its.event_outputs) ++ variable_names its.inputs) (variable_names its.outputs) n
        (Contains-append_right (event_names its.event_inputs ++ event_names its.event_outputs) (variable_names its.inputs) n c))
    by false n c =
        let its = ports_at sys (path_at sys l.instance) in
        names.ports (path_at sys l.instance) (there sys.paths l.instance [] within) n
        (Contains-append_right ((event_names its.event_inputs ++ event_names its.event_outputs) ++ variable_names its.inputs) (variable_names its.outputs) n c)

variables_named : (vs : List Variable) (ns : List Name) (ks : List ℕ) → AreNames (variable_names vs) → AreIndexes vs ns ks → AreNames ns
variables_named vs ns ks are stand n c =
    let from = map-Contains (variable_at vs) ks n (subst (λ (ms : List Name). Contains ms n) (sym stand.named) c) in
    let within : from.0 < length vs = subst (λ (k : ℕ). k < length vs) from.1.2 (stand.within from.1.0 from.0 from.1.1) in
    subst (λ (m : Name). is_name m ≡ true) from.2
    (are (variable_at vs from.0) (there (variable_names vs) from.0 [] (omega (arith, within, length-map vs (λ (v : Variable). v.name)))))

-- ---- A line is one line

-- A text without a line feed, and then one.
pub record IsOneLine (text : List ℕ) : Type 0 where
  pub body : List ℕ
  pub flat : is_flat body ≡ true
  pub is : text ≡ body ++ 10 ∷ []

port_flat : (sys : System) (l : Line) → HasNames sys → IsLineOf sys l → is_flat (port_text sys (port_of_line l)) ≡ true
port_flat sys l names is =
    let p : Port = port_of_line l in
    let begins = line_begins sys l is in
    let h = holder_name sys l.instance in
    let s : List ℕ = if l.taken then codes " > " else codes " < " in
    let at = path_text (path_at sys l.instance) in
    let e = event_at (side sys l.instance l.taken) l.event in
    flat_both (((h ++ s) ++ at) ++ codes ".") e
    (flat_both ((h ++ s) ++ at) (codes ".")
    (flat_both (h ++ s) at (flat_both h s (word_flat h (name_word h (holder_named sys l names is))) (sign_flat l.taken))
    (word_flat at (path_word (path_at sys l.instance) (path_named sys l.instance names is.belongs.instance))))
    refl)
    (word_flat e (name_word e (event_named sys p names begins.port)))
  where
    sign_flat : (b : Bool) → is_flat (if b then codes " > " else codes " < ") ≡ true
    sign_flat true = refl
    sign_flat false = refl

key_flat : (form : Form) (k : Key) → IsInRange k → is_flat (key_text form k) ≡ true
key_flat One k range = refl
key_flat Two k range =
    let c = range.class in
    flat_both (((((decimal k.class ++ codes " ") ++ decimal k.a) ++ codes " ") ++ decimal k.b)) (codes " ")
    (flat_both (((decimal k.class ++ codes " ") ++ decimal k.a) ++ codes " ") (decimal k.b)
    (flat_both ((decimal k.class ++ codes " ") ++ decimal k.a) (codes " ")
    (flat_both (decimal k.class ++ codes " ") (decimal k.a) (flat_both (decimal k.class) (codes " ") (number_flat k.class (omega (arith, c))) refl) (number_flat k.a range.a))
    refl)
    (number_flat k.b range.b))
    refl

regroup : (k n p v l : List ℕ) → k ++ (n ++ (p ++ (v ++ l))) ≡ (k ++ (n ++ (p ++ v))) ++ l
regroup k n p v l = simp append_assoc

pub line_one : (sys : System) (form : Form) (l : Line) → HasNames sys → IsLineOf sys l → IsOneLine (line_text form sys (line_of sys l))
line_one sys form l names is =
    let K = key_text form l.key in
    let N = number_text l.key.tick in
    let P = port_text sys (port_of_line l) in
    let V = values_text (pair_up (line_variables sys l) l.values) in
    let tick = is.range.tick in
    let are : AreNames (line_variables sys l) = variables_named (line_side sys l) (line_variables sys l) is.indexes (side_named sys l names is.belongs.instance) is.stand in
    let long : length (line_variables sys l) ≡ length (map (type_at (line_side sys l)) is.indexes) =
    sym (ap length is.stand.named) ∙ length-map is.indexes (variable_at (line_side sys l)) ∙ sym (length-map is.indexes (type_at (line_side sys l)))
    in
    record {
      body = K ++ (N ++ (P ++ V));
      flat = flat_both K (N ++ (P ++ V)) (key_flat form l.key is.range)
          (flat_both N (P ++ V) (flat_both (decimal l.key.tick) (codes " ") (number_flat l.key.tick (omega (arith, tick))) refl)
          (flat_both P V (port_flat sys l names is) (values_flat (line_variables sys l) (map (type_at (line_side sys l)) is.indexes) l.values are long is.typed)));
      is = line_parts sys form l is.held ∙ regroup K N P V (10 ∷ []);
    }

reason_flat : (r : Reason) → is_flat (reason_text r) ≡ true
reason_flat Steps = refl
reason_flat Divide = refl
reason_flat Range = refl

pub last_one : (sys : System) (end : Ending) → HasNames sys → IsEndOf sys end → IsOneLine (last_line sys end)
last_one sys (AtHorizon h) names is =
    record { body = codes "end " ++ decimal h; flat = flat_both (codes "end ") (decimal h) refl (number_flat h (omega (arith, is))); is = refl }
last_one sys (AtStop k r reason) names is =
    let n = unwrap_or (slice_get sys.resource_names r) [] in
    let small = is.0 in
    record {
      body = ((codes "stop " ++ ((decimal k ++ codes " ") ++ n)) ++ codes " ") ++ reason_text reason;
      flat = flat_both ((codes "stop " ++ ((decimal k ++ codes " ") ++ n)) ++ codes " ") (reason_text reason)
          (flat_both (codes "stop " ++ ((decimal k ++ codes " ") ++ n)) (codes " ")
          (flat_both (codes "stop ") ((decimal k ++ codes " ") ++ n) refl
          (flat_both (decimal k ++ codes " ") n (flat_both (decimal k) (codes " ") (number_flat k (omega (arith, small))) refl)
          (word_flat n (name_word n (names.resources n (there sys.resource_names r [] is.1))))))
          refl)
          (reason_flat reason);
      is = refl;
    }

-- ---- How lines begin

number_first : (n : ℕ) (rest : List ℕ) → n < 2 ^ 128 → (48 ≤ get_or (number_text n ++ rest) 0 0) × (get_or (number_text n ++ rest) 0 0 < 58)
number_first n rest small =
    let are = digits_of n small in
    let one = are.each 0 0 are.some in
    let at : get_or (number_text n ++ rest) 0 0 ≡ get_or (decimal n) 0 0 =
    ap (λ (l : List ℕ). get_or l 0 0) (append_assoc (decimal n) (codes " ") rest) ∙ get_or_append_left (decimal n) (codes " " ++ rest) 0 0 are.some
    in
    let low = one.low in
    let high = one.high in
    (omega (arith, at, low), omega (arith, at, high))

-- a line begins with a digit
pub line_first : (sys : System) (form : Form) (l : Line) → IsLineOf sys l → get_or (line_text form sys (line_of sys l)) 0 0 < 58
line_first sys One l is =
    let tick = is.range.tick in
    let high = (number_first l.key.tick (port_text sys (port_of_line l) ++ line_end sys l) (omega (arith, tick))).1 in
    subst (λ (t : List ℕ). get_or t 0 0 < 58) (sym (line_parts sys One l is.held)) high
line_first sys Two l is =
    let class = is.range.class in
    let high = (number_first l.key.class (number_text l.key.a ++ (number_text l.key.b ++ after_key sys l)) (omega (arith, class))).1 in
    subst (λ (t : List ℕ). get_or t 0 0 < 58) (sym (line_parts sys Two l is.held ∙ key_three l.key (after_key sys l))) high

-- the last line begins with a letter
pub last_first : (sys : System) (end : Ending) → 58 ≤ get_or (last_line sys end) 0 0
last_first sys (AtHorizon h) = omega arith
last_first sys (AtStop k r reason) = omega arith

pub line_not_last : (sys : System) (form : Form) (l : Line) (end : Ending) → IsLineOf sys l → line_text form sys (line_of sys l) ≡ last_line sys end → ⊥
line_not_last sys form l end is e =
    let low = line_first sys form l is in
    let high = last_first sys end in
    let same = ap (λ (t : List ℕ). get_or t 0 0) e in
    omega (arith, low, high, same)

-- ---- A text is that of lines of one form and one tick

spread : (h s p d e v : List ℕ) → ((((h ++ s) ++ p) ++ d) ++ e) ++ v ≡ h ++ (s ++ (p ++ (d ++ (e ++ v))))
spread h s p d e v = simp append_assoc

-- what a line has after the name of its resource
abbrev pub after_holder : System → Line → List ℕ
after_holder sys l =
    (if l.taken then codes " > " else codes " < ") ++ (path_text (path_at sys l.instance) ++ (codes "." ++ (event_at (side sys l.instance l.taken) l.event ++ line_end sys l)))

pub port_spread : (sys : System) (l : Line) → port_text sys (port_of_line l) ++ line_end sys l ≡ holder_name sys l.instance ++ after_holder sys l
port_spread sys l =
    spread (holder_name sys l.instance) (if l.taken then codes " > " else codes " < ") (path_text (path_at sys l.instance)) (codes ".") (event_at (side sys l.instance l.taken) l.event) (line_end sys l)

-- the second word of a line is a name in the first form, a number in the second
pub name_not_number : (sys : System) (l : Line) (n : ℕ) (rest : List ℕ) → HasNames sys → IsLineOf sys l → n < 2 ^ 128 → port_text sys (port_of_line l) ++ line_end sys l ≡ number_text n ++ rest → ⊥
name_not_number sys l n rest names is small e =
    let h = holder_name sys l.instance in
    let low = name_first h (after_holder sys l) (holder_named sys l names is) in
    let high = (number_first n rest small).1 in
    let same = ap (λ (t : List ℕ). get_or t 0 0) (sym (port_spread sys l) ∙ e) in
    omega (arith, low, high, same)

pub one_not_two : (sys : System) (l m : Line) → HasNames sys → IsLineOf sys l → IsLineOf sys m → line_text One sys (line_of sys l) ≡ line_text Two sys (line_of sys m) → ⊥
one_not_two sys l m names is other e =
    let tick = is.range.tick in
    let class = other.range.class in
    let a = other.range.a in
    let first = number_once l.key.tick m.key.class _ _ (omega (arith, tick)) (omega (arith, class))
    (sym (line_parts sys One l is.held) ∙ e ∙ line_parts sys Two m other.held ∙ key_three m.key (after_key sys m))
    in
    name_not_number sys l m.key.a _ names is a first.1

-- the texts of two lines are alike only where their forms and ticks are
pub same_line :
    (sys : System) (f g : Form) (l m : Line) → HasNames sys → IsLineOf sys l → IsLineOf sys m → line_text f sys (line_of sys l) ≡ line_text g sys (line_of sys m)
    → (f ≡ g) × (l.key.tick ≡ m.key.tick)
same_line sys One One l m names is other e =
    let tick = is.range.tick in
    let last = other.range.tick in
    (refl, (number_once l.key.tick m.key.tick _ _ (omega (arith, tick)) (omega (arith, last)) (sym (line_parts sys One l is.held) ∙ e ∙ line_parts sys One m other.held)).0)
same_line sys One Two l m names is other e = absurd (one_not_two sys l m names is other e)
same_line sys Two One l m names is other e = absurd (one_not_two sys m l names other is (sym e))
same_line sys Two Two l m names is other e =
    let tick = is.range.tick in
    let last = other.range.tick in
    let class = is.range.class in
    let second = other.range.class in
    let one = number_once l.key.class m.key.class _ _ (omega (arith, class)) (omega (arith, second))
    (sym (line_parts sys Two l is.held ∙ key_three l.key (after_key sys l)) ∙ e ∙ line_parts sys Two m other.held ∙ key_three m.key (after_key sys m))
    in
    let two = number_once l.key.a m.key.a _ _ is.range.a other.range.a one.1 in
    let three = number_once l.key.b m.key.b _ _ is.range.b other.range.b two.1 in
    (refl, (number_once l.key.tick m.key.tick _ _ (omega (arith, tick)) (omega (arith, last)) three.1).0)
