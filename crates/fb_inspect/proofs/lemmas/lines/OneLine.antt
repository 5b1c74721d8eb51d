-- A text is that of one line at most, as far as the form shows it.
use Rattle.fb_inspect.proofs.lemmas.Common.{◌≡◌, ℕ, true, List, [], ◌∷◌, ◌++◌, length, map, codes, refl, sym, ap, subst, ◌∙◌, arith, append_assoc, and_parts, append_cancel_left, length-map, system_of, Name, line_of, pair_up, path_at, System, line_text, fits, Form, One, Two, Line, Value, line_variables, IsLineOf, IsTextOf, HasNames, fit_each, type_at, Port, PortTable}
use Rattle.fb_types.proofs.Common.{value_text, values_text}
use Rattle.fb_types.specs.declared.value.Ty.{Ty}
use Rattle.fb_system.specs.IndexLists.{variable_at}
use Rattle.fb_wave.specs.Lines.{line_side}
use Rattle.fb_wave.specs.Ports.{BeginsWith, IsPortOf, port_text}
use Rattle.fb_wave.specs.Reading.{IsSmallValue, binding_text}
use Rattle.fb_wave.proofs.lemmas.Cutting.{word_once}
use Rattle.fb_wave.proofs.lemmas.Finding.{begins_once, same_port}
use Rattle.fb_wave.proofs.lemmas.Lining.{after_key, end_ended, key_three, line_begins, line_end, line_parts, port_of_line}
use Rattle.fb_wave.proofs.lemmas.Numerals.{number_once}
use Rattle.fb_wave.proofs.lemmas.Valued.{fits_small, value_once, value_word}
use Rattle.fb_inspect.specs.walk.SameLines.{AreLikeParts, IsSameLine}

-- ---- Values

-- values of types, one for each, are small
abbrev AreSmall : List Value → Type 0
AreSmall [] = Unit {0}
AreSmall (v ∷ vs) = IsSmallValue v × AreSmall vs

fitting_small : (ts : List Ty) (vs : List Value) → length vs ≡ length ts → fit_each ts vs ≡ true → AreSmall vs
fitting_small ts [] same fit = tt
fitting_small [] (v ∷ vs) same fit = absurd (omega (arith, same))
fitting_small (t ∷ ts) (v ∷ vs) same fit =
    let parts = and_parts (fits t v) (fit_each ts vs) fit in (fits_small t v parts.0, fitting_small ts vs (omega (arith, same)) parts.1)

spread : (n : Name) (v : Value) (rest : List ℕ) → binding_text n v ++ rest ≡ codes " " ++ (n ++ (codes "=" ++ (value_text v ++ rest)))
spread n v rest = simp append_assoc

-- the values of names, and a line feed
abbrev ending : List Name → List Value → List ℕ
ending ns vs = values_text (pair_up ns vs) ++ 10 ∷ []

begun : (n : Name) (ns : List Name) (v : Value) (vs : List Value) → ending (n ∷ ns) (v ∷ vs) ≡ codes " " ++ (n ++ (codes "=" ++ (value_text v ++ ending ns vs)))
begun n ns v vs = append_assoc (binding_text n v) (values_text (pair_up ns vs)) (10 ∷ []) ∙ spread n v (ending ns vs)

values_once :
    (ns : List Name) (vs ws : List Value) → length vs ≡ length ns → length ws ≡ length ns → AreSmall vs → AreSmall ws → ending ns vs ≡ ending ns ws → vs ≡ ws
values_once [] [] [] long wide small little e = refl
values_once [] (v ∷ vs) ws long wide small little e = absurd (omega (arith, long))
values_once [] [] (w ∷ ws) long wide small little e = absurd (omega (arith, wide))
values_once (n ∷ ns) [] ws long wide small little e = absurd (omega (arith, long))
values_once (n ∷ ns) (v ∷ vs) [] long wide small little e = absurd (omega (arith, wide))
values_once (n ∷ ns) (v ∷ vs) (w ∷ ws) long wide small little e =
    let same : value_text v ++ ending ns vs ≡ value_text w ++ ending ns ws =
    append_cancel_left (codes "=") _ _ (append_cancel_left n _ _ (append_cancel_left (codes " ") _ _ (sym (begun n ns v vs) ∙ e ∙ begun n ns w ws)))
    in
    let both = word_once (value_text v) (value_text w) (ending ns vs) (ending ns ws) (value_word v small.0) (value_word w little.0) (end_ended ns vs) (end_ended ns ws) same in
    ap (λ (u : Value). u ∷ vs) (value_once v w small.0 little.0 both.0) ∙ ap (λ (us : List Value). w ∷ us) (values_once ns vs ws (omega (arith, long)) (omega (arith, wide)) small.1 little.1 both.1)

line_small : (sys : System) (l : Line) → IsLineOf sys l → AreSmall l.values
line_small sys l is =
    let named = is.stand.named in
    let counted : length l.values ≡ length (map (type_at (line_side sys l)) is.indexes) =
    is.belongs.values ∙ ap length (sym named) ∙ length-map is.indexes (variable_at (line_side sys l)) ∙ sym (length-map is.indexes (type_at (line_side sys l)))
    in
    fitting_small (map (type_at (line_side sys l)) is.indexes) l.values counted is.typed

-- ---- Keys

-- the parts that a form shows, and the rest of a line
after_once :
    (sys : System) (form : Form) (l m : Line) → IsLineOf sys l → IsLineOf sys m → line_text form sys (line_of sys l) ≡ line_text form sys (line_of sys m)
    → AreLikeParts form l.key m.key × (after_key sys l ≡ after_key sys m)
after_once sys One l m is other e = (tt, sym (line_parts sys One l is.held) ∙ e ∙ line_parts sys One m other.held)
after_once sys Two l m is other e =
    let class = is.range.class in
    let second = other.range.class in
    let one = number_once l.key.class m.key.class _ _ (omega (arith, class)) (omega (arith, second))
    (sym (line_parts sys Two l is.held ∙ key_three l.key (after_key sys l)) ∙ e ∙ line_parts sys Two m other.held ∙ key_three m.key (after_key sys m))
    in
    let two = number_once l.key.a m.key.a _ _ is.range.a other.range.a one.1 in
    let three = number_once l.key.b m.key.b _ _ is.range.b other.range.b two.1 in
    ((one.0, two.0, three.0), three.1)

-- ---- Lines

-- A text is that of one line, if ports that are written alike are one.
pub line_once_by :
    (sys : System) → HasNames sys → ((p q : Port) → IsPortOf sys p → IsPortOf sys q → port_text sys p ≡ port_text sys q → p ≡ q) → (form : Form) (l m : Line) (text : List ℕ)
    → IsTextOf sys form l text → IsTextOf sys form m text → IsSameLine form l m
line_once_by sys names one form l m text is other =
    let last = is.line.range.tick in
    let second = other.line.range.tick in
    let after = after_once sys form l m is.line other.line (sym is.is ∙ other.is) in
    let tick = number_once l.key.tick m.key.tick (port_text sys (port_of_line l) ++ line_end sys l) (port_text sys (port_of_line m) ++ line_end sys m) (omega (arith, last)) (omega (arith, second)) after.1 in
    let begins = line_begins sys l is.line in
    let begun : BeginsWith sys (port_text sys (port_of_line l) ++ line_end sys l) (port_of_line m) (line_end sys m) =
    subst (λ (u : List ℕ). BeginsWith sys u (port_of_line m) (line_end sys m)) (sym tick.1) (line_begins sys m other.line)
    in
    let once = begins_once sys _ (port_of_line l) (port_of_line m) (line_end sys l) (line_end sys m) names begins begun in
    let port = one (port_of_line l) (port_of_line m) begins.port begun.port once.0 in
    let instance : l.instance ≡ m.instance = ap (λ (p : Port). p.instance) port in
    let variables : line_variables sys l ≡ line_variables sys m = ap (λ (p : Port). line_variables sys (record l { instance = p.instance; event = p.event; taken = p.taken })) port in
    let ends : ending (line_variables sys l) l.values ≡ ending (line_variables sys l) m.values =
    once.1 ∙ ap (λ (ns : List Name). ending ns m.values) (sym variables)
    in
    record {
      tick = tick.0;
      resource = is.line.held ∙ ap (λ (i : ℕ). sys.resource (path_at sys i)) instance ∙ sym other.line.held;
      parts = after.0;
      taken = ap (λ (p : Port). p.taken) port;
      instance = instance;
      event = ap (λ (p : Port). p.event) port;
      values = values_once (line_variables sys l) l.values m.values is.line.belongs.values (other.line.belongs.values ∙ ap length (sym variables)) (line_small sys l is.line) (line_small sys m other.line) ends;
    }

pub line_once :
    (t : PortTable) → HasNames (system_of t.system.now) → (form : Form) (l m : Line) (text : List ℕ) → IsTextOf (system_of t.system.now) form l text → IsTextOf (system_of t.system.now) form m text
    → IsSameLine form l m
line_once t names form l m text is other = line_once_by (system_of t.system.now) names (same_port t) form l m text is other
