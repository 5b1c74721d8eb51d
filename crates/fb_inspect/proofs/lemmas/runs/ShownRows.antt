-- Rows of takings as a form shows them.
use Rattle.fb_inspect.proofs.lemmas.Common.{◌≡◌, ◌<◌, ℕ, List, [], ◌∷◌, ◌++◌, length, map, refl, sym, ap, subst, ◌∙◌, map-append, line_of, AtHorizon, AtStop, Ending, System, line_text, Form, One, Two, Steps, Divide, Range, IsInRange, IsTextOf, AreTakings, EndsSo, NoneStops, all_lines, last_look, IsTaking, Look, Taking, taking_lines}
use Rattle.fb_types.specs.States.{Line}
use Rattle.fb_types.specs.declared.run.Line as run
use Rattle.fb_inspect.proofs.lemmas.runs.Splits.{IsBasic}
use Rattle.fb_inspect.proofs.lemmas.lines.PlainKeys.{are_bare, bare, bare_taking, ends_bare, lines_bare, look_bare, none_bare, shown, taking_bare, takings_bare}

abbrev pub shown_lines : Form → List Line → List Line
shown_lines One ls = map bare ls
shown_lines Two ls = ls

abbrev pub shown_taking : Form → Taking → Taking
shown_taking One x = bare_taking x
shown_taking Two x = x

abbrev pub shown_takings : Form → List Taking → List Taking
shown_takings One xs = map bare_taking xs
shown_takings Two xs = xs

pub all_shown : (form : Form) (xs : List Taking) → all_lines (shown_takings form xs) ≡ shown_lines form (all_lines xs)
all_shown One xs = lines_bare xs
all_shown Two xs = refl

pub both_shown : (form : Form) (ls ms : List Line) → shown_lines form (ls ++ ms) ≡ shown_lines form ls ++ shown_lines form ms
both_shown One ls ms = map-append bare ls ms
both_shown Two ls ms = refl

pub one_shown : (form : Form) (l : Line) (ls : List Line) → shown_lines form (l ∷ ls) ≡ shown form l ∷ shown_lines form ls
one_shown One l ls = refl
one_shown Two l ls = refl

pub joined_shown : (form : Form) (xs : List Taking) (z : Taking) (zs : List Taking) → shown_takings form (xs ++ z ∷ zs) ≡ shown_takings form xs ++ shown_taking form z ∷ shown_takings form zs
joined_shown One xs z zs = map-append bare_taking xs (z ∷ zs)
joined_shown Two xs z zs = refl

pub lines_shown : (form : Form) (x : Taking) → taking_lines (shown_taking form x) ≡ shown_lines form (taking_lines x)
lines_shown One x = taking_bare x
lines_shown Two x = refl

pub first_shown : (form : Form) (x : Taking) → (shown_taking form x).first ≡ shown form x.first
first_shown One x = refl
first_shown Two x = refl

pub after_shown : (form : Form) (x : Taking) → (shown_taking form x).after ≡ x.after
after_shown One x = refl
after_shown Two x = refl

pub stop_shown : (form : Form) (x : Taking) → (shown_taking form x).stop ≡ x.stop
stop_shown One x = refl
stop_shown Two x = refl

pub tick_shown : (form : Form) (l : Line) → (shown form l).key.tick ≡ l.key.tick
tick_shown One l = refl
tick_shown Two l = refl

pub resource_shown : (form : Form) (l : Line) → (shown form l).key.resource ≡ l.key.resource
resource_shown One l = refl
resource_shown Two l = refl

pub at_shown : (form : Form) (l : Line) → (shown form l).at ≡ l.at
at_shown One l = refl
at_shown Two l = refl

pub taken_shown : (form : Form) (l : Line) → (shown form l).taken ≡ l.taken
taken_shown One l = refl
taken_shown Two l = refl

pub chain_shown : (sys : System) (form : Form) (limit : ℕ) (look : Look) (xs : List Taking) → AreTakings sys limit look xs → AreTakings sys limit look (shown_takings form xs)
chain_shown sys One limit look xs h = are_bare sys limit look xs h
chain_shown sys Two limit look xs h = h

pub takings_shown : (sys : System) (form : Form) (limit : ℕ) (look : Look) (x : Taking) → IsTaking sys limit look x → IsTaking sys limit look (shown_taking form x)
takings_shown sys One limit look x h = takings_bare sys limit look x h
takings_shown sys Two limit look x h = h

pub none_shown : (form : Form) (xs : List Taking) → NoneStops xs → NoneStops (shown_takings form xs)
none_shown One xs h = none_bare xs h
none_shown Two xs h = h

pub look_shown : (form : Form) (look : Look) (xs : List Taking) → last_look look (shown_takings form xs) ≡ last_look look xs
look_shown One look xs = look_bare look xs
look_shown Two look xs = refl

-- ---- A line by numbers that a form shows as another one

-- The line of a text, with the key of a line that its form shows alike.
pub record IsLike (sys : System) (form : Form) (line : List ℕ) (l : Line) : Type 0 where
  pub number : run.Line
  pub text : IsTextOf sys form number line
  pub is : line_of sys number ≡ l
  pub key : number.key ≡ l.key

pub like : (sys : System) (form : Form) (line : List ℕ) (l : Line) (m : run.Line) → shown form l ≡ shown form (line_of sys m) → IsTextOf sys form m line → IsInRange l.key → IsLike sys form line l
like sys Two line l m same text range = record { number = m; text = text; is = sym same; key = ap (λ (x : Line). x.key) (sym same) }
like sys One line l m same text range =
    let number : run.Line = record m { key = l.key } in
    let is : line_of sys number ≡ l = ap (λ (x : Line). record x { key = l.key }) (sym same) in
    let resource : l.key.resource ≡ m.key.resource = ap (λ (x : Line). x.key.resource) same in
    let its = text.line in
    record {
      number = number;
      text = record {
        line = record {
          range = range;
          small = its.small;
          belongs = record {
            instance = its.belongs.instance;
            resource = subst (λ (r : ℕ). r < length sys.resource_names) (sym resource) its.belongs.resource;
            event = its.belongs.event;
            values = its.belongs.values;
          };
          held = resource ∙ its.held;
          indexes = its.indexes;
          stand = its.stand;
          typed = its.typed;
        };
        is = text.is ∙ ap (line_text One sys) (sym same) ∙ ap (line_text One sys) (sym is);
      };
      is = is;
      key = refl;
    }

-- ---- Rows that end as a run

pub two_heads : {X : Type 0} (x y : X) (xs ys : List X) → x ∷ xs ≡ y ∷ ys → (x ≡ y) × (xs ≡ ys)
two_heads x y xs ys e = (cc, cc)

-- the last taking of a row that a form shows
pub unshown : (form : Form) (ys front : List Taking) (z : Taking) → shown_takings form ys ≡ front ++ z ∷ [] → (g : List Taking) × (w : Taking) × (ys ≡ g ++ w ∷ []) × (shown_taking form w ≡ z) × (shown_takings form g ≡ front)
unshown Two ys front z e = (front, z, e, refl, refl)
unshown One [] [] z e = absurd (let clash : [] ≡ z ∷ [] = e in cc)
unshown One [] (y ∷ front) z e = absurd (let clash : [] ≡ y ∷ (front ++ z ∷ []) = e in cc)
unshown One (y ∷ []) [] z e = ([], y, refl, (two_heads (bare_taking y) z [] [] e).0, refl)
unshown One (y ∷ x ∷ ys) [] z e = absurd (let clash : bare_taking x ∷ map bare_taking ys ≡ [] = (two_heads (bare_taking y) z (bare_taking x ∷ map bare_taking ys) [] e).1 in cc)
unshown One (y ∷ ys) (x ∷ front) z e =
    let h = two_heads (bare_taking y) x (map bare_taking ys) (front ++ z ∷ []) e in
    let rest = unshown One ys front z h.1 in
    (y ∷ rest.0, rest.1, ap (λ (ts : List Taking). y ∷ ts) rest.2, rest.3, ap (λ (ts : List Taking). bare_taking y ∷ ts) rest.4 ∙ ap (λ (v : Taking). v ∷ front) h.0)

-- Where no taking ends a row for its steps, its last taking is of no basic block of that resource in that tick.
abbrev pub JudgesLast : (sys : System) (limit : ℕ) (takings : List Taking) (end : Ending) → EndsSo sys limit takings end → Type 0
JudgesLast sys limit takings (AtHorizon h) e = Unit {0}
JudgesLast sys limit takings (AtStop t r Steps) e =
    e.limited_so.last ≡ [] → (front : List Taking) (z : Taking) → e.limited_so.before ≡ front ++ z ∷ [] → IsBasic sys z.first → z.first.key.tick ≡ t → z.first.key.resource ≡ r → ⊥
JudgesLast sys limit takings (AtStop t r Divide) e = Unit {0}
JudgesLast sys limit takings (AtStop t r Range) e = Unit {0}

abbrev pub ends_shown : (sys : System) (form : Form) (limit : ℕ) (takings : List Taking) (end : Ending) → EndsSo sys limit takings end → EndsSo sys limit (shown_takings form takings) end
ends_shown sys One limit takings end e = ends_bare sys limit takings end e
ends_shown sys Two limit takings end e = e

pub no_takings : (form : Form) (xs : List Taking) → shown_takings form xs ≡ [] → xs ≡ []
no_takings Two xs e = e
no_takings One [] e = refl
no_takings One (x ∷ xs) e = absurd (let clash : bare_taking x ∷ map bare_taking xs ≡ [] = e in cc)

pub exact_shown : (sys : System) (limit : ℕ) (form : Form) (takings : List Taking) (end : Ending) (e : EndsSo sys limit takings end) → JudgesLast sys limit takings end e
    → JudgesLast sys limit (shown_takings form takings) end (ends_shown sys form limit takings end e)
exact_shown sys limit Two takings end e h = h
exact_shown sys limit One takings (AtHorizon n) e h = tt
exact_shown sys limit One takings (AtStop t r Steps) e h =
    λ none front z parts basic tick resource.
    let w = unshown One e.limited_so.before front z parts in
    h (no_takings One e.limited_so.last none) w.0 w.1 w.2 (basic.0, ap (λ (v : Taking). sys.kind v.first.at) w.3 ∙ basic.1) (ap (λ (v : Taking). v.first.key.tick) w.3 ∙ tick) (ap (λ (v : Taking). v.first.key.resource) w.3 ∙ resource)
exact_shown sys limit One takings (AtStop t r Divide) e h = tt
exact_shown sys limit One takings (AtStop t r Range) e h = tt
