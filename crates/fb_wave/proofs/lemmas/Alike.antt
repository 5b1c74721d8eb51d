-- No two ports of a system with names are written alike.
use Rattle.fb_wave.proofs.lemmas.Common.{◌≡◌, ℕ, zero, suc, ◌<◌, ◌≤◌, Bool, true, false, List, [], ◌∷◌, ◌++◌, length, map, codes, Contains, Some, refl, sym, ap, subst, ◌∙◌, inl, inr, arith, append_assoc, All, not, ◌||◌, ◌==◌, slice_get, unwrap_or, list_all, and_from, and_parts, false≢true, leb-true, ne_eqb, not_from_false, length-map, All-head, All-tail, list_all-append, event_names, Inputs, system_of, Name, Path, event_at, path_at, Twice, path_text, EventPort, AreNames, HasNames, is_digit, is_name, IsPortOf, port_text, side, Port}
use Rattle.fb_types.proofs.Common.{or_cases, AreAccepted}
use Rattle.fb_types.proofs.lemmas.lists.ByIndex.{all_at, index_of_element}
use Rattle.fb_types.proofs.lemmas.lists.Elements.{Contains-cons_cases, Contains-here, map-Contains}
use Rattle.fb_wave.specs.Named.{is_letter}
use Rattle.fb_wave.specs.Nested.{AreNumbered}
use Rattle.fb_wave.proofs.lemmas.Finding.{begins_three, one_index, sign, three_words}
use Rattle.fb_wave.proofs.lemmas.Known.{events_once, path_some}
use Rattle.fb_wave.proofs.lemmas.Lining.{event_named, path_named}
use Rattle.fb_wave.proofs.lemmas.Plain.{letter_low, names_rest}
use Rattle.fb_wave.proofs.lemmas.Porting.{port_is}

-- ---- Names have no full stop

abbrev is_dotless : List ℕ → Bool
is_dotless text = list_all (λ b. not (b == 46)) text

more_dotless : (bs : List ℕ) → list_all (λ c. is_letter c || is_digit c) bs ≡ true → is_dotless bs ≡ true
more_dotless [] h = refl
more_dotless (b ∷ bs) h =
    let parts = and_parts (is_letter b || is_digit b) (list_all (λ c. is_letter c || is_digit c) bs) h in
    let high : 47 ≤ b =
    elim (or_cases (is_letter b) (is_digit b) parts.0) [
      | inl letter ↦ (let low = letter_low b letter in omega (arith, low))
      | inr digit ↦ (let low = leb-true 48 b (and_parts _ _ digit).0 in omega (arith, low))
    ]
    in
    and_from (not (b == 46)) (is_dotless bs) (not_from_false (b == 46) (ne_eqb b 46 (λ e. omega (arith, e, high)))) (more_dotless bs parts.1)

name_dotless : (n : Name) → is_name n ≡ true → is_dotless n ≡ true
name_dotless [] h = refl
name_dotless (b ∷ bs) h =
    let parts = and_parts (is_letter b) (list_all (λ c. is_letter c || is_digit c) bs) h in
    let low = letter_low b parts.0 in
    and_from (not (b == 46)) (is_dotless bs) (not_from_false (b == 46) (ne_eqb b 46 (λ e. omega (arith, e, low)))) (more_dotless bs parts.1)

-- ---- Names joined by full stops distinguish each name

has_dot : (n xs m : List ℕ) → is_dotless n ≡ true → n ≡ xs ++ 46 ∷ m → ⊥
has_dot n xs m free e =
    let parts = and_parts (is_dotless xs) (is_dotless (46 ∷ m)) (sym (list_all-append (λ (b : ℕ). not (b == 46)) xs (46 ∷ m)) ∙ ap is_dotless (sym e) ∙ free) in
    false≢true parts.1

dot_last : (xs ys n m : List ℕ) → is_dotless n ≡ true → is_dotless m ≡ true → xs ++ 46 ∷ n ≡ ys ++ 46 ∷ m → (n ≡ m) × (xs ≡ ys)
dot_last [] [] n m free other e = (cc, refl)
dot_last [] (y ∷ ys) n m free other e = absurd (has_dot n ys m free (cc))
dot_last (x ∷ xs) [] n m free other e = absurd (has_dot m xs n other (cc))
dot_last (x ∷ xs) (y ∷ ys) n m free other e =
    let first : x ≡ y = cc in
    let rest : xs ++ 46 ∷ n ≡ ys ++ 46 ∷ m = cc in
    let more = dot_last xs ys n m free other rest in
    let same : xs ≡ ys = more.1 in
    (more.0, (cc))

name_free : (n : Name) (ns : List Name) → AreNames (n ∷ ns) → is_dotless n ≡ true
name_free n ns are = name_dotless n (are n (Contains-here n ns))

joined : (p : Path) (n : Name) → (path_text p ++ codes ".") ++ n ≡ path_text p ++ 46 ∷ n
joined p n = append_assoc (path_text p) (codes ".") n

names_once : (n m : Name) (p q : List Name) → AreNames (n ∷ p) → AreNames (m ∷ q) → path_text (n ∷ p) ≡ path_text (m ∷ q) → (n ≡ m) × (p ≡ q)
names_once n m [] [] are other e = (e, refl)
names_once n m [] (k ∷ q) are other e = absurd (has_dot n (path_text (k ∷ q)) m (name_free n [] are) (e ∙ joined (k ∷ q) m))
names_once n m (h ∷ p) [] are other e = absurd (has_dot m (path_text (h ∷ p)) n (name_free m [] other) (sym e ∙ joined (h ∷ p) n))
names_once n m (h ∷ p) (k ∷ q) are other e =
    let last = dot_last (path_text (h ∷ p)) (path_text (k ∷ q)) n m (name_free n (h ∷ p) are) (name_free m (k ∷ q) other) (sym (joined (h ∷ p) n) ∙ e ∙ joined (k ∷ q) m) in
    let more = names_once h k p q (names_rest n (h ∷ p) are) (names_rest m (k ∷ q) other) last.1 in
    let one : h ≡ k = more.0 in
    let rest : p ≡ q = more.1 in
    (last.0, (cc))

-- ---- Ports

-- an event after a path is one more name
event_joined : (p : Path) (n : Name) → 0 < length p → (path_text p ++ codes ".") ++ n ≡ path_text (n ∷ p)
event_joined [] n some = absurd (omega (arith, some))
event_joined (m ∷ p) n some = refl

alone : (x y : ℕ) → x ∷ [] ≡ y ∷ [] → x ≡ y
alone x y e = cc

signs_differ : (a b : Bool) → sign a ≡ sign b → a ≡ b
signs_differ true true e = refl
signs_differ false false e = refl
signs_differ true false e = absurd (let first = alone 62 60 e in omega (arith, first))
signs_differ false true e = absurd (let first = alone 60 62 e in omega (arith, first))

some_at : (ns : List Name) (k : ℕ) → k < length ns → slice_get ns k ≡ Some (unwrap_or (slice_get ns k) [])
some_at [] k h = absurd (omega (arith, h))
some_at (n ∷ ns) zero h = refl
some_at (n ∷ ns) (suc k) h = some_at ns k (omega (arith, h))

event_once : (es : List EventPort) (j k : ℕ) → ¬ (Twice (event_names es)) → j < length es → k < length es → event_at es j ≡ event_at es k → j ≡ k
event_once es j k once one two e =
    let long = length-map es (λ (e : EventPort). e.name) in
    one_index (event_names es) once j k (event_at es k) (some_at (event_names es) j (omega (arith, one, long)) ∙ ap (λ (n : Name). Some n) e)
    (some_at (event_names es) k (omega (arith, two, long)))

cons_names : (n : Name) (ns : List Name) → is_name n ≡ true → AreNames ns → AreNames (n ∷ ns)
cons_names n ns one are m there = elim (Contains-cons_cases n ns m there) [ inl same ↦ subst (λ (k : Name). is_name k ≡ true) same one | inr rest ↦ are m rest ]

ports_differ :
    (i : Inputs) → AreAccepted i → AreNumbered (system_of i) → HasNames (system_of i) → (p q : Port) → IsPortOf (system_of i) p → IsPortOf (system_of i) q
    → port_text (system_of i) p ≡ port_text (system_of i) q → p ≡ q
ports_differ i accepted numbered names p q is other e =
    let sys = system_of i in
    let text = port_text sys p ++ 10 ∷ [] in
    let words = three_words text _ _ _ (10 ∷ []) _ _ _ (10 ∷ [])
    (begins_three sys text p (10 ∷ []) names (record { port = is; ended = refl; parts = refl }))
    (begins_three sys text q (10 ∷ []) names (record { port = other; ended = refl; parts = ap (λ (t : List ℕ). t ++ 10 ∷ []) e }))
    in
    let taken : p.taken ≡ q.taken = signs_differ p.taken q.taken words.1 in
    let event_p = event_at (side sys p.instance p.taken) p.event in
    let event_q = event_at (side sys q.instance q.taken) q.event in
    let joined = names_once event_p event_q (path_at sys p.instance) (path_at sys q.instance)
    (cons_names event_p (path_at sys p.instance) (event_named sys p names is) (path_named sys p.instance names is.instance))
    (cons_names event_q (path_at sys q.instance) (event_named sys q names other) (path_named sys q.instance names other.instance))
    (sym (event_joined (path_at sys p.instance) event_p (path_some i p.instance is.instance)) ∙ words.2
    ∙ event_joined (path_at sys q.instance) event_q (path_some i q.instance other.instance))
    in
    let instance : p.instance ≡ q.instance = sym (numbered p.instance is.instance) ∙ ap sys.number joined.1 ∙ numbered q.instance other.instance in
    let sides : side sys p.instance p.taken ≡ side sys q.instance q.taken = ap (λ (k : ℕ). side sys k p.taken) instance ∙ ap (side sys q.instance) taken in
    let event : p.event ≡ q.event =
    event_once (side sys q.instance q.taken) p.event q.event (events_once i accepted (path_at sys q.instance) q.taken)
    (subst (λ (es : List EventPort). p.event < length es) sides is.event) other.event
    (ap (λ (es : List EventPort). event_at es p.event) (sym sides) ∙ joined.0)
    in
    sym (port_is p p.instance p.event p.taken refl refl refl) ∙ port_is q p.instance p.event p.taken (sym instance) (sym event) (sym taken)

pub texts_differ :
    (i : Inputs) → AreAccepted i → AreNumbered (system_of i) → HasNames (system_of i) → (ports : List Port) → All (IsPortOf (system_of i)) ports → ¬ (Twice ports)
    → ¬ (Twice (map (port_text (system_of i)) ports))
texts_differ i accepted numbered names [] all once twice = twice
texts_differ i accepted numbered names (p ∷ ports) all once (inr twice) =
    texts_differ i accepted numbered names ports (All-tail (IsPortOf (system_of i)) p ports all) (λ t. once (inr t)) twice
texts_differ i accepted numbered names (p ∷ ports) all once (inl there) =
    let from = map-Contains (port_text (system_of i)) ports (port_text (system_of i) p) there in
    let at = index_of_element ports from.0 from.1 in
    let is = all_at (IsPortOf (system_of i)) ports at.0 from.0 (All-tail (IsPortOf (system_of i)) p ports all) at.1 in
    let same = ports_differ i accepted numbered names from.0 p is (All-head (IsPortOf (system_of i)) p ports all) from.2 in
    once (inl (subst (λ (q : Port). Contains ports q) same from.1))
