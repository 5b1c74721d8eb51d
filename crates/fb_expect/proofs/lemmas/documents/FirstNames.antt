-- Rules with the name of a rule before them.
use Rattle.fb_expect.proofs.lemmas.Common.{◌≡◌, ℕ, zero, suc, ◌+◌, ◌<◌, ◌≤◌, Bool, true, false, not, ◌&&◌, List, [], ◌∷◌, length, length-map, map, get_or, take, refl, sym, ap, ap₂, ◌∙◌, arith, true≢false, list_all, text_of, Text}
use Rattle.std.specs.List.{range_with_len}
use Rattle.std.proofs.lemmas.List.{get_or-map}
use Rattle.std.proofs.lemmas.List.Folds.{list_all_at}
use Rattle.std.proofs.lemmas.List.FromFn.{get_or-range_with_len, length-range_with_len}
use Rattle.fb_expect.specs.Drafts.{RuleText}
use Rattle.fb_expect.specs.OwnNames.{IsSecond, has_name, have_own_names, is_first_at}
use Rattle.fb_expect.specs.declared.document.Draft.{Draft}

-- ---- Indexes

and-assoc : (a b c : Bool) → (a && (b && c)) ≡ ((a && b) && c)
and-assoc true b c = refl
and-assoc false b c = refl

and-true : (b : Bool) → (b && true) ≡ b
and-true true = refl
and-true false = refl

all-more : (p : ℕ → Bool) (n a : ℕ) → list_all p (range_with_len a (suc n)) ≡ (list_all p (range_with_len a n) && p (a + n))
all-more p zero a = and-true (p a) ∙ ap p (let e : a ≡ a + 0 = omega arith in e)
all-more p (suc n) a =
    ap (λ (b : Bool). p a && b) (all-more p n (a + 1) ∙ ap (λ (k : ℕ). list_all p (range_with_len (a + 1) n) && p k) (let e : a + 1 + n ≡ a + suc n = omega arith in e))
    ∙ and-assoc (p a) (list_all p (range_with_len (a + 1) n)) (p (a + suc n))

pub first-more : (ts : List RuleText) (i : ℕ) → list_all (is_first_at ts) (range_with_len 0 i) ≡ true → is_first_at ts i ≡ true → list_all (is_first_at ts) (range_with_len 0 (i + 1)) ≡ true
first-more ts i all one =
    ap (λ (n : ℕ). list_all (is_first_at ts) (range_with_len 0 n)) (let e : i + 1 ≡ suc i = omega arith in e) ∙ all-more (is_first_at ts) i 0
    ∙ ap₂ (λ (a b : Bool). a && b) all (ap (is_first_at ts) (let e : 0 + i ≡ i = omega arith in e) ∙ one)

-- one has the name of a rule before it
pub some-second : (ts : List RuleText) (i : ℕ) → IsSecond ts i → true ≡ not (have_own_names ts)
some-second ts i it =
    let n = length ts in
    let long = length-range_with_len 0 n in
    let lt = it.within in
    let at : get_or (range_with_len 0 n) i 0 ≡ i = get_or-range_with_len 0 n i 0 lt ∙ (let e : 0 + i ≡ i = omega arith in e) in
    sym (ap not (list_all_at (is_first_at ts) (range_with_len 0 n) i 0 (omega (arith, long, lt)) (ap (is_first_at ts) at ∙ it.second)))

-- none has
pub none-second : (ts : List RuleText) (i : ℕ) → i ≡ length ts → list_all (is_first_at ts) (range_with_len 0 i) ≡ true → false ≡ not (have_own_names ts)
none-second ts i end all = sym (ap not (ap (λ (n : ℕ). list_all (is_first_at ts) (range_with_len 0 n)) (sym end) ∙ all))

-- ---- The name of a rule

take-seen : (ds : List Draft) (i : ℕ) → take i (map text_of ds) ≡ map text_of (take i ds)
take-seen [] zero = refl
take-seen [] (suc i) = refl
take-seen (d ∷ ds) zero = refl
take-seen (d ∷ ds) (suc i) = ap (λ (ts : List RuleText). text_of d ∷ ts) (take-seen ds i)

pub first-is :
    (ds : List Draft) (i : ℕ) (d : Draft) (b : Bool) → i < length ds → b ≡ has_name (get_or ds i d).name.now (map text_of (take i ds)) → is_first_at (map text_of ds) i ≡ not b
first-is ds i d b lt is =
    let name : get_or (map (λ (t : RuleText). t.name) (map text_of ds)) i [] ≡ (get_or ds i d).name.now =
    (let long = length-map ds text_of in
    get_or-map (λ (t : RuleText). t.name) (map text_of ds) i (text_of d) [] (omega (arith, long, lt))
    ∙ ap (λ (t : RuleText). t.name) (get_or-map text_of ds i d (text_of d) lt)) in
    ap not (ap₂ (λ (n : Text) (ts : List RuleText). has_name n ts) name (take-seen ds i) ∙ sym is)

pub second-at :
    (ds : List Draft) (i : ℕ) (d : Draft) (b : Bool) → i < length ds → b ≡ has_name (get_or ds i d).name.now (map text_of (take i ds)) → b ≡ true
    → list_all (is_first_at (map text_of ds)) (range_with_len 0 i) ≡ true → IsSecond (map text_of ds) i
second-at ds i d b lt is so before =
    let long = length-map ds text_of in
    record { within = omega (arith, long, lt); second = first-is ds i d b lt is ∙ ap not so; before = before }
