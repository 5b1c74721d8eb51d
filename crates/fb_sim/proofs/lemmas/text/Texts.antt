-- The text of a trace that is written piece by piece, with the counts of its bytes.
use Rattle.fb_sim.proofs.lemmas.Common.{◌≡◌, ℕ, zero, suc, ◌+◌, ◌^◌, ◌<◌, List, [], ◌∷◌, ◌++◌, map, length, take, Option, Result, Ok, Err, refl, sym, ap, ap₂, ◌∙◌, subst, arith, append_assoc, append-nil, length-append, get_or, drop, take-append-drop, Vec, IfOk, Appends, Appends-trans, take_more, Inputs, system_of, line_of, lines_text, Form, Lists, flat, IsPartWritten, bounded, IsMerged, IsMergedText, all_bytes}
use Rattle.fb_types.proofs.Common.{map-append, System, line_text}
use native.Mathlib.Nat.{le_refl}
use denote.RawPtr.{null_ptr}
use Rattle.std.specs.Global.{Global}
use Rattle.std.specs.Prelude.{IsOkAnd}
use Rattle.std.proofs.lemmas.List.Sorted.{length_permutation}
use Rattle.fb_types.specs.States.{Line}
use Rattle.fb_types.specs.declared.run.Line as run
use Rattle.fb_sim.specs.MergedText.{AreDivided}
use Rattle.fb_sim.proofs.lemmas.text.Sorting.{woven_of}
use Rattle.fb_sim.proofs.lemmas.text.MergedText.{woven_joined, woven_merged}

-- the text of lines, and then of more lines
pub lines_text-append : (form : Form) (sys : System) (ks ls : List Line) → lines_text form sys (ks ++ ls) ≡ lines_text form sys ks ++ lines_text form sys ls
lines_text-append form sys [] ls = refl
lines_text-append form sys (k ∷ ks) ls =
    ap (λ (t : List ℕ). line_text form sys k ++ t) (lines_text-append form sys ks ls)
    ∙ sym (append_assoc (line_text form sys k) (lines_text form sys ks) (lines_text form sys ls))

-- the text of two parts of lines, one after the other
pub parts_text : (form : Form) (sys : System) (xs ys zs : List run.Line) → zs ≡ xs ++ ys
    → lines_text form sys (map (line_of sys) xs) ++ lines_text form sys (map (line_of sys) ys) ≡ lines_text form sys (map (line_of sys) zs)
parts_text form sys xs ys zs e =
    sym (lines_text-append form sys (map (line_of sys) xs) (map (line_of sys) ys))
    ∙ ap (lines_text form sys) (sym (map-append (line_of sys) xs ys))
    ∙ ap (λ (ls : List run.Line). lines_text form sys (map (line_of sys) ls)) (sym e)

-- the texts of two parts of lists, one after the other
pub merged_text-joined : (i : Inputs) (form : Form) (lists firsts lasts : List (List run.Line)) → AreDivided lists firsts lasts → (x y : List ℕ)
    → IsMergedText i form firsts x → IsMergedText i form lasts y → IsMergedText i form lists (x ++ y)
merged_text-joined i form lists firsts lasts cut x y a b = record {
  all = a.all ++ b.all;
  woven = woven_joined lists firsts lasts cut a.all b.all a.woven b.woven;
  is = ap₂ ◌++◌ a.is b.is ∙ parts_text form (system_of i) a.all b.all (a.all ++ b.all) refl;
}

-- texts, and one more after them
pub last_joined : {E : Type 0} (i : Inputs) (form : Form) (lists firsts lasts : List (List run.Line)) → AreDivided lists firsts lasts
    → (a : Result (Vec (Vec ℕ)) E) (b : Result (Vec ℕ) E) (all : List ℕ) → IsOkAnd a (λ ts. IsOkAnd b (λ t. all ≡ all_bytes ts.items ++ t.items))
    → IfOk a (λ v. IsMergedText i form firsts (all_bytes v.items)) → IfOk b (λ v. IsMergedText i form lasts v.items) → IsMergedText i form lists all
last_joined i form lists firsts lasts cut (Ok ts) (Ok t) all is x y =
    subst (IsMergedText i form lists) (sym is) (merged_text-joined i form lists firsts lasts cut (all_bytes ts.items) t.items x y)
last_joined i form lists firsts lasts cut (Ok ts) (Err e) all is x y = absurd is
last_joined i form lists firsts lasts cut (Err e) b all is x y = absurd is

-- one text, after none
pub one_joined : {E : Type 0} (i : Inputs) (form : Form) (lists : List (List run.Line)) (a : Result (Vec (Vec ℕ)) E) (first : Vec (Vec ℕ)) (b : Result (Vec ℕ) E) → first.items ≡ []
    → IfOk a (λ v. IsOkAnd {E = E} (Ok first) (λ ts. IsOkAnd b (λ t. all_bytes v.items ≡ all_bytes ts.items ++ t.items)))
    → IfOk b (λ v. IsMergedText i form lists v.items) → IfOk a (λ v. IsMergedText i form lists (all_bytes v.items))
one_joined i form lists (Ok v) first (Ok t) none is x =
    subst (IsMergedText i form lists) (sym (is ∙ ap (λ (vs : List (Vec ℕ)). all_bytes vs ++ t.items) none)) x
one_joined i form lists (Ok v) first (Err e) none is x = absurd is
one_joined i form lists (Err e) first b none is x = tt

-- a list of these lines
abbrev pub vec_of : Global → (xs : List run.Line) → length xs < 2 ^ 63 → Vec run.Line
vec_of heap xs small = record { ptr = null_ptr; len = length xs; cap = length xs; alloc = heap; items = xs; ok = (refl, le_refl (length xs)); small = small }

-- the lines that a text of this many lines is of
pub handed : (i : Inputs) (form : Form) (heap : Global) (lists : Lists) (count : ℕ) (text : List ℕ) → IsMergedText i form (map (λ v. v.items) lists) text
    → count < 10 ^ 12 → count ≡ length (flat lists) → (all : Vec run.Line) × IsMerged lists all.items × (text ≡ lines_text form (system_of i) (map (line_of (system_of i)) all.items)) × (count ≡ length all.items)
handed i form heap lists count text t few counted =
    let m = woven_merged lists t.all t.woven in
    let long : length (flat lists) ≡ length t.all = sym (length_permutation (flat lists) t.all m.moved) in
    (vec_of heap t.all (omega (arith, few, counted, long)), m, t.is, counted ∙ long)

-- the lines of lists become one list, if they are as few as memory may have
pub merged_list : (heap : Global) (lists : Lists) (count : ℕ) → count < 10 ^ 12 → count ≡ length (flat lists) → (all : Vec run.Line) × IsMerged lists all.items
merged_list heap lists count few counted =
    let t = woven_of (map (λ v. v.items) lists) in
    let m = woven_merged lists t.0 t.1 in
    let long : length (flat lists) ≡ length t.0 = sym (length_permutation (flat lists) t.0 m.moved) in
    (vec_of heap t.0 (omega (arith, few, counted, long)), m)

-- ---- What is taken of two texts

take_front : (x y : List ℕ) (n : ℕ) → n < length x → take n (x ++ y) ≡ take n x
take_front [] y n b = absurd (omega arith)
take_front (a ∷ x) y zero b = refl
take_front (a ∷ x) y (suc n) b = ap (λ t. a ∷ t) (take_front x y n (omega arith))

take_after : (x y : List ℕ) (n : ℕ) → take (length x + n) (x ++ y) ≡ x ++ take n y
take_after [] y n = let e : 0 + n ≡ n = omega arith in ap (λ k. take k y) e
take_after (a ∷ x) y n =
    let e : length (a ∷ x) + n ≡ suc (length x + n) = omega arith in
    ap (λ k. take k (a ∷ x ++ y)) e ∙ ap (λ t. a ∷ t) (take_after x y n)

-- ---- Counts, which stop at the greatest

pub bounded-sum : (a b : ℕ) → bounded (bounded a + bounded b) ≡ bounded (a + b)
bounded-sum a b = omega arith

pub bounded-length : (x y : List ℕ) → bounded (bounded (length x) + bounded (length y)) ≡ bounded (length (x ++ y))
bounded-length x y = rw length-append (bounded-sum (length x) (length y))

-- a part of a text is a part of a longer one
pub part-before : {old new : Option (List ℕ)} {x : List ℕ} {n : ℕ} (y : List ℕ) → IsPartWritten old new x n → IsPartWritten old new (x ++ y) n
part-before {old} {new} {x} y p = record {
  count = p.count;
  short = let s = p.short in rw length-append (omega arith);
  got = subst (λ (t : List ℕ). Appends old new t) (sym (take_front x y p.count p.short)) p.got;
  counted = p.counted;
}

-- a part of a text, after one that was written whole
pub part-after : {old mid new : Option (List ℕ)} (x : List ℕ) {y : List ℕ} {n m : ℕ} → Appends old mid x → n ≡ bounded (length x) → IsPartWritten mid new y m → IsPartWritten old new (x ++ y) (bounded (n + m))
part-after {old} {mid} {new} x {y} {n} {m} got counted p = record {
  count = length x + p.count;
  short = let s = p.short in rw length-append (omega arith);
  got = subst (λ (t : List ℕ). Appends old new t) (sym (take_after x y p.count)) (Appends-trans old mid new x (take p.count y) got p.got);
  counted = let c = p.counted in omega arith;
}

-- ---- Texts, one after another

all_bytes-append : (vs ws : List (Vec ℕ)) → all_bytes (vs ++ ws) ≡ all_bytes vs ++ all_bytes ws
all_bytes-append [] ws = refl
all_bytes-append (v ∷ vs) ws = ap (λ z. v.items ++ z) (all_bytes-append vs ws) ∙ sym (append_assoc v.items (all_bytes vs) (all_bytes ws))

pub all_bytes-snoc : (vs : List (Vec ℕ)) (v : Vec ℕ) → all_bytes (vs ++ v ∷ []) ≡ all_bytes vs ++ v.items
all_bytes-snoc vs v = all_bytes-append vs (v ∷ []) ∙ ap (λ z. all_bytes vs ++ z) (append-nil v.items)

pub all_bytes-parts : (i : ℕ) (vs : List (Vec ℕ)) → all_bytes (take i vs) ++ all_bytes (drop i vs) ≡ all_bytes vs
all_bytes-parts i vs = sym (all_bytes-append (take i vs) (drop i vs)) ∙ ap all_bytes (take-append-drop i vs)

pub all_bytes-more : (vs : List (Vec ℕ)) (i : ℕ) (v : Vec ℕ) → i < length vs → v ≡ get_or vs i v → all_bytes (take (i + 1) vs) ≡ all_bytes (take i vs) ++ v.items
all_bytes-more vs i v within read = ap all_bytes (take_more vs i v within ∙ ap (λ z. take i vs ++ z ∷ []) (sym read)) ∙ all_bytes-snoc (take i vs) v
