-- A network laid out instance by instance: what is laid out so far, and what is left.
use Rattle.fb_system.proofs.lemmas.Common.{◌≡◌, ℕ, zero, suc, ◌+◌, ◌≤◌, ◌<◌, List, [], ◌∷◌, ◌++◌, length, get_or, Option, Some, None, refl, sym, ◌∙◌, ap, subst, arith, append_assoc, slice_get, slice_get_read, length-append, append-nil, Library, Instance, Network, NetworkNumbers, Resolved, TypeNumber, InstanceRow, layer, network_inside}
use Rattle.fb_types.proofs.Common.{drop}
use Rattle.fb_system.specs.Layers.{Around, Layer, no_layer, layer_of, layer_inside, layer_among, row_under, with_components}

-- ---- The rest of a list

pub drop_at : {A : Type 0} (xs : List A) (k : ℕ) (x : A) → slice_get xs k ≡ Some x → drop k xs ≡ x ∷ drop (suc k) xs
drop_at [] k x h = absurd (cc)
drop_at (y ∷ ys) zero x h = let e : y ≡ x = cc in ap (λ z. z ∷ ys) e
drop_at (y ∷ ys) (suc k) x h = drop_at ys k x h

pub drop_past : {A : Type 0} (xs : List A) (k : ℕ) → slice_get xs k ≡ None → drop k xs ≡ []
drop_past [] zero h = refl
drop_past [] (suc k) h = refl
drop_past (y ∷ ys) zero h = absurd (cc)
drop_past (y ∷ ys) (suc k) h = drop_past ys k h

-- the instance at an index
pub instance_at : (is : List Instance) (k : ℕ) (i : Instance) → k < length is → i ≡ get_or is k i → slice_get is k ≡ Some i
instance_at is k i h e = slice_get_read is (length is) k i refl h e

-- ---- What is left

abbrev pub left : ℕ → Library → Resolved → Around → (number index : ℕ) → List Instance → List TypeNumber → Layer
left b lib r o number index is ts = layer_among (layer b lib r) lib r o number index (drop index is) (drop index ts)

pub record AreLaid (all rest : Layer) (index : ℕ) (rows : List InstanceRow) (numbers : List ℕ) : Type 0 where
  pub rows_are : rows ++ rest.rows ≡ all.rows
  pub numbers_are : numbers ++ rest.numbers ≡ all.numbers
  pub few : index ≤ length rows

pub first_laid :
    (d b : ℕ) (lib : Library) (r : Resolved) (o : Around) (first n : ℕ) (net : Network) (is : List Instance) (ts : List TypeNumber) (rows : List InstanceRow) (numbers : List ℕ)
    → d ≡ suc b → is ≡ net.instances → rows ≡ [] → numbers ≡ [] → n ≡ first + length rows
    → AreLaid (layer d lib r o first net ts) (left b lib r o n 0 is ts) 0 rows numbers
unfolding layer
first_laid d b lib r o first n net is ts rows numbers deep same none no_numbers e =
    let all : layer d lib r o first net ts ≡ left b lib r o first 0 net.instances ts = ap (λ d. layer d lib r o first net ts) deep in
    let at : n ≡ first = e ∙ ap (λ (rows : List InstanceRow). first + length rows) none ∙ (let z : first + 0 ≡ first = omega arith in z) in
    let rest : left b lib r o n 0 is ts ≡ layer d lib r o first net ts =
    ap (λ n. left b lib r o n 0 is ts) at ∙ ap (λ (is : List Instance). left b lib r o first 0 is ts) same ∙ sym all in
    record {
      rows_are = ap (λ (xs : List InstanceRow). xs ++ (left b lib r o n 0 is ts).rows) none ∙ ap (λ (l : Layer). l.rows) rest;
      numbers_are = ap (λ (xs : List ℕ). xs ++ (left b lib r o n 0 is ts).numbers) no_numbers ∙ ap (λ (l : Layer). l.numbers) rest;
      few = omega arith;
    }

-- what is left begins with the next instance
left_next :
    (b : ℕ) (lib : Library) (r : Resolved) (o : Around) (number index : ℕ) (is : List Instance) (ts : List TypeNumber) (i : Instance) (t : TypeNumber)
    → slice_get is index ≡ Some i → slice_get ts index ≡ Some t
    → left b lib r o number index is ts
    ≡ layer_of number (row_under o i t index []) (layer_inside (layer b lib r) number (row_under o i t index []) (network_inside lib r t))
    (left b lib r o (number + 1 + length (layer_inside (layer b lib r) number (row_under o i t index []) (network_inside lib r t)).rows) (index + 1) is ts)
left_next b lib r o number index is ts i t h g =
    let one : suc index ≡ index + 1 = omega arith in
    let all_is : drop index is ≡ i ∷ drop (index + 1) is = drop_at is index i h ∙ ap (λ k. i ∷ drop k is) one in
    let all_ts : drop index ts ≡ t ∷ drop (index + 1) ts = drop_at ts index t g ∙ ap (λ k. t ∷ drop k ts) one in
    ap (λ (is : List Instance). layer_among (layer b lib r) lib r o number index is (drop index ts)) all_is
    ∙ ap (λ (ts : List TypeNumber). layer_among (layer b lib r) lib r o number index (i ∷ drop (index + 1) is) ts) all_ts

same_layer : (a b : Layer) → a.rows ≡ b.rows → a.numbers ≡ b.numbers → a ≡ b
same_layer a b rows numbers = λ i. record { rows = rows i; numbers = numbers i }

-- nothing is laid out inside an instance with no network
pub below_none :
    (inside : Around → ℕ → Network → List TypeNumber → Layer) (number : ℕ) (row : InstanceRow) (o : Option (Network × NetworkNumbers)) (l : Layer)
    → None ≡ o → l.rows ≡ [] → l.numbers ≡ [] → l ≡ layer_inside inside number row o
below_none inside number row o l h rows numbers = same_layer l no_layer rows numbers ∙ ap (layer_inside inside number row) h

pub below_some :
    (inside : Around → ℕ → Network → List TypeNumber → Layer) (number : ℕ) (row : InstanceRow) (o : Option (Network × NetworkNumbers)) (n : Network × NetworkNumbers) (l : Layer)
    → Some n ≡ o → l.rows ≡ (inside (Some (number, row)) (number + 1) n.0 n.1.types).rows → l.numbers ≡ (inside (Some (number, row)) (number + 1) n.0 n.1.types).numbers
    → l ≡ layer_inside inside number row o
below_some inside number row o n l h rows numbers =
    same_layer l (inside (Some (number, row)) (number + 1) n.0 n.1.types) rows numbers ∙ ap (layer_inside inside number row) h

-- the same at a number that is written differently
numbered_so :
    (b : ℕ) (lib : Library) (r : Resolved) (o : Around) (n number index : ℕ) (is : List Instance) (ts : List TypeNumber) (all : Layer) (rows : List InstanceRow) (numbers : List ℕ)
    → number ≡ n → AreLaid all (left b lib r o n index is ts) index rows numbers → AreLaid all (left b lib r o number index is ts) index rows numbers
numbered_so b lib r o n number index is ts all rows numbers e so_far =
    subst (λ n. AreLaid all (left b lib r o n index is ts) index rows numbers) (sym e) so_far

pub next_laid :
    (b : ℕ) (lib : Library) (r : Resolved) (o : Around) (first number index : ℕ) (is : List Instance) (ts : List TypeNumber) (i : Instance) (t : TypeNumber)
    (row : InstanceRow) (below : Layer) (all : Layer) (rows more : List InstanceRow) (numbers more_numbers : List ℕ)
    → slice_get is index ≡ Some i → slice_get ts index ≡ Some t → row ≡ row_under o i t index []
    → below ≡ layer_inside (layer b lib r) number row (network_inside lib r t) → number ≡ first + length rows
    → AreLaid all (left b lib r o (first + length rows) index is ts) index rows numbers
    → more ≡ rows ++ with_components row below.numbers ∷ below.rows → more_numbers ≡ numbers ++ number ∷ []
    → AreLaid all (left b lib r o (first + length more) (index + 1) is ts) (index + 1) more more_numbers
next_laid b lib r o first number index is ts i t row below all rows more numbers more_numbers h g row_is below_is at so_far_there grown counted =
    let so_far = numbered_so b lib r o (first + length rows) number index is ts all rows numbers at so_far_there in
    let below_at : below ≡ layer_inside (layer b lib r) number (row_under o i t index []) (network_inside lib r t) =
    below_is ∙ ap (λ (row : InstanceRow). layer_inside (layer b lib r) number row (network_inside lib r t)) row_is in
    let long : length more ≡ length rows + suc (length below.rows) =
    ap length grown ∙ length-append rows (with_components row below.numbers ∷ below.rows) in
    let number_is : number + 1 + length below.rows ≡ first + length more = omega (arith, long, at) in
    let rest_is : left b lib r o number index is ts ≡ layer_of number row below (left b lib r o (first + length more) (index + 1) is ts) =
    left_next b lib r o number index is ts i t h g
    ∙ ap (λ (below : Layer). layer_of number (row_under o i t index []) below (left b lib r o (number + 1 + length below.rows) (index + 1) is ts)) (sym below_at)
    ∙ ap (λ n. layer_of number (row_under o i t index []) below (left b lib r o n (index + 1) is ts)) number_is
    ∙ ap (λ (row : InstanceRow). layer_of number row below (left b lib r o (first + length more) (index + 1) is ts)) (sym row_is) in
    let rest = left b lib r o (first + length more) (index + 1) is ts in
    record {
      rows_are = ap (λ (xs : List InstanceRow). xs ++ rest.rows) grown ∙ append_assoc rows (with_components row below.numbers ∷ below.rows) rest.rows
          ∙ ap (λ (l : Layer). rows ++ l.rows) (sym rest_is) ∙ so_far.rows_are;
      numbers_are = ap (λ (xs : List ℕ). xs ++ rest.numbers) counted ∙ append_assoc numbers (number ∷ []) rest.numbers
          ∙ ap (λ (l : Layer). numbers ++ l.numbers) (sym rest_is) ∙ so_far.numbers_are;
      few = omega (arith, long, so_far.few);
    }

-- the room that is left for what is inside the next instance
pub room_inside :
    (b : ℕ) (lib : Library) (r : Resolved) (o : Around) (first number index : ℕ) (is : List Instance) (ts : List TypeNumber) (i : Instance) (t : TypeNumber)
    (row : InstanceRow) (all : Layer) (rows : List InstanceRow) (numbers : List ℕ)
    → slice_get is index ≡ Some i → slice_get ts index ≡ Some t → row ≡ row_under o i t index []
    → AreLaid all (left b lib r o (first + length rows) index is ts) index rows numbers → number ≡ first + length rows → first + length all.rows ≤ 4096
    → (number + 1) + length (layer_inside (layer b lib r) number row (network_inside lib r t)).rows ≤ 4096
room_inside b lib r o first number index is ts i t row all rows numbers h g row_is so_far_there at few =
    let so_far = numbered_so b lib r o (first + length rows) number index is ts all rows numbers at so_far_there in
    let below = layer_inside (layer b lib r) number (row_under o i t index []) (network_inside lib r t) in
    let rest = left b lib r o (number + 1 + length below.rows) (index + 1) is ts in
    let rest_is = left_next b lib r o number index is ts i t h g in
    let total : length rows + suc (length (below.rows ++ rest.rows)) ≡ length all.rows =
    sym (length-append rows (layer_of number (row_under o i t index []) below rest).rows)
    ∙ ap (λ (l : Layer). length (rows ++ l.rows)) (sym rest_is) ∙ ap length so_far.rows_are in
    let same : length (layer_inside (layer b lib r) number row (network_inside lib r t)).rows ≡ length below.rows =
    ap (λ (row : InstanceRow). length (layer_inside (layer b lib r) number row (network_inside lib r t)).rows) row_is in
    let parts : length (below.rows ++ rest.rows) ≡ length below.rows + length rest.rows = length-append below.rows rest.rows in
    omega (arith, total, same, parts, at, few)

-- ---- The end

at_end : (rest all : Layer) (index : ℕ) (rows : List InstanceRow) (numbers : List ℕ) → rest ≡ no_layer → AreLaid all rest index rows numbers → (rows ≡ all.rows) × (numbers ≡ all.numbers)
at_end rest all index rows numbers none so_far = (
  sym (append-nil rows) ∙ ap (λ (l : Layer). rows ++ l.rows) (sym none) ∙ so_far.rows_are,
  sym (append-nil numbers) ∙ ap (λ (l : Layer). numbers ++ l.numbers) (sym none) ∙ so_far.numbers_are,
)

-- where no type is left
pub all_typed :
    (b : ℕ) (lib : Library) (r : Resolved) (o : Around) (number index : ℕ) (is : List Instance) (ts : List TypeNumber) (i : Instance) (all : Layer) (rows : List InstanceRow) (numbers : List ℕ)
    → slice_get is index ≡ Some i → slice_get ts index ≡ None → AreLaid all (left b lib r o number index is ts) index rows numbers → (rows ≡ all.rows) × (numbers ≡ all.numbers)
all_typed b lib r o number index is ts i all rows numbers h g so_far =
    let none : left b lib r o number index is ts ≡ no_layer =
    ap (λ (is : List Instance). layer_among (layer b lib r) lib r o number index is (drop index ts)) (drop_at is index i h)
    ∙ ap (λ (ts : List TypeNumber). layer_among (layer b lib r) lib r o number index (i ∷ drop (suc index) is) ts) (drop_past ts index g) in
    at_end (left b lib r o number index is ts) all index rows numbers none so_far

-- a network no name deep
pub none_deep :
    (d : ℕ) (lib : Library) (r : Resolved) (o : Around) (first : ℕ) (net : Network) (ts : List TypeNumber) → d ≡ 0 → layer d lib r o first net ts ≡ no_layer
unfolding layer
none_deep d lib r o first net ts h = ap (λ d. layer d lib r o first net ts) h
