-- Names that are the same bytes, and names that are not.
use Rattle.fb_types.proofs.Common.{◌≡◌, ℕ, ◌<◌, Bool, true, false, List, [], ◌∷◌, length, get_or, cond, refl, sym, ap, ◌∙◌, arith, Some, None, nat_lt, not, position, unwrap_or, position_or_len, both_ways, nat_tests, slice_get-get_or, slice_get-map, event_at}
use Rattle.fb_types.specs.declared.library.EventPort.{EventPort}
use Rattle.std.proofs.Common.{Decides}
use Rattle.std.proofs.lemmas.List.Sums.{position_or_len_is}

-- what a test that two are not the same says
pub differ : {P : Type 0} (same r : Bool) → Decides same P → r ≡ not same → r ≡ true → P → ⊥
differ same r decides is apart p = both_ways r (is ∙ ap not (decides.1 p)) apart

so : (b : Bool) → not b ≡ false → b ≡ true
so true e = refl
so false e = absurd (cc)

pub alike : {P : Type 0} (same r : Bool) → Decides same P → r ≡ not same → r ≡ false → P
alike same r decides is close = decides.0 (so same (sym is ∙ close))

-- the name of the event at an index
pub same_event : (es : List EventPort) (k : ℕ) (d : EventPort) (bytes : List ℕ) → k < length es → bytes ≡ (get_or es k d).name → bytes ≡ event_at es k
same_event es k d bytes within named =
    let at : event_at es k ≡ (get_or es k d).name = rw (slice_get-map (λ (x : EventPort). x.name) es k, slice_get-get_or es k d within) refl in named ∙ sym at

-- the index of the first element that passes a test, or the number of them where none does
pub first_passing :
    {X : Type 0} (p : X → Bool) (xs : List X) (i : ℕ) (d : X) → i < length xs → ((k : ℕ) → k < i → p (get_or xs k d) ≡ false) → p (get_or xs i d) ≡ true
    → unwrap_or (position p xs) (length xs) ≡ i
first_passing p xs i d within before here =
    let at : position_or_len p xs ≡ i = position_or_len_is p xs i d (omega arith) before (λ _. here) in
    let there : nat_lt i (length xs) ≡ true = grind (arith, nat_tests) in
    ap (λ (n : ℕ). unwrap_or (cond (nat_lt n (length xs)) (Some n) None) (length xs)) at
    ∙ ap (λ (b : Bool). unwrap_or (cond b (Some i) None) (length xs)) there

none_of :
    {X : Type 0} (p : X → Bool) (xs : List X) (d : X) → ((k : ℕ) → k < length xs → p (get_or xs k d) ≡ false) → unwrap_or (position p xs) (length xs) ≡ length xs
none_of p xs d before =
    let all : ℕ = length xs in
    let at : position_or_len p xs ≡ all = position_or_len_is p xs all d (omega arith) before (λ lt. absurd (omega arith)) in
    let past : nat_lt all all ≡ false = grind (arith, nat_tests) in
    ap (λ (n : ℕ). unwrap_or (cond (nat_lt n all) (Some n) None) all) at ∙ ap (λ (b : Bool). unwrap_or (cond b (Some all) None) all) past

pub none_passing :
    {X : Type 0} (p : X → Bool) (xs : List X) → ((d : X) (k : ℕ) → k < length xs → p (get_or xs k d) ≡ false) → unwrap_or (position p xs) (length xs) ≡ length xs
none_passing p [] before =
    let past : nat_lt 0 0 ≡ false = grind (arith, nat_tests) in ap (λ (b : Bool). unwrap_or (cond b (Some 0) None) 0) past
none_passing p (x ∷ xs) before = none_of p (x ∷ xs) x (before x)
