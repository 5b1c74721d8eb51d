-- What is found in a list up to the next index.
use Rattle.fb_types.proofs.Common.{◌≡◌, ℕ, ◌+◌, ◌<◌, ◌≤◌, Some, List, subst, ⊎_elim, arith, slice_get, cases_lt}
use Rattle.fb_laws.proofs.lemmas.lists.Indexes.{one_at}

-- what holds at each index below, and here, holds at each index up to here
pub holds_more : {X : Type 0} (P : X → Type 0) (xs : List X) (n : ℕ) (x : X) → slice_get xs n ≡ Some x → P x
    → ((r : ℕ) (y : X) → r < n → slice_get xs r ≡ Some y → P y) → (r : ℕ) (y : X) → r < n + 1 → slice_get xs r ≡ Some y → P y
holds_more {X} P xs n x at here below r y b e =
    ⊎_elim
    (λ (l : r < n). below r y l e)
    (λ (l : n ≤ r).
    let q : n ≡ r = omega arith in
    let there : slice_get xs r ≡ Some x = subst (λ (z : ℕ). slice_get xs z ≡ Some x) q at in
    subst P (one_at xs r x y there e) here)
    (cases_lt r n)
