-- The roots of the trees of a resource, one instance of the application after the other.
use Rattle.fb_types.proofs.Common.{◌≡◌, ℕ, ◌<◌, ◌≤◌, ◌+◌, zero, suc, List, [], ◌∷◌, ◌++◌, length, take, get_or, Some, refl, sym, ◌∙◌, ap, subst, arith, slice_get, slice_get-get_or, slice_get_within, same_Some, none-some, length-take-le, take_all, Inputs, system_of, path_at}
use Rattle.fb_types.proofs.lemmas.lists.ByIndex.{slice_get-append_left, slice_get-append_here}
use Rattle.fb_system.specs.Layouts.{AreNumbers}
use Rattle.fb_net.specs.Opening.{AreRooted, AreRoots}
use Rattle.fb_net.specs.Worlds.{index_in}
use Rattle.fb_net.proofs.lemmas.opening.Growing.{Before, Last, nearer}
use Rattle.fb_net.proofs.lemmas.opening.ShellIndexes.{longer, shell_index_kept, shell_index_last}

-- an element of the first n is one of the first n + 1
one_more : {A : Type 0} (xs : List A) (n m : ℕ) (x : A) → slice_get (take n xs) m ≡ Some x → slice_get (take (suc n) xs) m ≡ Some x
one_more [] zero m x h = absurd (none-some x h)
one_more [] (suc n) m x h = h
one_more (y ∷ ys) zero m x h = absurd (none-some x h)
one_more (y ∷ ys) (suc n) zero x h = h
one_more (y ∷ ys) (suc n) (suc m) x h = one_more ys n m x h

last_one : {A : Type 0} (xs : List A) (n : ℕ) (x : A) → slice_get xs n ≡ Some x → slice_get (take (suc n) xs) n ≡ Some x
last_one [] n x h = absurd (none-some x h)
last_one (y ∷ ys) zero x h = h
last_one (y ∷ ys) (suc n) x h = last_one ys n x h

-- an element of a list with one put after it is that one, or was there before
data Among {A : Type 0} (xs : List A) (y : A) (m : ℕ) (x : A) : Type 0 where
  There : slice_get xs m ≡ Some x → Among xs y m x
  IsAfter : y ≡ x → Among xs y m x

among : {A : Type 0} (xs : List A) (y : A) (m : ℕ) (x : A) → slice_get (xs ++ y ∷ []) m ≡ Some x → Among xs y m x
among [] y zero x h = IsAfter (same_Some y x h)
among [] y (suc m) x h = absurd (none-some x h)
among (z ∷ zs) y zero x h = There h
among (z ∷ zs) y (suc m) x h =
    elim (among zs y m x h) [
      | There g ↦ There g
      | IsAfter e ↦ IsAfter e
    ]

pub no_roots : (i : Inputs) (r : ℕ) (top : List ℕ) → AreRoots i r (take 0 top) [] []
no_roots i r [] = record { each = refl; there = λ index k at lies. absurd (none-some k at); among = λ index k at. absurd (none-some k at) }
no_roots i r (k ∷ ks) = record { each = refl; there = λ index k at lies. absurd (none-some k at); among = λ index k at. absurd (none-some k at) }

module _ (i : Inputs) (r n k : ℕ) (top roots numbers : List ℕ) (at : slice_get top n ≡ Some k) (are : AreRoots i r (take n top) roots numbers) where
  within : n < length top
  within = slice_get_within top n k at

  shorter : length (take n top) ≡ n
  shorter = (let h = within in length-take-le n top (omega (arith, h)))

  long : length roots ≡ n
  long = are.each ∙ shorter

  each : (x : ℕ) → length (roots ++ x ∷ []) ≡ length (take (suc n) top)
  each x =
      let h = within in
      let e : n + 1 ≡ suc n = omega arith in
      longer roots x n long ∙ e ∙ sym (length-take-le (suc n) top (omega (arith, h)))

  kept : (x index j : ℕ) → slice_get (take n top) index ≡ Some j → index_in (roots ++ x ∷ []) index ≡ index_in roots index
  kept x index j h =
      let before = slice_get_within (take n top) index j h in
      let same = are.each in shell_index_kept roots x index (omega (arith, before, same))

  -- an instance that is in the resource is put after the others
  pub root_here : (system_of i).resource (path_at (system_of i) k) ≡ r → AreRoots i r (take (n + 1) top) (roots ++ length numbers ∷ []) (numbers ++ k ∷ [])
  root_here lies =
      let next : n + 1 ≡ suc n = omega arith in
      rw next (record {
        each = each (length numbers);
        there = λ index j h lies_j. elim (nearer top n index j h) [
          | Before g ↦
              ap (slice_get (numbers ++ k ∷ [])) (kept (length numbers) index j g)
              ∙ slice_get-append_left numbers (k ∷ []) (index_in roots index) j (are.there index j g lies_j)
          | Last e g ↦
              ap (λ p. slice_get (numbers ++ k ∷ []) (index_in (roots ++ length numbers ∷ []) p)) e
              ∙ ap (slice_get (numbers ++ k ∷ [])) (shell_index_last roots (length numbers) n long) ∙ slice_get-append_here numbers k ∙ sym at ∙ g
        ];
        among = λ index j h. elim (among numbers k index j h) [
          | There g ↦ (let m = are.among index j g in (m.0, one_more top n m.0 j m.1))
          | IsAfter e ↦ (n, last_one top n k at ∙ ap Some e)
        ];
      })

  -- an instance of another resource is left out
  pub root_away : (x : ℕ) → ¬ ((system_of i).resource (path_at (system_of i) k) ≡ r) → AreRoots i r (take (n + 1) top) (roots ++ x ∷ []) numbers
  root_away x away =
      let next : n + 1 ≡ suc n = omega arith in
      rw next (record {
        each = each x;
        there = λ index j h lies_j. elim (nearer top n index j h) [
          | Before g ↦ ap (slice_get numbers) (kept x index j g) ∙ are.there index j g lies_j
          | Last e g ↦ absurd (away (ap (λ (m : ℕ). (system_of i).resource (path_at (system_of i) m)) (same_Some k j (sym at ∙ g)) ∙ lies_j))
        ];
        among = λ index j h. (let m = are.among index j h in (m.0, one_more top n m.0 j m.1));
      })

-- the same, by what the lists have become
pub root_more :
    (i : Inputs) (r n : ℕ) (top roots numbers ks js : List ℕ) (x : ℕ) → AreRoots i r (take n top) roots numbers → n < length top → x ≡ length numbers → ks ≡ roots ++ x ∷ []
    → (system_of i).resource (path_at (system_of i) (get_or top n 0)) ≡ r → js ≡ numbers ++ get_or top n 0 ∷ [] → AreRoots i r (take (n + 1) top) ks js
root_more i r n top roots numbers ks js x are h is given lies put =
    subst (λ (ms : List ℕ). AreRoots i r (take (n + 1) top) ms js) (sym (given ∙ ap (λ (y : ℕ). roots ++ y ∷ []) is))
    (subst (λ (ms : List ℕ). AreRoots i r (take (n + 1) top) (roots ++ length numbers ∷ []) ms) (sym put)
    (root_here i r n (get_or top n 0) top roots numbers (slice_get-get_or top n 0 h) are lies))

pub root_skipped :
    (i : Inputs) (r n : ℕ) (top roots numbers ks : List ℕ) (x : ℕ) → AreRoots i r (take n top) roots numbers → n < length top → ks ≡ roots ++ x ∷ []
    → ¬ ((system_of i).resource (path_at (system_of i) (get_or top n 0)) ≡ r) → AreRoots i r (take (n + 1) top) ks numbers
root_skipped i r n top roots numbers ks x are h given away =
    subst (λ (ms : List ℕ). AreRoots i r (take (n + 1) top) ms numbers) (sym given)
    (root_away i r n (get_or top n 0) top roots numbers (slice_get-get_or top n 0 h) are x away)

-- all instances of the application have been gone over
pub all_rooted :
    (i : Inputs) (r n : ℕ) (top roots numbers : List ℕ) → AreNumbers i.library [] i.library.application.network.instances top → length top ≤ n → AreRoots i r (take n top) roots numbers
    → AreRooted i r roots numbers
all_rooted i r n top roots numbers are_numbers past are = record {
  top = top;
  are = are_numbers;
  roots_are = subst (λ (ms : List ℕ). AreRoots i r ms roots numbers) (take_all n top past) are;
}
