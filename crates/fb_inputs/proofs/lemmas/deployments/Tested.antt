-- Loops that look for the first element of which something does not hold.
use Rattle.fb_inputs.proofs.lemmas.Common.{◌≡◌, ℕ, ◌+◌, ◌<◌, ◌≤◌, Bool, true, false, List, drop, get_or, length, Option, Some, None, refl, sym, ◌∙◌, ap, LatencyDraft, LinkDraft, DeployLocation, among_links, first_failing, out_of_order}
use Rattle.fb_types.proofs.Common.{unsigned_abs, at_drop_more, drop_all}
use Rattle.fb_inputs.specs.Deployments.{follows}
use Rattle.fb_inputs.proofs.lemmas.Each.{dropped}

-- ---- a test of each element

pub failing_on : {A : Type 0} (test : A → Bool) (xs : List A) (i : ℕ) (d : A) → i < length xs → first_failing test 0 xs ≡ first_failing test i (drop i xs) → test (get_or xs i d) ≡ true
    → first_failing test 0 xs ≡ first_failing test (i + 1) (drop (i + 1) xs)
unfolding first_failing
failing_on test xs i d within before passes = before ∙ at_drop_more (first_failing test i) xs i d within ∙ rw passes refl

pub failing_here : {A : Type 0} (test : A → Bool) (xs : List A) (i : ℕ) (d : A) → i < length xs → first_failing test 0 xs ≡ first_failing test i (drop i xs) → test (get_or xs i d) ≡ false
    → Some i ≡ first_failing test 0 xs
unfolding first_failing
failing_here test xs i d within before fails = sym (before ∙ at_drop_more (first_failing test i) xs i d within ∙ rw fails refl)

pub failing_done : {A : Type 0} (test : A → Bool) (xs : List A) (i : ℕ) → length xs ≤ i → first_failing test 0 xs ≡ first_failing test i (drop i xs) → None ≡ first_failing test 0 xs
unfolding first_failing
failing_done {A} test xs i past before = sym (before ∙ ap (λ (ys : List A). first_failing test i ys) (drop_all i xs past))

-- ---- entries in order

pub order_on : (xs : List LatencyDraft) (i : ℕ) (last : Option ℕ) (d : LatencyDraft) → i < length xs → out_of_order None 0 xs ≡ out_of_order last i (drop i xs)
    → follows last (get_or xs i d).start ≡ true → out_of_order None 0 xs ≡ out_of_order (Some (unsigned_abs (get_or xs i d).start)) (i + 1) (drop (i + 1) xs)
unfolding out_of_order
order_on xs i last d within before passes = before ∙ at_drop_more (out_of_order last i) xs i d within ∙ rw passes refl

pub order_here : (xs : List LatencyDraft) (i : ℕ) (last : Option ℕ) (d : LatencyDraft) → i < length xs → out_of_order None 0 xs ≡ out_of_order last i (drop i xs)
    → follows last (get_or xs i d).start ≡ false → Some i ≡ out_of_order None 0 xs
unfolding out_of_order
order_here xs i last d within before fails = sym (before ∙ at_drop_more (out_of_order last i) xs i d within ∙ rw fails refl)

pub order_done : (xs : List LatencyDraft) (i : ℕ) (last : Option ℕ) → length xs ≤ i → out_of_order None 0 xs ≡ out_of_order last i (drop i xs) → None ≡ out_of_order None 0 xs
unfolding out_of_order
order_done xs i last past before = sym (before ∙ ap (λ (ys : List LatencyDraft). out_of_order last i ys) (drop_all i xs past))

-- ---- links

module _ (f : ℕ → LinkDraft → Option DeployLocation) (xs : List LinkDraft) (i : ℕ) (before : among_links f 0 xs ≡ among_links f i (drop i xs)) where
  pub links_on : (x : LinkDraft) → i < length xs → x ≡ get_or xs i x → f i x ≡ None → among_links f 0 xs ≡ among_links f (i + 1) (drop (i + 1) xs)
  unfolding among_links
  links_on x within is none = before ∙ ap (λ (ys : List LinkDraft). among_links f i ys) (dropped xs i x (within, is)) ∙ rw none refl

  pub links_here : (x : LinkDraft) (p : DeployLocation) → i < length xs → x ≡ get_or xs i x → f i x ≡ Some p → Some p ≡ among_links f 0 xs
  unfolding among_links
  links_here x p within is some = sym (before ∙ ap (λ (ys : List LinkDraft). among_links f i ys) (dropped xs i x (within, is)) ∙ rw some refl)

  pub links_done : length xs ≤ i → None ≡ among_links f 0 xs
  unfolding among_links
  links_done past = sym (before ∙ ap (λ (ys : List LinkDraft). among_links f i ys) (drop_all i xs past))
