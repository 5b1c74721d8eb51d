-- Whether all that statements assign is known, one part after the other.
use Rattle.fb_types.proofs.Common.{◌≡◌, ◌↔◌, ℕ, ◌+◌, ◌<◌, ◌≤◌, Bool, true, false, List, [], ◌∷◌, drop, length, get_or, refl, sym, ◌∙◌, ap, subst, false≢true, Stmts}
use Rattle.fb_types.specs.declared.text.Branch.{Branch, out-Branch}
use Rattle.fb_types.specs.declared.text.Choice.{Choice, out-Choice}
use Rattle.fb_types.specs.declared.text.Label.{Label}
use Rattle.fb_types.specs.Syntax as syntax
use Rattle.fb_st.specs.Flows.{all_of, branch_of, choice_of}
use Rattle.fb_st.proofs.lemmas.Runs.{branch_says, choice_says, cut_at, nothing_left}

-- ---- A list, of which all is so where the first is and the rest is

module _ {A : Type 0} (F : List A → Type 0) (f : A → Type 0) (parts : (x : A) (xs : List A) → F (x ∷ xs) → f x × F xs) (whole : (x : A) (xs : List A) → f x × F xs → F (x ∷ xs)) (xs : List A) where
  pub goes_on : (i : ℕ) (x : A) → i < length xs → x ≡ get_or xs i x → (F xs ↔ F (drop i xs)) → f x → (F xs ↔ F (drop (i + 1) xs))
  goes_on i x within is before here = (
    λ all. (parts x (drop (i + 1) xs) (subst F (cut_at xs i x within is) (before.0 all))).1,
    λ rest. before.1 (subst F (sym (cut_at xs i x within is)) (whole x (drop (i + 1) xs) (here, rest))),
  )

  pub fails_at : (i : ℕ) (x : A) → i < length xs → x ≡ get_or xs i x → (F xs ↔ F (drop i xs)) → (f x → ⊥) → ((false ≡ true) ↔ F xs)
  fails_at i x within is before fails = (
    λ e. absurd (false≢true e),
    λ all. absurd (fails (parts x (drop (i + 1) xs) (subst F (cut_at xs i x within is) (before.0 all))).0),
  )

  pub all_done : (i : ℕ) → F [] → length xs ≤ i → (F xs ↔ F (drop i xs)) → ((true ≡ true) ↔ F xs)
  all_done i none past before = (λ e. before.1 (subst F (sym (nothing_left xs i past)) none), λ all. refl)

-- ---- One test, or two of which the second is made where the first is passed

pub fails_by : {P : Type 0} (b : Bool) → ((b ≡ true) ↔ P) → b ≡ false → P → ⊥
fails_by b known_so is p = false≢true (sym is ∙ known_so.1 p)

pub holds_by : {P : Type 0} (b : Bool) → ((b ≡ true) ↔ P) → b ≡ true → P
holds_by b known_so is = known_so.0 is

pub same_test : (b d : Bool) → b ≡ d → ((b ≡ true) ↔ (d ≡ true))
same_test b d is = (λ e. sym is ∙ e, λ e. is ∙ e)

pub both_hold : {P Q : Type 0} (a b : Bool) → ((a ≡ true) ↔ P) → a ≡ true → ((b ≡ true) ↔ Q) → ((b ≡ true) ↔ (P × Q))
both_hold a b first is second = (λ e. (first.0 is, second.0 e), λ h. second.1 h.1)

pub first_fails : {P Q : Type 0} (a : Bool) → ((a ≡ true) ↔ P) → a ≡ false → ((a ≡ true) ↔ (P × Q))
first_fails a first is = (λ e. absurd (false≢true (sym is ∙ e)), λ h. absurd (false≢true (sym is ∙ first.1 h.0)))

-- ---- What the statements of a choice, or of a branch, say

pub choice_body : (c : Choice) → (choice_of c).1 ≡ all_of (out-Choice c).body
choice_body c = ap (λ (p : syntax.Expr × Stmts). p.1) (choice_says c)

pub branch_body : (b : Branch) → (branch_of b).1 ≡ all_of (out-Branch b).body
branch_body b = ap (λ (p : List Label × Stmts). p.1) (branch_says b)
