-- Two lists that are related index by index.
use Rattle.fb_types.proofs.Common.{◌≡◌, ℕ, zero, suc, ◌+◌, ◌<◌, List, [], ◌∷◌, ◌++◌, get_or, length, map, take, sym, ◌∙◌, subst, arith, length-map, take_more, AllZip}
use Rattle.std.proofs.lemmas.Slice.Zip.{AllZip-long, all_zipped_more}

module _ {A B : Type 0} (R : A → B → Type 0) where
  pub none_paired : (ys : List B) → ys ≡ [] → AllZip R [] ys
  none_paired ys none = subst (λ (zs : List B). AllZip R [] zs) (sym none) tt

  -- one pair more
  pub one_paired :
      (xs : List A) (i : ℕ) (ys more : List B) (x : A) (y : B) → i < length xs → x ≡ get_or xs i x → more ≡ ys ++ y ∷ [] → AllZip R (take i xs) ys → R x y
      → AllZip R (take (i + 1) xs) more
  one_paired xs i ys more x y within is added before here =
      subst (λ (zs : List B). AllZip R (take (i + 1) xs) zs) (sym added)
      (subst (λ (ws : List A). AllZip R ws (ys ++ y ∷ [])) (sym (take_more xs i x within))
      (all_zipped_more R (take i xs) ys (get_or xs i x) y before (subst (λ (a : A). R a y) is here)))

-- what is related to what a function gives for each element
pub pair_at :
    {A B C : Type 0} (R : C → B → Type 0) (f : A → C) (xs : List A) (ys : List B) (k : ℕ) (x : A) (y : B) → AllZip R (map f xs) ys → k < length xs → x ≡ get_or xs k x → y ≡ get_or ys k y → R (f x) y
pair_at R f [] ys k x y all within is at = absurd (omega arith)
pair_at R f (a ∷ xs) [] k x y all within is at = absurd all
pair_at {A = A} {B = B} R f (a ∷ xs) (b ∷ ys) zero x y all within is at = subst (λ (v : A). R (f v) y) (sym is) (subst (λ (w : B). R (f a) w) (sym at) all.0)
pair_at R f (a ∷ xs) (b ∷ ys) (suc k) x y all within is at = pair_at R f xs ys k x y all.1 (omega arith) is at

pub as_many_paired : {A B C : Type 0} (R : C → B → Type 0) (f : A → C) (xs : List A) (ys : List B) → AllZip R (map f xs) ys → length ys ≡ length xs
as_many_paired R f xs ys all = AllZip-long R (map f xs) ys all ∙ length-map xs f

pub paired_by : {A B : Type 0} (R Q : A → B → Type 0) (xs : List A) (ys : List B) → ((x : A) (y : B) → R x y → Q x y) → AllZip R xs ys → AllZip Q xs ys
paired_by R Q [] [] by all = tt
paired_by R Q [] (y ∷ ys) by all = absurd all
paired_by R Q (x ∷ xs) [] by all = absurd all
paired_by R Q (x ∷ xs) (y ∷ ys) by all = (by x y all.0, paired_by R Q xs ys by all.1)

pub paired_across :
    {A B C : Type 0} (R : A → B → Type 0) (Q : B → C → Type 0) (S : A → C → Type 0) (xs : List A) (ys : List B) (zs : List C) → ((x : A) (y : B) (z : C) → R x y → Q y z → S x z)
    → AllZip R xs ys → AllZip Q ys zs → AllZip S xs zs
paired_across R Q S [] [] [] by one two = tt
paired_across R Q S [] [] (z ∷ zs) by one two = absurd two
paired_across R Q S [] (y ∷ ys) zs by one two = absurd one
paired_across R Q S (x ∷ xs) [] zs by one two = absurd one
paired_across R Q S (x ∷ xs) (y ∷ ys) [] by one two = absurd two
paired_across R Q S (x ∷ xs) (y ∷ ys) (z ∷ zs) by one two = (by x y z one.0 two.0, paired_across R Q S xs ys zs by one.1 two.1)
