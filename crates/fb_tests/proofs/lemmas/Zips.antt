-- What was done of a list and of one more element was done of them together.
use Rattle.fb_types.proofs.Common.{◌≡◌, List, [], ◌∷◌, ◌++◌, sym, subst, AllZip}

snoc : {A B : Type 0} (R : A → B → Type 0) (xs : List A) (us : List B) (x : A) (u : B) → AllZip R xs us → R x u → AllZip R (xs ++ x ∷ []) (us ++ u ∷ [])
snoc R [] [] x u a r = (r, tt)
snoc R [] (v ∷ us) x u a r = absurd a
snoc R (y ∷ xs) [] x u a r = absurd a
snoc R (y ∷ xs) (v ∷ us) x u a r = (a.0, snoc R xs us x u a.1 r)

pub joined : {A B : Type 0} (R : A → B → Type 0) (xs all : List A) (us every : List B) (x : A) (u : B) → all ≡ xs ++ x ∷ [] → every ≡ us ++ u ∷ [] → AllZip R xs us → R x u → AllZip R all every
joined {A = A} {B = B} R xs all us every x u e f a r =
    subst (λ (z : List A). AllZip R z every) (sym e) (subst (λ (z : List B). AllZip R (xs ++ x ∷ []) z) (sym f) (snoc R xs us x u a r))
