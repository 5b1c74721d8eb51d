-- What a list of events with keys has under a key.
use Rattle.fb_types.proofs.Common.{◌≡◌, Bool, true, false, cond, List, [], ◌∷◌, ◌++◌, refl, Some, None, or_else, found, same_key, Key}

-- one more event, under its key
pub found-put : {X : Type 0} (j : Key) (es : List (Key × X)) (k : Key) (x : X)
    → found j (es ++ (k, x) ∷ []) ≡ cond (same_key k j) (Some x) (found j es)
found-put j [] k x = go (same_key k j)
  where
    go : (b : Bool) → or_else None (cond b (Some x) None) ≡ cond b (Some x) None
    go true = refl
    go false = refl
found-put j (e ∷ es) k x = rw (found-put j es k x) (go (same_key k j))
  where
    go : (b : Bool) → or_else (cond b (Some x) (found j es)) (cond (same_key e.0 j) (Some e.1) None) ≡ cond b (Some x) (or_else (found j es) (cond (same_key e.0 j) (Some e.1) None))
    go true = refl
    go false = refl
