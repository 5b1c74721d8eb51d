-- The first bytes of a reader, up to a number.
use Rattle.fb_types.proofs.Common.{◌≡◌, ℕ, ◌<◌, ◌≤◌, List, [], ◌++◌, length, take, Option, Some, None, sym, ap, subst, ◌∙◌, append-nil, IfSome, Consumes, IsAtEnd, Consumes-trans, take_all, take_at}

-- as many as are required were read
pub front_full :
    (old new : Option (List ℕ)) (bytes : List ℕ) (most : ℕ) → length bytes ≡ most → Consumes old new bytes → IfSome old (λ all. bytes ≡ take most all)
front_full None new bytes most full read = tt
front_full (Some xs) None bytes most full read = absurd read
front_full (Some xs) (Some ys) bytes most full read = sym (ap (take most) read ∙ take_at bytes ys most full)

-- a read into some bytes gave none, so the reader is at its end
pub front_ended :
    (old mid new : Option (List ℕ)) (bytes part : List ℕ) (most count : ℕ) → length bytes ≤ most → Consumes old mid bytes
    → Consumes mid new (take count part) × (count ≡ 0 → 0 < length part → IsAtEnd new) → count ≡ 0 → 0 < length part → IfSome old (λ all. bytes ≡ take most all)
front_ended old mid new bytes part most count short before read none some =
    by old new (subst (Consumes old new) (append-nil bytes) (Consumes-trans old mid new bytes [] before (subst (λ (k : ℕ). Consumes mid new (take k part)) none read.0)))
    (read.1 none some)
  where
    by : (a b : Option (List ℕ)) → Consumes a b bytes → IsAtEnd b → IfSome a (λ all. bytes ≡ take most all)
    by None b read end = tt
    by (Some xs) None read end = absurd read
    by (Some xs) (Some ys) read end =
        let whole : xs ≡ bytes = read ∙ ap (λ (l : List ℕ). bytes ++ l) end ∙ append-nil bytes in
        sym (ap (take most) whole ∙ take_all most bytes short)
