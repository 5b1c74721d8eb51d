-- Ends of a text.
use Rattle.fb_read.proofs.lemmas.Common.{◌≡◌, ℕ, ◌+◌, ◌-◌, ◌≤◌, Bool, true, false, cond, [], ◌∷◌, ◌++◌, length, drop, Option, Some, None, refl, sym, ap, subst, ◌∙◌, append_assoc, arith, length-append, length-drop, take-append-drop, take_all, take, BlankState, Text, at, skip, step, stepped, may_end}
use Rattle.std.proofs.lemmas.List.{drop_at}
use Rattle.fb_read.specs.Located.{IsEnd}

pub end-whole : (z : Text) → IsEnd z z
end-whole z = record { before = []; joined = refl }

pub end-more : (b : ℕ) (end z : Text) → IsEnd end z → IsEnd end (b ∷ z)
end-more b end z w = record { before = b ∷ w.before; joined = ap (λ (y : Text). b ∷ y) w.joined }

pub end-end : (a b c : Text) → IsEnd a b → IsEnd b c → IsEnd a c
end-end a b c v w = record { before = w.before ++ v.before; joined = append_assoc w.before v.before a ∙ ap (λ (y : Text). w.before ++ y) v.joined ∙ w.joined }

pub end-drop : (n : ℕ) (z : Text) → IsEnd (drop n z) z
end-drop n z = record { before = take n z; joined = take-append-drop n z }

pub end-length : (end z : Text) → IsEnd end z → length end ≤ length z
end-length end z w = let e = ap (λ (y : Text). length y) w.joined in let l = length-append w.before end in omega arith

-- where an end begins
pub end-at : (end z : Text) → IsEnd end z → drop (length z - length end) z ≡ end
end-at end z w =
    let l : length z ≡ length w.before + length end = sym (ap (λ (y : Text). length y) w.joined) ∙ length-append w.before end in
    let n : length w.before ≡ length z - length end = omega arith in
    ap (λ (y : Text). drop (length z - length end) y) (sym w.joined) ∙ drop_at w.before end (length z - length end) n

-- the next token is at an end of the text
pub skip-end : (p : BlankState) (z here : Text) → skip p z ≡ Some here → IsEnd here z
unfolding skip
skip-end p [] here h = go (may_end p) h
  where
    go : (b : Bool) → cond b (Some []) None ≡ Some here → IsEnd here []
    go true e = let same : [] ≡ here = cc in subst (λ (y : Text). IsEnd y []) same (end-whole [])
    go false e = absurd cc
skip-end p (b ∷ bs) here h = go (λ q. skip-end q bs here) (step p b (at bs 0)) h
  where
    go : ((q : BlankState) → skip q bs ≡ Some here → IsEnd here bs) → (o : Option BlankState) → stepped (λ q. skip q bs) (b ∷ bs) o ≡ Some here → IsEnd here (b ∷ bs)
    go deeper None e = let same : b ∷ bs ≡ here = cc in subst (λ (y : Text). IsEnd y (b ∷ bs)) same (end-whole (b ∷ bs))
    go deeper (Some q) e = end-more b here bs (deeper q e)

-- what a range up to the end of a text takes
pub end-rest : (n : ℕ) (z : Text) → IsEnd (take (length z - n) (drop n z)) z
end-rest n z =
    let short : length (drop n z) ≤ length z - n = omega (arith, length-drop n z) in
    subst (λ (y : Text). IsEnd y z) (sym (take_all (length z - n) (drop n z) short)) (end-drop n z)

-- as the check calls it
pub end_of_whole : (z : Text) → IsEnd z z
end_of_whole z = end-whole z
