-- Signals shown one after another.
use Rattle.fb_wave.proofs.lemmas.Common.{◌≡◌, ℕ, zero, suc, ◌+◌, ◌<◌, List, [], ◌∷◌, ◌++◌, length, map, take, get_or, sym, ap, subst, ◌∙◌, arith, append_assoc, Value, AreLevels, pairs}
use Rattle.fb_types.proofs.Common.{min, add-one, map-append}
use Rattle.fb_wave.specs.declared.levels.Levels.{Levels}

-- the first pairs, and one more
pairs-suc :
    (f : ℕ → ℕ) (ks : List ℕ) (vs : List Value) (i k : ℕ) (v : Value) → i < length ks → i < length vs → k ≡ get_or ks i 0 → v ≡ get_or vs i v
    → take (suc i) (pairs (map f ks) vs) ≡ take i (pairs (map f ks) vs) ++ (f k, v) ∷ []
pairs-suc f [] vs i k v h g key value = absurd (omega arith)
pairs-suc f (j ∷ ks) [] i k v h g key value = absurd (omega arith)
pairs-suc f (j ∷ ks) (w ∷ vs) zero k v h g key value = ap (λ (n : ℕ). (f n, w) ∷ []) (sym key) ∙ ap (λ (x : Value). (f k, x) ∷ []) (sym value)
pairs-suc f (j ∷ ks) (w ∷ vs) (suc i) k v h g key value =
    ap (λ (ps : List (ℕ × Value)). (f j, w) ∷ ps) (pairs-suc f ks vs i k v (omega arith) (omega arith) key value)

pub pairs-more :
    (f : ℕ → ℕ) (ks : List ℕ) (vs : List Value) (i k : ℕ) (v : Value) → i < length ks → i < length vs → k ≡ get_or ks i 0 → v ≡ get_or vs i v
    → take (i + 1) (pairs (map f ks) vs) ≡ take i (pairs (map f ks) vs) ++ (f k, v) ∷ []
pairs-more f ks vs i k v h g key value =
    ap (λ (n : ℕ). take n (pairs (map f ks) vs)) (add-one i) ∙ pairs-suc f ks vs i k v h g key value

pub length-pairs : (ss : List ℕ) (vs : List Value) → length (pairs ss vs) ≡ min (length ss) (length vs)
length-pairs [] vs = omega arith
length-pairs (s ∷ ss) [] = omega arith
length-pairs (s ∷ ss) (v ∷ vs) = let e = length-pairs ss vs in omega arith

-- the levels after some of the pairs
abbrev pub AreShown : (from to : Levels) (ps : List (ℕ × Value)) → Type 0
AreShown from to ps =
    (n : ℕ) (f : List ℕ) (t : List (ℕ × Value)) (u : List ℕ) → AreLevels n f t u from → AreLevels n f (t ++ ps) (u ++ map (λ p. p.0) ps) to

pub shown-more :
    (from to past : Levels) (ps qs : List (ℕ × Value)) (s : ℕ) (v : Value) → AreShown from to ps → qs ≡ ps ++ (s, v) ∷ []
    → ((n : ℕ) (f : List ℕ) (t : List (ℕ × Value)) (u : List ℕ) → AreLevels n f t u to → AreLevels n f (t ++ (s, v) ∷ []) (u ++ s ∷ []) past)
    → AreShown from past qs
shown-more from to past ps qs s v shown grown one n f t u are =
    let next = one n f (t ++ ps) (u ++ map (λ p. p.0) ps) (shown n f t u are) in
    subst (λ (rs : List (ℕ × Value)). AreLevels n f (t ++ rs) (u ++ map (λ p. p.0) rs) past) (sym grown)
    (subst (λ (us : List ℕ). AreLevels n f (t ++ (ps ++ (s, v) ∷ [])) us past)
    (append_assoc u (map (λ p. p.0) ps) (s ∷ []) ∙ ap (λ (us : List ℕ). u ++ us) (sym (map-append (λ (p : ℕ × Value). p.0) ps ((s, v) ∷ []))))
    (subst (λ (ts : List (ℕ × Value)). AreLevels n f ts ((u ++ map (λ p. p.0) ps) ++ s ∷ []) past) (append_assoc t ps ((s, v) ∷ [])) next))
