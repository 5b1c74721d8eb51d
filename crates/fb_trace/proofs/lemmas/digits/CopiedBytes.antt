-- Four bytes of a text replace those of another, and eight by twice four.
use Rattle.fb_types.proofs.Common.{◌≡◌, ℕ, suc, ◌+◌, ◌≤◌, List, [], ◌∷◌, ◌++◌, length, take, drop, get_or, set, refl, sym, ap, ◌∙◌, arith, append-nil, length-append, length-drop, take-append-drop, drop_all, drop_more, length-take-le, take_all, take-take, take-append-le}
use lib.Seq.{sets, sets-eq}

four_read : (from : List ℕ) (i : ℕ) → i + 4 ≤ length from
    → take 4 (drop i from) ≡ get_or from i 0 ∷ get_or from (i + 1) 0 ∷ get_or from (i + 2) 0 ∷ get_or from (i + 3) 0 ∷ []
four_read from i h =
    let second : i + 1 + 1 ≡ i + 2 = omega arith in
    let third : i + 2 + 1 ≡ i + 3 = omega arith in
    let a = drop_more from i 0 (omega arith) in
    let b = drop_more from (i + 1) 0 (omega arith) ∙ ap (λ k. get_or from (i + 1) 0 ∷ drop k from) second in
    let c = drop_more from (i + 2) 0 (omega arith) ∙ ap (λ k. get_or from (i + 2) 0 ∷ drop k from) third in
    let d = drop_more from (i + 3) 0 (omega arith) in
    rw (a, b, c, d) refl

four_stored : (to : List ℕ) (i w x y z : ℕ) → set (set (set (set to i w) (i + 1) x) (i + 2) y) (i + 3) z ≡ sets to i (w ∷ x ∷ y ∷ z ∷ [])
four_stored to i w x y z =
    let second : i + 1 ≡ suc i = omega arith in
    let third : i + 2 ≡ suc (suc i) = omega arith in
    let fourth : i + 3 ≡ suc (suc (suc i)) = omega arith in
    rw (second, third, fourth) refl

pub four : (to from : List ℕ) (i : ℕ) → length to ≡ length from → i + 4 ≤ length from
    → set (set (set (set to i (get_or from i 0)) (i + 1) (get_or from (i + 1) 0)) (i + 2) (get_or from (i + 2) 0)) (i + 3) (get_or from (i + 3) 0)
    ≡ take i to ++ take 4 (drop i from) ++ drop (i + 4) to
four to from i same h =
    four_stored to i (get_or from i 0) (get_or from (i + 1) 0) (get_or from (i + 2) 0) (get_or from (i + 3) 0)
    ∙ sets-eq (get_or from i 0 ∷ get_or from (i + 1) 0 ∷ get_or from (i + 2) 0 ∷ get_or from (i + 3) 0 ∷ []) to i (omega arith)
    ∙ ap (λ l. take i to ++ l ++ drop (i + 4) to) (sym (four_read from i h))

pub eight : (from to first both : List ℕ) (m : ℕ) → length to ≡ length from → m + 4 ≡ length from → m ≤ 4
    → first ≡ take 4 from ++ drop 4 to → both ≡ take m first ++ take 4 (drop m from) ++ drop (m + 4) first → both ≡ from
eight from to first both m same whole few e f =
    let four_long : length (take 4 from) ≡ 4 = length-take-le 4 from (omega arith) in
    let long : length first ≡ length from = ap length e ∙ omega (arith, same, whole, four_long, length-append (take 4 from) (drop 4 to), length-drop 4 to) in
    let front : take m first ≡ take m from = ap (take m) e ∙ take-append-le m (take 4 from) (drop 4 to) (omega arith) ∙ take-take m 4 from few in
    let back : take 4 (drop m from) ≡ drop m from = take_all 4 (drop m from) (omega (arith, whole, length-drop m from)) in
    let none : drop (m + 4) first ≡ [] = drop_all (m + 4) first (omega arith) in
    f ∙ rw (front, back, none, append-nil) (take-append-drop m from)
