-- The values of arguments, one after the other.
use Rattle.fb_types.proofs.Common.{◌≡◌, ℕ, ◌+◌, ◌<◌, ◌≤◌, List, [], ◌∷◌, ◌++◌, map, drop, length, get_or, Result, Ok, Err, refl, sym, ◌∙◌, ap, append_assoc, add-one, arith, drop-cons, expr_of, exprs, Values, value_of, values_of as values_of_all, and_then}
use Rattle.fb_types.specs.declared.text.Expr.{Expr}
use Rattle.fb_types.specs.declared.value.Value.{Value}
use Rattle.fb_types.specs.declared.value.Reason.{Reason}
use Rattle.fb_st.specs.Required.{both}

abbrev pub rest_of : Values → List Expr → Result (List Value) Reason
rest_of vars es = values_of_all (exprs (map expr_of es)) vars

one_more : (vars : Values) (x : Expr) (rest : List Expr) (v : Value) (done : List Value) → value_of (expr_of x) vars ≡ Ok v
    → and_then (rest_of vars (x ∷ rest)) (λ vs. Ok (done ++ vs)) ≡ and_then (rest_of vars rest) (λ vs. Ok ((done ++ v ∷ []) ++ vs))
one_more vars x rest v done value =
    rw value
    (elim (rest_of vars rest) as (λ r. and_then (and_then r (λ vs. Ok (v ∷ vs))) (λ vs. Ok (done ++ vs)) ≡ and_then r (λ vs. Ok ((done ++ v ∷ []) ++ vs))) [
      | Ok vs ↦ ap (λ l. Ok l) (sym (append_assoc done (v ∷ []) vs))
      | Err r ↦ refl
    ])

-- an argument whose value is known joins those before it
pub argument_done : (vars : Values) (es : List Expr) (i : ℕ) (x : Expr) (v : Value) (done : List Value) (all : Result (List Value) Reason)
    → i < length es → x ≡ get_or es i x → value_of (expr_of x) vars ≡ Ok v
    → all ≡ and_then (rest_of vars (drop i es)) (λ vs. Ok (done ++ vs))
    → all ≡ and_then (rest_of vars (drop (i + 1) es)) (λ vs. Ok ((done ++ v ∷ []) ++ vs))
argument_done vars es i x v done all within is value so_far =
    let cut : drop i es ≡ x ∷ drop (i + 1) es = drop-cons es i x within ∙ rw (← is) (rw add-one refl) in
    so_far ∙ ap (λ l. and_then (rest_of vars l) (λ vs. Ok (done ++ vs))) cut ∙ one_more vars x (drop (i + 1) es) v done value

-- ---- What is made of the arguments, where there are one, two or three

one_is : (es : List Expr) (x : Expr) → 1 ≤ length es → length es < 2 → x ≡ get_or es 0 x → es ≡ x ∷ []
one_is [] x least below a = absurd (omega (arith, least))
one_is (e ∷ []) x least below a = ap (λ y. y ∷ []) (sym a)
one_is (e ∷ f ∷ es) x least below a = absurd (omega (arith, below))

two_are : (es : List Expr) (x y : Expr) → 2 ≤ length es → length es < 3 → x ≡ get_or es 0 x → y ≡ get_or es 1 y → es ≡ x ∷ y ∷ []
two_are [] x y least below a b = absurd (omega (arith, least))
two_are (e ∷ []) x y least below a b = absurd (omega (arith, least))
two_are (e ∷ f ∷ []) x y least below a b = λ i. sym a i ∷ sym b i ∷ []
two_are (e ∷ f ∷ g ∷ es) x y least below a b = absurd (omega (arith, below))

three_are : (es : List Expr) (x y z : Expr) → 3 ≤ length es → length es < 4 → x ≡ get_or es 0 x → y ≡ get_or es 1 y → z ≡ get_or es 2 z → es ≡ x ∷ y ∷ z ∷ []
three_are [] x y z least below a b c = absurd (omega (arith, least))
three_are (e ∷ []) x y z least below a b c = absurd (omega (arith, least))
three_are (e ∷ f ∷ []) x y z least below a b c = absurd (omega (arith, least))
three_are (e ∷ f ∷ g ∷ []) x y z least below a b c = λ i. sym a i ∷ sym b i ∷ sym c i ∷ []
three_are (e ∷ f ∷ g ∷ h ∷ es) x y z least below a b c = absurd (omega (arith, below))

abbrev then_all : Result Value Reason → Result (List Value) Reason → Result (List Value) Reason
then_all r rest = and_then r (λ v. and_then rest (λ vs. Ok (v ∷ vs)))

both_before : (r s : Result Value Reason) (rest : Result (List Value) Reason) (p : Value × Value) → both r s ≡ Ok p
    → then_all r (then_all s rest) ≡ and_then rest (λ vs. Ok (p.0 ∷ p.1 ∷ vs))
both_before (Ok v) (Ok w) rest p e =
    let first : v ≡ p.0 = cc in
    let second : w ≡ p.1 = cc in
    rw (← first) (rw (← second) (elim rest as (λ t. and_then (and_then t (λ vs. Ok (w ∷ vs))) (λ vs. Ok (v ∷ vs)) ≡ and_then t (λ vs. Ok (v ∷ w ∷ vs))) [
      | Ok vs ↦ refl
      | Err q ↦ refl
    ]))
both_before (Ok v) (Err q) rest p e = absurd cc
both_before (Err q) s rest p e = absurd cc

both_stop : (r s : Result Value Reason) (rest : Result (List Value) Reason) (q : Reason) → both r s ≡ Err q → then_all r (then_all s rest) ≡ Err q
both_stop (Ok v) (Ok w) rest q e = absurd cc
both_stop (Ok v) (Err p) rest q e = let same : p ≡ q = cc in ap (λ a. Err a) same
both_stop (Err p) s rest q e = let same : p ≡ q = cc in ap (λ a. Err a) same

module _ (vars : Values) (es : List Expr) (k : List Value → Result Value Reason) where
  pub with_one : (x : Expr) (v : Value) → 1 ≤ length es → length es < 2 → x ≡ get_or es 0 x → value_of (expr_of x) vars ≡ Ok v → k (v ∷ []) ≡ and_then (rest_of vars es) k
  with_one x v n o a value = rw (one_is es x n o a) (rw value refl)

  pub one_stops : (x : Expr) (q : Reason) → 1 ≤ length es → length es < 2 → x ≡ get_or es 0 x → value_of (expr_of x) vars ≡ Err q → Err q ≡ and_then (rest_of vars es) k
  one_stops x q n o a value = rw (one_is es x n o a) (rw value refl)

  pub with_two : (x y : Expr) (p : Value × Value) → 2 ≤ length es → length es < 3 → x ≡ get_or es 0 x → y ≡ get_or es 1 y
      → both (value_of (expr_of x) vars) (value_of (expr_of y) vars) ≡ Ok p → k (p.0 ∷ p.1 ∷ []) ≡ and_then (rest_of vars es) k
  with_two x y p n o a b values =
      rw (two_are es x y n o a b) (ap (λ r. and_then r k) (sym (both_before (value_of (expr_of x) vars) (value_of (expr_of y) vars) (Ok []) p values)))

  pub two_stop : (x y : Expr) (q : Reason) → 2 ≤ length es → length es < 3 → x ≡ get_or es 0 x → y ≡ get_or es 1 y
      → both (value_of (expr_of x) vars) (value_of (expr_of y) vars) ≡ Err q → Err q ≡ and_then (rest_of vars es) k
  two_stop x y q n o a b values =
      rw (two_are es x y n o a b) (ap (λ r. and_then r k) (sym (both_stop (value_of (expr_of x) vars) (value_of (expr_of y) vars) (Ok []) q values)))

  pub with_three : (x y z : Expr) (p : Value × Value) (v : Value) → 3 ≤ length es → length es < 4 → x ≡ get_or es 0 x → y ≡ get_or es 1 y → z ≡ get_or es 2 z
      → both (value_of (expr_of x) vars) (value_of (expr_of y) vars) ≡ Ok p → value_of (expr_of z) vars ≡ Ok v → k (p.0 ∷ p.1 ∷ v ∷ []) ≡ and_then (rest_of vars es) k
  with_three x y z p v n o a b c values value =
      rw (three_are es x y z n o a b c)
      (ap (λ r. and_then r k)
      (sym (both_before (value_of (expr_of x) vars) (value_of (expr_of y) vars) (rest_of vars (z ∷ [])) p values
      ∙ ap (λ t. and_then (then_all t (Ok [])) (λ vs. Ok (p.0 ∷ p.1 ∷ vs))) value)))

  pub three_stop : (x y z : Expr) (q : Reason) → 3 ≤ length es → length es < 4 → x ≡ get_or es 0 x → y ≡ get_or es 1 y → z ≡ get_or es 2 z
      → both (value_of (expr_of x) vars) (value_of (expr_of y) vars) ≡ Err q → Err q ≡ and_then (rest_of vars es) k
  three_stop x y z q n o a b c values =
      rw (three_are es x y z n o a b c)
      (ap (λ r. and_then r k) (sym (both_stop (value_of (expr_of x) vars) (value_of (expr_of y) vars) (rest_of vars (z ∷ [])) q values)))

  pub third_stops : (x y z : Expr) (p : Value × Value) (q : Reason) → 3 ≤ length es → length es < 4 → x ≡ get_or es 0 x → y ≡ get_or es 1 y → z ≡ get_or es 2 z
      → both (value_of (expr_of x) vars) (value_of (expr_of y) vars) ≡ Ok p → value_of (expr_of z) vars ≡ Err q → Err q ≡ and_then (rest_of vars es) k
  third_stops x y z p q n o a b c values value =
      rw (three_are es x y z n o a b c)
      (ap (λ r. and_then r k)
      (sym (both_before (value_of (expr_of x) vars) (value_of (expr_of y) vars) (rest_of vars (z ∷ [])) p values
      ∙ ap (λ t. and_then (then_all t (Ok [])) (λ vs. Ok (p.0 ∷ p.1 ∷ vs))) value)))
