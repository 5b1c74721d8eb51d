-- The values of operands, and the outermost operation of an expression, put together from their parts.
use Rattle.fb_types.proofs.Common.{◌≡◌, ◌∙◌, ◌⊎◌, inl, inr, ℕ, ℤ, Bool, Option, None, refl, sym, ap, subst, Name, Values}
use Rattle.fb_types.specs.declared.text.Expr as read
use Rattle.fb_types.specs.declared.value.Value.{Value}
use Rattle.fb_stop.specs.Numbers.{next}
use Rattle.fb_stop.specs.Operations.{IsOutermost}
use Rattle.fb_stop.specs.Operations as spec
use Rattle.fb_stop.specs.Tokens.{past}
use Rattle.fb_stop.specs.declared.operation.Operands.{Operands}
use Rattle.fb_stop.specs.declared.operation.Operation.{Operation}

pub one_is : (vars : Values) (e f : read.Expr) (v : Option Value) → v ≡ spec.value_in vars f → f ≡ e → ◌≡◌ {A = Operands} (record { first = v; second = None; third = None }) (spec.of_one vars e)
one_is vars e f v is same = ap (λ (o : Option Value). record { first = o; second = None; third = None }) (is ∙ ap (spec.value_in vars) same)

pub two_is : (vars : Values) (e f d g : read.Expr) (v w : Option Value) → v ≡ spec.value_in vars d → w ≡ spec.value_in vars g → d ≡ e → g ≡ f
    → ◌≡◌ {A = Operands} (record { first = v; second = w; third = None }) (spec.of_two vars e f)
two_is vars e f d g v w left right same_left same_right =
    ap (λ (o : Option Value). record { first = o; second = w; third = None }) (left ∙ ap (spec.value_in vars) same_left)
    ∙ ap (λ (o : Option Value). record { first = spec.value_in vars e; second = o; third = None }) (right ∙ ap (spec.value_in vars) same_right)

module _ (vars : Values) where
  -- an expression that is written in another way, with what was found of it
  pub found_so : (x y : read.Expr) (n k l end : ℕ) (o w : Operands) → x ≡ y → k ≡ l → end ≡ past x n → o ≡ w
      → IsOutermost vars y n (record { first = n; operator = l; end = past y n; operands = w }) → IsOutermost vars x n (record { first = n; operator = k; end = end; operands = o })
  found_so x y n k l end o w is at ends operands h =
      subst (λ (v : Operands). IsOutermost vars x n (record { first = n; operator = k; end = end; operands = v })) (sym operands)
      (subst (λ (j : ℕ). IsOutermost vars x n (record { first = n; operator = k; end = j; operands = w })) (sym ends)
      (subst (λ (j : ℕ). IsOutermost vars x n (record { first = n; operator = j; end = past x n; operands = w })) (sym at)
      (subst (λ (z : read.Expr). IsOutermost vars z n (record { first = n; operator = l; end = past z n; operands = w })) (sym is) h)))

  pub of_leaf : (x : read.Expr) (n end : ℕ) (o : Operands) → ((z : ℤ) × (x ≡ read.Whole z)) ⊎ (((b : Bool) × (x ≡ read.Truth b)) ⊎ ((v : Name) × (x ≡ read.Variable v))) → end ≡ past x n → o ≡ spec.of_none
      → IsOutermost vars x n (record { first = n; operator = n; end = end; operands = o })
  of_leaf x n end o (inl w) ends operands = found_so x (read.Whole w.0) n n n end o spec.of_none w.1 refl ends operands (spec.whole w.0 n)
  of_leaf x n end o (inr (inl w)) ends operands = found_so x (read.Truth w.0) n n n end o spec.of_none w.1 refl ends operands (spec.truth w.0 n)
  of_leaf x n end o (inr (inr w)) ends operands = found_so x (read.Variable w.0) n n n end o spec.of_none w.1 refl ends operands (spec.variable w.0 n)

  pub of_group : (x e f : read.Expr) (n m : ℕ) (o : Operation) → x ≡ read.Group e → f ≡ e → m ≡ next n → IsOutermost vars f m o → IsOutermost vars x n o
  of_group x e f n m o is same counted h =
      subst (λ (z : read.Expr). IsOutermost vars z n o) (sym is)
      (spec.group e n o (subst (λ (z : read.Expr). IsOutermost vars z (next n) o) same (subst (λ (j : ℕ). IsOutermost vars f j o) counted h)))
