-- Where an expression has no value, put together from its parts.
use Rattle.fb_types.proofs.Common.{◌≡◌, ◌∙◌, ◌+◌, ◌<◌, ℕ, List, Option, Some, None, IfSome, map, take, drop, length, get_or, sym, ap, subst, Values}
use Rattle.fb_types.specs.declared.text.BinaryOperator.{BinaryOperator}
use Rattle.fb_types.specs.declared.text.UnaryOperator.{UnaryOperator}
use Rattle.fb_types.specs.declared.value.Reason.{Reason}
use Rattle.fb_types.specs.declared.text.Expr as read
use Rattle.fb_st.proofs.lemmas.Runs.{cut_at}
use Rattle.fb_stop.specs.Numbers.{next}
use Rattle.fb_stop.specs.Operations.{FaultIn, HasValue, IsFirstWithout, IsOfCall, IsWithout}
use Rattle.fb_stop.specs.Operations as spec
use Rattle.fb_stop.specs.Tokens.{past, past_each}
use Rattle.fb_stop.specs.declared.operation.Operands.{Operands}
use Rattle.fb_stop.specs.declared.operation.Operation.{Operation}

-- one argument more is passed
pub each_more : (es : List read.Expr) (i k l : ℕ) (e : read.Expr) (all : ℕ) → i < length es → e ≡ get_or es i e → l ≡ next (past e k)
    → past_each (map past (drop i es)) k ≡ all → past_each (map past (drop (i + 1) es)) l ≡ all
each_more es i k l e all within is counted so =
    ap (λ (j : ℕ). past_each (map past (drop (i + 1) es)) j) counted ∙ sym (ap (λ (x : List read.Expr). past_each (map past x) k) (cut_at es i e within is)) ∙ so

pub if_some_map : {A : Type 0} (P Q : A → Type 0) (o : Option A) → ((a : A) → P a → Q a) → IfSome o P → IfSome o Q
if_some_map P Q None f h = h
if_some_map P Q (Some a) f h = f a h

module _ (vars : Values) (r : Reason) where
  pub of_group : (x e f : read.Expr) (n m : ℕ) (o : Option Operation) → x ≡ read.Group e → f ≡ e → m ≡ next n → IfSome o (FaultIn vars r f m) → IfSome o (FaultIn vars r x n)
  of_group x e f n m o is same counted h =
      if_some_map (FaultIn vars r f m) (FaultIn vars r x n) o
      (λ y k. subst (λ (z : read.Expr). FaultIn vars r z n y) (sym is)
      (spec.in_group e n y (subst (λ (z : read.Expr). FaultIn vars r z (next n) y) same (subst (λ (j : ℕ). FaultIn vars r f j y) counted k))))
      h

  pub of_operand : (u : UnaryOperator) (x e f : read.Expr) (n m : ℕ) (o : Option Operation) → x ≡ read.Unary u e → f ≡ e → m ≡ next n → IfSome o (FaultIn vars r f m) → IfSome o (FaultIn vars r x n)
  of_operand u x e f n m o is same counted h =
      if_some_map (FaultIn vars r f m) (FaultIn vars r x n) o
      (λ y k. subst (λ (z : read.Expr). FaultIn vars r z n y) (sym is)
      (spec.in_operand u e n y (subst (λ (z : read.Expr). FaultIn vars r z (next n) y) same (subst (λ (j : ℕ). FaultIn vars r f j y) counted k))))
      h

  pub unary_here : (u : UnaryOperator) (x e f : read.Expr) (n end : ℕ) (o : Operands) → x ≡ read.Unary u e → f ≡ e → end ≡ past x n → o ≡ spec.of_one vars e → IsWithout vars r x → HasValue vars f
      → FaultIn vars r x n (record { first = n; operator = n; end = end; operands = o })
  unary_here u x e f n end o is same ends operands without has =
      subst (λ (j : ℕ). FaultIn vars r x n (record { first = n; operator = n; end = j; operands = o })) (sym ends)
      (subst (λ (w : Operands). FaultIn vars r x n (record { first = n; operator = n; end = past x n; operands = w })) (sym operands)
      (subst (λ (z : read.Expr). FaultIn vars r z n (record { first = n; operator = n; end = past z n; operands = spec.of_one vars e })) (sym is)
      (spec.at_unary u e n (subst (IsWithout vars r) is without) (subst (HasValue vars) same has))))

  pub of_left : (b : BinaryOperator) (x e f g : read.Expr) (n : ℕ) (o : Option Operation) → x ≡ read.Binary b e f → g ≡ e → IfSome o (FaultIn vars r g n) → IfSome o (FaultIn vars r x n)
  of_left b x e f g n o is same h =
      if_some_map (FaultIn vars r g n) (FaultIn vars r x n) o
      (λ y k. subst (λ (z : read.Expr). FaultIn vars r z n y) (sym is) (spec.in_left b e f n y (subst (λ (z : read.Expr). FaultIn vars r z n y) same k)))
      h

  pub of_right : (b : BinaryOperator) (x e f g d : read.Expr) (n k m : ℕ) (o : Option Operation) → x ≡ read.Binary b e f → d ≡ e → g ≡ f → k ≡ past d n → m ≡ next k → HasValue vars d
      → IfSome o (FaultIn vars r g m) → IfSome o (FaultIn vars r x n)
  of_right b x e f g d n k m o is same_left same_right operator counted has h =
      let from : m ≡ next (past e n) = counted ∙ ap next (operator ∙ ap (λ (z : read.Expr). past z n) same_left) in
      if_some_map (FaultIn vars r g m) (FaultIn vars r x n) o
      (λ y z. subst (λ (w : read.Expr). FaultIn vars r w n y) (sym is)
      (spec.in_right b e f n y (subst (HasValue vars) same_left has)
      (subst (λ (w : read.Expr). FaultIn vars r w (next (past e n)) y) same_right (subst (λ (j : ℕ). FaultIn vars r g j y) from z))))
      h

  pub binary_here : (b : BinaryOperator) (x e f d g : read.Expr) (n k end : ℕ) (o : Operands) → x ≡ read.Binary b e f → d ≡ e → g ≡ f → k ≡ past d n → end ≡ past x n → o ≡ spec.of_two vars e f
      → IsWithout vars r x → HasValue vars d → HasValue vars g
      → FaultIn vars r x n (record { first = n; operator = k; end = end; operands = o })
  binary_here b x e f d g n k end o is same_left same_right operator ends operands without has_left has_right =
      let at : k ≡ past e n = operator ∙ ap (λ (z : read.Expr). past z n) same_left in
      subst (λ (j : ℕ). FaultIn vars r x n (record { first = n; operator = k; end = j; operands = o })) (sym ends)
      (subst (λ (w : Operands). FaultIn vars r x n (record { first = n; operator = k; end = past x n; operands = w })) (sym operands)
      (subst (λ (z : read.Expr). FaultIn vars r z n (record { first = n; operator = k; end = past z n; operands = spec.of_two vars e f })) (sym is)
      (subst (λ (j : ℕ). FaultIn vars r (read.Binary b e f) n (record { first = n; operator = j; end = past (read.Binary b e f) n; operands = spec.of_two vars e f })) (sym at)
      (spec.at_binary b e f n (subst (IsWithout vars r) is without) (subst (HasValue vars) same_left has_left) (subst (HasValue vars) same_right has_right)))))

  pub of_argument : (args : List read.Expr) (n end index k : ℕ) (e : read.Expr) (o : Option Operation) → (h : IsFirstWithout vars args index) → h.argument ≡ e
      → k ≡ past_each (map past (take index args)) (next (next n)) → IfSome o (FaultIn vars r e k) → IfSome o (IsOfCall vars r args n end)
  of_argument args n end index k e o h same from found =
      if_some_map (FaultIn vars r e k) (IsOfCall vars r args n end) o
      (λ x fault f without ends. spec.in_argument f args n index x h
      (subst (λ (z : read.Expr). FaultIn vars r z (past_each (map past (take index args)) (next (next n))) x) (sym same) (subst (λ (j : ℕ). FaultIn vars r e j x) from fault)))
      found
