-- Operations without a kind, and what of them is marked, put together from their parts.
use Rattle.fb_types.proofs.Common.{◌≡◌, ◌∙◌, ◌∷◌, ◌+◌, ◌<◌, inl, inr, ℕ, List, Some, map, take, drop, length, get_or, refl, sym, ap, subst, add-one, drop-cons, slice_get-get_or, expr_of, function_named, true, false, Name, Types}
use Rattle.fb_types.specs.declared.text.BinaryOperator.{BinaryOperator}
use Rattle.fb_types.specs.declared.text.Expr as read
use Rattle.fb_types.specs.declared.text.UnaryOperator.{UnaryOperator}
use Rattle.fb_check.proofs.lemmas.types.ExpressionKinds.{group_value_kind}
use Rattle.fb_types.specs.Kinds.{is_value_kind, value_kind_of}
use Rattle.fb_types.specs.declared.function.Function.{Function}
use Rattle.fb_types.specs.declared.value_kind.ValueKind.{ValueKind}
use Rattle.fb_why.specs.Mismatches.{HasKind, HasNoKind, IsIn, IsMismatch, IsOperand, IsUnfit, fits, kind_of_operands}
use Rattle.fb_why.specs.Mismatches as spec
use Rattle.fb_why.specs.Tokens.{next, past, past_each}
use Rattle.fb_why.specs.declared.mismatch.Mismatch.{Mismatch}
use Rattle.fb_why.proofs.lemmas.UnfitOperands as unfit

-- one argument more is passed
pub each_more : (es : List read.Expr) (i k l : ℕ) (e : read.Expr) (all : ℕ) → i < length es → e ≡ get_or es i e → l ≡ next (past e k)
    → past_each (map past (drop i es)) k ≡ all → past_each (map past (drop (i + 1) es)) l ≡ all
each_more es i k l e all within is counted so =
    let cut : drop i es ≡ e ∷ drop (i + 1) es = drop-cons es i e within ∙ rw (← is) (rw add-one refl) in
    ap (λ (j : ℕ). past_each (map past (drop (i + 1) es)) j) counted ∙ sym (ap (λ (x : List read.Expr). past_each (map past x) k) cut) ∙ so

-- what is in parentheses has no kind if they have none
pub group_has_none : (types : Types) (e a b : read.Expr) → e ≡ read.Group b → a ≡ b → HasNoKind types e → HasNoKind types a
group_has_none types e a b is same none = sym (group_value_kind types e a b is same) ∙ none

-- ---- Operands

pub of_group : (e a b : read.Expr) (n k : ℕ) → e ≡ read.Group b → a ≡ b → k ≡ next n → IsOperand e n a k
of_group e a b n k is same counted =
    subst (λ (x : read.Expr). IsOperand x n a k) (sym is)
    (subst (λ (x : read.Expr). IsOperand (read.Group b) n x k) (sym same) (subst (λ (j : ℕ). IsOperand (read.Group b) n b j) (sym counted) (spec.inside b n)))

pub of_unary : (o : UnaryOperator) (e a b : read.Expr) (n k : ℕ) → e ≡ read.Unary o b → a ≡ b → k ≡ next n → IsOperand e n a k
of_unary o e a b n k is same counted =
    subst (λ (x : read.Expr). IsOperand x n a k) (sym is)
    (subst (λ (x : read.Expr). IsOperand (read.Unary o b) n x k) (sym same) (subst (λ (j : ℕ). IsOperand (read.Unary o b) n b j) (sym counted) (spec.operand o b n)))

pub of_left : (o : BinaryOperator) (e a b f : read.Expr) (n : ℕ) → e ≡ read.Binary o b f → a ≡ b → IsOperand e n a n
of_left o e a b f n is same =
    subst (λ (x : read.Expr). IsOperand x n a n) (sym is) (subst (λ (x : read.Expr). IsOperand (read.Binary o b f) n x n) (sym same) (spec.left o b f n))

pub of_right : (o : BinaryOperator) (e a b d f : read.Expr) (n m k : ℕ) → e ≡ read.Binary o b f → a ≡ b → d ≡ f → m ≡ past a n → k ≡ next m → IsOperand e n d k
of_right o e a b d f n m k is left right operator counted =
    let from : k ≡ next (past b n) = counted ∙ ap next (operator ∙ ap (λ (x : read.Expr). past x n) left) in
    subst (λ (x : read.Expr). IsOperand x n d k) (sym is)
    (subst (λ (x : read.Expr). IsOperand (read.Binary o b f) n x k) (sym right) (subst (λ (j : ℕ). IsOperand (read.Binary o b f) n f j) (sym from) (spec.right o b f n)))

pub of_call : (f : Name) (e a : read.Expr) (args : List read.Expr) (i n k : ℕ) → e ≡ read.Call f args → i < length args → a ≡ get_or args i a
    → k ≡ past_each (map past (take i args)) (next (next n)) → IsOperand e n a k
of_call f e a args i n k is within there counted =
    subst (λ (x : read.Expr). IsOperand x n a k) (sym is)
    (subst (λ (j : ℕ). IsOperand (read.Call f args) n a j) (sym counted) (spec.argument f args i a n (slice_get-get_or args i a within ∙ ap Some (sym there))))

-- ---- Operands that do not fit

module _ (types : Types) where
  pub operand_unfit : (o : UnaryOperator) (e a b : read.Expr) (n k : ℕ) → e ≡ read.Unary o b → a ≡ b → k ≡ next n → HasNoKind types e → HasKind types a → IsUnfit types e n a k
  operand_unfit o e a b n k is same counted none has =
      subst (λ (x : read.Expr). IsUnfit types x n a k) (sym is)
      (subst (λ (x : read.Expr). IsUnfit types (read.Unary o b) n x k) (sym same)
      (subst (λ (j : ℕ). IsUnfit types (read.Unary o b) n b j) (sym counted) (spec.unfit_operand o b n (subst (HasKind types) same has) (subst (HasNoKind types) is none))))

  pub left_unfit :
      (o : BinaryOperator) (k : ValueKind) (e a b f : read.Expr) (n : ℕ) → e ≡ read.Binary o b f → a ≡ b → kind_of_operands o ≡ Some k → is_value_kind k (value_kind_of types (expr_of a)) ≡ false
      → HasKind types a → IsUnfit types e n a n
  left_unfit o k e a b f n is same takes wrong has =
      subst (λ (x : read.Expr). IsUnfit types x n a n) (sym is)
      (subst (λ (x : read.Expr). IsUnfit types (read.Binary o x f) n a n) same (spec.unfit_left o a f n has (unfit.unfit_left types o k takes a has wrong)))

  pub right_unfit :
      (o : BinaryOperator) (k : ValueKind) (e a b d f : read.Expr) (n m l : ℕ) → e ≡ read.Binary o b f → a ≡ b → d ≡ f → m ≡ past a n → l ≡ next m → kind_of_operands o ≡ Some k
      → is_value_kind k (value_kind_of types (expr_of a)) ≡ true → HasNoKind types e → HasKind types d → IsUnfit types e n d l
  right_unfit o k e a b d f n m l is left right operator counted takes fits none has =
      let from : l ≡ next (past b n) = counted ∙ ap next (operator ∙ ap (λ (x : read.Expr). past x n) left) in
      let found : HasKind types f = subst (HasKind types) right has in
      let right_kind = subst (λ (x : read.Expr). is_value_kind k (value_kind_of types (expr_of x)) ≡ true) left fits in
      subst (λ (x : read.Expr). IsUnfit types x n d l) (sym is)
      (subst (λ (x : read.Expr). IsUnfit types (read.Binary o b f) n x l) (sym right)
      (subst (λ (j : ℕ). IsUnfit types (read.Binary o b f) n f j) (sym from)
      (spec.unfit_right o b f n found (unfit.unfit_right types o k takes b f found right_kind (subst (HasNoKind types) is none)))))

  pub argument_unfit :
      (g : Function) (f : Name) (e a : read.Expr) (args : List read.Expr) (i n k : ℕ) → e ≡ read.Call f args → function_named f ≡ Some g → i < length args → a ≡ get_or args i a
      → k ≡ past_each (map past (take i args)) (next (next n)) → fits g i (value_kind_of types (expr_of a)) ≡ false → HasKind types a → IsUnfit types e n a k
  argument_unfit g f e a args i n k is named within there counted wrong has =
      subst (λ (x : read.Expr). IsUnfit types x n a k) (sym is)
      (subst (λ (j : ℕ). IsUnfit types (read.Call f args) n a j) (sym counted)
      (spec.unfit_argument f args i a n (slice_get-get_or args i a within ∙ ap Some (sym there)) has (unfit.unfit_argument types g f i a named has wrong)))

-- ---- What is marked

module _ (types : Types) where
  -- in an operand, if it is in that
  pub deeper : (e : read.Expr) (n : ℕ) (a : read.Expr) (k : ℕ) (operation x : read.Expr) (m : ℕ) → IsOperand e n a k → IsMismatch types a k operation x m → IsMismatch types e n operation x m
  deeper e n a k operation x m is h = record {
    from = h.from;
    there = spec.deeper e n a k operation h.from is h.there;
    without = h.without;
    marked = h.marked;
  }

  -- an operand of the expression itself
  pub operand_marked : (e : read.Expr) (n : ℕ) (x : read.Expr) (m : ℕ) → HasNoKind types e → IsUnfit types e n x m → IsMismatch types e n e x m
  operand_marked e n x m without is = record {
    from = n;
    there = spec.itself e n;
    without = without;
    marked = inr is;
  }

  -- the expression itself
  pub itself_marked : (e : read.Expr) (n : ℕ) (r : Mismatch) → HasNoKind types e → r.operation.now ≡ e → r.marked.now ≡ e → r.first ≡ n → IsMismatch types e n r.operation.now r.marked.now r.first
  itself_marked e n r without operation marked first = record {
    from = n;
    there = subst (λ (x : read.Expr). IsIn e n x n) (sym operation) (spec.itself e n);
    without = subst (HasNoKind types) (sym operation) without;
    marked = inl (marked ∙ sym operation, first);
  }
