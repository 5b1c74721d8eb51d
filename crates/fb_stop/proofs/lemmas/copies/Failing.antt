-- Which transition's trial fails.
use Rattle.fb_types.proofs.Common.{◌≡◌, ℕ, ℤ, zero, suc, ◌-◌, ◌<◌, Bool, true, false, List, [], ◌∷◌, take, Option, Some, None, Result, Ok, Err, refl, sym, ap, subst, ◌∙◌, arith, pos, neg_ℤ, ◌+ℤ◌, ◌-ℤ◌, if◌then◌else◌, Name, Binary, expr_of, Values, and_then, binary_value, function_named, truth, unary_value, value_if_known, value_of, values_of, whole, NoneClears, Fails, by_condition, is_true, trial_of}
use Rattle.fb_types.specs.declared.function.Function.{Function}
use Rattle.fb_types.specs.declared.library.Transition.{Transition}
use Rattle.fb_types.specs.declared.text.BinaryOperator.{BinaryOperator}
use Rattle.fb_types.specs.declared.text.UnaryOperator.{UnaryOperator}
use Rattle.fb_types.specs.declared.value.Reason.{Reason}
use Rattle.fb_types.specs.declared.value.Value.{Value}
use Rattle.std.specs.Prelude.{◌*ℤ◌, int_div}
use Rattle.fb_types.specs.Syntax.{Expr, Whole, Truth, Variable, Unary, Call, Exprs, no_expr, then_exprs}
use Rattle.fb_types.specs.Values.{absolute, function_value, judged, modulus, quotient, same_whole, within_signed}
use Rattle.fb_types.specs.Charts.{guard_value, is_present}
use Rattle.fb_types.specs.declared.function.Function.TheVariants.{Min, Max, Abs, Limit, Sel}
use Rattle.fb_types.specs.declared.library.Condition.{Condition}
use Rattle.fb_types.specs.declared.text.BinaryOperator.TheVariants.{Or, Xor, And, Equal, NotEqual, Less, Greater, LessOrEqual, GreaterOrEqual, Add, Subtract, Multiply, Divide, Modulo}
use Rattle.fb_types.specs.declared.text.Expr as read
use Rattle.fb_types.specs.declared.text.UnaryOperator.TheVariants.{Negate, Not}
use Rattle.fb_types.specs.declared.value.Reason.TheVariants as reason
use Rattle.fb_types.specs.declared.value.Value.TheVariants as value
use Rattle.fb_stop.specs.Links.{failing_index}
use Rattle.fb_stop.specs.Sites.{FailsAt}

-- ---- An expression uses no steps

-- There is a value, or a reason that is not the steps.
abbrev IsNoSteps : Reason → Type 0
IsNoSteps reason.Steps = ⊥
IsNoSteps reason.Divide = Unit {0}
IsNoSteps reason.Range = Unit {0}

abbrev UsesNoSteps : {A : Type 0} → Result A Reason → Type 0
UsesNoSteps (Ok a) = Unit {0}
UsesNoSteps (Err r) = IsNoSteps r

then-none : {A B : Type 0} (r : Result A Reason) (f : A → Result B Reason) → UsesNoSteps r → ((a : A) → UsesNoSteps (f a)) → UsesNoSteps (and_then r f)
then-none (Ok a) f h g = g a
then-none (Err r) f h g = h

judged-none : (z : ℤ) → UsesNoSteps (judged z)
judged-none z = go (within_signed 127 z)
  where
    go : (b : Bool) → UsesNoSteps (if b then Ok (value.Whole z) else Err reason.Range)
    go true = tt
    go false = tt

quotient-none : (x y : ℤ) → UsesNoSteps (quotient x y)
quotient-none x y = go (same_whole y (pos 0))
  where
    go : (b : Bool) → UsesNoSteps (if b then Err reason.Divide else judged (int_div x y))
    go true = tt
    go false = judged-none (int_div x y)

modulus-none : (x y : ℤ) → UsesNoSteps (modulus x y)
modulus-none x y = go (same_whole y (pos 0))
  where
    go : (b : Bool) → UsesNoSteps (if b then judged (pos 0) else judged (x -ℤ (int_div x y *ℤ y)))
    go true = judged-none (pos 0)
    go false = judged-none (x -ℤ (int_div x y *ℤ y))

unary-none : (o : UnaryOperator) (v : Value) → UsesNoSteps (unary_value o v)
unary-none Negate v = judged-none (neg_ℤ (whole v))
unary-none Not v = tt

binary-none : (o : BinaryOperator) (v w : Value) → UsesNoSteps (binary_value o v w)
binary-none Or v w = tt
binary-none Xor v w = tt
binary-none And v w = tt
binary-none Equal v w = tt
binary-none NotEqual v w = tt
binary-none Less v w = tt
binary-none Greater v w = tt
binary-none LessOrEqual v w = tt
binary-none GreaterOrEqual v w = tt
binary-none Add v w = judged-none (whole v +ℤ whole w)
binary-none Subtract v w = judged-none (whole v -ℤ whole w)
binary-none Multiply v w = judged-none (whole v *ℤ whole w)
binary-none Divide v w = quotient-none (whole v) (whole w)
binary-none Modulo v w = modulus-none (whole v) (whole w)

function-none : (f : Function) (vs : List Value) → UsesNoSteps (function_value f vs)
function-none Min [] = tt
function-none Min (a ∷ []) = tt
function-none Min (a ∷ b ∷ []) = tt
function-none Min (a ∷ b ∷ c ∷ vs) = tt
function-none Max [] = tt
function-none Max (a ∷ []) = tt
function-none Max (a ∷ b ∷ []) = tt
function-none Max (a ∷ b ∷ c ∷ vs) = tt
function-none Abs [] = tt
function-none Abs (a ∷ []) = judged-none (absolute (whole a))
function-none Abs (a ∷ b ∷ vs) = tt
function-none Limit [] = tt
function-none Limit (a ∷ []) = tt
function-none Limit (a ∷ b ∷ []) = tt
function-none Limit (a ∷ b ∷ c ∷ []) = tt
function-none Limit (a ∷ b ∷ c ∷ d ∷ vs) = tt
function-none Sel [] = tt
function-none Sel (a ∷ []) = tt
function-none Sel (a ∷ b ∷ []) = tt
function-none Sel (a ∷ b ∷ c ∷ []) = tt
function-none Sel (a ∷ b ∷ c ∷ d ∷ vs) = tt

known-none : (o : Option Function) (vs : List Value) → UsesNoSteps (value_if_known o vs)
known-none (Some f) vs = function-none f vs
known-none None vs = tt

mutual
  value-none : (e : Expr) (vars : Values) → UsesNoSteps (value_of e vars)
  value-none (Whole z) vars = tt
  value-none (Truth b) vars = tt
  value-none (Variable n) vars = tt
  value-none (Unary o e) vars = then-none (value_of e vars) (unary_value o) (value-none e vars) (unary-none o)
  value-none (Binary o e f) vars =
      then-none (value_of e vars) (λ v. and_then (value_of f vars) (λ w. binary_value o v w)) (value-none e vars)
      (λ v. then-none (value_of f vars) (λ w. binary_value o v w) (value-none f vars) (binary-none o v))
  value-none (Call f args) vars =
      then-none (values_of args vars) (value_if_known (function_named f)) (values-none args vars) (known-none (function_named f))

  values-none : (es : Exprs) (vars : Values) → UsesNoSteps (values_of es vars)
  values-none no_expr vars = tt
  values-none (then_exprs e rest) vars =
      then-none (value_of e vars) (λ v. and_then (values_of rest vars) (λ vs. Ok (v ∷ vs))) (value-none e vars)
      (λ v. then-none (values_of rest vars) (λ vs. Ok (v ∷ vs)) (values-none rest vars) (λ vs. tt))

guard-none : (g : Option read.Expr) (vars : Values) → UsesNoSteps (guard_value g vars)
guard-none None vars = tt
guard-none (Some g) vars = then-none (value_of (expr_of g) vars) (λ v. Ok (truth v)) (value-none (expr_of g) vars) (λ v. tt)

condition-none : (c : Condition) (present : Option Name) (vars : Values) → UsesNoSteps (is_true c present vars)
condition-none c present vars = go (is_present c.event present)
  where
    go : (b : Bool) → UsesNoSteps (if b then guard_value c.guard vars else Ok false)
    go true = guard-none c.guard vars
    go false = tt

-- ---- The trial that fails

-- what is left once a trial has failed for another reason than the steps is less than it was
abbrev IsUsed : Reason → (left after : ℕ) → Type 0
IsUsed reason.Steps left after = Unit {0}
IsUsed reason.Divide left after = after < left
IsUsed reason.Range left after = after < left

used-more : (r : Reason) (left after : ℕ) → IsUsed r left after → IsUsed r (suc left) after
used-more reason.Steps left after h = tt
used-more reason.Divide left after h = omega arith
used-more reason.Range left after h = omega arith

used-now : (r : Reason) (left : ℕ) → IsNoSteps r → IsUsed r (suc left) left
used-now reason.Steps left h = tt
used-now reason.Divide left h = omega arith
used-now reason.Range left h = omega arith

index-more : (r : Reason) (left after : ℕ) → IsUsed r left after → failing_index (suc left) after r ≡ suc (failing_index left after r)
index-more reason.Steps left after h = refl
index-more reason.Divide left after h = omega arith
index-more reason.Range left after h = omega arith

index-now : (r : Reason) (left : ℕ) → IsNoSteps r → failing_index (suc left) left r ≡ 0
index-now reason.Steps left h = absurd h
index-now reason.Divide left h = omega arith
index-now reason.Range left h = omega arith

index-none : (r : Reason) (after : ℕ) → failing_index 0 after r ≡ 0
index-none reason.Steps after = refl
index-none reason.Divide after = omega arith
index-none reason.Range after = omega arith

-- Where the trial fails, and that steps were used.
record Failing (ts : List Transition) (present : Option Name) (vars : Values) (left : ℕ) (r : Reason) (after : ℕ) : Type 0 where
  used : IsUsed r left after
  here : FailsAt ts present vars left r (failing_index left after r)

less : (n m : ℕ) → n - m ≡ suc n - suc m
less n m = omega arith

less_none : (n : ℕ) → n ≡ n - 0
less_none n = omega arith

module _ (present : Option Name) (vars : Values) where
  -- one transition that was tried before
  one_more : (t : Transition) (ts : List Transition) (left j : ℕ) (r : Reason) → is_true t.condition present vars ≡ Ok false
      → FailsAt ts present vars left r j → FailsAt (t ∷ ts) present vars (suc left) r (suc j)
  one_more t ts left j r is h = record {
    transition = h.transition;
    at = h.at;
    before = ap (λ (b : Result Bool Reason). by_condition b t.to left (trial_of (take j ts) present vars left)) is ∙ h.before ∙ ap NoneClears (less left j);
    after = h.after;
    fails = ap (λ (n : ℕ). trial_of (h.transition ∷ []) present vars n) (sym (less left j)) ∙ h.fails;
  }

  failing : (ts : List Transition) (left : ℕ) (r : Reason) (after : ℕ) → trial_of ts present vars left ≡ Fails r after → Failing ts present vars left r after
  failing [] left r after h = absurd (cc)
  failing (t ∷ ts) zero r after h =
      record {
        used = subst (λ (s : Reason). IsUsed s zero after) (steps_first h) tt;
        here = subst (λ (j : ℕ). FailsAt (t ∷ ts) present vars zero r j) (sym (index-none r after))
            (record { transition = t; at = refl; before = refl; after = after; fails = h });
      }
    where
      steps_first : Fails reason.Steps 0 ≡ Fails r after → reason.Steps ≡ r
      steps_first e = cc
  failing (t ∷ ts) (suc left) r after h = go (is_true t.condition present vars) refl h (failing ts left r after)
    where
      go : (b : Result Bool Reason) → is_true t.condition present vars ≡ b → by_condition b t.to left (trial_of ts present vars left) ≡ Fails r after
          → (trial_of ts present vars left ≡ Fails r after → Failing ts present vars left r after) → Failing (t ∷ ts) present vars (suc left) r after
      go (Ok true) is e rest = absurd (cc)
      go (Ok false) is e rest =
          let it = rest e in
          record {
            used = used-more r left after it.used;
            here = subst (λ (j : ℕ). FailsAt (t ∷ ts) present vars (suc left) r j) (sym (index-more r left after it.used)) (one_more t ts left (failing_index left after r) r is it.here);
          }
      go (Err s) is e rest =
          let same : s ≡ r = cc in
          let left_is : left ≡ after = cc in
          let none : IsNoSteps r = subst (λ (u : Reason). IsNoSteps u) same (subst (λ (b : Result Bool Reason). UsesNoSteps b) is (condition-none t.condition present vars)) in
          record {
            used = subst (λ (n : ℕ). IsUsed r (suc left) n) left_is (used-now r left none);
            here = subst (λ (j : ℕ). FailsAt (t ∷ ts) present vars (suc left) r j) (sym (ap (λ (n : ℕ). failing_index (suc left) n r) (sym left_is) ∙ index-now r left none))
                (record {
                  transition = t;
                  at = refl;
                  before = ap NoneClears (less_none (suc left));
                  after = after;
                  fails = ap (λ (n : ℕ). trial_of (t ∷ []) present vars n) (sym (less_none (suc left)))
                      ∙ ap (λ (b : Result Bool Reason). by_condition b t.to left (NoneClears left)) is
                      ∙ ap (λ (u : Reason). Fails u left) same
                      ∙ ap (Fails r) left_is;
                });
          }

  -- the transition whose trial fails
  pub fails_at : (ts : List Transition) (left : ℕ) (r : Reason) (after : ℕ) → trial_of ts present vars left ≡ Fails r after
      → FailsAt ts present vars left r (failing_index left after r)
  fails_at ts left r after h = (failing ts left r after h).here
