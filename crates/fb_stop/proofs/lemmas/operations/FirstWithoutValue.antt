-- The first part without a value gives the reason of the whole.
use Rattle.fb_types.proofs.Common.{ℤ, Bool, ◌≡◌, ◌<◌, ℕ, zero, suc, List, [], ◌∷◌, Option, Some, None, Result, Ok, Err, IfNone, ◌⊎◌, inl, inr, map, refl, sym, ◌∙◌, ap, subst, arith, slice_get, Name, expr_of, exprs, Values, and_then, binary_value, function_named, unary_value, value_if_known, value_of, values_of}
use Rattle.fb_types.specs.declared.text.BinaryOperator.{BinaryOperator}
use Rattle.fb_types.specs.declared.text.UnaryOperator.{UnaryOperator}
use Rattle.fb_types.specs.declared.value.Reason.{Reason}
use Rattle.fb_types.specs.declared.value.Value.{Value}
use Rattle.fb_types.specs.Syntax.{Unary}
use Rattle.fb_types.specs.declared.text.Expr as read
use Rattle.fb_types.specs.declared.text.Expr.{fold-roll-Expr}
use Rattle.fb_types.specs.declared.text.Expr.TheVariants as variant
use Rattle.fb_types.specs.declared.value.Value.TheVariants as value
use Rattle.fb_st.proofs.lemmas.Says.{binary_is, call_comes, group_comes, truth_comes, variable_comes, whole_comes}
use Rattle.fb_stop.specs.Operations.{HasNoValue, HasValue, IsCallOtherwise, IsFirstWithout, IsOtherwise, IsWithout}

pub if_none_map : {A P Q : Type 0} (o : Option A) → (P → Q) → IfNone o P → IfNone o Q
if_none_map None f h = f h
if_none_map (Some a) f h = tt

unary_is : (d : read.Expr) (o : UnaryOperator) (e : read.Expr) → d ≡ read.Unary o e → expr_of d ≡ Unary o (expr_of e)
unary_is d o e is = rw is (rw (← variant.rolls-Unary o e) (rw fold-roll-Expr refl))

first_reason : {A B : Type 0} (x : Result A Reason) (f : A → Result B Reason) (r : Reason) → ((a : A) → x ≡ Ok a → ⊥) → and_then x f ≡ Err r → x ≡ Err r
first_reason (Ok a) f r never is = absurd (never a refl)
first_reason (Err q) f r never is = let same : q ≡ r = cc in ap (λ (p : Reason). Err p) same

no_value : (vars : Values) (e : read.Expr) → HasNoValue vars e → (v : Value) → value_of (expr_of e) vars ≡ Ok v → ⊥
no_value vars e never v is = never (v, is)

stopped : {A B : Type 0} (x : Result A Reason) (f : A → Result B Reason) → ((a : A) → x ≡ Ok a → ⊥) → (q : Reason) × (x ≡ Err q) × (and_then x f ≡ Err q)
stopped (Ok a) f never = absurd (never a refl)
stopped (Err q) f never = (q, refl, refl)

-- the reason of the others, after a value
passed :
    (x : Result Value Reason) (y : Result (List Value) Reason) (v : Value) (q : Reason) → x ≡ Ok v → y ≡ Err q
    → and_then x (λ w. and_then y (λ vs. Ok (w ∷ vs))) ≡ Err q
passed (Ok w) (Ok vs) v q has is = absurd (cc)
passed (Ok w) (Err p) v q has is = let same : p ≡ q = cc in ap (λ (s : Reason). Err s) same
passed (Err p) y v q has is = absurd (cc)

no_reason : (v : Value) (r : Reason) → ◌≡◌ {A = Result Value Reason} (Ok v) (Err r) → ⊥
no_reason v r is = cc

module _ (vars : Values) (r : Reason) where
  -- a literal and a variable have values
  pub of_leaf : (x : read.Expr) → ((z : ℤ) × (x ≡ read.Whole z)) ⊎ (((b : Bool) × (x ≡ read.Truth b)) ⊎ ((n : Name) × (x ≡ read.Variable n))) → IsOtherwise vars r x
  of_leaf x (inl w) without = no_reason (value.Whole w.0) r (whole_comes x vars w.0 w.1 ∙ without)
  of_leaf x (inr (inl b)) without = no_reason (value.Bool b.0) r (truth_comes x vars b.0 b.1 ∙ without)
  of_leaf x (inr (inr n)) without = no_reason (vars n.0) r (variable_comes x vars n.0 n.1 ∙ without)

  pub in_group : (x e f : read.Expr) → x ≡ read.Group e → f ≡ e → IsOtherwise vars r f → IsOtherwise vars r x
  in_group x e f is same never without = never (ap (λ (z : read.Expr). value_of (expr_of z) vars) same ∙ group_comes x vars e is ∙ without)

  pub in_operand : (u : UnaryOperator) (x e f : read.Expr) → x ≡ read.Unary u e → f ≡ e → HasNoValue vars f → IsOtherwise vars r f → IsOtherwise vars r x
  in_operand u x e f is same none never without =
      let at : and_then (value_of (expr_of f) vars) (unary_value u) ≡ Err r =
      ap (λ (z : read.Expr). and_then (value_of (expr_of z) vars) (unary_value u)) same ∙ ap (λ z. value_of z vars) (sym (unary_is x u e is)) ∙ without in
      never (first_reason (value_of (expr_of f) vars) (unary_value u) r (no_value vars f none) at)

  -- what a binary operation gives, by its operands
  both : (b : BinaryOperator) (x e f d g : read.Expr) → x ≡ read.Binary b e f → d ≡ e → g ≡ f → IsWithout vars r x
      → and_then (value_of (expr_of d) vars) (λ v. and_then (value_of (expr_of g) vars) (λ w. binary_value b v w)) ≡ Err r
  both b x e f d g is left right without =
      ap (λ (z : read.Expr). and_then (value_of (expr_of z) vars) (λ v. and_then (value_of (expr_of g) vars) (λ w. binary_value b v w))) left
      ∙ ap (λ (z : read.Expr). and_then (value_of (expr_of e) vars) (λ v. and_then (value_of (expr_of z) vars) (λ w. binary_value b v w))) right
      ∙ ap (λ z. value_of z vars) (sym (binary_is x b e f is)) ∙ without

  pub in_left : (b : BinaryOperator) (x e f g : read.Expr) → x ≡ read.Binary b e f → g ≡ e → HasNoValue vars g → IsOtherwise vars r g → IsOtherwise vars r x
  in_left b x e f g is same none never without =
      never (first_reason (value_of (expr_of g) vars) (λ v. and_then (value_of (expr_of f) vars) (λ w. binary_value b v w)) r (no_value vars g none) (both b x e f g f is same refl without))

  pub in_right :
      (b : BinaryOperator) (x e f d g : read.Expr) → x ≡ read.Binary b e f → d ≡ e → g ≡ f → HasValue vars d → HasNoValue vars g → IsOtherwise vars r g → IsOtherwise vars r x
  in_right b x e f d g is left right has none never without =
      let after : Value → Result Value Reason = λ v. and_then (value_of (expr_of g) vars) (λ w. binary_value b v w) in
      let then : after has.0 ≡ Err r = sym (ap (λ (y : Result Value Reason). and_then y after) has.1) ∙ both b x e f d g is left right without in
      never (first_reason (value_of (expr_of g) vars) (λ w. binary_value b has.0 w) r (no_value vars g none) then)

  -- the arguments stop at the first one without a value
  stops_at :
      (args : List read.Expr) (index : ℕ) (e : read.Expr) → slice_get args index ≡ Some e → HasNoValue vars e
      → ((k : ℕ) (a : read.Expr) → k < index → slice_get args k ≡ Some a → HasValue vars a)
      → (q : Reason) × (value_of (expr_of e) vars ≡ Err q) × (values_of (exprs (map expr_of args)) vars ≡ Err q)
  stops_at [] index e at none before = absurd (cc)
  stops_at (a ∷ args) zero e at none before =
      let same : a ≡ e = cc in
      subst (λ (z : read.Expr). (q : Reason) × (value_of (expr_of z) vars ≡ Err q) × (values_of (exprs (map expr_of (a ∷ args))) vars ≡ Err q)) same
      (stopped (value_of (expr_of a) vars) (λ v. and_then (values_of (exprs (map expr_of args)) vars) (λ vs. Ok (v ∷ vs))) (no_value vars a (subst (HasNoValue vars) (sym same) none)))
  stops_at (a ∷ args) (suc index) e at none before =
      let has : HasValue vars a = before 0 a (omega arith) refl in
      let rest = stops_at args index e at none (λ k x below here. before (suc k) x (omega (arith, below)) here) in
      (rest.0, rest.1, passed (value_of (expr_of a) vars) (values_of (exprs (map expr_of args)) vars) has.0 rest.0 has.1 rest.2)

  pub in_argument : (args : List read.Expr) (index : ℕ) (e : read.Expr) → (h : IsFirstWithout vars args index) → h.argument ≡ e → IsOtherwise vars r e → IsCallOtherwise vars r args
  in_argument args index e h same never f without =
      let at = stops_at args index h.argument h.at h.without h.before in
      let call : and_then (values_of (exprs (map expr_of args)) vars) (value_if_known (function_named f)) ≡ Err at.0 =
      ap (λ (y : Result (List Value) Reason). and_then y (value_if_known (function_named f))) at.2 in
      let all : ◌≡◌ {A = Result Value Reason} (Err at.0) (Err r) = sym call ∙ call_comes (read.Call f args) vars f args refl ∙ without in
      let reason : at.0 ≡ r = cc in
      never (subst (IsWithout vars r) same (at.1 ∙ ap (λ (q : Reason). Err q) reason))
