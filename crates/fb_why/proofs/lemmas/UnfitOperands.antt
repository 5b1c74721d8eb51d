-- An operand that an operation does not take, whatever its other operands are.
use Rattle.fb_types.proofs.Common.{◌≡◌, ◌∙◌, ◌∷◌, ◌&&◌, [], ℕ, zero, suc, Bool, true, false, List, Option, Some, None, ap, false≢true, option_and_then, option_map, refl, same_Some, slice_get, subst, sym, expr_of, function_named, Name, Types}
use Rattle.fb_types.specs.Kinds.{are_truths, are_whole, binary_value_kind, function_value_kind, if_right, is_value_kind, same_value_kind, value_kind_of, value_kinds_of}
use Rattle.fb_types.specs.declared.function.Function.{Function}
use Rattle.fb_types.specs.declared.function.Function.TheVariants.{Min, Max, Abs, Limit, Sel}
use Rattle.fb_types.specs.declared.text.BinaryOperator.{BinaryOperator}
use Rattle.fb_types.specs.declared.text.BinaryOperator.TheVariants.{Or, Xor, And, Equal, NotEqual, Less, Greater, LessOrEqual, GreaterOrEqual, Add, Subtract, Multiply, Divide, Modulo}
use Rattle.fb_types.specs.declared.text.Expr as read
use Rattle.fb_types.specs.declared.value_kind.ValueKind.{ValueKind}
use Rattle.fb_types.specs.declared.value_kind.ValueKind.TheVariants.{TruthValue, WholeNumber}
use Rattle.fb_check.specs.types.Trees.{arguments_of}
use Rattle.fb_check.proofs.lemmas.types.ExpressionKinds.{binary_is, call_is}
use Rattle.fb_why.specs.Mismatches.{HasKind, HasNoKind, fits, kind_of_operands}

abbrev kind : Types → read.Expr → Option ValueKind
kind types e = value_kind_of types (expr_of e)

-- ---- Two operands

abbrev both : ValueKind → ValueKind → ValueKind → Bool
both k s t = same_value_kind s k && same_value_kind t k

record Takes (o : BinaryOperator) (k : ValueKind) : Type 0 where
  gives : ValueKind
  by : (s t : ValueKind) → binary_value_kind o s t ≡ if_right (both k s t) gives

of_truths : (o : BinaryOperator) (k r : ValueKind) → Some TruthValue ≡ Some k → ((s t : ValueKind) → binary_value_kind o s t ≡ if_right (are_truths s t) r) → Takes o k
of_truths o k r is by = subst (λ (x : ValueKind). Takes o x) (same_Some TruthValue k is) (record { gives = r; by = by })

of_whole : (o : BinaryOperator) (k r : ValueKind) → Some WholeNumber ≡ Some k → ((s t : ValueKind) → binary_value_kind o s t ≡ if_right (are_whole s t) r) → Takes o k
of_whole o k r is by = subst (λ (x : ValueKind). Takes o x) (same_Some WholeNumber k is) (record { gives = r; by = by })

takes : (o : BinaryOperator) (k : ValueKind) → kind_of_operands o ≡ Some k → Takes o k
takes Or k is = of_truths Or k TruthValue is (λ s t. refl)
takes Xor k is = of_truths Xor k TruthValue is (λ s t. refl)
takes And k is = of_truths And k TruthValue is (λ s t. refl)
takes Equal k is = absurd (let differ : None ≡ Some k = is in cc)
takes NotEqual k is = absurd (let differ : None ≡ Some k = is in cc)
takes Less k is = of_whole Less k TruthValue is (λ s t. refl)
takes Greater k is = of_whole Greater k TruthValue is (λ s t. refl)
takes LessOrEqual k is = of_whole LessOrEqual k TruthValue is (λ s t. refl)
takes GreaterOrEqual k is = of_whole GreaterOrEqual k TruthValue is (λ s t. refl)
takes Add k is = of_whole Add k WholeNumber is (λ s t. refl)
takes Subtract k is = of_whole Subtract k WholeNumber is (λ s t. refl)
takes Multiply k is = of_whole Multiply k WholeNumber is (λ s t. refl)
takes Divide k is = of_whole Divide k WholeNumber is (λ s t. refl)
takes Modulo k is = of_whole Modulo k WholeNumber is (λ s t. refl)

no_left : (k s t : ValueKind) → same_value_kind k s ≡ false → both k s t ≡ false
no_left TruthValue TruthValue t h = absurd (false≢true (sym h))
no_left TruthValue WholeNumber t h = refl
no_left WholeNumber TruthValue t h = refl
no_left WholeNumber WholeNumber t h = absurd (false≢true (sym h))

no_right : (k s t : ValueKind) → same_value_kind k t ≡ false → both k s t ≡ false
no_right TruthValue s TruthValue h = absurd (false≢true (sym h))
no_right TruthValue TruthValue WholeNumber h = refl
no_right TruthValue WholeNumber WholeNumber h = refl
no_right WholeNumber TruthValue TruthValue h = refl
no_right WholeNumber WholeNumber TruthValue h = refl
no_right WholeNumber s WholeNumber h = absurd (false≢true (sym h))

none_if : (b : Bool) (r : ValueKind) → b ≡ false → if_right b r ≡ None
none_if b r h = ap (λ (c : Bool). if_right c r) h

-- with the right kind on the left, the right operand has the other one
other_right : (k s t r : ValueKind) → same_value_kind k s ≡ true → if_right (both k s t) r ≡ None → same_value_kind k t ≡ false
other_right TruthValue TruthValue TruthValue r h none = absurd (let differ : Some r ≡ None = none in cc)
other_right TruthValue TruthValue WholeNumber r h none = refl
other_right TruthValue WholeNumber t r h none = absurd (false≢true h)
other_right WholeNumber TruthValue t r h none = absurd (false≢true h)
other_right WholeNumber WholeNumber TruthValue r h none = refl
other_right WholeNumber WholeNumber WholeNumber r h none = absurd (let differ : Some r ≡ None = none in cc)

no_kind_left : (f : ValueKind → ValueKind → Option ValueKind) (s : ValueKind) (u : Option ValueKind) → ((t : ValueKind) → f s t ≡ None) → option_and_then (f s) u ≡ None
no_kind_left f s None none = refl
no_kind_left f s (Some t) none = none t

no_kind_right : (f : ValueKind → ValueKind → Option ValueKind) (t : ValueKind) (u : Option ValueKind) → ((s : ValueKind) → f s t ≡ None) → option_and_then (λ s. f s t) u ≡ None
no_kind_right f t None none = refl
no_kind_right f t (Some s) none = none s

module _ (types : Types) (o : BinaryOperator) (k : ValueKind) (is : kind_of_operands o ≡ Some k) where
  -- the kind of the left operand, whatever the right one is
  pub unfit_left : (e : read.Expr) → HasKind types e → is_value_kind k (kind types e) ≡ false → (g : read.Expr) → HasNoKind types (read.Binary o e g)
  unfit_left e has wrong g =
      let s = has.0 in
      let other : same_value_kind k s ≡ false = ap (λ (x : Option ValueKind). is_value_kind k x) (sym has.1) ∙ wrong in
      let w = takes o k is in
      binary_is types (read.Binary o e g) o e e g g refl refl refl ∙ ap (λ (x : Option ValueKind). option_and_then (λ s. option_and_then (binary_value_kind o s) (kind types g)) x) has.1
      ∙ no_kind_left (binary_value_kind o) s (kind types g) (λ t. w.by s t ∙ none_if (both k s t) w.gives (no_left k s t other))

  -- the kind of the right one, where the left one has the right kind
  pub unfit_right : (e f : read.Expr) → HasKind types f → is_value_kind k (kind types e) ≡ true → HasNoKind types (read.Binary o e f) → (g : read.Expr) → HasNoKind types (read.Binary o g f)
  unfit_right e f has right none g = go (kind types e) refl right
    where
      w : Takes o k
      w = takes o k is

      t : ValueKind
      t = has.0

      go : (u : Option ValueKind) → kind types e ≡ u → is_value_kind k u ≡ true → HasNoKind types (read.Binary o g f)
      go None at h = absurd (false≢true h)
      go (Some s) at h =
          let pair : binary_value_kind o s t ≡ None =
          sym (ap (λ (x : Option ValueKind). option_and_then (λ s. option_and_then (binary_value_kind o s) (kind types f)) x) at ∙ ap (λ (x : Option ValueKind). option_and_then (binary_value_kind o s) x) has.1)
          ∙ sym (binary_is types (read.Binary o e f) o e e f f refl refl refl) ∙ none in
          let other : same_value_kind k t ≡ false = other_right k s t w.gives h (sym (w.by s t) ∙ pair) in
          binary_is types (read.Binary o g f) o g g f f refl refl refl
          ∙ ap (λ (x : Option ValueKind). option_and_then (λ s. option_and_then (binary_value_kind o s) x) (kind types g)) has.1
          ∙ no_kind_right (binary_value_kind o) t (kind types g) (λ s. w.by s t ∙ none_if (both k s t) w.gives (no_right k s t other))

-- ---- Arguments

-- the kinds of arguments, and that of one of them
data Kinds (i : ℕ) (s : ValueKind) (o : Option (List ValueKind)) : Type 0 where
  unknown : o ≡ None → Kinds i s o
  known : (ss : List ValueKind) → o ≡ Some ss → slice_get ss i ≡ Some s → Kinds i s o

first_kind : (types : Types) (e : read.Expr) (es : List read.Expr) (s : ValueKind) (u : Option (List ValueKind)) → kind types e ≡ Some s → value_kinds_of types (arguments_of es) ≡ u → Kinds 0 s (value_kinds_of types (arguments_of (e ∷ es)))
first_kind types e es s u is all =
    let whole : value_kinds_of types (arguments_of (e ∷ es)) ≡ option_map (λ ss. s ∷ ss) u =
    ap (λ (x : Option ValueKind). option_and_then (λ s. option_map (λ ss. s ∷ ss) (value_kinds_of types (arguments_of es))) x) is ∙ ap (option_map (λ ss. s ∷ ss)) all in
    go u whole
  where
    go : (u : Option (List ValueKind)) → value_kinds_of types (arguments_of (e ∷ es)) ≡ option_map (λ ss. s ∷ ss) u → Kinds 0 s (value_kinds_of types (arguments_of (e ∷ es)))
    go None w = unknown w
    go (Some ss) w = known (s ∷ ss) w refl

later_kind : (i : ℕ) (s : ValueKind) (t : Option ValueKind) (w : Option (List ValueKind)) → Kinds i s w → Kinds (suc i) s (option_and_then (λ x. option_map (λ ss. x ∷ ss) w) t)
later_kind i s None w h = unknown refl
later_kind i s (Some x) w (unknown none) = unknown (ap (option_map (λ ss. x ∷ ss)) none)
later_kind i s (Some x) w (known ss is at) = known (x ∷ ss) (ap (option_map (λ ss. x ∷ ss)) is) at

kinds_with : (types : Types) (es : List read.Expr) (i : ℕ) (e : read.Expr) (s : ValueKind) → slice_get es i ≡ Some e → kind types e ≡ Some s → Kinds i s (value_kinds_of types (arguments_of es))
kinds_with types [] i e s at is = absurd (let differ : None ≡ Some e = at in cc)
kinds_with types (x ∷ es) zero e s at is =
    let same : x ≡ e = same_Some x e at in
    first_kind types x es s (value_kinds_of types (arguments_of es)) (ap (kind types) same ∙ is) refl
kinds_with types (x ∷ es) (suc i) e s at is = later_kind i s (kind types x) (value_kinds_of types (arguments_of es)) (kinds_with types es i e s at is)

swap : (k s : ValueKind) → same_value_kind k s ≡ false → same_value_kind s k ≡ false
swap TruthValue TruthValue h = h
swap TruthValue WholeNumber h = refl
swap WholeNumber TruthValue h = refl
swap WholeNumber WholeNumber h = h

and_false : (b c : Bool) → c ≡ false → b && c ≡ false
and_false true c h = h
and_false false c h = refl

no_more : {A : Type 0} (s : ValueKind) → None ≡ Some s → A
no_more {A} s e = absurd (let differ : None ≡ Some s = e in cc)

module _ (s : ValueKind) where
  abbrev Other : ValueKind → Type 0
  Other k = same_value_kind k s ≡ false

  other : (k a : ValueKind) → Some a ≡ Some s → Other k → same_value_kind k a ≡ false
  other k a at w = ap (same_value_kind k) (same_Some a s at) ∙ w

  unfit_min : (ss : List ValueKind) (i : ℕ) → slice_get ss i ≡ Some s → Other WholeNumber → function_value_kind Min ss ≡ None
  unfit_min [] i at w = refl
  unfit_min (a ∷ []) i at w = refl
  unfit_min (a ∷ b ∷ []) zero at w = none_if (are_whole a b) WholeNumber (no_left WholeNumber a b (other WholeNumber a at w))
  unfit_min (a ∷ b ∷ []) (suc zero) at w = none_if (are_whole a b) WholeNumber (no_right WholeNumber a b (other WholeNumber b at w))
  unfit_min (a ∷ b ∷ []) (suc (suc i)) at w = no_more s at
  unfit_min (a ∷ b ∷ c ∷ ss) i at w = refl

  unfit_max : (ss : List ValueKind) (i : ℕ) → slice_get ss i ≡ Some s → Other WholeNumber → function_value_kind Max ss ≡ None
  unfit_max [] i at w = refl
  unfit_max (a ∷ []) i at w = refl
  unfit_max (a ∷ b ∷ []) zero at w = none_if (are_whole a b) WholeNumber (no_left WholeNumber a b (other WholeNumber a at w))
  unfit_max (a ∷ b ∷ []) (suc zero) at w = none_if (are_whole a b) WholeNumber (no_right WholeNumber a b (other WholeNumber b at w))
  unfit_max (a ∷ b ∷ []) (suc (suc i)) at w = no_more s at
  unfit_max (a ∷ b ∷ c ∷ ss) i at w = refl

  unfit_abs : (ss : List ValueKind) (i : ℕ) → slice_get ss i ≡ Some s → Other WholeNumber → function_value_kind Abs ss ≡ None
  unfit_abs [] i at w = refl
  unfit_abs (a ∷ []) zero at w = none_if (same_value_kind a WholeNumber) WholeNumber (swap WholeNumber a (other WholeNumber a at w))
  unfit_abs (a ∷ []) (suc i) at w = no_more s at
  unfit_abs (a ∷ b ∷ ss) i at w = refl

  unfit_limit : (ss : List ValueKind) (i : ℕ) → slice_get ss i ≡ Some s → Other WholeNumber → function_value_kind Limit ss ≡ None
  unfit_limit [] i at w = refl
  unfit_limit (a ∷ []) i at w = refl
  unfit_limit (a ∷ b ∷ []) i at w = refl
  unfit_limit (a ∷ b ∷ c ∷ []) zero at w = ap (λ (x : Bool). if_right (x && are_whole b c) WholeNumber) (swap WholeNumber a (other WholeNumber a at w))
  unfit_limit (a ∷ b ∷ c ∷ []) (suc zero) at w =
      none_if (same_value_kind a WholeNumber && are_whole b c) WholeNumber (and_false (same_value_kind a WholeNumber) (are_whole b c) (no_left WholeNumber b c (other WholeNumber b at w)))
  unfit_limit (a ∷ b ∷ c ∷ []) (suc (suc zero)) at w =
      none_if (same_value_kind a WholeNumber && are_whole b c) WholeNumber (and_false (same_value_kind a WholeNumber) (are_whole b c) (no_right WholeNumber b c (other WholeNumber c at w)))
  unfit_limit (a ∷ b ∷ c ∷ []) (suc (suc (suc i))) at w = no_more s at
  unfit_limit (a ∷ b ∷ c ∷ d ∷ ss) i at w = refl

  unfit_sel : (ss : List ValueKind) → slice_get ss 0 ≡ Some s → Other TruthValue → function_value_kind Sel ss ≡ None
  unfit_sel [] at w = refl
  unfit_sel (a ∷ []) at w = refl
  unfit_sel (a ∷ b ∷ []) at w = refl
  unfit_sel (a ∷ b ∷ c ∷ []) at w = ap (λ (x : Bool). if_right (x && same_value_kind b c) b) (swap TruthValue a (other TruthValue a at w))
  unfit_sel (a ∷ b ∷ c ∷ d ∷ ss) at w = refl

  -- a function has no value with an argument of this kind
  unfit_among : (g : Function) (i : ℕ) (ss : List ValueKind) → slice_get ss i ≡ Some s → fits g i (Some s) ≡ false → function_value_kind g ss ≡ None
  unfit_among Min i ss at w = unfit_min ss i at w
  unfit_among Max i ss at w = unfit_max ss i at w
  unfit_among Abs i ss at w = unfit_abs ss i at w
  unfit_among Limit i ss at w = unfit_limit ss i at w
  unfit_among Sel zero ss at w = unfit_sel ss at w
  unfit_among Sel (suc i) ss at w = absurd (false≢true (sym w))

-- the kind of an argument, whatever the others are
pub unfit_argument :
    (types : Types) (g : Function) (f : Name) (i : ℕ) (e : read.Expr) → function_named f ≡ Some g → HasKind types e → fits g i (kind types e) ≡ false → (others : List read.Expr) → slice_get others i ≡ Some e
    → HasNoKind types (read.Call f others)
unfit_argument types g f i e named has wrong others at =
    call_is types (read.Call f others) f others others refl refl ∙ ap (option_and_then (λ g. option_and_then (function_value_kind g) (value_kinds_of types (arguments_of others)))) named
    ∙ go (kinds_with types others i e s at has.1)
  where
    s : ValueKind
    s = has.0

    misfits : fits g i (Some s) ≡ false
    misfits = ap (λ (x : Option ValueKind). fits g i x) (sym has.1) ∙ wrong

    go : Kinds i s (value_kinds_of types (arguments_of others)) → option_and_then (function_value_kind g) (value_kinds_of types (arguments_of others)) ≡ None
    go (unknown none) = ap (option_and_then (function_value_kind g)) none
    go (known ss is there) = ap (option_and_then (function_value_kind g)) is ∙ unfit_among s g i ss there misfits
