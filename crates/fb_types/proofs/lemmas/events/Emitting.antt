-- Emissions of which the first is in place, where one more is added.
use Rattle.fb_types.proofs.Common.{◌≡◌, ◌≢◌, Bool, false, true, List, [], ◌∷◌, ◌++◌, ℕ, length, refl, sym, ap, ◌∙◌, arith, eqb-true, ◌==◌, OnErr, Result, Ok, Err, Value}
use Rattle.fb_types.specs.Emitted.{AreAfter, in_order}
use Rattle.fb_types.specs.declared.run.Emission.{Emission}

pub first_pushed :
    (filled : Bool) (earlier first : Emission) (others old : List Emission) → AreAfter filled others → in_order filled earlier others ≡ old → filled ≡ false
    → first ∷ others ≡ old ++ first ∷ []
first_pushed false earlier first others old none is off = ap (λ es. first ∷ es) none ∙ ap (λ es. es ++ first ∷ []) is
first_pushed true earlier first others old none is off = absurd (cc)

pub other_pushed :
    (filled : Bool) (first next : Emission) (others more old : List Emission) → AreAfter filled others → in_order filled first others ≡ old → old ≢ []
    → more ≡ others ++ next ∷ [] → in_order filled first more ≡ old ++ next ∷ []
other_pushed false first next others more old none is some grown = absurd (some (sym is))
other_pushed true first next others more old none is some grown = ap (λ es. first ∷ es) grown ∙ ap (λ es. es ++ next ∷ []) is

-- the only emission, of which the parts are known
pub alone :
    (filled : Bool) (first : Emission) (others all : List Emission) (vs : List Value) → in_order filled first others ≡ all → filled ≡ true → first.values ≡ vs
    → others ≡ [] → all ≡ record { event = first.event; values = vs } ∷ []
alone filled first others all vs is some values none =
    sym is ∙ (λ i. in_order (some i) (record { event = first.event; values = values i }) (none i))

-- there are no others
nil_of : (es : List Emission) → length es ≡ 0 → es ≡ []
nil_of [] none = refl
nil_of (e ∷ es) none = absurd (omega (arith, none))

pub no_others : (es : List Emission) (n : ℕ) (b : Bool) → n ≡ length es → b ≡ (n == 0) → b ≡ true → es ≡ []
no_others es n b counted tested holds = nil_of es (sym counted ∙ eqb-true n 0 (sym tested ∙ holds))

-- what holds in any case holds after an error
pub err_kept : {T E P : Type 0} (r : Result T E) → P → OnErr r P
err_kept (Ok x) p = tt
err_kept (Err e) p = p
