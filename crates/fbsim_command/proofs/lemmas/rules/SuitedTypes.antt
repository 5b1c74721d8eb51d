-- Types of which some value suits all conditions on a variable.
use Rattle.fb_types.proofs.Common.{◌≡◌, List, Bool, true, false, refl, sym, ap, subst, ◌∙◌, arith, not, ◌&&◌, ◌||◌, list_all, ℤ, ints, Name}
use lib.Dec.{T}
use lib.Signed.{◌≤ℤ◌}
use Rattle.std.specs.Prelude.{int_le}
use Rattle.fb_expect.specs.Contradictions.{IsIn, numbers, some_value, suits}
use Rattle.fb_expect.specs.declared.pattern.Condition.{Condition}
use Rattle.fb_expect.proofs.lemmas.patterns.Contradicting.{nothing-passes, number-passes, truth-passes}
use Rattle.fb_types.specs.declared.value.Ty.{Ty}
use Rattle.fb_types.specs.declared.value.Ty.TheVariants.{Sint, Int, Dint, Lint, Usint, Uint, Udint, Ulint, Time, Bool as Boolean}
use Rattle.fb_types.specs.declared.value.Value.{Value}
use Rattle.fb_types.specs.declared.value.Value.TheVariants as value
use Rattle.fbsim_command.specs.Possible.{can_suit, is_of_type, is_truth, least_of, most_of}

abbrev passes : Name → List Condition → Value → Bool
passes variable cs v = list_all (suits variable v) cs

abbrev test : Ty → Name → List Condition → Value → Bool
test t variable cs v = is_of_type t v && passes variable cs v

-- ---- Truth values

pub truths-suit :
    (t : Ty) (variable : Name) (cs : List Condition) → is_truth t ≡ true
    → (list_all (suits variable (value.Bool true)) cs || list_all (suits variable (value.Bool false)) cs) ≡ can_suit t variable cs
truths-suit t variable cs is = by (passes variable cs (value.Bool true) || passes variable cs (value.Bool false)) refl
  where
    both : (test t variable cs (value.Bool true) || test t variable cs (value.Bool false)) ≡ (passes variable cs (value.Bool true) || passes variable cs (value.Bool false))
    both = ap (λ (b : Bool). (b && passes variable cs (value.Bool true)) || (b && passes variable cs (value.Bool false))) is

    by : (b : Bool) → (passes variable cs (value.Bool true) || passes variable cs (value.Bool false)) ≡ b
        → (passes variable cs (value.Bool true) || passes variable cs (value.Bool false)) ≡ some_value (test t variable cs)
    by true on = on ∙ sym (truth-passes (test t variable cs) (both ∙ on))
    by false off =
        off
        ∙ sym (nothing-passes (test t variable cs) (both ∙ off)
        (λ z at. ap (λ (b : Bool). (not b && (int_le (least_of t) z && int_le z (most_of t))) && passes variable cs (value.Whole z)) is))

-- ---- Numbers

so : (b : Bool) → T b → b ≡ true
so true is = refl
so false is = absurd is

is-le : (a b : ℤ) → a ≤ℤ b → int_le a b ≡ true
is-le a b h = so (int_le a b) h.le

le-is : (a b : ℤ) → int_le a b ≡ true → a ≤ℤ b
le-is a b is = grind (arith, ints)

through : (a b c : ℤ) → a ≤ℤ b → b ≤ℤ c → a ≤ℤ c
through a b c p q = grind (arith, ints)

-- the numbers of each type are numbers of lines
least-in : (t : Ty) → numbers.least ≤ℤ least_of t
least-in Sint = omega (arith, ints)
least-in Int = omega (arith, ints)
least-in Dint = omega (arith, ints)
least-in Lint = omega (arith, ints)
least-in Time = omega (arith, ints)
least-in Usint = omega (arith, ints)
least-in Uint = omega (arith, ints)
least-in Udint = omega (arith, ints)
least-in Ulint = omega (arith, ints)
least-in Boolean = omega (arith, ints)

most-in : (t : Ty) → most_of t ≤ℤ numbers.most
most-in Sint = omega (arith, ints)
most-in Int = omega (arith, ints)
most-in Dint = omega (arith, ints)
most-in Lint = omega (arith, ints)
most-in Time = omega (arith, ints)
most-in Usint = omega (arith, ints)
most-in Uint = omega (arith, ints)
most-in Udint = omega (arith, ints)
most-in Ulint = omega (arith, ints)
most-in Boolean = omega (arith, ints)

in-numbers : (t : Ty) (z : ℤ) → (least_of t ≤ℤ z) × (z ≤ℤ most_of t) → IsIn numbers z
in-numbers t z at = (through numbers.least (least_of t) z (least-in t) at.0, through z (most_of t) numbers.most at.1 (most-in t))

abbrev held : (b le ge p : Bool) → Bool
held b le ge p = (not b && (le && ge)) && p

pub numbers-suit :
    (t : Ty) (variable : Name) (cs : List Condition) (b : Bool) → is_truth t ≡ false
    → (b ≡ true → (z : ℤ) × IsIn (record { least = least_of t; most = most_of t }) z × (list_all (suits variable (value.Whole z)) cs ≡ true))
    → (b ≡ false → (z : ℤ) → IsIn (record { least = least_of t; most = most_of t }) z → list_all (suits variable (value.Whole z)) cs ≡ false)
    → b ≡ can_suit t variable cs
numbers-suit t variable cs true off some none =
    let found = some refl in
    let z = found.0 in
    let le : int_le (least_of t) z ≡ true = is-le (least_of t) z found.1.0 in
    let ge : int_le z (most_of t) ≡ true = is-le z (most_of t) found.1.1 in
    sym (number-passes (test t variable cs) z (in-numbers t z found.1)
    (λ i. held (off i) (le i) (ge i) (found.2 i)))
numbers-suit t variable cs false off some none =
    sym (nothing-passes (test t variable cs)
    (ap (λ (b : Bool). (b && passes variable cs (value.Bool true)) || (b && passes variable cs (value.Bool false))) off)
    (λ z at. by z (int_le (least_of t) z) (int_le z (most_of t)) refl refl))
  where
    open-test : (z : ℤ) (le ge : Bool) → int_le (least_of t) z ≡ le → int_le z (most_of t) ≡ ge
        → test t variable cs (value.Whole z) ≡ held false le ge (passes variable cs (value.Whole z))
    open-test z le ge a b = λ i. held (off i) (a i) (b i) (passes variable cs (value.Whole z))

    by : (z : ℤ) (le ge : Bool) → int_le (least_of t) z ≡ le → int_le z (most_of t) ≡ ge → test t variable cs (value.Whole z) ≡ false
    by z true true a b = open-test z true true a b ∙ none refl z (le-is (least_of t) z a, le-is z (most_of t) b)
    by z true false a b = open-test z true false a b
    by z false ge a b = open-test z false ge a b

-- the same between numbers that are the least and the greatest of a type
pub numbers-by :
    (t : Ty) (variable : Name) (cs : List Condition) (b : Bool) (l m : ℤ) → is_truth t ≡ false → l ≡ least_of t → m ≡ most_of t
    → (b ≡ true → (z : ℤ) × IsIn (record { least = l; most = m }) z × (list_all (suits variable (value.Whole z)) cs ≡ true))
    → (b ≡ false → (z : ℤ) → IsIn (record { least = l; most = m }) z → list_all (suits variable (value.Whole z)) cs ≡ false)
    → b ≡ can_suit t variable cs
numbers-by t variable cs b l m off least most some none =
    numbers-suit t variable cs b off
    (λ is. let x = some is in (x.0, (subst (λ (k : ℤ). k ≤ℤ x.0) least x.1.0, subst (λ (k : ℤ). x.0 ≤ℤ k) most x.1.1), x.2))
    (λ is z at. none is z (subst (λ (k : ℤ). k ≤ℤ z) (sym least) at.0, subst (λ (k : ℤ). z ≤ℤ k) (sym most) at.1))
