-- Values that meet all conditions on a variable, or none that does.
use Rattle.fb_expect.proofs.lemmas.Common.{◌≡◌, ◌⊎◌, ℕ, zero, suc, ◌+◌, ◌<◌, ◌≤◌, ◌^◌, Bool, true, false, not, ◌&&◌, ◌||◌, List, [], ◌∷◌, length, take, drop, get_or, cond, Option, Some, None, refl, sym, ap, ap₂, subst, ◌∙◌, arith, inl, inr, cases_lt, list_all, list_any, true≢false, Name}
use lib.Dec.{T}
use lib.Signed.{le_z_yes}
use Rattle.std.specs.List.{find}
use Rattle.std.specs.Prelude.{ℤ, pos, negsuc, neg_ℤ, ◌≤ℤ◌, int_le}
use Rattle.std.proofs.lemmas.Bool.{and_parts}
use Rattle.std.proofs.lemmas.Int.{ints}
use Rattle.std.proofs.lemmas.List.{drop_more, take_all}
use Rattle.std.proofs.lemmas.List.Folds.{list_all_more}
use Rattle.fb_types.proofs.lemmas.names.NameLaws.{same_name-Decides}
use Rattle.fb_types.specs.Names.{same_name}
use Rattle.fb_types.specs.declared.value.Value.{Value}
use Rattle.fb_types.specs.declared.value.Value.TheVariants as value
use Rattle.fb_expect.specs.Contradictions.{IsIn, has_value, impossible, magnitudes, numbers, some_value, suits}
use Rattle.fb_expect.specs.Paired.{some_below}
use Rattle.fb_expect.specs.Patterns.{compares_whole}
use Rattle.fb_expect.specs.declared.contradiction.Span.{Span}
use Rattle.fb_expect.specs.declared.pattern.Comparison.{Comparison}
use Rattle.fb_expect.specs.declared.pattern.Comparison.TheVariants.{Equal}
use Rattle.fb_expect.specs.declared.pattern.Condition.{Condition}

-- ---- Numbers of lines

below : (k : ℕ) → k < magnitudes → k < 2 ^ 64
unfolding magnitudes
below k lt = lt

within : (k : ℕ) → k < 2 ^ 64 → k < magnitudes
unfolding magnitudes
within k lt = lt

pub is-in : (k : ℕ) → k < magnitudes → IsIn numbers (pos k) × IsIn numbers (neg_ℤ (pos k))
is-in zero lt = ((omega (arith, ints), omega (arith, ints)), (omega (arith, ints), omega (arith, ints)))
is-in (suc k) lt = let b = below (suc k) lt in ((omega (arith, ints), omega (arith, ints)), (omega (arith, ints), omega (arith, ints)))

-- ---- Some value

some-at : (test : ℕ → Bool) (k n : ℕ) → k < n → test k ≡ true → some_below test n ≡ true
some-at test k zero lt is = absurd (omega arith)
some-at test k (suc n) lt is = by (cases_lt k n) (λ less. some-at test k n less is)
  where
    or : (b : Bool) → (b || true) ≡ true
    or true = refl
    or false = refl

    by : (k < n) ⊎ (n ≤ k) → (k < n → some_below test n ≡ true) → (some_below test n || test n) ≡ true
    by (inl less) before = ap (λ (b : Bool). b || test n) (before less)
    by (inr le) before = ap (λ (b : Bool). some_below test n || b) (ap test (let e : n ≡ k = omega arith in e) ∙ is) ∙ or (some_below test n)

none-at : (test : ℕ → Bool) (n : ℕ) → ((k : ℕ) → k < n → test k ≡ false) → some_below test n ≡ false
none-at test zero none = refl
none-at test (suc n) none = ap₂ (λ (a b : Bool). a || b) (none-at test n (λ k lt. none k (omega arith))) (none n (omega arith))

or-right : (a b : Bool) → b ≡ true → (a || b) ≡ true
or-right true b is = refl
or-right false b is = is

or-left : (a b : Bool) → a ≡ true → (a || b) ≡ true
or-left a b is = ap (λ (c : Bool). c || b) is

or-none : (a b : Bool) → a ≡ false → b ≡ false → (a || b) ≡ false
or-none a b p q = ap₂ (λ (c d : Bool). c || d) p q

abbrev either : (Value → Bool) → ℕ → Bool
either test n = test (value.Whole (pos n)) || test (value.Whole (neg_ℤ (pos n)))

abbrev truths : (Value → Bool) → Bool
truths test = test (value.Bool true) || test (value.Bool false)

pub truth-passes : (test : Value → Bool) → truths test ≡ true → some_value test ≡ true
unfolding some_value
truth-passes test is = or-left (truths test) (some_below (either test) magnitudes) is

whole-passes : (test : Value → Bool) (k : ℕ) → k < magnitudes → either test k ≡ true → some_value test ≡ true
unfolding some_value
whole-passes test k lt is = or-right (truths test) (some_below (either test) magnitudes) (some-at (either test) k magnitudes lt is)

pub number-passes : (test : Value → Bool) (z : ℤ) → IsIn numbers z → test (value.Whole z) ≡ true → some_value test ≡ true
number-passes test (pos k) at is =
    whole-passes test k (within k (omega (arith, ints, at.1))) (or-left (test (value.Whole (pos k))) (test (value.Whole (neg_ℤ (pos k)))) is)
number-passes test (negsuc k) at is =
    whole-passes test (suc k) (within (suc k) (omega (arith, ints, at.0))) (or-right (test (value.Whole (pos (suc k)))) (test (value.Whole (negsuc k))) is)

none-passes : (test : Value → Bool) → truths test ≡ false → ((k : ℕ) → k < magnitudes → either test k ≡ false) → some_value test ≡ false
unfolding some_value
none-passes test truth whole = or-none (truths test) (some_below (either test) magnitudes) truth (none-at (either test) magnitudes whole)

pub nothing-passes : (test : Value → Bool) → truths test ≡ false → ((z : ℤ) → IsIn numbers z → test (value.Whole z) ≡ false) → some_value test ≡ false
nothing-passes test truth whole =
    none-passes test truth
    (λ k lt.
    let at = is-in k lt in
    or-none (test (value.Whole (pos k))) (test (value.Whole (neg_ℤ (pos k)))) (whole (pos k) at.0) (whole (neg_ℤ (pos k)) at.1))

-- ---- Conditions

le-yes : (a b : ℤ) → int_le a b ≡ true → a ≤ℤ b
le-yes a b is = le_z_yes (subst T (sym is) tt)

-- equal numbers
pub equal-in : (k : Comparison) (z n : ℤ) → k ≡ Equal → compares_whole k z n ≡ true → (n ≤ℤ z) × (z ≤ℤ n)
equal-in k z n same is =
    let parts = and_parts (int_le z n) (int_le n z) (sym (ap (λ (j : Comparison). compares_whole j z n) same) ∙ is) in
    (le-yes n z parts.1, le-yes z n parts.0)

-- one more condition
pub suits-next :
    (variable : Name) (v : Value) (cs : List Condition) (i : ℕ) (c : Condition) → i < length cs → c ≡ get_or cs i c → list_all (suits variable v) (take (i + 1) cs) ≡ true
    → (list_all (suits variable v) (take i cs) ≡ true) × (suits variable v c ≡ true)
suits-next variable v cs i c lt is all =
    let parts =
    and_parts (list_all (suits variable v) (take i cs)) (suits variable v (get_or cs i c)) (sym (list_all_more (suits variable v) cs i c lt) ∙ all) in
    (parts.0, ap (suits variable v) is ∙ parts.1)

-- no more
pub all-of :
    (variable : Name) (v : Value) (cs : List Condition) (i : ℕ) → length cs ≤ i → list_all (suits variable v) cs ≡ true → list_all (suits variable v) (take i cs) ≡ true
all-of variable v cs i le all = ap (list_all (suits variable v)) (take_all i cs le) ∙ all

-- the same bounds
pub same-bounds : (a c b d z : ℤ) → a ≡ c → b ≡ d → (a ≤ℤ z) × (z ≤ℤ b) → (c ≤ℤ z) × (z ≤ℤ d)
same-bounds a c b d z least most at = (subst (λ (k : ℤ). k ≤ℤ z) least at.0, subst (λ (k : ℤ). z ≤ℤ k) most at.1)

-- ---- A variable

abbrev pub passes-all : List Condition → Name → Value → Bool
passes-all cs variable v = list_all (suits variable v) cs

pub by-truth : (cs : List Condition) (variable : Name) → truths (passes-all cs variable) ≡ true → true ≡ has_value cs variable
unfolding has_value
by-truth cs variable is = sym (truth-passes (passes-all cs variable) is)

pub number-none :
    (cs : List Condition) (variable : Name) (span : Span) (z : ℤ) → (passes-all cs variable (value.Whole z) ≡ true → IsIn span z) → (IsIn span z → passes-all cs variable (value.Whole z) ≡ false)
    → passes-all cs variable (value.Whole z) ≡ false
number-none cs variable span z all none = by (passes-all cs variable (value.Whole z)) refl
  where
    by : (p : Bool) → passes-all cs variable (value.Whole z) ≡ p → p ≡ false
    by true is = sym is ∙ none (all is)
    by false is = refl

pub by-number :
    (cs : List Condition) (variable : Name) (span : Span) (b : Bool) → truths (passes-all cs variable) ≡ false
    → ((z : ℤ) → IsIn numbers z → passes-all cs variable (value.Whole z) ≡ true → IsIn span z) → ((z : ℤ) → IsIn span z → IsIn numbers z)
    → (b ≡ true → (z : ℤ) × IsIn span z × (passes-all cs variable (value.Whole z) ≡ true)) → (b ≡ false → (z : ℤ) → IsIn span z → passes-all cs variable (value.Whole z) ≡ false)
    → b ≡ has_value cs variable
unfolding has_value
by-number cs variable span true truth all part some none =
    let found = some refl in
    sym (number-passes (passes-all cs variable) found.0 (part found.0 found.1) found.2)
by-number cs variable span false truth all part some none =
    sym (nothing-passes (passes-all cs variable) truth (λ z at. by z at (passes-all cs variable (value.Whole z)) refl))
  where
    by : (z : ℤ) → IsIn numbers z → (p : Bool) → passes-all cs variable (value.Whole z) ≡ p → p ≡ false
    by z at true is = sym is ∙ none refl z (all z at is)
    by z at false is = refl

-- ---- All variables

-- a variable that a condition before is on was judged there
pub judged-before :
    (cs before : List Condition) (variable : Name) → list_all (λ c. has_value cs c.variable) before ≡ true → list_any (λ c. same_name c.variable variable) before ≡ true
    → has_value cs variable ≡ true
judged-before cs [] variable all some = absurd (true≢false (sym some))
judged-before cs (c ∷ before) variable all some =
    let parts = and_parts (has_value cs c.variable) (list_all (λ c. has_value cs c.variable) before) all in
    by (same_name c.variable variable) refl parts.0 parts.1 some (judged-before cs before variable)
  where
    by :
        (b : Bool) → same_name c.variable variable ≡ b → has_value cs c.variable ≡ true → list_all (λ c. has_value cs c.variable) before ≡ true
        → (b || list_any (λ c. same_name c.variable variable) before) ≡ true
        → (list_all (λ c. has_value cs c.variable) before ≡ true → list_any (λ c. same_name c.variable variable) before ≡ true → has_value cs variable ≡ true) → has_value cs variable ≡ true
    by true is one rest some earlier = ap (has_value cs) (sym ((same_name-Decides c.variable variable).0 is)) ∙ one
    by false is one rest some earlier = earlier rest some

-- what is sought among conditions, of which the first have values
abbrev lacks : List Condition → Condition → Bool
lacks cs c = not (has_value cs c.variable)

pub passes-one :
    (cs : List Condition) (i : ℕ) (c : Condition) → i < length cs → c ≡ get_or cs i c → has_value cs c.variable ≡ true
    → find (lacks cs) (drop i cs) ≡ find (lacks cs) (drop (i + 1) cs)
passes-one cs i c lt is has =
    ap (find (lacks cs)) (drop_more cs i c lt ∙ ap (λ (x : Condition). x ∷ drop (i + 1) cs) (sym is))
    ∙ ap (λ (b : Bool). cond (not b) (Some c) (find (lacks cs) (drop (i + 1) cs))) has

pub more-have :
    (cs : List Condition) (i : ℕ) (c : Condition) → i < length cs → c ≡ get_or cs i c → list_all (λ c. has_value cs c.variable) (take i cs) ≡ true → has_value cs c.variable ≡ true
    → list_all (λ c. has_value cs c.variable) (take (i + 1) cs) ≡ true
more-have cs i c lt is all one =
    list_all_more (λ c. has_value cs c.variable) cs i c lt ∙ ap₂ (λ (a b : Bool). a && b) all (ap (λ (x : Condition). has_value cs x.variable) (sym is) ∙ one)

-- one more variable has a value
pub next-has :
    (cs : List Condition) (i : ℕ) (c : Condition) → i < length cs → c ≡ get_or cs i c → list_all (λ c. has_value cs c.variable) (take i cs) ≡ true
    → impossible cs ≡ find (lacks cs) (drop i cs) → has_value cs c.variable ≡ true
    → record { before : list_all (λ c. has_value cs c.variable) (take (i + 1) cs) ≡ true; rest : impossible cs ≡ find (lacks cs) (drop (i + 1) cs) }
next-has cs i c lt is before rest has = record { before = more-have cs i c lt is before has; rest = rest ∙ passes-one cs i c lt is has }
