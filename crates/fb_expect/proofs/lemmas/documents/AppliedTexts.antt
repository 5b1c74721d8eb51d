-- What a report says of the traces in which rules applied, rule by rule.
use Rattle.fb_expect.proofs.lemmas.Common.{◌≡◌, ℕ, ◌+◌, ◌<◌, ◌≤◌, List, [], ◌∷◌, ◌++◌, length, get_or, drop, refl, sym, ap, ap₂, ◌∙◌, arith, inl, inr, append_assoc, cases_lt, Text, Rule}
use Rattle.fb_types.proofs.Common.{min, drop_all, drop_more}
use Rattle.fb_expect.specs.Applied.{applied_case, applied_cases, applied_point, applied_points}

-- the rule and the count at an index, and those after them
rules-from : (rs : List Rule) (i : ℕ) (r : Rule) → i < length rs → r ≡ get_or rs i r → drop i rs ≡ r ∷ drop (i + 1) rs
rules-from rs i r lt is = drop_more rs i r lt ∙ ap (λ (x : Rule). x ∷ drop (i + 1) rs) (sym is)

-- ---- Points

pub applied-put :
    (before i : ℕ) (rs : List Rule) (ns : List ℕ) (r : Rule) (number traces : ℕ) (a b : Text) → i < length rs → i < length ns → r ≡ get_or rs i r → number ≡ before + i
    → b ≡ a ++ applied_point (number + 1) r (get_or ns i 0) traces
    → b ++ applied_points (before + (i + 1)) (drop (i + 1) rs) (drop (i + 1) ns) traces ≡ a ++ applied_points (before + i) (drop i rs) (drop i ns) traces
applied-put before i rs ns r number traces a b lt lt' is-r is-number is =
    let n = get_or ns i 0 in
    let one = applied_point (before + i + 1) r n traces in
    let next : before + (i + 1) ≡ before + i + 1 = omega arith in
    let rest = applied_points (before + i + 1) (drop (i + 1) rs) (drop (i + 1) ns) traces in
    ap (λ (k : ℕ). b ++ applied_points k (drop (i + 1) rs) (drop (i + 1) ns) traces) next
    ∙ ap (λ (t : Text). t ++ rest) (is ∙ ap (λ (k : ℕ). a ++ applied_point (k + 1) r n traces) is-number)
    ∙ append_assoc a one rest
    ∙ ap (λ (t : Text). a ++ t) (sym (ap₂ (λ (xs : List Rule) (ms : List ℕ). applied_points (before + i) xs ms traces) (rules-from rs i r lt is-r) (drop_more ns i 0 lt')))

no-points : (before : ℕ) (rs : List Rule) (traces : ℕ) → applied_points before rs [] traces ≡ []
no-points before [] traces = refl
no-points before (r ∷ rs) traces = refl

pub applied-end :
    (before : ℕ) (rs : List Rule) (ns : List ℕ) (i traces : ℕ) → i ≡ min (length rs) (length ns) → applied_points before (drop i rs) (drop i ns) traces ≡ []
applied-end before rs ns i traces end =
    elim (cases_lt (length ns) (length rs)) as (λ _. applied_points before (drop i rs) (drop i ns) traces ≡ []) [
      | inl lt ↦
          ap (λ (ms : List ℕ). applied_points before (drop i rs) ms traces) (drop_all i ns (omega (arith, end, lt))) ∙ no-points before (drop i rs) traces
      | inr le ↦ ap (λ (xs : List Rule). applied_points before xs (drop i ns) traces) (drop_all i rs (omega (arith, end, le)))
    ]

-- ---- Cases

pub case-put :
    (i : ℕ) (rs : List Rule) (ns : List ℕ) (r : Rule) (traces : ℕ) (a b : Text) → i < length rs → i < length ns → r ≡ get_or rs i r
    → b ≡ a ++ applied_case r (get_or ns i 0) traces
    → b ++ applied_cases (drop (i + 1) rs) (drop (i + 1) ns) traces ≡ a ++ applied_cases (drop i rs) (drop i ns) traces
case-put i rs ns r traces a b lt lt' is-r is =
    let rest = applied_cases (drop (i + 1) rs) (drop (i + 1) ns) traces in
    ap (λ (t : Text). t ++ rest) is ∙ append_assoc a (applied_case r (get_or ns i 0) traces) rest
    ∙ ap (λ (t : Text). a ++ t) (sym (ap₂ (λ (xs : List Rule) (ms : List ℕ). applied_cases xs ms traces) (rules-from rs i r lt is-r) (drop_more ns i 0 lt')))

no-cases : (rs : List Rule) (traces : ℕ) → applied_cases rs [] traces ≡ []
no-cases [] traces = refl
no-cases (r ∷ rs) traces = refl

pub cases-end : (rs : List Rule) (ns : List ℕ) (i traces : ℕ) → i ≡ min (length rs) (length ns) → applied_cases (drop i rs) (drop i ns) traces ≡ []
cases-end rs ns i traces end =
    elim (cases_lt (length ns) (length rs)) as (λ _. applied_cases (drop i rs) (drop i ns) traces ≡ []) [
      | inl lt ↦ ap (λ (ms : List ℕ). applied_cases (drop i rs) ms traces) (drop_all i ns (omega (arith, end, lt))) ∙ no-cases (drop i rs) traces
      | inr le ↦ ap (λ (xs : List Rule). applied_cases xs (drop i ns) traces) (drop_all i rs (omega (arith, end, le)))
    ]
