-- The cases of a suite, one after the other.
use Rattle.fb_expect.proofs.lemmas.Common.{◌≡◌, ℕ, ◌+◌, ◌<◌, Bool, List, [], ◌∷◌, ◌++◌, length, get_or, drop, refl, sym, ap, ap₂, ◌∙◌, arith, inl, inr, append_assoc, append-nil, Result, Ok, Err, IfOk, OnOk, cases_lt, joined, Text, Judged, Rule}
use Rattle.fb_types.proofs.Common.{min, Vec, drop_all, drop_more}
use Rattle.fb_expect.specs.Suites.{case_of, cases_of, xml_bytes, xml_byte}

pub byte-put : (z a b : Text) (i : ℕ) → i < length z → b ≡ a ++ xml_byte (get_or z i 0) → b ++ xml_bytes (drop (i + 1) z) ≡ a ++ xml_bytes (drop i z)
byte-put z a b i lt is =
    ap (λ (t : Text). t ++ xml_bytes (drop (i + 1) z)) is ∙ append_assoc a (xml_byte (get_or z i 0)) (xml_bytes (drop (i + 1) z))
    ∙ ap (λ (t : Text). a ++ t) (sym (ap xml_bytes (drop_more z i 0 lt)))

-- one more case
pub case-put :
    (strict : Bool) (trace : Text) (rs : List Rule) (js : List Judged) (i : ℕ) (r : Rule) (d : Judged) (a b : Text) → i < length rs → i < length js → r ≡ get_or rs i r
    → b ≡ a ++ case_of strict trace r (get_or js i d) → b ++ cases_of strict trace (drop (i + 1) rs) (drop (i + 1) js) ≡ a ++ cases_of strict trace (drop i rs) (drop i js)
case-put strict trace rs js i r d a b lt lt' is-r is =
    let rest = cases_of strict trace (drop (i + 1) rs) (drop (i + 1) js) in
    ap (λ (t : Text). t ++ rest) is ∙ append_assoc a (case_of strict trace r (get_or js i d)) rest
    ∙ ap (λ (t : Text). a ++ t)
    (sym (ap₂ (cases_of strict trace) (drop_more rs i r lt ∙ ap (λ (x : Rule). x ∷ drop (i + 1) rs) (sym is-r)) (drop_more js i d lt')))

none-judged : (strict : Bool) (trace : Text) (rs : List Rule) → cases_of strict trace rs [] ≡ []
none-judged strict trace [] = refl
none-judged strict trace (r ∷ rs) = refl

-- no more
pub cases-end :
    (strict : Bool) (trace : Text) (rs : List Rule) (js : List Judged) (i : ℕ) → i ≡ min (length rs) (length js)
    → cases_of strict trace (drop i rs) (drop i js) ≡ []
cases-end strict trace rs js i end =
    elim (cases_lt (length js) (length rs)) as (λ _. cases_of strict trace (drop i rs) (drop i js) ≡ []) [
      | inl lt ↦ ap (cases_of strict trace (drop i rs)) (drop_all i js (omega (arith, end, lt))) ∙ none-judged strict trace (drop i rs)
      | inr le ↦ ap (λ (xs : List Rule). cases_of strict trace xs (drop i js)) (drop_all i rs (omega (arith, end, le)))
    ]

-- and the end of the suite
pub suite-end :
    {T E : Type 0} (r : Result T E) (old l t head cases rest e : Text) → rest ≡ [] → l ++ rest ≡ (old ++ head) ++ cases → OnOk r (t ≡ l ++ joined (e ∷ []))
    → OnOk r (t ≡ old ++ (head ++ (cases ++ e)))
suite-end (Err x) old l t head cases rest e none all is = tt
suite-end (Ok x) old l t head cases rest e none all is =
    let front : l ≡ (old ++ head) ++ cases = sym (append-nil l) ∙ ap (λ (z : Text). l ++ z) (sym none) ∙ all in
    is ∙ ap₂ (λ (y z : Text). y ++ z) front (append-nil e) ∙ append_assoc (old ++ head) cases e ∙ append_assoc old head (cases ++ e)

-- ---- What a suite begins with

pub counted :
    {E : Type 0} (r : Result (Vec ℕ) E) (x y z a b d e : Text) → x ≡ a → y ≡ b → z ≡ d → IfOk r (λ t. t.items ≡ joined (x ∷ y ∷ z ∷ e ∷ []))
    → IfOk r (λ t. t.items ≡ joined (a ∷ b ∷ d ∷ e ∷ []))
counted (Err f) x y z a b d e p q s is = tt
counted (Ok t) x y z a b d e p q s is = is ∙ (λ i. joined (p i ∷ q i ∷ s i ∷ e ∷ []))
