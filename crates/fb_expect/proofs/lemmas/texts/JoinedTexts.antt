-- Texts that are put together part by part.
use Rattle.fb_expect.proofs.lemmas.Common.{◌≡◌, ℕ, ◌+◌, ◌<◌, ◌≤◌, Bool, Bor, List, [], ◌∷◌, ◌++◌, length, get_or, map, take, drop, inl, inr, Result, Ok, Err, refl, sym, ap, ap₂, subst, ◌∙◌, append_assoc, append-nil, arith, IfOk, cases_lt, map-append, take_all, joined, Text, Judged, Rule}
use Rattle.fb_types.proofs.Common.{min, length-take-le, take-append-drop, take_more, IfOk-equal}
use Rattle.std.specs.Result.{result_and}
use Rattle.fb_expect.specs.Reports.{escape_bytes, escape_byte, point, points}
use Rattle.fb_expect.specs.declared.tap.Of.{Of}

joined-push : (ts : List Text) (t : Text) → joined (ts ++ t ∷ []) ≡ joined ts ++ t
joined-push [] t = append-nil t
joined-push (u ∷ ts) t = ap (λ (z : Text). u ++ z) (joined-push ts t) ∙ sym (append_assoc u (joined ts) t)

-- the part at a index
abbrev pub part_at : List (Bor Text) → ℕ → Text
part_at ps i = (get_or ps i (record { ref_ptr = (0, 0); now = [] })).now

abbrev pub texts : List (Bor Text) → List Text
texts ps = map (λ (q : Bor Text). q.now) ps

-- one more part
pub one-more : (ps : List (Bor Text)) (i : ℕ) → i < length ps → joined (texts (take (i + 1) ps)) ≡ joined (texts (take i ps)) ++ part_at ps i
one-more ps i lt =
    let none : Bor Text = record { ref_ptr = (0, 0); now = [] } in
    ap (λ (qs : List (Bor Text)). joined (texts qs)) (take_more ps i none lt) ∙ ap joined (map-append (λ (q : Bor Text). q.now) (take i ps) (get_or ps i none ∷ []))
    ∙ joined-push (texts (take i ps)) (part_at ps i)

escape-push : (mark : ℕ) (z : Text) (b : ℕ) → escape_bytes mark (z ++ b ∷ []) ≡ escape_bytes mark z ++ escape_byte mark b
escape-push mark [] b = append-nil (escape_byte mark b)
escape-push mark (x ∷ z) b = ap (λ (t : Text). escape_byte mark x ++ t) (escape-push mark z b) ∙ sym (append_assoc (escape_byte mark x) (escape_bytes mark z) (escape_byte mark b))

-- one more byte
pub byte-more : (mark : ℕ) (z : Text) (i d : ℕ) → i < length z → escape_bytes mark (take (i + 1) z) ≡ escape_bytes mark (take i z) ++ escape_byte mark (get_or z i d)
byte-more mark z i d lt = ap (escape_bytes mark) (take_more z i d lt) ∙ escape-push mark (take i z) (get_or z i d)

-- ---- Texts that are put after a text

three-joined : (z a b x y v : Text) → a ≡ z ++ x → b ≡ a ++ y → b ++ v ≡ z ++ joined (x ∷ y ∷ v ∷ [])
three-joined z a b x y v first second =
    ap (λ (t : Text). t ++ v) (second ∙ ap (λ (t : Text). t ++ y) first ∙ append_assoc z x y) ∙ append_assoc z (x ++ y) v
    ∙ ap (λ (t : Text). z ++ t) (append_assoc x y v ∙ ap (λ (t : Text). x ++ (y ++ t)) (sym (append-nil v)))

-- what three calls put, of which each may fail
pub three-put :
    {T E : Type 0} (r s t q w : Result T E) (z a b c x y v : Text) → q ≡ result_and r s → w ≡ result_and q t → IfOk r (λ _. a ≡ z ++ x) → IfOk s (λ _. b ≡ a ++ y)
    → IfOk t (λ _. c ≡ b ++ v) → IfOk w (λ _. c ≡ z ++ joined (x ∷ y ∷ v ∷ []))
three-put {T} {E} (Err e) s t q w z a b c x y v is all-is first second third =
    subst (λ (o : Result T E). IfOk o (λ _. c ≡ z ++ joined (x ∷ y ∷ v ∷ []))) (sym (all-is ∙ ap (λ (o : Result T E). result_and o t) is)) tt
three-put {T} {E} (Ok k) (Err e) t q w z a b c x y v is all-is first second third =
    subst (λ (o : Result T E). IfOk o (λ _. c ≡ z ++ joined (x ∷ y ∷ v ∷ []))) (sym (all-is ∙ ap (λ (o : Result T E). result_and o t) is)) tt
three-put {T} {E} (Ok k) (Ok m) t q w z a b c x y v is all-is first second third =
    subst (λ (o : Result T E). IfOk o (λ _. c ≡ z ++ joined (x ∷ y ∷ v ∷ []))) (sym (all-is ∙ ap (λ (o : Result T E). result_and o t) is))
    (IfOk-equal t c (b ++ v) (z ++ joined (x ∷ y ∷ v ∷ [])) third (three-joined z a b x y v first second))

-- ---- Points

points-push :
    (strict : Bool) (of : Of) (before : ℕ) (rs : List Rule) (js : List Judged) (r : Rule) (j : Judged) → length js ≡ length rs
    → points strict of before (rs ++ r ∷ []) (js ++ j ∷ []) ≡ points strict of before rs js ++ point strict of (before + length rs + 1) r j
points-push strict of before [] [] r j same = append-nil (point strict of (before + 1) r j) ∙ ap (λ (n : ℕ). point strict of n r j) (omega arith)
points-push strict of before [] (k ∷ js) r j same = absurd (omega arith)
points-push strict of before (s ∷ rs) [] r j same = absurd (omega arith)
points-push strict of before (s ∷ rs) (k ∷ js) r j same =
    let one = point strict of (before + 1) s k in
    ap (λ (t : Text). one ++ t) (points-push strict of (before + 1) rs js r j (omega arith) ∙ ap (λ (n : ℕ). points strict of (before + 1) rs js ++ point strict of n r j) (omega arith))
    ∙ sym (append_assoc one (points strict of (before + 1) rs js) (point strict of (before + length (s ∷ rs) + 1) r j))

-- a point: what its line begins and ends with, how often it was decided, and its comments
pub point-put :
    {T E : Type 0} (s q w : Result T E) (z a b d h t o v head tail : Text) → head ≡ h → tail ≡ t → a ≡ z ++ joined (head ∷ tail ∷ []) → w ≡ result_and s q
    → IfOk s (λ _. b ≡ a ++ o) → IfOk q (λ _. d ≡ b ++ v) → IfOk w (λ _. d ≡ z ++ (h ++ (t ++ (o ++ v))))
point-put {T} {E} (Err e) q w z a b d h t o v head tail is-head is-tail first is second third =
    subst (λ (x : Result T E). IfOk x (λ _. d ≡ z ++ (h ++ (t ++ (o ++ v))))) (sym is) tt
point-put {T} {E} (Ok k) q w z a b d h t o v head tail is-head is-tail first is second third =
    subst (λ (x : Result T E). IfOk x (λ _. d ≡ z ++ (h ++ (t ++ (o ++ v))))) (sym is)
    (IfOk-equal q d (b ++ v) (z ++ (h ++ (t ++ (o ++ v)))) third
    (ap (λ (u : Text). u ++ v)
    (second ∙ ap (λ (u : Text). u ++ o) (first ∙ ap₂ (λ (f g : Text). z ++ (f ++ (g ++ []))) is-head is-tail ∙ ap (λ (u : Text). z ++ (h ++ u)) (append-nil t))
    ∙ append_assoc z (h ++ t) o ∙ ap (λ (u : Text). z ++ u) (append_assoc h t o))
    ∙ append_assoc z (h ++ (t ++ o)) v ∙ ap (λ (u : Text). z ++ u) (append_assoc h (t ++ o) v ∙ ap (λ (u : Text). h ++ u) (append_assoc t o v))))

point-more :
    (strict : Bool) (of : Of) (before : ℕ) (rs : List Rule) (js : List Judged) (i : ℕ) (r : Rule) (d : Judged) → i < length rs → i < length js → r ≡ get_or rs i r
    → points strict of before (take (i + 1) rs) (take (i + 1) js) ≡ points strict of before (take i rs) (take i js) ++ point strict of (before + i + 1) r (get_or js i d)
point-more strict of before rs js i r d lt lt' is-r =
    let j = get_or js i d in
    let short : length (take i rs) ≡ i = length-take-le i rs (omega arith) in
    let short' : length (take i js) ≡ i = length-take-le i js (omega arith) in
    ap (λ (xs : List Rule). points strict of before xs (take (i + 1) js)) (take_more rs i r lt ∙ ap (λ (x : Rule). take i rs ++ x ∷ []) (sym is-r))
    ∙ ap (λ (xs : List Judged). points strict of before (take i rs ++ r ∷ []) xs) (take_more js i d lt')
    ∙ points-push strict of before (take i rs) (take i js) r j (omega arith)
    ∙ ap (λ (n : ℕ). points strict of before (take i rs) (take i js) ++ point strict of (before + n + 1) r j) short

-- one more point, put after those before it
pub point-added :
    (strict : Bool) (of : Of) (before : ℕ) (rs : List Rule) (js : List Judged) (i : ℕ) (r : Rule) (d : Judged) (number : ℕ) (z a b : Text) → i < length rs → i < length js
    → r ≡ get_or rs i r → number ≡ before + i → a ≡ z ++ points strict of before (take i rs) (take i js) → b ≡ a ++ point strict of (number + 1) r (get_or js i d)
    → b ≡ z ++ points strict of before (take (i + 1) rs) (take (i + 1) js)
point-added strict of before rs js i r d number z a b lt lt' is-r is-number said is =
    let one = point strict of (before + i + 1) r (get_or js i d) in
    is ∙ ap (λ (n : ℕ). a ++ point strict of (n + 1) r (get_or js i d)) is-number ∙ ap (λ (t : Text). t ++ one) said
    ∙ append_assoc z (points strict of before (take i rs) (take i js)) one ∙ ap (λ (t : Text). z ++ t) (sym (point-more strict of before rs js i r d lt lt' is-r))

-- ---- Points end with the shorter list

points-none : (strict : Bool) (of : Of) (before : ℕ) (rs : List Rule) → points strict of before rs [] ≡ []
points-none strict of before [] = refl
points-none strict of before (r ∷ rs) = refl

fewer_rules : (strict : Bool) (of : Of) (before : ℕ) (rs : List Rule) (js ks : List Judged) → length rs ≤ length js → points strict of before rs (js ++ ks) ≡ points strict of before rs js
fewer_rules strict of before [] js ks few = refl
fewer_rules strict of before (r ∷ rs) [] ks few = absurd (omega (arith, few))
fewer_rules strict of before (r ∷ rs) (j ∷ js) ks few = ap (λ (t : Text). point strict of (before + 1) r j ++ t) (fewer_rules strict of (before + 1) rs js ks (omega (arith, few)))

fewer_judged : (strict : Bool) (of : Of) (before : ℕ) (rs ss : List Rule) (js : List Judged) → length js ≤ length rs → points strict of before (rs ++ ss) js ≡ points strict of before rs js
fewer_judged strict of before [] ss [] few = points-none strict of before ss
fewer_judged strict of before [] ss (j ∷ js) few = absurd (omega (arith, few))
fewer_judged strict of before (r ∷ rs) ss [] few = refl
fewer_judged strict of before (r ∷ rs) ss (j ∷ js) few = ap (λ (t : Text). point strict of (before + 1) r j ++ t) (fewer_judged strict of (before + 1) rs ss js (omega (arith, few)))

-- all points, once the shorter list is at its end
pub points-all :
    (strict : Bool) (of : Of) (before : ℕ) (rs : List Rule) (js : List Judged) (i : ℕ) → i ≡ min (length rs) (length js)
    → points strict of before (take i rs) (take i js) ≡ points strict of before rs js
points-all strict of before rs js i end =
    elim (cases_lt (length js) (length rs)) [
      | inl lt ↦
          (let is : i ≡ length js = omega (arith, end, lt) in
          ap (λ (ys : List Judged). points strict of before (take i rs) ys) (take_all i js (omega (arith, is)))
          ∙ sym (fewer_judged strict of before (take i rs) (drop i rs) js (let n = length-take-le i rs (omega (arith, is, lt)) in omega (arith, n, is)))
          ∙ ap (λ (xs : List Rule). points strict of before xs js) (take-append-drop i rs))
      | inr le ↦
          (let is : i ≡ length rs = omega (arith, end, le) in
          ap (λ (xs : List Rule). points strict of before xs (take i js)) (take_all i rs (omega (arith, is)))
          ∙ sym (fewer_rules strict of before rs (take i js) (drop i js) (let n = length-take-le i js (omega (arith, is, le)) in omega (arith, n, is)))
          ∙ ap (λ (ys : List Judged). points strict of before rs ys) (take-append-drop i js))
    ]
