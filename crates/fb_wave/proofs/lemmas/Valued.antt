-- Values, and variables with values, that are read from a text.
use Rattle.fb_types.proofs.Common.{◌≡◌, ℕ, ℤ, suc, zero, pos, negsuc, neg_ℤ, ◌+◌, ◌^◌, ◌<◌, ◌≤◌, Bool, true, false, List, [], ◌∷◌, ◌++◌, length, map, take, drop, get_or, min, decimal, codes, refl, sym, ap, ◌∙◌, arith, append_assoc, append-nil, ◌&&◌, int_le, int_lt, MatchOption, Option, Some, None, and_parts, and_from, ltb-true, leb-true, false≢true, append_cancel_left, take_more, take_all, drop_all, get_or-map, length-map, map-append, length-take-le, length_push, slice_get-map, slice_get-get_or, Bound, Name, pair_up, value_text, values_text, fits}
use Rattle.fb_types.specs.declared.library.Variable.{Variable}
use Rattle.fb_types.specs.declared.value.Ty.{Ty}
use Rattle.fb_types.specs.declared.value.Value.{Value}
use Rattle.fb_types.specs.declared.value.Ty.TheVariants.{Sint, Int, Dint, Lint, Usint, Uint, Udint, Ulint, Time, Bool as Boolean}
use Rattle.fb_types.specs.declared.value.Value.TheVariants as value
use Rattle.fb_wave.proofs.lemmas.Cutting.{cut_once, uncut, word_once}
use Rattle.fb_wave.proofs.lemmas.Numerals.{digits_of, decimal_once}
use Rattle.fb_wave.specs.Reading.{IsSmall, IsSmallValue, HasNoDigits, IsNoWhole, IsNoValue, IsTextOfValue, IsTextOfWhole, binding_text, IsBound, IsUnbound, name_at, type_at, fit_each, AreRead, AreUnread}
use Rattle.fb_wave.specs.Words.{is_word, is_ended, IsCut}

-- ---- Values of every type are small

signed_small : (b : ℕ) (z : ℤ) → 2 ^ b ≤ 2 ^ 63 → (int_le (neg_ℤ (pos (2 ^ b))) z && int_lt z (pos (2 ^ b))) ≡ true → IsSmall z
signed_small b (pos n) small is = let less = ltb-true n (2 ^ b) (and_parts (int_le (neg_ℤ (pos (2 ^ b))) (pos n)) (int_lt (pos n) (pos (2 ^ b))) is).1 in omega (arith, less, small)
signed_small b (negsuc n) small is = go (2 ^ b) small (and_parts (int_le (neg_ℤ (pos (2 ^ b))) (negsuc n)) (int_lt (negsuc n) (pos (2 ^ b))) is).0
  where
    go : (m : ℕ) → m ≤ 2 ^ 63 → int_le (neg_ℤ (pos m)) (negsuc n) ≡ true → suc n < 2 ^ 64
    go zero low e = absurd (false≢true e)
    go (suc m) low e = let less = leb-true n m e in omega (arith, less, low)

unsigned_small : (b : ℕ) (z : ℤ) → 2 ^ b ≤ 2 ^ 64 → (int_le (pos 0) z && int_lt z (pos (2 ^ b))) ≡ true → IsSmall z
unsigned_small b (pos n) small is = let less = ltb-true n (2 ^ b) (and_parts (int_le (pos 0) (pos n)) (int_lt (pos n) (pos (2 ^ b))) is).1 in omega (arith, less, small)
unsigned_small b (negsuc n) small is = absurd (false≢true (and_parts (int_le (pos 0) (negsuc n)) (int_lt (negsuc n) (pos (2 ^ b))) is).0)

pub fits_small : (ty : Ty) (v : Value) → fits ty v ≡ true → IsSmallValue v
fits_small ty (value.Bool b) is = tt
fits_small Sint (value.Whole z) is = signed_small 7 z (omega arith) is
fits_small Int (value.Whole z) is = signed_small 15 z (omega arith) is
fits_small Dint (value.Whole z) is = signed_small 31 z (omega arith) is
fits_small Lint (value.Whole z) is = signed_small 63 z (omega arith) is
fits_small Time (value.Whole z) is = signed_small 63 z (omega arith) is
fits_small Usint (value.Whole z) is = unsigned_small 8 z (omega arith) is
fits_small Uint (value.Whole z) is = unsigned_small 16 z (omega arith) is
fits_small Udint (value.Whole z) is = unsigned_small 32 z (omega arith) is
fits_small Ulint (value.Whole z) is = unsigned_small 64 z (omega arith) is
fits_small Boolean (value.Whole z) is = absurd (false≢true is)

-- ---- Whole numbers

first_of : (n : ℕ) → n < 2 ^ 64 → get_or (decimal n) 0 0 ≡ 45 → ⊥
first_of n small e = let are = digits_of n (omega arith) in let low = (are.each 0 0 are.some).low in omega (arith, low, e)

-- a sign, and no digits of a number above 0 after it
pub signed_is_none : (text digits : List ℕ) → text ≡ codes "-" ++ digits → HasNoDigits digits → IsNoWhole text
signed_is_none text digits parts none (pos n) small e = first_of n small (ap (λ (l : List ℕ). get_or l 0 0) (sym e ∙ parts))
signed_is_none text digits parts none (negsuc n) small e = none n small (append_cancel_left (codes "-") digits (decimal (suc n)) (sym parts ∙ e))

pub zero_digits : (digits : List ℕ) (n : ℕ) → digits ≡ decimal n → n ≡ 0 → HasNoDigits digits
zero_digits digits n is zeroth k small e =
    let same = decimal_once 0 (suc k) (omega arith) (omega arith) (sym (is ∙ ap decimal zeroth) ∙ e) in
    omega (arith, same)

-- ---- Values

pub value_word : (v : Value) → IsSmallValue v → is_word (value_text v) ≡ true
value_word (value.Bool true) small = refl
value_word (value.Bool false) small = refl
value_word (value.Whole (pos n)) small = (digits_of n (omega arith)).word
value_word (value.Whole (negsuc n)) small = (digits_of (suc n) (omega arith)).word

pub signed_whole : (o : Option ℤ) (text digits : List ℕ) → text ≡ codes "-" ++ digits → MatchOption o (HasNoDigits digits) (λ z. IsTextOfWhole z (codes "-" ++ digits)) → MatchOption o (IsNoWhole text) (λ z. IsTextOfWhole z text)
signed_whole None text digits parts none = signed_is_none text digits parts none
signed_whole (Some z) text digits parts is = record { small = is.small; is = parts ∙ is.is }

whole_once : (y z : ℤ) → IsSmall y → IsSmall z → value_text (value.Whole y) ≡ value_text (value.Whole z) → y ≡ z
whole_once (pos m) (pos n) low high e = ap pos (decimal_once m n (omega arith) (omega arith) e)
whole_once (pos m) (negsuc n) low high e = absurd (first_of m low (ap (λ (l : List ℕ). get_or l 0 0) e))
whole_once (negsuc m) (pos n) low high e = absurd (first_of n high (ap (λ (l : List ℕ). get_or l 0 0) (sym e)))
whole_once (negsuc m) (negsuc n) low high e =
    let same : suc m ≡ suc n = decimal_once (suc m) (suc n) (omega arith) (omega arith) (append_cancel_left (codes "-") (decimal (suc m)) (decimal (suc n)) e) in
    ap negsuc (omega (arith, same))

truth_first : (b : Bool) → 65 < get_or (value_text (value.Bool b)) 0 0
truth_first true = omega arith
truth_first false = omega arith

whole_first : (z : ℤ) → IsSmall z → get_or (value_text (value.Whole z)) 0 0 < 58
whole_first (pos n) small = let are = digits_of n (omega arith) in (are.each 0 0 are.some).high
whole_first (negsuc n) small = omega arith

mixed : (b : Bool) (z : ℤ) → IsSmall z → value_text (value.Bool b) ≡ value_text (value.Whole z) → ⊥
mixed b z small e =
    let first = ap (λ (l : List ℕ). get_or l 0 0) e in
    let more = truth_first b in
    let less = whole_first z small in
    omega (arith, first, more, less)

-- a text is that of one value at most
pub value_once : (v w : Value) → IsSmallValue v → IsSmallValue w → value_text v ≡ value_text w → v ≡ w
value_once (value.Bool true) (value.Bool true) low high e = refl
value_once (value.Bool false) (value.Bool false) low high e = refl
value_once (value.Bool true) (value.Bool false) low high e = let first : 84 ≡ 70 = ap (λ (l : List ℕ). get_or l 0 0) e in absurd (omega (arith, first))
value_once (value.Bool false) (value.Bool true) low high e = let first : 70 ≡ 84 = ap (λ (l : List ℕ). get_or l 0 0) e in absurd (omega (arith, first))
value_once (value.Bool b) (value.Whole z) low high e = absurd (mixed b z high e)
value_once (value.Whole z) (value.Bool b) low high e = absurd (mixed b z low (sym e))
value_once (value.Whole y) (value.Whole z) low high e = ap value.Whole (whole_once y z low high e)

pub other_value : (ty : Ty) (text : List ℕ) (v : Value) → IsTextOfValue v text → fits ty v ≡ false → IsNoValue ty text
other_value ty text v is unfit w fit e =
    let same : v ≡ w = value_once v w is.small (fits_small ty w fit) (sym is.is ∙ e) in
    false≢true (sym unfit ∙ ap (fits ty) same ∙ fit)

-- ---- A variable and its value

spread : (n : Name) (v : Value) (rest : List ℕ) → binding_text n v ++ rest ≡ codes " " ++ (n ++ (codes "=" ++ (value_text v ++ rest)))
spread n v rest = simp append_assoc

pub past_blank : (n : Name) (ty : Ty) (text t : List ℕ) (v : Value) (rest : List ℕ) → text ≡ codes " " ++ t → IsBound n ty text v rest → t ≡ n ++ (codes "=" ++ (value_text v ++ rest))
past_blank n ty text t v rest is bound = append_cancel_left (codes " ") t _ (sym is ∙ bound.parts ∙ spread n v rest)

pub past_name :
    (n : Name) (ty : Ty) (text t u : List ℕ) (v : Value) (rest : List ℕ) → text ≡ codes " " ++ t → t ≡ n ++ u → IsBound n ty text v rest
    → u ≡ codes "=" ++ (value_text v ++ rest)
past_name n ty text t u v rest is named bound = append_cancel_left n u _ (sym named ∙ past_blank n ty text t v rest is bound)

pub past_sign :
    (n : Name) (ty : Ty) (text t u w : List ℕ) (v : Value) (rest : List ℕ) → text ≡ codes " " ++ t → t ≡ n ++ u → u ≡ codes "=" ++ w → IsBound n ty text v rest
    → w ≡ value_text v ++ rest
past_sign n ty text t u w v rest is named signed bound = append_cancel_left (codes "=") w _ (sym signed ∙ past_name n ty text t u v rest is named bound)

pub unsigned : (n : Name) (ty : Ty) (text t u : List ℕ) → text ≡ codes " " ++ t → t ≡ n ++ u → ((r : List ℕ) → u ≡ codes "=" ++ r → ⊥) → IsUnbound n ty text
unsigned n ty text t u is named other v rest bound = other _ (past_name n ty text t u v rest is named bound)

pub unended : (n : Name) (ty : Ty) (text t u w : List ℕ) → text ≡ codes " " ++ t → t ≡ n ++ u → u ≡ codes "=" ++ w → is_word w ≡ true → IsUnbound n ty text
unended n ty text t u w is named signed word v rest bound =
    uncut w (value_text v) rest word (past_sign n ty text t u w v rest is named signed bound) bound.ended

pub unvalued :
    (n : Name) (ty : Ty) (text t u w x r : List ℕ) → text ≡ codes " " ++ t → t ≡ n ++ u → u ≡ codes "=" ++ w → IsCut w x r → IsNoValue ty x
    → IsUnbound n ty text
unvalued n ty text t u w x r is named signed cut other v rest bound =
    let word = value_word v (fits_small ty v bound.typed) in
    other v bound.typed (cut_once w x r (value_text v) rest cut word bound.ended (past_sign n ty text t u w v rest is named signed bound)).0

-- a text begins with a variable and a value in one way at most
pub bound_once : (n : Name) (ty : Ty) (text : List ℕ) (v w : Value) (r q : List ℕ) → IsBound n ty text v r → IsBound n ty text w q → (v ≡ w) × (r ≡ q)
bound_once n ty text v w r q one other =
    let e : value_text v ++ r ≡ value_text w ++ q =
    append_cancel_left (codes "=") _ _ (append_cancel_left n _ _ (append_cancel_left (codes " ") _ _ (sym (spread n v r) ∙ sym one.parts ∙ other.parts ∙ spread n w q)))
    in
    let small = fits_small ty v one.typed in
    let little = fits_small ty w other.typed in
    let both = word_once (value_text v) (value_text w) r q (value_word v small) (value_word w little) one.ended other.ended e in
    (value_once v w small little both.0, both.1)

-- ---- Several variables

pub name_at-get_or : (us : List Variable) (k : ℕ) (d : Variable) → k < length us → name_at us k ≡ (get_or us k d).name
name_at-get_or us k d within = rw (slice_get-map (λ (x : Variable). x.name) us k, slice_get-get_or us k d within) refl

pub type_at-get_or : (us : List Variable) (k : ℕ) (d : Variable) → k < length us → type_at us k ≡ (get_or us k d).ty
type_at-get_or us k d within = rw (slice_get-map (λ (x : Variable). x.ty) us k, slice_get-get_or us k d within) refl

values_text-append : (bs cs : List Bound) → values_text (bs ++ cs) ≡ values_text bs ++ values_text cs
values_text-append [] cs = refl
values_text-append (b ∷ bs) cs =
    ap (λ (t : List ℕ). binding_text b.variable b.value ++ t) (values_text-append bs cs)
    ∙ sym (append_assoc (binding_text b.variable b.value) (values_text bs) (values_text cs))

pair_up-push : (ns : List Name) (vs : List Value) (n : Name) (v : Value) → length ns ≡ length vs → pair_up (ns ++ n ∷ []) (vs ++ v ∷ []) ≡ pair_up ns vs ++ record { variable = n; value = v } ∷ []
pair_up-push [] [] n v e = refl
pair_up-push [] (w ∷ vs) n v e = absurd (omega arith)
pair_up-push (m ∷ ns) [] n v e = absurd (omega arith)
pair_up-push (m ∷ ns) (w ∷ vs) n v e = ap (λ (bs : List Bound). record { variable = m; value = w } ∷ bs) (pair_up-push ns vs n v (omega arith))

fit_each-push : (ts : List Ty) (vs : List Value) (t : Ty) (v : Value) → length ts ≡ length vs → fit_each ts vs ≡ true → fits t v ≡ true → fit_each (ts ++ t ∷ []) (vs ++ v ∷ []) ≡ true
fit_each-push [] [] t v e all is = and_from (fits t v) true is refl
fit_each-push [] (w ∷ vs) t v e all is = absurd (omega arith)
fit_each-push (u ∷ ts) [] t v e all is = absurd (omega arith)
fit_each-push (u ∷ ts) (w ∷ vs) t v e all is =
    let parts = and_parts (fits u w) (fit_each ts vs) all in
    and_from (fits u w) (fit_each (ts ++ t ∷ []) (vs ++ v ∷ [])) parts.0 (fit_each-push ts vs t v (omega arith) parts.1 is)

next : (i : ℕ) → suc (i + 1) ≡ suc i + 1
next i = omega arith

-- what is left of a list of values after an index, by one
left_over : (ns : List Name) (ts : List Ty) (vs : List Value) (i : ℕ) (n : Name) (t : Ty) → i < length ns → length ts ≡ length ns → length vs ≡ length ns → n ≡ get_or ns i n → t ≡ get_or ts i t
    → fit_each ts vs ≡ true → (v : Value) × (drop i (pair_up ns vs) ≡ record { variable = n; value = v } ∷ drop (i + 1) (pair_up ns vs)) × (fits t v ≡ true)
left_over [] ts vs i n t within sized counted named typed all = absurd (omega arith)
left_over (m ∷ ns) [] vs i n t within sized counted named typed all = absurd (omega arith)
left_over (m ∷ ns) (u ∷ ts) [] i n t within sized counted named typed all = absurd (omega arith)
left_over (m ∷ ns) (u ∷ ts) (v ∷ vs) zero n t within sized counted named typed all =
    (v, ap (λ (k : Name). record { variable = k; value = v } ∷ pair_up ns vs) (sym named), ap (λ (k : Ty). fits k v) typed ∙ (and_parts (fits u v) (fit_each ts vs) all).0)
left_over (m ∷ ns) (u ∷ ts) (v ∷ vs) (suc i) n t within sized counted named typed all =
    let more = left_over ns ts vs i n t (omega arith) (omega arith) (omega arith) named typed (and_parts (fits u v) (fit_each ts vs) all).1 in
    let bs : List Bound = pair_up ns vs in
    (more.0, more.1 ∙ ap (λ (k : ℕ). record { variable = n; value = more.0 } ∷ drop k (record { variable = m; value = v } ∷ bs)) (next i), more.2)

-- Values of the variables before an index were read, and a rest is left. Where the text is that of values of all, the rest is
-- that of those after the index.
pub record AreSoFar (us : List Variable) (ks : List ℕ) (text : List ℕ) (i : ℕ) (vs : List Value) (rest : List ℕ) : Type 0 where
  pub counted : length vs ≡ i
  pub typed : fit_each (map (type_at us) (take i ks)) vs ≡ true
  pub parts : text ≡ values_text (pair_up (map (name_at us) (take i ks)) vs) ++ rest
  pub once : (ws : List Value) → AreRead us ks text ws → rest ≡ values_text (drop i (pair_up (map (name_at us) ks) ws)) ++ 10 ∷ []

pub none_so_far : (us : List Variable) (ks text : List ℕ) → AreSoFar us ks text 0 [] text
none_so_far us ks text = record { counted = refl; typed = refl; parts = refl; once = λ ws are. are.parts }

ended_after : (bs : List Bound) → is_ended (values_text bs ++ 10 ∷ []) ≡ true
ended_after [] = refl
ended_after (b ∷ bs) = refl

-- the next of the values, where the text is that of values of all
next_bound :
    (us : List Variable) (ks text : List ℕ) (i k : ℕ) (vs ws : List Value) (rest : List ℕ) (d : Variable) → AreSoFar us ks text i vs rest → i < length ks → k ≡ get_or ks i k → k < length us
    → AreRead us ks text ws
    → (w : Value) × IsBound (get_or us k d).name (get_or us k d).ty rest w (values_text (drop (i + 1) (pair_up (map (name_at us) ks) ws)) ++ 10 ∷ [])
next_bound us ks text i k vs ws rest d soFar within at there are =
    let names : List Name = map (name_at us) ks in
    let types : List Ty = map (type_at us) ks in
    let n : Name = (get_or us k d).name in
    let t : Ty = (get_or us k d).ty in
    let named : n ≡ get_or names i n = sym (get_or-map (name_at us) ks i k n within ∙ ap (name_at us) (sym at) ∙ name_at-get_or us k d there) in
    let typed : t ≡ get_or types i t = sym (get_or-map (type_at us) ks i k t within ∙ ap (type_at us) (sym at) ∙ type_at-get_or us k d there) in
    let long : length names ≡ length ks = length-map ks (name_at us) in
    let wide : length types ≡ length ks = length-map ks (type_at us) in
    let one = left_over names types ws i n t (omega (arith, long, within)) (wide ∙ sym long) (are.counted ∙ sym long) named typed are.typed in
    let more : List ℕ = values_text (drop (i + 1) (pair_up names ws)) in (
      one.0,
      record {
        parts = soFar.once ws are ∙ ap (λ (bs : List Bound). values_text bs ++ 10 ∷ []) one.1 ∙ append_assoc (binding_text n one.0) more (10 ∷ []);
        typed = one.2;
        ended = ended_after (drop (i + 1) (pair_up names ws));
      },
    )

pub one_more :
    (us : List Variable) (ks text : List ℕ) (i k : ℕ) (vs : List Value) (rest : List ℕ) (d : Variable) (v : Value) (more : List ℕ) → AreSoFar us ks text i vs rest → i < length ks → k ≡ get_or ks i k → k < length us
    → IsBound (get_or us k d).name (get_or us k d).ty rest v more → AreSoFar us ks text (i + 1) (vs ++ v ∷ []) more
one_more us ks text i k vs rest d v more soFar within at there bound =
    let n : Name = (get_or us k d).name in
    let t : Ty = (get_or us k d).ty in
    let front : take (i + 1) ks ≡ take i ks ++ k ∷ [] = take_more ks i k within ∙ ap (λ (j : ℕ). take i ks ++ j ∷ []) (sym at) in
    let names : map (name_at us) (take (i + 1) ks) ≡ map (name_at us) (take i ks) ++ n ∷ [] =
    ap (map (name_at us)) front ∙ map-append (name_at us) (take i ks) (k ∷ []) ∙ ap (λ (m : Name). map (name_at us) (take i ks) ++ m ∷ []) (name_at-get_or us k d there)
    in
    let types : map (type_at us) (take (i + 1) ks) ≡ map (type_at us) (take i ks) ++ t ∷ [] =
    ap (map (type_at us)) front ∙ map-append (type_at us) (take i ks) (k ∷ []) ∙ ap (λ (m : Ty). map (type_at us) (take i ks) ++ m ∷ []) (type_at-get_or us k d there)
    in
    let few : length (take i ks) ≡ i = length-take-le i ks (omega arith) in
    let counted = soFar.counted in
    let sized : length (map (name_at us) (take i ks)) ≡ length vs = length-map (take i ks) (name_at us) ∙ few ∙ sym counted in
    let wide : length (map (type_at us) (take i ks)) ≡ length vs = length-map (take i ks) (type_at us) ∙ few ∙ sym counted in
    let bs : List Bound = pair_up (map (name_at us) (take i ks)) vs in
    record {
      counted = length_push vs v ∙ ap (λ (m : ℕ). m + 1) counted;
      typed = ap (λ (ts : List Ty). fit_each ts (vs ++ v ∷ [])) types ∙ fit_each-push (map (type_at us) (take i ks)) vs t v wide soFar.typed bound.typed;
      parts = soFar.parts ∙ ap (λ (l : List ℕ). values_text bs ++ l) bound.parts
          ∙ sym (append_assoc (values_text bs) (binding_text n v) more)
          ∙ ap (λ (l : List ℕ). l ++ more) (sym (ap (λ (ns : List Name). values_text (pair_up ns (vs ++ v ∷ []))) names
          ∙ ap values_text (pair_up-push (map (name_at us) (take i ks)) vs n v sized)
          ∙ values_text-append bs (record { variable = n; value = v } ∷ [])
          ∙ ap (λ (l : List ℕ). values_text bs ++ l) (append-nil (binding_text n v))));
      once = λ ws are.
          let next = next_bound us ks text i k vs ws rest d soFar within at there are in
          (bound_once n t rest v next.0 more _ bound next.1).1;
    }

pub unbound_so_far :
    (us : List Variable) (ks text : List ℕ) (i k : ℕ) (vs : List Value) (rest : List ℕ) (d : Variable) → AreSoFar us ks text i vs rest → i < length ks → k ≡ get_or ks i k → k < length us
    → IsUnbound (get_or us k d).name (get_or us k d).ty rest → AreUnread us ks text
unbound_so_far us ks text i k vs rest d soFar within at there none ws are =
    let next = next_bound us ks text i k vs ws rest d soFar within at there are in
    none next.0 _ next.1

pub all_read : (us : List Variable) (ks text : List ℕ) (i : ℕ) (vs : List Value) (rest : List ℕ) → AreSoFar us ks text i vs rest → i ≡ length ks → rest ≡ 10 ∷ [] → AreRead us ks text vs
all_read us ks text i vs rest soFar end is =
    let all : take i ks ≡ ks = take_all i ks (omega arith) in
    record {
      counted = soFar.counted ∙ end;
      typed = ap (λ (l : List ℕ). fit_each (map (type_at us) l) vs) (sym all) ∙ soFar.typed;
      parts = soFar.parts ∙ ap (λ (l : List ℕ). values_text (pair_up (map (name_at us) l) vs) ++ rest) all
          ∙ ap (λ (l : List ℕ). values_text (pair_up (map (name_at us) ks) vs) ++ l) is;
    }

length-pair_up : (ns : List Name) (vs : List Value) → length (pair_up ns vs) ≡ min (length ns) (length vs)
length-pair_up [] vs = omega arith
length-pair_up (n ∷ ns) [] = omega arith
length-pair_up (n ∷ ns) (v ∷ vs) = let e = length-pair_up ns vs in omega arith

pub more_left : (us : List Variable) (ks text : List ℕ) (i : ℕ) (vs : List Value) (rest : List ℕ) → AreSoFar us ks text i vs rest → i ≡ length ks → (rest ≡ 10 ∷ [] → ⊥) → AreUnread us ks text
more_left us ks text i vs rest soFar end other ws are =
    let bs : List Bound = pair_up (map (name_at us) ks) ws in
    let few : length bs ≤ i = omega (arith, length-pair_up (map (name_at us) ks) ws, length-map ks (name_at us)) in
    other (soFar.once ws are ∙ ap (λ (cs : List Bound). values_text cs ++ 10 ∷ []) (drop_all i bs few))
