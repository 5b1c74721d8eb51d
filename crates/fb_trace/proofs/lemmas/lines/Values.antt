-- The text of values, one after another.
use Rattle.fb_types.proofs.Common.{◌≡◌, ℕ, ◌+◌, ◌<◌, List, [], ◌∷◌, ◌++◌, take, drop, length, get_or, ap, sym, ◌∙◌, refl, append_assoc, take-append-drop, append-nil, min, zero, suc, arith, codes, map, take_more, get_or-map, length-map, slice_get-map, slice_get-get_or, Name, Bound, pair_up, value_text, values_text}
use Rattle.fb_types.specs.declared.library.Variable.{Variable}
use Rattle.fb_types.specs.declared.value.Value.{Value}
use Rattle.fb_system.specs.IndexLists.{variable_at}

-- a variable and its value, as a line has them
abbrev pub binding_text : Name → Value → List ℕ
binding_text n v = codes " " ++ n ++ codes "=" ++ value_text v

pub values_text-append : (bs cs : List Bound) → values_text (bs ++ cs) ≡ values_text bs ++ values_text cs
values_text-append [] cs = refl
values_text-append (b ∷ bs) cs =
    ap (λ (t : List ℕ). binding_text b.variable b.value ++ t) (values_text-append bs cs)
    ∙ sym (append_assoc (binding_text b.variable b.value) (values_text bs) (values_text cs))

pub values_text-push : (bs : List Bound) (b : Bound) → values_text (bs ++ b ∷ []) ≡ values_text bs ++ binding_text b.variable b.value
values_text-push bs b =
    values_text-append bs (b ∷ []) ∙ ap (λ (t : List ℕ). values_text bs ++ t) (append-nil (binding_text b.variable b.value))

pub values_text-parts : (i : ℕ) (bs : List Bound) → values_text (take i bs) ++ values_text (drop i bs) ≡ values_text bs
values_text-parts i bs = sym (values_text-append (take i bs) (drop i bs)) ∙ ap values_text (take-append-drop i bs)

pub pair_up-none : (ns : List Name) → pair_up ns [] ≡ []
pair_up-none [] = refl
pair_up-none (n ∷ ns) = refl

pub length-pair_up : (ns : List Name) (vs : List Value) → length (pair_up ns vs) ≡ min (length ns) (length vs)
length-pair_up [] vs = omega arith
length-pair_up (n ∷ ns) [] = omega arith
length-pair_up (n ∷ ns) (v ∷ vs) = let e = length-pair_up ns vs in omega arith

pub get_or-pair_up : (ns : List Name) (vs : List Value) (i : ℕ) (d : Bound) → i < length ns → i < length vs → get_or (pair_up ns vs) i d ≡ record { variable = get_or ns i d.variable; value = get_or vs i d.value }
get_or-pair_up [] vs i d h k = absurd (omega arith)
get_or-pair_up (n ∷ ns) [] i d h k = absurd (omega arith)
get_or-pair_up (n ∷ ns) (v ∷ vs) zero d h k = refl
get_or-pair_up (n ∷ ns) (v ∷ vs) (suc i) d h k = get_or-pair_up ns vs i d (omega arith) (omega arith)

-- the name of a variable
variable_at-get_or : (us : List Variable) (k : ℕ) (d : Variable) → k < length us → variable_at us k ≡ (get_or us k d).name
variable_at-get_or us k d within =
    rw (slice_get-map (λ (x : Variable). x.name) us k, slice_get-get_or us k d within) refl

-- one value more
pub values_text-more :
    (us : List Variable) (ks : List ℕ) (vs : List Value) (i k : ℕ) (v : Value) (d : Variable)
    → i < length ks → i < length vs → k ≡ get_or ks i 0 → v ≡ get_or vs i v → k < length us
    → values_text (take (i + 1) (pair_up (map (variable_at us) ks) vs))
    ≡ values_text (take i (pair_up (map (variable_at us) ks) vs)) ++ binding_text (get_or us k d).name v
values_text-more us ks vs i k v d h h' key value within =
    let ns = map (variable_at us) ks in
    let long : length ns ≡ length ks = length-map ks (variable_at us) in
    let none : Bound = record { variable = variable_at us 0; value = v } in
    let name : get_or ns i (variable_at us 0) ≡ (get_or us k d).name =
    get_or-map (variable_at us) ks i 0 (variable_at us 0) h ∙ ap (variable_at us) (sym key) ∙ variable_at-get_or us k d within in
    let last : get_or (pair_up ns vs) i none ≡ record { variable = (get_or us k d).name; value = v } =
    rw (get_or-pair_up ns vs i none (omega arith) h', name, ← value) refl in
    let counted = length-pair_up ns vs in
    rw (take_more (pair_up ns vs) i none (omega arith), last, values_text-push) refl
