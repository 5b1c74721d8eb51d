-- Whether a test holds for some number below another.
use Rattle.fb_types.proofs.Common.{List, [], ◌∷◌, length, get_or, map, drop, ◌≡◌, ℕ, zero, suc, ◌+◌, ◌<◌, Bool, true, false, refl, sym, ap, ◌∙◌, subst, arith, inl, inr, ◌&&◌, ◌||◌, list_any, cases_eq, drop_more, Name, System}
use Rattle.fb_types.specs.declared.library.Variable.{Variable}
use Rattle.fb_system.specs.IndexLists.{AreIndexes, variable_at}
use Rattle.fb_expect.specs.Patterns as patterns
use Rattle.fb_expect.specs.declared.pattern.Condition.{Condition}
use Rattle.fb_expect.specs.declared.pattern.Pattern.{Pattern}
use Rattle.fbsim_command.specs.Known.{any_below, any_event, any_port, are_possible, event_there, events_of, has_port, is_fitting, is_of, names_with, numbered, ports_of, variables_of}

or-right : (a : Bool) → (a || true) ≡ true
or-right true = refl
or-right false = refl

or-left : (a b : Bool) → a ≡ true → (a || b) ≡ true
or-left true b on = refl
or-left false b on = absurd (let bad : false ≡ true = on in cc)

-- a number for which it holds
pub any-there : (test : ℕ → Bool) (n k : ℕ) → k < n → test k ≡ true → any_below test n ≡ true
any-there test zero k lt on = absurd (omega arith)
any-there test (suc n) k lt on =
    elim (cases_eq k n) as (λ _. any_below test (suc n) ≡ true) [
      | inl same ↦ ap (λ b. any_below test n || b) (ap test (sym same) ∙ on) ∙ or-right (any_below test n)
      | inr other ↦ or-left (any_below test n) (test n) (any-there test n k (omega arith) on)
    ]

-- ---- Variables at indexes

named-at : (vs : List Variable) (k : ℕ) (v : Variable) → k < length vs → v ≡ get_or vs k v → v.name ≡ variable_at vs k
named-at [] k v lt is = absurd (omega arith)
named-at (x ∷ vs) zero v lt is = ap (λ (y : Variable). y.name) is
named-at (x ∷ vs) (suc k) v lt is = named-at vs k v (omega arith) is

-- one more index
pub index-more :
    (f : Name → Bool) (vs : List Variable) (ks : List ℕ) (i : ℕ) (v : Variable) → i < length ks → get_or ks i 0 < length vs → v ≡ get_or vs (get_or ks i 0) v
    → list_any f (map (variable_at vs) (drop i ks)) ≡ (f v.name || list_any f (map (variable_at vs) (drop (i + 1) ks)))
index-more f vs ks i v lt within is =
    ap (λ (js : List ℕ). list_any f (map (variable_at vs) js)) (drop_more ks i 0 lt)
    ∙ ap (λ (n : Name). f n || list_any f (map (variable_at vs) (drop (i + 1) ks))) (sym (named-at vs (get_or ks i 0) v within is))

pub index-found :
    (f : Name → Bool) (vs : List Variable) (ks : List ℕ) (i : ℕ) (v : Variable) (all : Bool) → i < length ks → get_or ks i 0 < length vs → v ≡ get_or vs (get_or ks i 0) v
    → all ≡ list_any f (map (variable_at vs) (drop i ks)) → f v.name ≡ true → true ≡ all
index-found f vs ks i v all lt within is so-far on =
    sym (so-far ∙ index-more f vs ks i v lt within is ∙ ap (λ (b : Bool). b || list_any f (map (variable_at vs) (drop (i + 1) ks))) on)

pub index-passed :
    (f : Name → Bool) (vs : List Variable) (ks : List ℕ) (i : ℕ) (v : Variable) (all : Bool) → i < length ks → get_or ks i 0 < length vs → v ≡ get_or vs (get_or ks i 0) v
    → all ≡ list_any f (map (variable_at vs) (drop i ks)) → f v.name ≡ false → all ≡ list_any f (map (variable_at vs) (drop (i + 1) ks))
index-passed f vs ks i v all lt within is so-far off =
    so-far ∙ index-more f vs ks i v lt within is ∙ ap (λ (b : Bool). b || list_any f (map (variable_at vs) (drop (i + 1) ks))) off

-- ---- Ports

pub of-there :
    (sys : System) (p : Pattern) (i : ℕ) (taken : Bool) (event : ℕ) (vs : List Variable) (ks : List ℕ) (cs : List Condition) (there b : Bool) → vs ≡ variables_of (ports_of sys i) taken
    → cs ≡ p.conditions → there ≡ patterns.is_at p (event_there sys i taken event) → there ≡ true
    → AreIndexes (variables_of (ports_of sys i) taken) (names_with (ports_of sys i) taken event) ks → b ≡ are_possible vs cs (map (variable_at vs) ks) → b ≡ is_fitting sys p i taken event
unfolding is_fitting
of-there sys p i taken event vs ks cs there b same-variables same-conditions at on stand is =
    let names = names_with (ports_of sys i) taken event in
    let its = variables_of (ports_of sys i) taken in
    is ∙ ap (λ (xs : List Condition). are_possible vs xs (map (variable_at vs) ks)) same-conditions
    ∙ ap (λ (us : List Variable). are_possible us p.conditions (map (variable_at us) ks)) same-variables ∙ ap (are_possible its p.conditions) stand.named
    ∙ ap (λ (t : Bool). t && are_possible its p.conditions names) (sym (sym at ∙ on))

pub port-there : (sys : System) (p : Pattern) (n k : ℕ) → n ≡ length sys.paths → k < n → any_port sys p k ≡ true → true ≡ has_port sys p
unfolding has_port
port-there sys p n k count lt on = sym (any-there (any_port sys p) (length sys.paths) k (subst (λ (m : ℕ). k < m) count lt) on)

pub event-there :
    (sys : System) (p : Pattern) (i : ℕ) (taken : Bool) (n k : ℕ) → n ≡ numbered (events_of (ports_of sys i) taken) → k < n → is_of sys p i taken k ≡ true → true ≡ any_event sys p i taken
event-there sys p i taken n k count lt on =
    sym (any-there (is_of sys p i taken) (numbered (events_of (ports_of sys i) taken)) k (subst (λ (m : ℕ). k < m) count lt) on)
