-- Keys and lookups.
use Rattle.fb_types.proofs.Common.{◌≡◌, ℕ, ◌<◌, ◌≤◌, ◌⊎◌, false, Option, Some, None, List, [], ◌∷◌, ◌++◌, refl, sym, ap, ◌∙◌, subst, inl, inr, ⊎_elim, arith, if◌then◌else◌, nat_cmp, is_eq, Ordering, Less, Equal, Greater, tied_itself, cases_Bool, cases_lt, cond-true, cond-false, lt-ltb, key_cmp, Precedes, same_key, or_else, found, without, changed_to, Key}
use Rattle.std.specs.Cmp.{nat_cmp_total}
use Rattle.std.specs.Ordering.{ordering_reverse}
use Rattle.fb_types.specs.Keys.{Map}
use Rattle.fb_types.proofs.lemmas.events.KeyLaws.{key_cmp_total, earlier_precedes, same_key_is, same_key_itself}

-- of two keys one comes before the other, or they are equal
pub key_cases : (x y : Key) → (x ≡ y) ⊎ (Precedes x y ⊎ Precedes y x)
key_cases x y = go (key_cmp x y) refl
  where
    go : (o : Ordering) → key_cmp x y ≡ o → (x ≡ y) ⊎ (Precedes x y ⊎ Precedes y x)
    go Less e = inr (inl e)
    go Equal e = inl (same_key_is x y (ap is_eq e))
    go Greater e = inr (inr (key_cmp_total.antisymm y x ∙ ap ordering_reverse e))

pub before_asym : (x y : Key) → Precedes x y → Precedes y x → ⊥
before_asym x y h g =
    let e : key_cmp x y ≡ Greater = key_cmp_total.antisymm x y ∙ ap ordering_reverse g in
    let f : Less ≡ Greater = sym h ∙ e in
    absurd cc

pub tick_before : (x y : Key) → x.tick < y.tick → Precedes x y
tick_before x y h = earlier_precedes x y h

pub before_tick : (x y : Key) → Precedes x y → x.tick ≤ y.tick
before_tick x y h = ⊎_elim (λ l. absurd (before_asym x y h (tick_before y x l))) (λ l. l) (cases_lt y.tick x.tick)

pub cmp_equal : (x y : ℕ) → x ≡ y → nat_cmp x y ≡ Equal
cmp_equal x y e = subst (λ (z : ℕ). nat_cmp x z ≡ Equal) e (tied_itself nat_cmp_total x)

pub resource_before : (x y : Key) → x.tick ≡ y.tick → x.resource < y.resource → Precedes x y
resource_before x y e h = rw (cmp_equal x.tick y.tick e, lt-ltb x.resource y.resource h) refl

pub before_trans : (x y z : Key) → Precedes x y → Precedes y z → Precedes x z
before_trans x y z h g = key_cmp_total.trans x y z h g

pub before_irrefl : (x : Key) → Precedes x x → ⊥
before_irrefl x h = before_asym x x h h

pub before_cases : (x y : Key) → Precedes x y ⊎ (Precedes x y → ⊥)
before_cases x y =
    ⊎_elim (λ e. inr (λ h. before_irrefl y (subst (λ (k : Key). Precedes k y) e h)))
    (λ c. ⊎_elim (λ b. inl b) (λ b. inr (λ h. before_asym x y h b)) c) (key_cases x y)

-- two keys are the same, or the test says that they are not
pub same_cases : (x y : Key) → (x ≡ y) ⊎ (same_key x y ≡ false)
same_cases x y = ⊎_elim (λ h. inl (same_key_is x y h)) (λ h. inr h) (cases_Bool (same_key x y))

pub same_apart : (x y : Key) → x.tick < y.tick → same_key x y ≡ false
same_apart x y h = ⊎_elim (λ e. absurd (let f : x.tick ≡ y.tick = ap (λ k. k.tick) e in omega arith)) (λ e. e) (same_cases x y)

pub or_else_none : {V : Type 0} (o : Option V) → or_else o None ≡ o
or_else_none None = refl
or_else_none (Some v) = refl

pub or_else_assoc : {V : Type 0} (a b c : Option V) → or_else (or_else a b) c ≡ or_else a (or_else b c)
or_else_assoc None b c = refl
or_else_assoc (Some v) b c = refl

-- one of the two is there
pub or_else_some : {V : Type 0} (a b : Option V) (v : V) → or_else a b ≡ Some v → (a ≡ Some v) ⊎ (b ≡ Some v)
or_else_some None b v h = inr h
or_else_some (Some w) b v h = inl h

pub or_else_nones : {V : Type 0} (a b : Option V) → a ≡ None → b ≡ None → or_else a b ≡ None
or_else_nones a b p q = rw (p, q)

-- either there is none, or something
pub option_cases : {V : Type 0} (o : Option V) → (o ≡ None) ⊎ ((v : V) × (o ≡ Some v))
option_cases None = inl refl
option_cases (Some v) = inr (v, refl)

pub none_some : {V : Type 0} (o : Option V) (v : V) → o ≡ None → o ≡ Some v → ⊥
none_some o v p q = cc

-- there is none if something would be absurd
pub none_since : {V : Type 0} (o : Option V) → ((v : V) → o ≡ Some v → ⊥) → o ≡ None
none_since None h = refl
none_since (Some v) h = absurd (h v refl)

pub found-append : {V : Type 0} (k : Key) (xs ys : List (Key × V)) → found k (xs ++ ys) ≡ or_else (found k ys) (found k xs)
found-append k [] ys = sym (or_else_none (found k ys))
found-append k (x ∷ xs) ys = rw (found-append k xs ys) (or_else_assoc (found k ys) (found k xs) (if same_key x.0 k then Some x.1 else None))

pub without_same : {V : Type 0} (x : Key) (f : Map V) → without x f x ≡ None
without_same x f = cond-true (same_key x x) None (f x) (same_key_itself x)

pub without_other : {V : Type 0} (x : Key) (f : Map V) (k : Key) → same_key x k ≡ false → without x f k ≡ f k
without_other x f k h = cond-false (same_key x k) None (f k) h

pub without_some : {V : Type 0} (x : Key) (f : Map V) (k : Key) (v : V) → without x f k ≡ Some v → (f k ≡ Some v) × (same_key x k ≡ false)
without_some x f k v h =
    ⊎_elim (λ e. absurd (none_some (without x f k) v (rw (← e) (without_same x f)) h)) (λ e. (sym (without_other x f k e) ∙ h, e)) (same_cases x k)

pub or_else_parts : {V : Type 0} (a b : Option V) → or_else a b ≡ None → (a ≡ None) × (b ≡ None)
or_else_parts None b h = (refl, h)
or_else_parts (Some v) b h = absurd (none_some (Some v) v h refl)

pub edit_some : {V : Type 0} (o : Option (Option V)) (old : Option V) (v : V) → changed_to o old ≡ Some v → (o ≡ Some (Some v)) ⊎ ((o ≡ None) × (old ≡ Some v))
edit_some None old v h = inr (refl, h)
edit_some (Some w) old v h = inl (ap Some h)

pub edit_none : {V : Type 0} (o : Option (Option V)) (old : Option V) → ((v : V) → o ≡ Some (Some v) → ⊥) → old ≡ None → changed_to o old ≡ None
edit_none None old f h = h
edit_none (Some None) old f h = refl
edit_none (Some (Some v)) old f h = absurd (f v refl)

pub without_none : {V : Type 0} (x : Key) (f : Map V) (k : Key) → f k ≡ None → without x f k ≡ None
without_none x f k h = ⊎_elim (λ e. ap (λ z. without x f z) (sym e) ∙ without_same x f) (λ e. without_other x f k e ∙ h) (same_cases x k)
