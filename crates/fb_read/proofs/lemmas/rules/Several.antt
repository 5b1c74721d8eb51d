-- Items while one begins, both ways.
use Rattle.fb_read.proofs.lemmas.Common.{◌≡◌, ℕ, zero, suc, ◌-◌, ◌≤◌, max, Bool, true, false, List, [], ◌∷◌, ◌++◌, length, map, Ok, refl, sym, ap, subst, ◌∙◌, append_assoc, append-nil, inl, inr, arith, Tokens, Parser, and_then, deepest, most_nesting, several, several_from}
use Rattle.fb_read.proofs.lemmas.rules.Steps.{chosen, both_ok, pair_is, done}
use Rattle.fb_read.proofs.lemmas.rules.Lists.{IsSound, IsShorter, Adds}
use Rattle.fb_read.proofs.lemmas.expressions.NestingLimits.{room, bind-room}

pub data Each {A : Type 0} (R : A → Tokens → Tokens → Type 0) : List A → Tokens → Tokens → Type 0 where
  no_item : {ts : Tokens} → Each R [] ts ts
  then_items : {x : A} {xs : List A} {ts mid rest : Tokens} → R x ts mid → Each R xs mid rest → Each R (x ∷ xs) ts rest

adds-none : {A : Type 0} (R : A → Tokens → Tokens → Type 0) (found read : List A) (ts rest : Tokens) → done found ts ≡ done read rest → Adds (Each R) found read ts rest
adds-none {A = A} R found read ts rest h =
    let p = pair_is (found, ts) (read, rest) h in
    subst (λ (q : List A × Tokens). Adds (Each R) found q.0 ts q.1) p (record { more = []; read_is = sym (append-nil found); derived = no_item })

several_from-sound : {A : Type 0} (begins : Tokens → Bool) (p : Parser A) (R : A → Tokens → Tokens → Type 0) (i : IsSound p R) (fuel : ℕ) (found : List A) (ts : Tokens) (read : List A) (rest : Tokens)
    → several_from begins p fuel found ts ≡ Ok (read, rest) → Adds (Each R) found read ts rest
unfolding several_from
several_from-sound begins p R i zero found ts read rest h = adds-none R found read ts rest h
several_from-sound begins p R i (suc fuel) found ts read rest h =
    elim (chosen (begins ts) (and_then (p ts) (λ y. several_from begins p fuel (found ++ y ∷ []))) (done found ts) (Ok (read, rest)) h) [
      | inl w ↦
          let a = both_ok (p ts) _ (read, rest) w.1 in
          let l = several_from-sound begins p R i fuel (found ++ a.0 ∷ []) a.1 read rest a.3 in
          record { more = a.0 ∷ l.more; read_is = l.read_is ∙ append_assoc found (a.0 ∷ []) l.more; derived = then_items (i ts a.0 a.1 a.2) l.derived }
      | inr w ↦ adds-none R found read ts rest w.1
    ]

pub several-sound : {A : Type 0} (begins : Tokens → Bool) (p : Parser A) (R : A → Tokens → Tokens → Type 0) (i : IsSound p R) (found : List A) (ts : Tokens) (read : List A) (rest : Tokens)
    → several begins p found ts ≡ Ok (read, rest) → Adds (Each R) found read ts rest
unfolding several
several-sound begins p R i found ts read rest h = several_from-sound begins p R i (length ts) found ts read rest h

-- an item that is derived and keeps both limits, by its nesting and that of the expressions inside
pub record ItemRight {A : Type 0} (R : A → Tokens → Tokens → Type 0) (f g : A → ℕ) (limit : ℕ) (x : A) (ts rest : Tokens) : Type 0 where
  pub derived : R x ts rest
  pub fits : f x ≤ limit
  pub inside : g x ≤ most_nesting

pub record ListRight {A : Type 0} (L : List A → Tokens → Tokens → Type 0) (f g : A → ℕ) (limit : ℕ) (xs : List A) (ts rest : Tokens) : Type 0 where
  pub derived : L xs ts rest
  pub fits : deepest (map f xs) ≤ limit
  pub inside : deepest (map g xs) ≤ most_nesting

module _ {A : Type 0} (R : A → Tokens → Tokens → Type 0) (L : List A → Tokens → Tokens → Type 0) (none : (ts : Tokens) → L [] ts ts)
    (some : (x : A) (xs : List A) (ts mid rest : Tokens) → R x ts mid → L xs mid rest → L (x ∷ xs) ts rest) where
  pub each-right : (f g : A → ℕ) (limit : ℕ) (xs : List A) (ts rest : Tokens) → Each (ItemRight R f g limit) xs ts rest → ListRight L f g limit xs ts rest
  each-right f g limit xs ts rest no_item = record { derived = none ts; fits = omega arith; inside = omega arith }
  each-right f g limit xs ts rest (then_items {x = x} {xs = ys} {mid = mid} r l) =
      let more = each-right f g limit ys mid rest l in
      record { derived = some x ys ts mid rest r.derived more.derived; fits = omega (arith, r.fits, more.fits); inside = omega (arith, r.inside, more.inside) }

-- by how much an item nests over its limits
abbrev pub over_by : {A : Type 0} → (f g : A → ℕ) → ℕ → A → ℕ
over_by f g limit x = max (f x - limit) (g x - most_nesting)

pub deepest-over : {A : Type 0} (f g : A → ℕ) (limit : ℕ) (xs : List A) → deepest (map (over_by f g limit) xs) ≡ max (deepest (map f xs) - limit) (deepest (map g xs) - most_nesting)
deepest-over f g limit [] = omega arith
deepest-over f g limit (x ∷ xs) = omega (arith, deepest-over f g limit xs)

-- what is derived before such tokens is read, if it keeps its limits
abbrev pub IsRoomy : {A : Type 0} → Parser A → (A → Tokens → Tokens → Type 0) → (Tokens → Type 0) → (A → ℕ) → Type 0
IsRoomy {A = A} p R Before over = (x : A) (ts rest : Tokens) → R x ts rest → Before rest → p ts ≡ room (over x) x rest

-- what an item begins with begins one, and may follow another
pub record Begun (begins : Tokens → Bool) (Before : Tokens → Type 0) (ts : Tokens) : Type 0 where
  pub begins_one : begins ts ≡ true
  pub may_follow : Before ts

module _ {A : Type 0} (begins : Tokens → Bool) (p : Parser A) (R : A → Tokens → Tokens → Type 0) (Before : Tokens → Type 0) (over : A → ℕ) where
  several-end : (fuel : ℕ) (found : List A) (ts : Tokens) → begins ts ≡ false → several_from begins p fuel found ts ≡ done found ts
  unfolding several_from
  several-end zero found ts stops = refl
  several-end (suc fuel) found ts stops = rw stops refl

  several-turn : (fuel : ℕ) (found : List A) (x : A) (k m : ℕ) (ts mid rest : Tokens) (y : List A) → begins ts ≡ true → p ts ≡ room k x mid
      → several_from begins p fuel (found ++ x ∷ []) mid ≡ room m y rest → several_from begins p (suc fuel) found ts ≡ room (max k m) y rest
  unfolding several_from
  several-turn fuel found x k m ts mid rest y starts read go =
      rw (starts, read) (bind-room k m x mid (λ z. several_from begins p fuel (found ++ z ∷ [])) y rest go)

  each-before : (starts : (x : A) (ts rest : Tokens) → R x ts rest → Begun begins Before ts) {xs : List A} {ts rest : Tokens} → Each R xs ts rest → Before rest → Before ts
  each-before starts no_item before = before
  each-before starts {ts = ts} (then_items {x = x} {mid = mid} r l) before = (starts x ts mid r).may_follow

  several_from-complete : (i : IsRoomy p R Before over) (short : IsShorter R) (starts : (x : A) (ts rest : Tokens) → R x ts rest → Begun begins Before ts)
      (fuel : ℕ) (found : List A) {xs : List A} {ts rest : Tokens} → Each R xs ts rest → Before rest → begins rest ≡ false → length ts ≤ fuel
      → several_from begins p fuel found ts ≡ room (deepest (map over xs)) (found ++ xs) rest
  several_from-complete i short starts fuel found {ts = ts} no_item before stops long = several-end fuel found ts stops ∙ sym (rw (append-nil found) refl)
  several_from-complete i short starts zero found {ts = ts} (then_items {x = x} {mid = mid} r l) before stops long = absurd (omega (arith, short x ts mid r))
  several_from-complete i short starts (suc fuel) found {ts = ts} {rest = rest} (then_items {x = x} {xs = xs} {mid = mid} r l) before stops long =
      let read = several_from-complete i short starts fuel (found ++ x ∷ []) l before stops (omega (arith, short x ts mid r)) in
      several-turn fuel found x (over x) (deepest (map over xs)) ts mid rest (found ++ x ∷ xs) (starts x ts mid r).begins_one (i x ts mid r (each-before starts l before))
      (read ∙ ap (λ (ys : List A). room (deepest (map over xs)) ys rest) (append_assoc found (x ∷ []) xs))

  pub several-complete : (i : IsRoomy p R Before over) (short : IsShorter R) (starts : (x : A) (ts rest : Tokens) → R x ts rest → Begun begins Before ts)
      (found xs : List A) (ts rest : Tokens) → Each R xs ts rest → Before rest → begins rest ≡ false → several begins p found ts ≡ room (deepest (map over xs)) (found ++ xs) rest
  unfolding several
  several-complete i short starts found xs ts rest l before stops = several_from-complete i short starts (length ts) found l before stops (omega arith)
