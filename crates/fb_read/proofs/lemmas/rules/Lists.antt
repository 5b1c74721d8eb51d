-- Lists of items, both ways.
use Rattle.fb_read.proofs.lemmas.Common.{◌≡◌, ℕ, zero, suc, ◌<◌, ◌≤◌, Bool, true, false, cond, List, [], ◌∷◌, ◌++◌, length, Ok, Err, refl, sym, ap, subst, ◌∙◌, append_assoc, append-nil, inl, inr, arith, ◌&&◌, Mark, Tokens, Parser, Outcome, too_deep, and_then, same_mark, sees, after, many, many_from, many_after, section, run_after, run_from, separated, separated_from, IsMark, is_mark, AreSeparated, last, and_next, AreAll, IsSection}
use Rattle.fb_types.proofs.Common.{list_all}
use Rattle.fb_read.specs.declared.token.Mark.TheVariants as mark
use Rattle.fb_read.specs.Grammar.{AreMany, no_more, one_more, none, and_more, no_section, is_section}
use Rattle.fb_read.proofs.lemmas.rules.Steps.{both_ok, pair_is, eaten, chosen, made, done, sees-mark, after-mark, after-unseen, mark-shorter}

-- what a parser reads is in the grammar
abbrev pub IsSound : {A : Type 0} → Parser A → (A → Tokens → Tokens → Type 0) → Type 0
IsSound {A = A} p R = (ts : Tokens) (x : A) (rest : Tokens) → p ts ≡ Ok (x, rest) → R x ts rest

-- what the list that is read adds to the items that were found
pub record Adds {A : Type 0} (R : List A → Tokens → Tokens → Type 0) (found read : List A) (ts rest : Tokens) : Type 0 where
  pub more : List A
  pub read_is : read ≡ found ++ more
  pub derived : R more ts rest

adds-nothing : {A : Type 0} (R : List A → Tokens → Tokens → Type 0) (found read : List A) (ts mid rest : Tokens) → done found mid ≡ done read rest → R [] ts mid → Adds R found read ts rest
adds-nothing {A = A} R found read ts mid rest h r =
    let p = pair_is (found, mid) (read, rest) h in
    subst (λ (q : List A × Tokens). Adds R found q.0 ts q.1) p (record { more = []; read_is = sym (append-nil found); derived = r })

-- nothing was found before
pub adds-all : {A : Type 0} (R : List A → Tokens → Tokens → Type 0) (read : List A) (ts rest : Tokens) → Adds R [] read ts rest → R read ts rest
adds-all {A = A} R read ts rest a = subst (λ (xs : List A). R xs ts rest) (sym a.read_is) a.derived

many_from-sound : {A : Type 0} (p : Parser A) (R : A → Tokens → Tokens → Type 0) (end : Mark) (i : IsSound p R) (fuel : ℕ) (found : List A) (ts : Tokens) (read : List A) (rest : Tokens)
    → many_from p end fuel found ts ≡ Ok (read, rest) → Adds (AreMany R end) found read ts rest
unfolding many_from
many_from-sound p R end i zero found ts read rest h = absurd cc
many_from-sound p R end i (suc fuel) found ts read rest h =
    elim (eaten end _ _ ts (read, rest) h) [
      | inl w ↦ adds-nothing (AreMany R end) found read ts (after end ts) rest w.1 (no_more w.0)
      | inr w ↦
          let a = both_ok (p ts) _ (read, rest) w.1 in
          let l = many_from-sound p R end i fuel (found ++ a.0 ∷ []) a.1 read rest a.3 in
          record { more = a.0 ∷ l.more; read_is = l.read_is ∙ append_assoc found (a.0 ∷ []) l.more; derived = one_more (i ts a.0 a.1 a.2) l.derived }
    ]

pub many-sound : {A : Type 0} (p : Parser A) (R : A → Tokens → Tokens → Type 0) (end : Mark) (i : IsSound p R) → IsSound (many p end) (AreMany R end)
unfolding many
many-sound p R end i ts read rest h = adds-all (AreMany R end) read ts rest (many_from-sound p R end i (length ts) [] ts read rest h)

pub many_after-sound : {A : Type 0} (p : Parser A) (R : A → Tokens → Tokens → Type 0) (end : Mark) (i : IsSound p R) (found : List A) (ts : Tokens) (read : List A) (rest : Tokens)
    → many_after p end found ts ≡ Ok (read, rest) → Adds (AreMany R end) found read ts rest
unfolding many_after
many_after-sound p R end i found ts read rest h = many_from-sound p R end i (length ts) found ts read rest h

separated_from-sound : {A : Type 0} (p : Parser A) (R : A → Tokens → Tokens → Type 0) (i : IsSound p R) (fuel : ℕ) (found : List A) (ts : Tokens) (read : List A) (rest : Tokens)
    → separated_from p fuel found ts ≡ Ok (read, rest) → Adds (AreSeparated R) found read ts rest
unfolding separated_from
separated_from-sound p R i zero found ts read rest h = absurd cc
separated_from-sound {A = A} p R i (suc fuel) found ts read rest h =
    let a = both_ok (p ts) _ (read, rest) h in
    elim (eaten mark.Comma _ _ a.1 (read, rest) a.3) [
      | inl w ↦
          let l = separated_from-sound p R i fuel (found ++ a.0 ∷ []) (after mark.Comma a.1) read rest w.1 in
          record { more = a.0 ∷ l.more; read_is = l.read_is ∙ append_assoc found (a.0 ∷ []) l.more; derived = and_next (i ts a.0 a.1 a.2) w.0 l.derived }
      | inr w ↦
          let q = pair_is (found ++ a.0 ∷ [], a.1) (read, rest) w.1 in
          record {
            more = a.0 ∷ [];
            read_is = sym (ap (λ (z : List A × Tokens). z.0) q);
            derived = last (subst (λ (t : Tokens). R a.0 ts t) (ap (λ (z : List A × Tokens). z.1) q) (i ts a.0 a.1 a.2));
          }
    ]

pub separated-sound : {A : Type 0} (p : Parser A) (R : A → Tokens → Tokens → Type 0) (i : IsSound p R) → IsSound (separated p) (AreSeparated R)
unfolding separated
separated-sound p R i ts read rest h = adds-all (AreSeparated R) read ts rest (separated_from-sound p R i (length ts) [] ts read rest h)

-- read if the test holds, and refused for nesting if it does not
abbrev pub picked : {A : Type 0} → Bool → A → Tokens → Outcome A
picked b x rest = cond b (done x rest) (Err too_deep)

pub bind-picked : {A B : Type 0} (b c : Bool) (x : A) (mid : Tokens) (f : A → Parser B) (y : B) (rest : Tokens) → f x mid ≡ picked c y rest → and_then (picked b x mid) f ≡ picked (b && c) y rest
bind-picked true c x mid f y rest h = h
bind-picked false c x mid f y rest h = refl

-- a step that ends a rule
pub pass-picked : {A B : Type 0} (b : Bool) (x : A) (mid : Tokens) (f : A → Parser B) (y : B) (rest : Tokens) → f x mid ≡ done y rest → and_then (picked b x mid) f ≡ picked b y rest
pass-picked true x mid f y rest h = h
pass-picked false x mid f y rest h = refl

abbrev pub all_fit : {A : Type 0} → (A → Bool) → List A → Bool
all_fit fit xs = list_all fit xs

-- an item without statements and expressions inside
abbrev pub always : {A : Type 0} → A → Bool
always x = true

pub all-always : {A : Type 0} (xs : List A) → all_fit always xs ≡ true
all-always [] = refl
all-always (x ∷ xs) = all-always xs

-- what the grammar derives before such tokens is read if it fits, and is refused for its nesting if it does not
abbrev pub IsComplete : {A : Type 0} → Parser A → (A → Tokens → Tokens → Type 0) → (Tokens → Type 0) → (A → Bool) → Type 0
IsComplete {A = A} p R Before fit = (x : A) (ts rest : Tokens) → R x ts rest → Before rest → p ts ≡ picked (fit x) x rest

abbrev pub Anything : Tokens → Type 0
Anything ts = Unit {0}

-- an item takes a token
abbrev pub IsShorter : {A : Type 0} → (A → Tokens → Tokens → Type 0) → Type 0
IsShorter {A = A} R = (x : A) (ts rest : Tokens) → R x ts rest → length rest < length ts

many-end : {A : Type 0} (p : Parser A) (end : Mark) (fuel : ℕ) (found : List A) (ts rest : Tokens) → IsMark end ts rest → many_from p end (suc fuel) found ts ≡ done found rest
unfolding many_from
many-end p end fuel found ts rest k = rw (sees-mark k, after-mark k) refl

many-turn : {A : Type 0} (p : Parser A) (end : Mark) (fuel : ℕ) (found : List A) (x : A) (b c : Bool) (ts mid rest : Tokens) (y : List A) → sees end ts ≡ false → p ts ≡ picked b x mid
    → many_from p end fuel (found ++ x ∷ []) mid ≡ picked c y rest → many_from p end (suc fuel) found ts ≡ picked (b && c) y rest
unfolding many_from
many-turn p end fuel found x b c ts mid rest y begins read go =
    rw (begins, after-unseen end ts begins, read) (bind-picked b c x mid (λ z. many_from p end fuel (found ++ z ∷ [])) y rest go)

module _ {A : Type 0} (p : Parser A) (R : A → Tokens → Tokens → Type 0) (fit : A → Bool) where
  many_from-complete : (end : Mark) (i : IsComplete p R Anything fit) (short : IsShorter R) (starts : (x : A) (ts rest : Tokens) → R x ts rest → sees end ts ≡ false)
      (fuel : ℕ) (found : List A) {xs : List A} {ts rest : Tokens} → AreMany R end xs ts rest → length ts ≤ fuel → many_from p end fuel found ts ≡ picked (all_fit fit xs) (found ++ xs) rest
  many_from-complete end i short starts zero found (no_more k) long = absurd (omega (arith, mark-shorter k))
  many_from-complete end i short starts (suc fuel) found {ts = ts} {rest = rest} (no_more k) long = rw (append-nil found) (many-end p end fuel found ts rest k)
  many_from-complete end i short starts zero found {ts = ts} (one_more {x = x} {mid = mid} r l) long = absurd (omega (arith, short x ts mid r))
  many_from-complete end i short starts (suc fuel) found {ts = ts} {rest = rest} (one_more {x = x} {xs = xs} {mid = mid} r l) long =
      let read = many_from-complete end i short starts fuel (found ++ x ∷ []) l (omega (arith, short x ts mid r)) in
      many-turn p end fuel found x (fit x) (all_fit fit xs) ts mid rest (found ++ x ∷ xs) (starts x ts mid r) (i x ts mid r tt)
      (read ∙ ap (λ (ys : List A). picked (all_fit fit xs) ys rest) (append_assoc found (x ∷ []) xs))

  pub many-complete : (end : Mark) (i : IsComplete p R Anything fit) (short : IsShorter R) (starts : (x : A) (ts rest : Tokens) → R x ts rest → sees end ts ≡ false)
      → IsComplete (many p end) (AreMany R end) Anything (all_fit fit)
  unfolding many
  many-complete end i short starts xs ts rest l before = many_from-complete end i short starts (length ts) [] l (omega arith)

  pub many_after-complete : (end : Mark) (i : IsComplete p R Anything fit) (short : IsShorter R) (starts : (x : A) (ts rest : Tokens) → R x ts rest → sees end ts ≡ false)
      → (found xs : List A) (ts rest : Tokens) → AreMany R end xs ts rest → many_after p end found ts ≡ picked (all_fit fit xs) (found ++ xs) rest
  unfolding many_after
  many_after-complete end i short starts found xs ts rest l = many_from-complete end i short starts (length ts) found l (omega arith)

separated-end : {A : Type 0} (p : Parser A) (fuel : ℕ) (found : List A) (x : A) (b : Bool) (ts rest : Tokens) → p ts ≡ picked b x rest → sees mark.Comma rest ≡ false
    → separated_from p (suc fuel) found ts ≡ picked (b && true) (found ++ x ∷ []) rest
unfolding separated_from
separated-end p fuel found x b ts rest read ends =
    rw read (bind-picked b true x rest _ (found ++ x ∷ []) rest (rw (ends, after-unseen mark.Comma rest ends) refl))

separated-turn : {A : Type 0} (p : Parser A) (fuel : ℕ) (found : List A) (x : A) (b c : Bool) (ts before following rest : Tokens) (y : List A) → p ts ≡ picked b x before → IsMark mark.Comma before following
    → separated_from p fuel (found ++ x ∷ []) following ≡ picked c y rest → separated_from p (suc fuel) found ts ≡ picked (b && c) y rest
unfolding separated_from
separated-turn p fuel found x b c ts before following rest y read k go =
    rw read (bind-picked b c x before _ y rest (rw (sees-mark k, after-mark k) go))

module _ {A : Type 0} (p : Parser A) (R : A → Tokens → Tokens → Type 0) (Before : Tokens → Type 0) (fit : A → Bool) where
  separated_from-complete : (i : IsComplete p R Before fit) (short : IsShorter R) (comma : (ts rest : Tokens) → IsMark mark.Comma ts rest → Before ts)
      (fuel : ℕ) (found : List A) {xs : List A} {ts rest : Tokens} → AreSeparated R xs ts rest → Before rest → sees mark.Comma rest ≡ false → length ts ≤ fuel
      → separated_from p fuel found ts ≡ picked (all_fit fit xs) (found ++ xs) rest
  separated_from-complete i short comma zero found {ts = ts} {rest = rest} (last {x = x} r) before ends long = absurd (omega (arith, short x ts rest r))
  separated_from-complete i short comma (suc fuel) found {ts = ts} {rest = rest} (last {x = x} r) before ends long =
      separated-end p fuel found x (fit x) ts rest (i x ts rest r before) ends
  separated_from-complete i short comma zero found {ts = ts} (and_next {x = x} {before = here} r k l) before ends long = absurd (omega (arith, short x ts here r))
  separated_from-complete i short comma (suc fuel) found {ts = ts} {rest = rest} (and_next {x = x} {xs = xs} {before = here} {following = following} r k l) before ends long =
      let read = separated_from-complete i short comma fuel (found ++ x ∷ []) l before ends (omega (arith, short x ts here r, mark-shorter k)) in
      separated-turn p fuel found x (fit x) (all_fit fit xs) ts here following rest (found ++ x ∷ xs) (i x ts here r (comma here following k)) k
      (read ∙ ap (λ (ys : List A). picked (all_fit fit xs) ys rest) (append_assoc found (x ∷ []) xs))

  pub separated-complete : (i : IsComplete p R Before fit) (short : IsShorter R) (comma : (ts rest : Tokens) → IsMark mark.Comma ts rest → Before ts)
      → (xs : List A) (ts rest : Tokens) → AreSeparated R xs ts rest → Before rest → sees mark.Comma rest ≡ false → separated p ts ≡ picked (all_fit fit xs) xs rest
  unfolding separated
  separated-complete i short comma xs ts rest l before ends = separated_from-complete i short comma (length ts) [] l before ends (omega arith)

pub many-shorter : {A : Type 0} (R : A → Tokens → Tokens → Type 0) (end : Mark) → IsShorter R → {xs : List A} {ts rest : Tokens} → AreMany R end xs ts rest → length rest < length ts
many-shorter R end short (no_more k) = mark-shorter k
many-shorter R end short {ts = ts} (one_more {x = x} {mid = mid} r l) = omega (arith, short x ts mid r, many-shorter R end short l)

pub separated-shorter : {A : Type 0} (R : A → Tokens → Tokens → Type 0) → IsShorter R → {xs : List A} {ts rest : Tokens} → AreSeparated R xs ts rest → length rest < length ts
separated-shorter R short {ts = ts} {rest = rest} (last {x = x} r) = short x ts rest r
separated-shorter R short {ts = ts} (and_next {x = x} {before = before} r k l) = omega (arith, short x ts before r, mark-shorter k, separated-shorter R short l)

-- ---- a section, if there is one

pub section-sound : {A : Type 0} (p : Parser A) (R : A → Tokens → Tokens → Type 0) (begin end : Mark) (i : IsSound p R) → IsSound (section p begin end) (IsSection R begin end)
unfolding section
section-sound p R begin end i ts x rest h =
    elim (eaten begin _ _ ts (x, rest) h) [
      | inl w ↦ is_section w.0 (many-sound p R end i (after begin ts) x rest w.1)
      | inr w ↦ made (IsSection R begin end) [] x ts ts rest w.1 no_section
    ]

pub section-complete : {A : Type 0} (p : Parser A) (R : A → Tokens → Tokens → Type 0) (fit : A → Bool) (begin end : Mark) (i : IsComplete (many p end) (AreMany R end) Anything (all_fit fit))
    → (xs : List A) (ts rest : Tokens) → IsSection R begin end xs ts rest → sees begin rest ≡ false → section p begin end ts ≡ picked (all_fit fit xs) xs rest
unfolding section
section-complete p R fit begin end i xs ts rest no_section ends = rw (ends, after-unseen begin ts ends) refl
section-complete p R fit begin end i xs ts rest (is_section {a = a} m l) ends = rw (sees-mark m, after-mark m) (i xs a rest l tt)

-- what begins no section comes after it
pub section-starts : {A : Type 0} {R : A → Tokens → Tokens → Type 0} {begin end : Mark} {xs : List A} {ts rest : Tokens} (k : Mark) → IsSection R begin end xs ts rest → same_mark begin k ≡ false → sees k rest ≡ false → sees k ts ≡ false
section-starts k no_section other ends = ends
section-starts k (is_section is_mark l) other ends = other

pub section-shorter : {A : Type 0} {R : A → Tokens → Tokens → Type 0} {begin end : Mark} → IsShorter R → {xs : List A} {ts rest : Tokens} → IsSection R begin end xs ts rest → length rest ≤ length ts
section-shorter short no_section = omega arith
section-shorter {R = R} {end = end} short (is_section k l) = omega (arith, mark-shorter k, many-shorter R end short l)

-- ---- the items as long as a mark is next

run_from-sound : {A : Type 0} (p : Parser A) (R : A → Tokens → Tokens → Type 0) (begin : Mark) (i : IsSound p R) (fuel : ℕ) (found : List A) (ts : Tokens) (read : List A) (rest : Tokens)
    → run_from p begin fuel found ts ≡ Ok (read, rest) → Adds (AreAll R) found read ts rest
unfolding run_from
run_from-sound p R begin i zero found ts read rest h = adds-nothing (AreAll R) found read ts ts rest h none
run_from-sound p R begin i (suc fuel) found ts read rest h =
    elim (chosen (sees begin ts) _ _ (Ok (read, rest)) h) [
      | inl w ↦
          let a = both_ok (p ts) _ (read, rest) w.1 in
          let l = run_from-sound p R begin i fuel (found ++ a.0 ∷ []) a.1 read rest a.3 in
          record { more = a.0 ∷ l.more; read_is = l.read_is ∙ append_assoc found (a.0 ∷ []) l.more; derived = and_more (i ts a.0 a.1 a.2) l.derived }
      | inr w ↦ adds-nothing (AreAll R) found read ts ts rest w.1 none
    ]

pub run-sound : {A : Type 0} (p : Parser A) (R : A → Tokens → Tokens → Type 0) (begin : Mark) (i : IsSound p R) (found : List A) (ts : Tokens) (read : List A) (rest : Tokens)
    → run_after p begin found ts ≡ Ok (read, rest) → Adds (AreAll R) found read ts rest
unfolding run_after
run-sound p R begin i found ts read rest h = run_from-sound p R begin i (length ts) found ts read rest h

run-end : {A : Type 0} (p : Parser A) (begin : Mark) (fuel : ℕ) (found : List A) (ts : Tokens) → sees begin ts ≡ false → run_from p begin fuel found ts ≡ done found ts
unfolding run_from
run-end p begin zero found ts ends = refl
run-end p begin (suc fuel) found ts ends = rw ends refl

run-turn : {A : Type 0} (p : Parser A) (begin : Mark) (fuel : ℕ) (found : List A) (x : A) (b c : Bool) (ts mid rest : Tokens) (y : List A) → sees begin ts ≡ true → p ts ≡ picked b x mid
    → run_from p begin fuel (found ++ x ∷ []) mid ≡ picked c y rest → run_from p begin (suc fuel) found ts ≡ picked (b && c) y rest
unfolding run_from
run-turn p begin fuel found x b c ts mid rest y begins read go =
    rw (begins, read) (bind-picked b c x mid (λ z. run_from p begin fuel (found ++ z ∷ [])) y rest go)

module _ {A : Type 0} (p : Parser A) (R : A → Tokens → Tokens → Type 0) (fit : A → Bool) where
  run_from-complete : (begin : Mark) (i : IsComplete p R Anything fit) (short : IsShorter R) (starts : (x : A) (ts rest : Tokens) → R x ts rest → sees begin ts ≡ true)
      (fuel : ℕ) (found : List A) {xs : List A} {ts rest : Tokens} → AreAll R xs ts rest → sees begin rest ≡ false → length ts ≤ fuel → run_from p begin fuel found ts ≡ picked (all_fit fit xs) (found ++ xs) rest
  run_from-complete begin i short starts fuel found {ts = ts} none ends long = rw (append-nil found) (run-end p begin fuel found ts ends)
  run_from-complete begin i short starts zero found {ts = ts} (and_more {x = x} {mid = mid} r l) ends long = absurd (omega (arith, short x ts mid r))
  run_from-complete begin i short starts (suc fuel) found {ts = ts} {rest = rest} (and_more {x = x} {xs = xs} {mid = mid} r l) ends long =
      let read = run_from-complete begin i short starts fuel (found ++ x ∷ []) l ends (omega (arith, short x ts mid r)) in
      run-turn p begin fuel found x (fit x) (all_fit fit xs) ts mid rest (found ++ x ∷ xs) (starts x ts mid r) (i x ts mid r tt)
      (read ∙ ap (λ (ys : List A). picked (all_fit fit xs) ys rest) (append_assoc found (x ∷ []) xs))

  pub run-complete : (begin : Mark) (i : IsComplete p R Anything fit) (short : IsShorter R) (starts : (x : A) (ts rest : Tokens) → R x ts rest → sees begin ts ≡ true)
      (found xs : List A) (ts rest : Tokens) → AreAll R xs ts rest → sees begin rest ≡ false → run_after p begin found ts ≡ picked (all_fit fit xs) (found ++ xs) rest
  unfolding run_after
  run-complete begin i short starts found xs ts rest l ends = run_from-complete begin i short starts (length ts) found l ends (omega arith)
