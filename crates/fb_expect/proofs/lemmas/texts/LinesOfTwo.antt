-- Two texts, line by line.
use Rattle.fb_types.proofs.Common.{◌≡◌, ℕ, zero, suc, ◌+◌, ◌≤◌, Bool, true, false, [], ◌∷◌, ◌++◌, length, refl, sym, ap, ap₂, subst, ◌∙◌, arith, inl, inr, ◌==◌, ◌&&◌, if◌then◌else◌, Option, Some, None, IfSome, take_through, IsAtEnd, bytes_eq, cases_eq, cases_lt, false≢true, bytes_eq-Decides}
use Rattle.std.specs.Io.BufRead.{drop_through}
use Rattle.std.specs.Io.KnownBytes.{Consumes}
use Rattle.fb_expect.specs.Faults.{part_fault}
use Rattle.fb_expect.specs.Lines.{IsOneLine}
use Rattle.fb_expect.specs.Parting.{AreAlike, AreAllAlike, AreSame, HasPassed, IsUnparted, MayFind, ComesAfter, StandsIn, StandsInFirst, StandsInSecond, are_alike, line_at, rest_at}
use Rattle.fb_expect.specs.Timeless.{without_tick}
use Rattle.fb_expect.specs.Words.{Text}
use Rattle.fb_expect.specs.declared.lines.ReadFault.{ReadFault}
use Rattle.fb_expect.specs.declared.lines.ReadFault.TheVariants as read_fault
use Rattle.fb_expect.specs.declared.parting.PartFault.{PartFault}
use Rattle.fb_expect.specs.declared.parting.PartFault.TheVariants.{First, Second}

-- one more line is passed
rest-more : (n : ℕ) (text : Text) → rest_at (suc n) text ≡ drop_through 10 (rest_at n text)
rest-more zero text = refl
rest-more (suc n) text = rest-more n (drop_through 10 text)

-- a text is its first line and what is after it
joined : (text : Text) → take_through 10 text ++ drop_through 10 text ≡ text
joined [] = refl
joined (b ∷ text) = by (b == 10) (joined text)
  where
    by :
        (t : Bool) → take_through 10 text ++ drop_through 10 text ≡ text
        → (if t then b ∷ [] else b ∷ take_through 10 text) ++ (if t then text else drop_through 10 text) ≡ b ∷ text
    by true more = refl
    by false more = ap (λ (z : Text). b ∷ z) more

-- texts whose lines are the same up to their ends are the same
same-all : (n : ℕ) (a b : Text) → AreSame false n a b → rest_at n a ≡ [] → rest_at n b ≡ [] → a ≡ b
same-all zero a b same none none' = none ∙ sym none'
same-all (suc n) a b same none none' =
    let first : take_through 10 a ≡ take_through 10 b = same 0 (omega arith) in
    let rest : drop_through 10 a ≡ drop_through 10 b = same-all n (drop_through 10 a) (drop_through 10 b) (λ k lt. same (suc k) (omega arith)) none none' in
    sym (joined a) ∙ ap (λ (z : Text). z ++ drop_through 10 a) first ∙ ap (λ (z : Text). take_through 10 b ++ z) rest ∙ joined b

-- lines after the end of a text are empty
past : (n k : ℕ) (a : Text) → rest_at n a ≡ [] → n ≤ k → rest_at k a ≡ []
past n zero a none le = ap (λ (m : ℕ). rest_at m a) (let e : 0 ≡ n = omega (arith, le) in e) ∙ none
past n (suc k) a none le =
    elim (cases_eq n (suc k)) as (λ _. rest_at (suc k) a ≡ []) [
      | inl same ↦ ap (λ (m : ℕ). rest_at m a) (sym same) ∙ none
      | inr other ↦ rest-more k a ∙ ap (drop_through 10) (past n k a none (omega (arith, le, other)))
    ]

-- so all lines of two texts are alike, if those up to their ends are
alike-all : (w : Bool) (n : ℕ) (a b : Text) → AreSame w n a b → rest_at n a ≡ [] → rest_at n b ≡ [] → AreAllAlike w a b
alike-all false n a b same none none' = same-all n a b same none none'
alike-all true n a b same none none' = λ k.
    elim (cases_lt k n) as (λ _. AreAlike true (line_at k a) (line_at k b)) [
      | inl lt ↦ same k lt
      | inr le ↦ ap (λ (z : Text). without_tick (take_through 10 z)) (past n k a none le ∙ sym (past n k b none' le))
    ]

same-one : (w : Bool) (n : ℕ) (a b : Text) → AreSame w n a b → AreAlike w (line_at n a) (line_at n b) → AreSame w (suc n) a b
same-one w n a b same here k lt =
    elim (cases_eq k n) as (λ _. AreAlike w (line_at k a) (line_at k b)) [
      | inl is ↦ subst (λ (i : ℕ). AreAlike w (line_at i a) (line_at i b)) (sym is) here
      | inr other ↦ same k (omega (arith, other))
    ]

-- ---- While they are read

-- the next line of a text is read
pub record Reads (old new : Option Text) (line : Text) : Type 0 where
  pub line_is : IfSome old (λ x. line ≡ take_through 10 x)
  pub rest_is : IfSome old (λ x. new ≡ Some (drop_through 10 x))

stands-more : (n : ℕ) (a now new : Option Text) (line : Text) → ComesAfter n a now → Reads now new line → ComesAfter (suc n) a new × IfSome a (λ x. line ≡ line_at n x)
stands-more n None now new line at reads = (tt, tt)
stands-more n (Some x) now new line at reads =
    let is : line ≡ take_through 10 (rest_at n x) = known now at reads.line_is in
    (known-rest now at reads.rest_is ∙ ap (λ (z : Text). Some z) (sym (rest-more n x)), is)
  where
    known : (o : Option Text) → o ≡ Some (rest_at n x) → IfSome o (λ y. line ≡ take_through 10 y) → line ≡ take_through 10 (rest_at n x)
    known o same holds = subst (λ (p : Option Text). IfSome p (λ y. line ≡ take_through 10 y)) same holds

    known-rest : (o : Option Text) → o ≡ Some (rest_at n x) → IfSome o (λ y. new ≡ Some (drop_through 10 y)) → new ≡ Some (drop_through 10 (rest_at n x))
    known-rest o same holds = subst (λ (p : Option Text). IfSome p (λ y. new ≡ Some (drop_through 10 y))) same holds

pub passed-one :
    (w : Bool) (n : ℕ) (a b a-now b-now a-new b-new : Option Text) (left right : Text) → HasPassed w n a b a-now b-now → Reads a-now a-new left → Reads b-now b-new right
    → AreAlike w left right → HasPassed w (n + 1) a b a-new b-new
passed-one w n a b a-now b-now a-new b-new left right p l r is =
    let f = stands-more n a a-now a-new left p.first l in
    let s = stands-more n b b-now b-new right p.second r in
    let more : suc n ≡ n + 1 = omega arith in
    subst (λ (m : ℕ). HasPassed w m a b a-new b-new) more (record { first = f.0; second = s.0; same = both a b p.same f.1 s.1 })
  where
    both :
        (a b : Option Text) → IfSome a (λ x. IfSome b (λ y. AreSame w n x y)) → IfSome a (λ x. left ≡ line_at n x) → IfSome b (λ y. right ≡ line_at n y)
        → IfSome a (λ x. IfSome b (λ y. AreSame w (suc n) x y))
    both None b same l r = tt
    both (Some x) None same l r = tt
    both (Some x) (Some y) same l r =
        same-one w n x y same (subst (λ (u : Text). AreAlike w u (line_at n y)) l (subst (λ (v : Text). AreAlike w left v) r is))

-- lines that differ
pub parted :
    (w : Bool) (n number : ℕ) (a b a-now b-now a-new b-new : Option Text) (left right : Text) → number ≡ n + 1 → HasPassed w n a b a-now b-now → Reads a-now a-new left
    → Reads b-now b-new right → (AreAlike w left right → ⊥) → MayFind w a b left right (Some number)
parted w n number a b a-now b-now a-new b-new left right counted p l r other =
    let f = stands-more n a a-now a-new left p.first l in
    let s = stands-more n b b-now b-new right p.second r in
    by a b p.same f.1 s.1
  where
    by :
        (a b : Option Text) → IfSome a (λ x. IfSome b (λ y. AreSame w n x y)) → IfSome a (λ x. left ≡ line_at n x) → IfSome b (λ y. right ≡ line_at n y)
        → MayFind w a b left right (Some number)
    by None b same l r = tt
    by (Some x) None same l r = tt
    by (Some x) (Some y) same l r = record { index = n; counted = counted; same = same; is_left = sym l; is_right = sym r; differ = other }

-- nothing is left of both
pub ended :
    (w : Bool) (n : ℕ) (a b a-now b-now : Option Text) (left right : Text) → HasPassed w n a b a-now b-now → IsAtEnd a-now → IsAtEnd b-now → MayFind w a b left right None
ended w n a b a-now b-now left right p none none' = by a b p.first p.second p.same
  where
    at-end : (x : Text) (o : Option Text) → o ≡ Some (rest_at n x) → IsAtEnd o → rest_at n x ≡ []
    at-end x o same holds = subst IsAtEnd same holds

    by : (a b : Option Text) → ComesAfter n a a-now → ComesAfter n b b-now → IfSome a (λ x. IfSome b (λ y. AreSame w n x y)) → MayFind w a b left right None
    by None b f s same = tt
    by (Some x) None f s same = tt
    by (Some x) (Some y) f s same = alike-all w n x y same (at-end x a-now f none) (at-end y b-now s none')

-- ---- A line that is not read

-- a part of a line, after whole ones
stands-in : (n : ℕ) (a now new : Option Text) (part : Text) → ComesAfter n a now → IsOneLine part × Consumes now new part → StandsIn n a new
stands-in n None now new part at reads = tt
stands-in n (Some x) now new part at reads = (part, reads.0, subst (λ (o : Option Text). Consumes o new part) at reads.1)

pub unread-first :
    (w : Bool) (n : ℕ) (a b a-now b-now a-new : Option Text) (part : Text) (e : ReadFault) (f : PartFault) → HasPassed w n a b a-now b-now
    → IsOneLine part × Consumes a-now a-new part → f ≡ part_fault First e → IsUnparted w a b a-new b-now f
unread-first w n a b a-now b-now a-new part e f p reads is =
    subst (IsUnparted w a b a-new b-now) (sym is) (by (record { first = stands-in n a a-now a-new part p.first reads; second = p.second; same = p.same }) e)
  where
    by : StandsInFirst w n a b a-new b-now → (e : ReadFault) → IsUnparted w a b a-new b-now (part_fault First e)
    by stands read_fault.Memory = (n, inl stands)
    by stands read_fault.Read = (n, stands)

pub unread-second :
    (w : Bool) (n : ℕ) (a b a-now b-now a-new b-new : Option Text) (left part : Text) (e : ReadFault) (f : PartFault) → HasPassed w n a b a-now b-now → Reads a-now a-new left
    → IsOneLine part × Consumes b-now b-new part → f ≡ part_fault Second e → IsUnparted w a b a-new b-new f
unread-second w n a b a-now b-now a-new b-new left part e f p l reads is =
    let more : suc n ≡ n + 1 = omega arith in
    let first : ComesAfter (n + 1) a a-new = subst (λ (m : ℕ). ComesAfter m a a-new) more (stands-more n a a-now a-new left p.first l).0 in
    subst (IsUnparted w a b a-new b-new) (sym is) (by (record { first = first; second = stands-in n b b-now b-new part p.second reads; same = p.same }) e)
  where
    by : StandsInSecond w n a b a-new b-new → (e : ReadFault) → IsUnparted w a b a-new b-new (part_fault Second e)
    by stands read_fault.Memory = (n, inr stands)
    by stands read_fault.Read = (n, stands)

-- as many lines were read as are counted
pub counted-all : (w : Bool) (n : ℕ) (a b a-now b-now : Option Text) → HasPassed w n a b a-now b-now → IsUnparted w a b a-now b-now First
counted-all w n a b a-now b-now p = (n, record { first = here a a-now p.first; second = p.second; same = p.same })
  where
    here : (a now : Option Text) → ComesAfter n a now → StandsIn n a now
    here None now at = tt
    here (Some x) now at = ([], (λ k d lt is. omega (arith, lt)), subst (λ (o : Option Text). Consumes (Some (rest_at n x)) o []) (sym at) refl)

-- ---- What a comparison says

abbrev pair : Text → Text → Text × Text
pair x y = (x, y)

alike-parts : (a b c d : Text) → (bytes_eq a c && bytes_eq b d) ≡ true → ◌≡◌ {A = Text × Text} (a, b) (c, d)
alike-parts a b c d is =
    let both = and-parts (bytes_eq a c) (bytes_eq b d) is in
    ap₂ pair ((bytes_eq-Decides a c).0 both.0) ((bytes_eq-Decides b d).0 both.1)
  where
    and-parts : (x y : Bool) → (x && y) ≡ true → (x ≡ true) × (y ≡ true)
    and-parts true y found = (refl, found)
    and-parts false y found = absurd (false≢true found)

pub alike : (w : Bool) (a b : Text) → are_alike w a b ≡ true → AreAlike w a b
alike false a b is = (bytes_eq-Decides a b).0 is
alike true a b is = alike-parts (without_tick a).0 (without_tick a).1 (without_tick b).0 (without_tick b).1 is

pub unlike : (w : Bool) (a b : Text) → are_alike w a b ≡ false → AreAlike w a b → ⊥
unlike false a b off same = false≢true (sym off ∙ (bytes_eq-Decides a b).1 same)
unlike true a b off same =
    let first : bytes_eq (without_tick a).0 (without_tick b).0 ≡ true = (bytes_eq-Decides (without_tick a).0 (without_tick b).0).1 (ap (λ (p : Text × Text). p.0) same) in
    let second : bytes_eq (without_tick a).1 (without_tick b).1 ≡ true = (bytes_eq-Decides (without_tick a).1 (without_tick b).1).1 (ap (λ (p : Text × Text). p.1) same) in
    false≢true (sym off ∙ ap₂ (λ (x y : Bool). x && y) first second)

pub nothing : (a : Text) → length a ≡ 0 → a ≡ []
nothing [] is = refl
nothing (b ∷ a) is = absurd (omega (arith, is))
