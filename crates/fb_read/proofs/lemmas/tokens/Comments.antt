-- Where a comment begins that is not closed.
use Rattle.fb_read.proofs.lemmas.Common.{◌≡◌, ℕ, ◌<◌, ◌≤◌, Bool, true, false, cond, eqb, [], length, drop, Option, Some, None, refl, subst, inl, inr, ◌&&◌, and_parts, cases_lt, eqb-true, drop_all, BlankState, Text, at, skip, start, step, may_end}
use Rattle.fb_read.specs.declared.blank.BlankState.TheVariants.{Between, Opening, Inside, Closing, Line}
use Rattle.fb_read.specs.Blank.{is_blank}
use Rattle.fb_read.specs.Located.{begun}

-- the position is in a comment that has to be closed
abbrev pub InComment : BlankState → Type 0
InComment Between = ⊥
InComment Opening = Unit {0}
InComment Inside = Unit {0}
InComment Closing = Unit {0}
InComment Line = ⊥

pub in-comment : (p : BlankState) → may_end p ≡ false → InComment p
in-comment Between e = absurd cc
in-comment Opening e = tt
in-comment Inside e = tt
in-comment Closing e = tt
in-comment Line e = absurd cc

-- what is skipped from where the comment begins is what is skipped from here
pub since-begun : (p : BlankState) (z : Text) (i before : ℕ) → skip p (drop i z) ≡ skip start (drop before z) → skip p (drop i z) ≡ skip start (drop (begun p i before) z)
since-begun Between z i before h = refl
since-begun Opening z i before h = h
since-begun Inside z i before h = h
since-begun Closing z i before h = h
since-begun Line z i before h = h

not-comment : (p q : BlankState) → Some p ≡ Some q → (InComment p → ⊥) → InComment q → ⊥
not-comment p q e n c = let same : p ≡ q = cc in n (rw same c)

-- a comment that is gone into begins with a bracket
pub begins-comment : (p q : BlankState) (b next i before : ℕ) (z : Text) → at z i ≡ b → step p b next ≡ Some q → (InComment p → at z before ≡ 40) → InComment q → at z (begun p i before) ≡ 40
begins-comment Between q b next i before z e s h c = blank (is_blank b) s
  where
    line : (t : Bool) → cond t (Some Line) None ≡ Some q → at z i ≡ 40
    line true s = absurd (not-comment Line q s (λ n. n) c)
    line false s = absurd cc

    comment : (t : Bool) → (eqb b 40 && eqb next 42) ≡ t → cond t (Some Opening) (cond (eqb b 47 && eqb next 47) (Some Line) None) ≡ Some q → at z i ≡ 40
    comment true t s = let w = and_parts (eqb b 40) (eqb next 42) t in let f : b ≡ 40 = eqb-true b 40 w.0 in rw e f
    comment false t s = line (eqb b 47 && eqb next 47) s

    blank : (t : Bool) → cond t (Some Between) (cond (eqb b 40 && eqb next 42) (Some Opening) (cond (eqb b 47 && eqb next 47) (Some Line) None)) ≡ Some q → at z i ≡ 40
    blank true s = absurd (not-comment Between q s (λ n. n) c)
    blank false s = comment (eqb b 40 && eqb next 42) refl s
begins-comment Opening q b next i before z e s h c = h tt
begins-comment Inside q b next i before z e s h c = h tt
begins-comment Closing q b next i before z e s h c = h tt
begins-comment Line q b next i before z e s h c = line (eqb b 10) s
  where
    line : (t : Bool) → cond t (Some Between) (Some Line) ≡ Some q → at z before ≡ 40
    line true s = absurd (not-comment Between q s (λ n. n) c)
    line false s = absurd (not-comment Line q s (λ n. n) c)

abbrev pub end_or_none : Bool → Option Text
end_or_none b = cond b (Some []) None

pub may-not-end : (p : BlankState) → end_or_none (may_end p) ≡ None → may_end p ≡ false
may-not-end p h = go (may_end p) refl h
  where
    go : (b : Bool) → may_end p ≡ b → end_or_none b ≡ None → may_end p ≡ false
    go true e h = absurd cc
    go false e h = e

past : (z : Text) (k : ℕ) → length z ≤ k → skip start (drop k z) ≡ None → ⊥
unfolding skip
past z k le h = go (subst (λ (y : Text). skip start y ≡ None) (drop_all k z le) h)
  where
    go : skip start [] ≡ None → ⊥
    go e = cc

-- what is not closed is in the text
pub none-within : (z : Text) (k : ℕ) → skip start (drop k z) ≡ None → k < length z
none-within z k h = elim (cases_lt k (length z)) [ inl lt ↦ lt | inr le ↦ absurd (past z k le h) ]
