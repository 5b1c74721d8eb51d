-- Texts that are written piece by piece, with the counts of their bytes.
use Rattle.fb_types.proofs.Common.{◌≡◌, ℕ, ◌+◌, List, [], ◌∷◌, ◌++◌, length, take, Option, refl, sym, ap, ◌∙◌, subst, arith, append_assoc, length-append, suc, Appends, Appends-trans, Inputs, system_of, Taken, lines_of, System, line_text, lines_text}
use Rattle.fb_types.specs.declared.run.Form.{Form}
use Rattle.fb_types.specs.States.{Line}
use Rattle.fb_sim_machine.proofs.lemmas.JoinedRuns.{lines_of-append}
use Rattle.fb_trace.specs.Progress.{IsPartWritten, bounded}
use Rattle.fb_session.specs.Running.{text_of}

-- the text of lines, and then of more lines
pub lines_text-append : (form : Form) (sys : System) (ks ls : List Line) → lines_text form sys (ks ++ ls) ≡ lines_text form sys ks ++ lines_text form sys ls
lines_text-append form sys [] ls = refl
lines_text-append form sys (k ∷ ks) ls =
    ap (λ (t : List ℕ). line_text form sys k ++ t) (lines_text-append form sys ks ls)
    ∙ sym (append_assoc (line_text form sys k) (lines_text form sys ks) (lines_text form sys ls))

pub text-append : (i : Inputs) (form : Form) (ts us : List Taken) → text_of i form (ts ++ us) ≡ text_of i form ts ++ text_of i form us
text-append i form ts us = ap (lines_text form (system_of i)) (lines_of-append ts us) ∙ lines_text-append form (system_of i) (lines_of ts) (lines_of us)

bounded-sum : (a b : ℕ) → bounded (bounded a + bounded b) ≡ bounded (a + b)
bounded-sum a b = omega arith

pub bounded-length : (x y : List ℕ) → bounded (bounded (length x) + bounded (length y)) ≡ bounded (length (x ++ y))
bounded-length x y = rw length-append (bounded-sum (length x) (length y))

-- a text was written after this many bytes
pub bounded-after : (a n w : ℕ) (x : List ℕ) → n ≡ bounded (length x) → w ≡ bounded (a + n) → bounded w ≡ bounded (a + length x)
bounded-after a n w x counted is = omega (arith, counted, is)

-- and then another text
pub bounded-both : (a n m w : ℕ) (x y : List ℕ) → n ≡ bounded (length x) → m ≡ bounded (n + length y) → w ≡ bounded (a + m) → bounded w ≡ bounded (a + length (x ++ y))
bounded-both a n m w x y first second is = rw length-append (omega (arith, first, second, is))

take_after : (x y : List ℕ) (n : ℕ) → take (length x + n) (x ++ y) ≡ x ++ take n y
take_after [] y n = let e : 0 + n ≡ n = omega arith in ap (λ k. take k y) e
take_after (a ∷ x) y n =
    let e : length (a ∷ x) + n ≡ suc (length x + n) = omega arith in
    ap (λ k. take k (a ∷ x ++ y)) e ∙ ap (λ t. a ∷ t) (take_after x y n)

-- a part of a text, after one that was written whole
pub part-after : {old mid new : Option (List ℕ)} (x : List ℕ) {y : List ℕ} {n m : ℕ} → Appends old mid x → n ≡ bounded (length x) → IsPartWritten mid new y m → IsPartWritten old new (x ++ y) (bounded (n + m))
part-after {old} {mid} {new} x {y} {n} {m} got counted p = record {
  count = length x + p.count;
  short = let s = p.short in rw length-append (omega arith);
  got = subst (λ (t : List ℕ). Appends old new t) (sym (take_after x y p.count)) (Appends-trans old mid new x (take p.count y) got p.got);
  counted = let c = p.counted in omega arith;
}
