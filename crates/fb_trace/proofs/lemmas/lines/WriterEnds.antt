-- What a writer has got in the end, of all that was put from an empty page on.
use Rattle.fb_types.proofs.Common.{◌≡◌, ℕ, List, [], ◌++◌, length, Option, Result, Ok, Err, IfErr, sym, ap, subst, ◌∙◌, arith, refl, append-nil, length-append, OnOk, IsErrAnd, Appends, Appends-trans, take_at}
use Rattle.fb_trace.specs.declared.fault.WriteFault.{WriteFault}
use Rattle.fb_trace.specs.Page.{Page}
use Rattle.fb_trace.specs.Progress.{Puts, Fails, Gathers, IsPartWritten}
use Rattle.fb_trace.proofs.lemmas.lines.PutPieces.{Fails-after}

abbrev pub empty : Page
empty = record { waiting = []; written = 0 }

part : {a b : Option (List ℕ)} {text : List ℕ} {w : ℕ} → Fails a b empty text w → IsPartWritten a b text w
part {a} {b} {text} t =
    let short = t.short in
    record {
      count = length t.sent;
      short = rw (t.parts, length-append) (omega arith);
      got = rw (t.parts, take_at t.sent t.missing (length t.sent) refl) t.got;
      counted = omega (arith, t.counted);
    }

pub part_passed : {a b : Option (List ℕ)} {text : List ℕ} {f : WriteFault} {T : Type 0} (r : Result T WriteFault) → IsErrAnd r (λ g. g ≡ f) → Fails a b empty text f.written → IfErr r (λ g. IsPartWritten a b text g.written)
part_passed (Ok u) h t = absurd h
part_passed {a} {b} {text} (Err g) h t = subst (λ (y : WriteFault). IsPartWritten a b text y.written) (sym h) (part t)

-- all was put, and all that waited was written
pub all_got : {a b c : Option (List ℕ)} {p q : Page} {text : List ℕ} → Puts a b empty p text → Puts b c p q [] → q.waiting ≡ [] → Appends a c text
all_got {a} {b} {c} {p} {q} {text} s t none =
    let waited : p.waiting ≡ t.sent = sym (append-nil p.waiting) ∙ t.parts ∙ ap (λ (l : List ℕ). t.sent ++ l) none ∙ append-nil t.sent in
    subst (Appends a c) (sym (s.parts ∙ ap (λ (l : List ℕ). s.sent ++ l) waited)) (Appends-trans a b c s.sent t.sent s.got t.got)

pub whole_flushed :
    {a b c : Option (List ℕ)} {p q : Page} {text : List ℕ} (r : Result (Unit {0}) WriteFault) → Puts a b empty p text → Gathers b c p q [] r → OnOk r (q.waiting ≡ [])
    → OnOk r (Appends a c text)
whole_flushed (Ok u) s t none = all_got s t.whole none
whole_flushed (Err f) s t none = tt

-- all was put, but what waited was not all written
pub part_flushed : {a b c : Option (List ℕ)} {p q : Page} {text : List ℕ} (r : Result (Unit {0}) WriteFault) → Puts a b empty p text → Gathers b c p q [] r → IfErr r (λ f. IsPartWritten a c text f.written)
part_flushed (Ok u) s t = tt
part_flushed {a} {b} {c} {p} {q} {text} (Err f) s t = part (rw append-nil at (Fails-after s t.part))
