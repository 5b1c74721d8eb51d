-- Text that is put piece by piece.
use Rattle.fb_types.proofs.Common.{◌≡◌, ℕ, ◌+◌, ◌<◌, List, [], ◌∷◌, ◌++◌, length, take, drop, Option, Result, Ok, Err, refl, sym, subst, ◌∙◌, arith, append_assoc, append-nil, length-append, length-drop, length-take, take-append-drop, IsErrAnd, Appends, Appends-nil, Appends-trans}
use Rattle.fb_trace.specs.declared.fault.WriteFault.{WriteFault}
use Rattle.fb_trace.specs.Page.{Page}
use Rattle.fb_trace.specs.Progress.{Puts, Fails, Gathers, bounded}

-- bytes that were taken in part, without a page
pub Fails-direct : {a b : Option (List ℕ)} (bs : List ℕ) (n before w : ℕ) → n < length bs → Appends a b (take n bs) → w ≡ bounded (before + n) → Fails a b (record { waiting = []; written = before }) bs w
Fails-direct bs n before w h got counted =
    record {
      sent = take n bs;
      missing = drop n bs;
      got = got;
      parts = sym (take-append-drop n bs);
      short = rw length-drop (omega arith);
      counted = let e : length (take n bs) ≡ n = length-take n bs ∙ omega arith in rw e counted;
    }

-- one piece after another
pub Puts-more : {a b c : Option (List ℕ)} {p q r : Page} {x y : List ℕ} → Puts a b p q x → Puts b c q r y → Puts a c p r (x ++ y)
Puts-more {a} {b} {c} {p} {q} {r} {x} {y} s t =
    record {
      sent = s.sent ++ t.sent;
      got = Appends-trans a b c s.sent t.sent s.got t.got;
      parts = rw (← append_assoc p.waiting x y, s.parts, append_assoc s.sent q.waiting y, t.parts, append_assoc s.sent t.sent r.waiting);
      counted = rw length-append (omega (arith, s.counted, t.counted));
    }

-- a piece that is not put whole, after others
pub Fails-after : {a b c : Option (List ℕ)} {p q : Page} {x y : List ℕ} {w : ℕ} → Puts a b p q x → Fails b c q y w → Fails a c p (x ++ y) w
Fails-after {a} {b} {c} {p} {q} {x} {y} s t =
    record {
      sent = s.sent ++ t.sent;
      missing = t.missing;
      got = Appends-trans a b c s.sent t.sent s.got t.got;
      parts = rw (← append_assoc p.waiting x y, s.parts, append_assoc s.sent q.waiting y, t.parts, append_assoc s.sent t.sent t.missing);
      short = t.short;
      counted = rw length-append (omega (arith, s.counted, t.counted));
    }

-- such a piece, before others
pub Fails-before : {a b : Option (List ℕ)} {p : Page} {x : List ℕ} {w : ℕ} (y : List ℕ) → Fails a b p x w → Fails a b p (x ++ y) w
Fails-before {a} {b} {p} {x} y t =
    record {
      sent = t.sent;
      missing = t.missing ++ y;
      got = t.got;
      parts = rw (← append_assoc p.waiting x y, t.parts, append_assoc t.sent t.missing y);
      short = let s = t.short in rw length-append (omega arith);
      counted = t.counted;
    }

-- nothing is put
pub Puts-none : (a : Option (List ℕ)) (p : Page) → Puts a a p p []
Puts-none a p = record { sent = []; got = Appends-nil a; parts = append-nil _; counted = omega arith }

-- a piece for which there was room
pub Puts-appended : (a : Option (List ℕ)) {p q : Page} {x : List ℕ} → q ≡ record p { waiting = p.waiting ++ x } → Puts a a p q x
Puts-appended a e = rw e (record { sent = []; got = Appends-nil a; parts = refl; counted = omega arith })

-- one more text after it
pub appended-more : (p q r : Page) (x y : List ℕ) → q ≡ record p { waiting = p.waiting ++ x } → r ≡ record q { waiting = q.waiting ++ y } → r ≡ record p { waiting = p.waiting ++ (x ++ y) }
appended-more p q r x y e f = rw (f, e, append_assoc p.waiting x y) refl

-- the result of the last piece
pub Gathers-after : {a b c : Option (List ℕ)} {p q r : Page} {x y : List ℕ} (result : Result (Unit {0}) WriteFault) → Puts a b p q x → Gathers b c q r y result → Gathers a c p r (x ++ y) result
Gathers-after (Ok u) s t = record { whole = Puts-more s t.whole; part = tt }
Gathers-after (Err f) s t = record { whole = tt; part = Fails-after s t.part }

-- the fault that `?` passes on
pub Gathers-passed : {a b : Option (List ℕ)} {p q : Page} {x : List ℕ} {f : WriteFault} (result : Result (Unit {0}) WriteFault) → IsErrAnd result (λ g. g ≡ f) → Fails a b p x f.written → Gathers a b p q x result
Gathers-passed (Ok u) h t = absurd h
Gathers-passed {a} {b} {p} {q} {x} (Err g) h t =
    record { whole = tt; part = subst (λ (y : WriteFault). Fails a b p x y.written) (sym h) t }

-- bytes that are written past an empty page
pub Puts-direct : {a b : Option (List ℕ)} (p q : Page) (x : List ℕ) → p.waiting ≡ [] → q.waiting ≡ [] → Appends a b x → q.written ≡ bounded (p.written + length x) → Puts a b p q x
Puts-direct p q x none none' got counted =
    record { sent = x; got = got; parts = rw (none, none', append-nil); counted = omega arith }

pub Fails-past : {a b : Option (List ℕ)} {x : List ℕ} {w : ℕ} (p : Page) → p.waiting ≡ [] → Fails a b (record { waiting = []; written = p.written }) x w → Fails a b p x w
Fails-past p none t =
    record { sent = t.sent; missing = t.missing; got = t.got; parts = rw none t.parts; short = t.short; counted = t.counted }

-- a text and what follows it
abbrev pub joined : List ℕ → List (List ℕ) → List ℕ
joined x [] = x
joined x (y ∷ ys) = joined (x ++ y) ys

-- a piece that is not put whole, before several
pub Fails-first : {a b : Option (List ℕ)} {p : Page} {x : List ℕ} {w : ℕ} (ys : List (List ℕ)) → Fails a b p x w → Fails a b p (joined x ys) w
Fails-first [] t = t
Fails-first (y ∷ ys) t = Fails-first ys (Fails-before y t)
