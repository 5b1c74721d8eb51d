-- Two texts of a system that begin alike begin with the same lines, as far as their form shows them.
use Rattle.fb_inspect.proofs.lemmas.Common.{◌≡◌, ℕ, ◌+◌, List, [], ◌∷◌, ◌++◌, length, map, take, All, refl, sym, ap, subst, ◌∙◌, append-nil, append_assoc, arith, take_through, append_cancel_left, length-append, All-head, All-nil, All-tail, AreAccepted, Inputs, system_of, line_of, Ending, System, last_line, line_text, lines_text, Form, One, Two, last_tick, IsEndOf, IsLineOf, IsTextOf, HasNames, RiseFrom}
use Rattle.fb_types.specs.States.{Line}
use Rattle.fb_types.specs.declared.run.Line as run
use Rattle.fb_wave.specs.Refusals.{lines_in}
use Rattle.fb_wave.proofs.lemmas.Lining.{IsOneLine, last_one, line_not_last, line_one, same_line}
use Rattle.fb_wave.proofs.lemmas.Refusing.{one_first, one_line}
use Rattle.fb_inspect.specs.walk.SameLines.{IsSameLine}
use Rattle.fb_inspect.proofs.lemmas.lines.OneLine.{line_once_by}
use Rattle.fb_inspect.proofs.lemmas.lines.PlainKeys.{bare, shown}
use Rattle.fb_inspect.proofs.lemmas.lines.OnePort.{one_port}

pub same_shown : (sys : System) (form : Form) (l m : run.Line) → IsSameLine form l m → shown form (line_of sys l) ≡ shown form (line_of sys m)
same_shown sys One l m h = λ i. bare (line_of sys (record {
  key = record { tick = h.tick i; resource = h.resource i; class = 0; a = 0; b = 0 };
  taken = h.taken i;
  instance = h.instance i;
  event = h.event i;
  values = h.values i;
}))
same_shown sys Two l m h = λ i. line_of sys (record {
  key = record { tick = h.tick i; resource = h.resource i; class = h.parts.0 i; a = h.parts.1 i; b = h.parts.2 i };
  taken = h.taken i;
  instance = h.instance i;
  event = h.event i;
  values = h.values i;
})

-- ---- Lines of texts

two_lines : (x y : List ℕ) (xs ys : List (List ℕ)) → x ∷ xs ≡ y ∷ ys → x ≡ y
two_lines x y xs ys e = cc

one_once : (x y A B : List ℕ) → IsOneLine x → IsOneLine y → x ++ A ≡ y ++ B → (x ≡ y) × (A ≡ B)
one_once x y A B h g e =
    let same : x ≡ y = two_lines x y (lines_in A) (lines_in B) (sym (one_line x A h) ∙ ap lines_in e ∙ one_line y B g) in
    (same, append_cancel_left y A B (ap (λ (z : List ℕ). z ++ A) (sym same) ∙ e))

some_there : (x A : List ℕ) → IsOneLine x → x ++ A ≡ [] → ⊥
some_there x A h e =
    let none = ap length e in
    let one = length-append x A in
    let two = length-append h.body (10 ∷ []) in
    let three = ap length h.is in
    omega (arith, none, one, two, three)

pub through : (x A : List ℕ) → IsOneLine x → take_through 10 (x ++ A) ≡ x
through x A h = two_lines (take_through 10 (x ++ A)) x [] (take 0 (lines_in A)) (sym (one_first (x ++ A) (some_there x A h)) ∙ ap (take 1) (one_line x A h))

-- the next line of a text, and what comes after it
next_is : (line rest x A : List ℕ) → line ≡ take_through 10 (line ++ rest) → IsOneLine x → line ++ rest ≡ x ++ A → (line ≡ x) × (rest ≡ A)
next_is line rest x A alone h e =
    let same : line ≡ x = alone ∙ ap (take_through 10) e ∙ through x A h in
    (same, append_cancel_left x rest A (ap (λ (z : List ℕ). z ++ rest) (sym same) ∙ e))

no_line : (b : run.Line) (cs : List run.Line) → [] ≡ b ∷ cs → ⊥
no_line b cs e = cc

-- ---- Two texts

module _ (i : Inputs) (accepted : AreAccepted i) (names : HasNames (system_of i)) where
  abbrev sys : System
  sys = system_of i

  -- a line by numbers as a form shows it
  abbrev pub seen : Form → run.Line → Line
  seen form l = shown form (line_of sys l)

  -- what comes next: the end, or a line of the system
  abbrev pub Next : Form → Ending → (line rest : List ℕ) → (back : List run.Line) → Type 0
  Next form end line rest [] = (line ≡ last_line sys end) × (rest ≡ [])
  Next form end line rest (m ∷ more) = IsTextOf sys form m line

  -- The lines of a trace in a form are first some other lines, and the next line is that of the rest of them.
  pub record IsAligned (form f : Form) (ls bs : List run.Line) (tick : ℕ) (end : Ending) (line rest : List ℕ) : Type 0 where
    pub back : List run.Line
    pub of : All (IsLineOf sys) back
    pub lines : map (seen form) ls ≡ map (seen form) bs ++ map (seen form) back
    pub rise : RiseFrom (last_tick tick bs) back
    pub last : last_tick (last_tick tick bs) back ≡ last_tick tick ls
    pub next : Next form end line rest back
    pub forms : (b : run.Line) (cs : List run.Line) → bs ≡ b ∷ cs → form ≡ f

  module _ (form f : Form) (end : Ending) (can : IsEndOf sys end) (line rest : List ℕ) (alone : line ≡ take_through 10 (line ++ rest)) where
    -- the lines that were read are over
    at_next : (ls : List run.Line) (tick : ℕ) → All (IsLineOf sys) ls → RiseFrom tick ls → lines_text form sys (map (line_of sys) ls) ++ last_line sys end ≡ line ++ rest → IsAligned form f ls [] tick end line rest
    at_next [] tick of rise e =
        let next = next_is line rest (last_line sys end) [] alone (last_one sys end names can) (sym e ∙ sym (append-nil (last_line sys end))) in
        record { back = []; of = All-nil (IsLineOf sys); lines = refl; rise = tt; last = refl; next = next; forms = λ b cs e. absurd (no_line b cs e) }
    at_next (m ∷ ms) tick of rise e =
        let text = line_text form sys (line_of sys m) in
        let own = All-head (IsLineOf sys) m ms of in
        let parts : line ++ rest ≡ text ++ (lines_text form sys (map (line_of sys) ms) ++ last_line sys end) = sym e ∙ append_assoc text (lines_text form sys (map (line_of sys) ms)) (last_line sys end) in
        let next = next_is line rest text _ alone (line_one sys form m names own) parts in
        record { back = m ∷ ms; of = of; lines = refl; rise = rise; last = refl; next = record { line = own; is = next.0 }; forms = λ b cs e. absurd (no_line b cs e) }

    -- The lines in a form are aligned with those of the trace.
    pub aligned :
        (ls bs : List run.Line) (tick : ℕ) → All (IsLineOf sys) ls → All (IsLineOf sys) bs → RiseFrom tick ls
        → lines_text form sys (map (line_of sys) ls) ++ last_line sys end ≡ lines_text f sys (map (line_of sys) bs) ++ (line ++ rest) → IsAligned form f ls bs tick end line rest
    aligned ls [] tick of others rise e = at_next ls tick of rise e
    aligned [] (b ∷ bs) tick of others rise e =
        let text = line_text f sys (line_of sys b) in
        let own = All-head (IsLineOf sys) b bs others in
        let both = one_once (last_line sys end) text [] (lines_text f sys (map (line_of sys) bs) ++ (line ++ rest)) (last_one sys end names can) (line_one sys f b names own)
        (append-nil (last_line sys end) ∙ e ∙ append_assoc text (lines_text f sys (map (line_of sys) bs)) (line ++ rest))
        in
        absurd (line_not_last sys f b end own (sym both.0))
    aligned (m ∷ ms) (b ∷ bs) tick of others rise e =
        let one = line_text form sys (line_of sys m) in
        let two = line_text f sys (line_of sys b) in
        let own = All-head (IsLineOf sys) m ms of in
        let other = All-head (IsLineOf sys) b bs others in
        let both = one_once one two (lines_text form sys (map (line_of sys) ms) ++ last_line sys end) (lines_text f sys (map (line_of sys) bs) ++ (line ++ rest))
        (line_one sys form m names own) (line_one sys f b names other)
        (sym (append_assoc one (lines_text form sys (map (line_of sys) ms)) (last_line sys end)) ∙ e ∙ append_assoc two (lines_text f sys (map (line_of sys) bs)) (line ++ rest))
        in
        let forms = same_line sys form f m b names own other both.0 in
        let text : one ≡ line_text form sys (line_of sys b) = both.0 ∙ ap (λ (g : Form). line_text g sys (line_of sys b)) (sym forms.0) in
        let same = line_once_by sys names (one_port i accepted names) form m b one (record { line = own; is = refl }) (record { line = other; is = text }) in
        let next = aligned ms bs m.key.tick (All-tail (IsLineOf sys) m ms of) (All-tail (IsLineOf sys) b bs others) rise.1 both.1 in
        let now : last_tick m.key.tick bs ≡ last_tick b.key.tick bs = ap (λ (n : ℕ). last_tick n bs) same.tick in
        record {
          back = next.back;
          of = next.of;
          lines = ap (λ (l : Line). l ∷ map (seen form) ms) (same_shown sys form m b same) ∙ ap (λ (ls : List Line). seen form b ∷ ls) next.lines;
          rise = subst (λ (n : ℕ). RiseFrom n next.back) now next.rise;
          last = ap (λ (n : ℕ). last_tick n next.back) (sym now) ∙ next.last;
          next = next.next;
          forms = λ c cs e. forms.0;
        }
