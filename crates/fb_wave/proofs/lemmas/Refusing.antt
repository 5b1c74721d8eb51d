-- The line at which a text is refused is the first with which it can be no trace.
use Rattle.fb_wave.proofs.lemmas.Common.{◌≡◌, ◌⊎◌, ℕ, suc, ◌<◌, ◌≤◌, ◌^◌, Bool, true, false, cond, List, [], ◌∷◌, ◌++◌, length, map, take, refl, sym, ap, subst, ◌∙◌, inl, inr, arith, append_assoc, append-nil, All, not, ◌==◌, take_through, and_parts, not-true, length-map, All-head, All-tail, take-append_seam, line_of, Ending, System, last_line, lines_text, Form, Line, last_tick, IsLineOf, IsTextOf, HasNames}
use Rattle.fb_types.proofs.Common.{AtStop, line_text}
use Rattle.fb_types.specs.declared.value.Reason.TheVariants.{Steps}
use Rattle.fb_wave.specs.Copying.{IsNoLineFrom}
use Rattle.fb_wave.specs.Lines.{IsEndOf}
use Rattle.fb_wave.specs.Refusals.{GoesOn, IsFirstBad, lines_in, longer}
use Rattle.fb_wave.specs.Waves.{AreLinesOf, EndsAfter, IsTraceOf, RiseFrom}
use Rattle.fb_wave.proofs.lemmas.Lining.{IsOneLine, last_one, line_not_last, line_one, same_line}
use Rattle.fb_wave.proofs.lemmas.Plain.{is_flat}

-- ---- Lines of a text

flat_line : (body rest : List ℕ) → is_flat body ≡ true → lines_in ((body ++ 10 ∷ []) ++ rest) ≡ (body ++ 10 ∷ []) ∷ lines_in rest
flat_line [] rest flat = refl
flat_line (b ∷ body) rest flat =
    let parts = and_parts (not (b == 10)) (is_flat body) flat in
    let other : (b == 10) ≡ false = not-true (b == 10) parts.0 in
    let text = (body ++ 10 ∷ []) ++ rest in
    ap (λ (t : Bool). cond t ((b ∷ []) ∷ lines_in text) (longer b (lines_in text))) other ∙ ap (longer b) (flat_line body rest parts.1)

pub one_line : (text rest : List ℕ) → IsOneLine text → lines_in (text ++ rest) ≡ text ∷ lines_in rest
one_line text rest one =
    ap (λ (t : List ℕ). lines_in (t ++ rest)) one.is ∙ flat_line one.body rest one.flat ∙ ap (λ (t : List ℕ). t ∷ lines_in rest) (sym one.is)

abbrev pub text_in : System → Form → Line → List ℕ
text_in sys form l = line_text form sys (line_of sys l)

abbrev pub all_text : System → Form → List Line → List ℕ
all_text sys form ls = lines_text form sys (map (line_of sys) ls)

-- a text that begins with that of lines has these lines
many_lines :
    (sys : System) (form : Form) (ls : List Line) (rest : List ℕ) → HasNames sys → All (IsLineOf sys) ls
    → lines_in (all_text sys form ls ++ rest) ≡ map (text_in sys form) ls ++ lines_in rest
many_lines sys form [] rest names all = refl
many_lines sys form (l ∷ ls) rest names all =
    ap lines_in (append_assoc (text_in sys form l) (all_text sys form ls) rest)
    ∙ one_line (text_in sys form l) (all_text sys form ls ++ rest) (line_one sys form l names (All-head (IsLineOf sys) l ls all))
    ∙ ap (λ (ts : List (List ℕ)). text_in sys form l ∷ ts) (many_lines sys form ls rest names (All-tail (IsLineOf sys) l ls all))

trace_lines :
    (sys : System) (form : Form) (text : List ℕ) (ls : List Line) (end : Ending) → HasNames sys → IsTraceOf sys form text ls end
    → lines_in text ≡ map (text_in sys form) ls ++ last_line sys end ∷ []
trace_lines sys form text ls end names is =
    ap lines_in is.is ∙ many_lines sys form ls (last_line sys end) names is.lines.each
    ∙ ap (λ (ts : List (List ℕ)). map (text_in sys form) ls ++ ts) (ap lines_in (sym (append-nil (last_line sys end))) ∙ one_line (last_line sys end) [] (last_one sys end names is.last))

first_alone : (b : ℕ) (t : Bool) → (b == 10) ≡ t → lines_in (b ∷ []) ≡ take_through 10 (b ∷ []) ∷ []
first_alone b true e = ap (λ (t : Bool). cond t ((b ∷ []) ∷ []) ((b ∷ []) ∷ [])) e ∙ ap (λ (t : Bool). cond t (b ∷ []) (b ∷ []) ∷ []) (sym e)
first_alone b false e = ap (λ (t : Bool). cond t ((b ∷ []) ∷ []) ((b ∷ []) ∷ [])) e ∙ ap (λ (t : Bool). cond t (b ∷ []) (b ∷ []) ∷ []) (sym e)

first_more :
    (b c : ℕ) (cs : List ℕ) (rest : List (List ℕ)) → lines_in (c ∷ cs) ≡ take_through 10 (c ∷ cs) ∷ rest → (t : Bool) → (b == 10) ≡ t
    → (others : List (List ℕ)) × (lines_in (b ∷ c ∷ cs) ≡ take_through 10 (b ∷ c ∷ cs) ∷ others)
first_more b c cs rest more true e = (
  lines_in (c ∷ cs),
  ap (λ (t : Bool). cond t ((b ∷ []) ∷ lines_in (c ∷ cs)) (longer b (lines_in (c ∷ cs)))) e
      ∙ ap (λ (t : Bool). cond t (b ∷ []) (b ∷ take_through 10 (c ∷ cs)) ∷ lines_in (c ∷ cs)) (sym e),
)
first_more b c cs rest more false e = (
  rest,
  ap (λ (t : Bool). cond t ((b ∷ []) ∷ lines_in (c ∷ cs)) (longer b (lines_in (c ∷ cs)))) e ∙ ap (longer b) more
      ∙ ap (λ (t : Bool). cond t (b ∷ []) (b ∷ take_through 10 (c ∷ cs)) ∷ rest) (sym e),
)

-- the first line of a text is all up to its first line feed
first_line : (b : ℕ) (bs : List ℕ) → (rest : List (List ℕ)) × (lines_in (b ∷ bs) ≡ take_through 10 (b ∷ bs) ∷ rest)
first_line b [] = ([], first_alone b (b == 10) refl)
first_line b (c ∷ cs) = let more = first_line c cs in first_more b c cs more.0 more.1 (b == 10) refl

pub one_first : (text : List ℕ) → (text ≡ [] → ⊥) → take 1 (lines_in text) ≡ take_through 10 text ∷ []
one_first [] some = absurd (some refl)
one_first (b ∷ bs) some = ap (take 1) (first_line b bs).1

-- ---- What another trace has after the same lines

-- The first of these lines is an end that can come after a tick, or a line that can.
abbrev Follows : System → Form → ℕ → List (List ℕ) → Type 0
Follows sys form t texts =
    ((end : Ending) × IsEndOf sys end × EndsAfter t end × (take 1 texts ≡ last_line sys end ∷ []))
    ⊎ ((l : Line) × IsLineOf sys l × (t ≤ l.key.tick) × (take 1 texts ≡ text_in sys form l ∷ []))

heads : (x y : List ℕ) (xs ys : List (List ℕ)) → x ∷ xs ≡ y ∷ ys → (x ≡ y) × (xs ≡ ys)
heads x y xs ys e = (cc, cc)

walk :
    (sys : System) (f g : Form) (t : ℕ) (ls ms : List Line) (end : Ending) (texts : List (List ℕ)) → HasNames sys → All (IsLineOf sys) ls → All (IsLineOf sys) ms
    → RiseFrom t ms → IsEndOf sys end → EndsAfter (last_tick t ms) end
    → take (suc (length ls)) (map (text_in sys g) ms ++ last_line sys end ∷ []) ≡ take (suc (length ls)) (map (text_in sys f) ls ++ texts)
    → Follows sys g (last_tick t ls) texts
walk sys f g t [] [] end texts names all each rise is after e = inl (end, is, after, sym e)
walk sys f g t [] (m ∷ ms) end texts names all each rise is after e = inr (m, All-head (IsLineOf sys) m ms each, rise.0, sym e)
walk sys f g t (l ∷ ls) [] end texts names all each rise is after e =
    absurd (line_not_last sys f l end (All-head (IsLineOf sys) l ls all) (sym (heads (last_line sys end) (text_in sys f l) _ _ e).0))
walk sys f g t (l ∷ ls) (m ∷ ms) end texts names all each rise is after e =
    let both = heads (text_in sys g m) (text_in sys f l) _ _ e in
    let same = same_line sys g f m l names (All-head (IsLineOf sys) m ms each) (All-head (IsLineOf sys) l ls all) both.0 in
    walk sys f g l.key.tick ls ms end texts names (All-tail (IsLineOf sys) l ls all) (All-tail (IsLineOf sys) m ms each)
    (subst (λ (k : ℕ). RiseFrom k ms) same.1 rise.1) is (subst (λ (k : ℕ). EndsAfter (last_tick k ms) end) same.1 after) both.1

-- the form of a trace is that of the first line that it shares
same_form :
    (sys : System) (f g : Form) (l : Line) (ls ms : List Line) (end : Ending) (texts : List (List ℕ)) → HasNames sys → All (IsLineOf sys) (l ∷ ls) → All (IsLineOf sys) ms
    → take (suc (suc (length ls))) (map (text_in sys g) ms ++ last_line sys end ∷ []) ≡ take (suc (suc (length ls))) (map (text_in sys f) (l ∷ ls) ++ texts) → g ≡ f
same_form sys f g l ls [] end texts names all each e =
    absurd (line_not_last sys f l end (All-head (IsLineOf sys) l ls all) (sym (heads (last_line sys end) (text_in sys f l) _ _ e).0))
same_form sys f g l ls (m ∷ ms) end texts names all each e =
    (same_line sys g f m l names (All-head (IsLineOf sys) m ms each) (All-head (IsLineOf sys) l ls all) (heads (text_in sys g m) (text_in sys f l) _ _ e).0).0

-- ---- Lines that are good

-- lines that a trace can begin with go on to one
pub goes_on : (sys : System) (form : Form) (ls : List Line) (rest : List ℕ) → HasNames sys → 0 < length sys.resource_names → last_tick 0 ls < 2 ^ 64 → AreLinesOf sys ls → GoesOn sys (length ls) (all_text sys form ls ++ rest)
goes_on sys form ls rest names some small are =
    let end : Ending = AtStop (last_tick 0 ls) 0 Steps in
    let count = length-map ls (text_in sys form) in
    let front : (more : List ℕ) → take (length ls) (lines_in (all_text sys form ls ++ more)) ≡ map (text_in sys form) ls =
    λ more. ap (take (length ls)) (many_lines sys form ls more names are.each)
    ∙ ap (λ (k : ℕ). take k (map (text_in sys form) ls ++ lines_in more)) (sym count) ∙ take-append_seam (map (text_in sys form) ls) (lines_in more)
    in
    record {
      trace = all_text sys form ls ++ last_line sys end;
      is = record { form = form; lines = ls; end = end; is = record { lines = are; last = (small, some); ends = omega arith; is = refl } };
      alike = front (last_line sys end) ∙ sym (front rest);
    }

-- ---- Refusals

-- No end of the system that can come after the tick has this text.
abbrev pub IsNoEndFrom : System → ℕ → List ℕ → Type 0
IsNoEndFrom sys t text = (end : Ending) → IsEndOf sys end → EndsAfter t end → text ≡ last_line sys end → ⊥

pub refused :
    (sys : System) (form : Form) (ls : List Line) (next rest : List ℕ) → HasNames sys → 0 < length sys.resource_names → last_tick 0 ls < 2 ^ 64 → AreLinesOf sys ls
    → next ≡ take_through 10 (next ++ rest) → (ls ≡ [] → (f : Form) (l : Line) → IsTextOf sys f l next → f ≡ form)
    → IsNoLineFrom sys form (last_tick 0 ls) next → IsNoEndFrom sys (last_tick 0 ls) next → IsFirstBad sys (suc (length ls)) (all_text sys form ls ++ (next ++ rest))
refused sys form ls next rest names some small are first formed no_line no_end =
    record { before = length ls; next = refl; good = goes_on sys form ls (next ++ rest) names some small are; bad = bad }
  where
    texts : List (List ℕ)
    texts = lines_in (next ++ rest)

    is_next : (x : List ℕ) → take 1 texts ≡ x ∷ [] → next ≡ x
    is_next x e = by (next ++ rest) refl
      where
        by : (t : List ℕ) → next ++ rest ≡ t → next ≡ x
        by [] none = absurd (let short : take 1 (lines_in []) ≡ x ∷ [] = ap (λ (t : List ℕ). take 1 (lines_in t)) (sym none) ∙ e in cc)
        by (b ∷ bs) more =
            first ∙ ap (take_through 10) more ∙ (heads (take_through 10 (b ∷ bs)) x [] [] (sym (one_first (b ∷ bs) (λ e. cc)) ∙ ap (λ (t : List ℕ). take 1 (lines_in t)) (sym more) ∙ e)).0

    form_is : (g : Form) (ms : List Line) (end : Ending) (ks : List Line) → ks ≡ ls → All (IsLineOf sys) ms
        → take (suc (length ks)) (map (text_in sys g) ms ++ last_line sys end ∷ []) ≡ take (suc (length ks)) (map (text_in sys form) ks ++ texts)
        → (l : Line) → IsTextOf sys g l next → g ≡ form
    form_is g ms end [] none each e l is = formed (sym none) g l is
    form_is g ms end (k ∷ ks) same each e l is =
        same_form sys form g k ks ms end texts names (subst (λ (zs : List Line). All (IsLineOf sys) zs) (sym same) are.each) each e

    bad : GoesOn sys (suc (length ls)) (all_text sys form ls ++ (next ++ rest)) → ⊥
    bad goes =
        let t = goes.is in
        let e : take (suc (length ls)) (map (text_in sys t.form) t.lines ++ last_line sys t.end ∷ []) ≡ take (suc (length ls)) (map (text_in sys form) ls ++ texts) =
        ap (take (suc (length ls))) (sym (trace_lines sys t.form goes.trace t.lines t.end names t.is)) ∙ goes.alike
        ∙ ap (take (suc (length ls))) (many_lines sys form ls (next ++ rest) names are.each)
        in
        elim (walk sys form t.form 0 ls t.lines t.end texts names are.each t.is.lines.each t.is.lines.rise t.is.last t.is.ends e) [
          | inl end ↦ no_end end.0 end.1 end.2 (is_next (last_line sys end.0) end.3)
          | inr line ↦
              (let text : next ≡ text_in sys t.form line.0 = is_next (text_in sys t.form line.0) line.3 in
              let is : IsTextOf sys t.form line.0 next = record { line = line.1; is = text } in
              let same : t.form ≡ form = form_is t.form t.lines t.end ls refl t.is.lines.each e line.0 is in
              no_line line.0 (subst (λ (f : Form). IsTextOf sys f line.0 next) same is) line.2)
        ]

-- ---- What comes after the end

beyond :
    (sys : System) (f g : Form) (ls ms : List Line) (end last : Ending) (x : List ℕ) (xs : List (List ℕ)) → HasNames sys → All (IsLineOf sys) ls → All (IsLineOf sys) ms
    → take (suc (suc (length ls))) (map (text_in sys g) ms ++ last_line sys last ∷ [])
    ≡ take (suc (suc (length ls))) (map (text_in sys f) ls ++ last_line sys end ∷ (x ∷ xs)) → ⊥
beyond sys f g [] [] end last x xs names all each e = cc
beyond sys f g [] (m ∷ ms) end last x xs names all each e =
    line_not_last sys g m end (All-head (IsLineOf sys) m ms each) (heads (text_in sys g m) (last_line sys end) _ _ e).0
beyond sys f g (l ∷ ls) [] end last x xs names all each e =
    line_not_last sys f l last (All-head (IsLineOf sys) l ls all) (sym (heads (last_line sys last) (text_in sys f l) _ _ e).0)
beyond sys f g (l ∷ ls) (m ∷ ms) end last x xs names all each e =
    beyond sys f g ls ms end last x xs names (All-tail (IsLineOf sys) l ls all) (All-tail (IsLineOf sys) m ms each) (heads (text_in sys g m) (text_in sys f l) _ _ e).1

-- a text that goes on after an end
pub refused_after :
    (sys : System) (form : Form) (ls : List Line) (end : Ending) (rest : List ℕ) → HasNames sys → AreLinesOf sys ls → IsEndOf sys end → EndsAfter (last_tick 0 ls) end
    → 0 < length rest → IsFirstBad sys (suc (suc (length ls))) (all_text sys form ls ++ (last_line sys end ++ rest))
refused_after sys form ls end [] names are last ends more = absurd (omega (arith, more))
refused_after sys form ls end (b ∷ bs) names are last ends more =
    record {
      before = suc (length ls);
      next = refl;
      good = record {
        trace = all_text sys form ls ++ last_line sys end;
        is = record { form = form; lines = ls; end = end; is = record { lines = are; last = last; ends = ends; is = refl } };
        alike = front [] (many_lines sys form ls (last_line sys end) names are.each ∙ ap (λ (t : List ℕ). map (text_in sys form) ls ++ lines_in t) (sym (append-nil (last_line sys end)))
            ∙ ap (λ (ts : List (List ℕ)). map (text_in sys form) ls ++ ts) (one_line (last_line sys end) [] one))
            ∙ sym (front (lines_in (b ∷ bs)) all);
      };
      bad = λ goes.
          let t = goes.is in
          beyond sys form t.form ls t.lines end t.end (take_through 10 (b ∷ bs)) (first_line b bs).0 names are.each t.is.lines.each
          (ap (take (suc (suc (length ls)))) (sym (trace_lines sys t.form goes.trace t.lines t.end names t.is)) ∙ goes.alike
          ∙ ap (take (suc (suc (length ls)))) (all ∙ ap (λ (ts : List (List ℕ)). map (text_in sys form) ls ++ last_line sys end ∷ ts) (first_line b bs).1));
    }
  where
    one : IsOneLine (last_line sys end)
    one = last_one sys end names last

    all : lines_in (all_text sys form ls ++ (last_line sys end ++ (b ∷ bs))) ≡ map (text_in sys form) ls ++ last_line sys end ∷ lines_in (b ∷ bs)
    all = many_lines sys form ls (last_line sys end ++ (b ∷ bs)) names are.each ∙ ap (λ (ts : List (List ℕ)). map (text_in sys form) ls ++ ts) (one_line (last_line sys end) (b ∷ bs) one)

    front : (ts : List (List ℕ)) {us : List (List ℕ)} → us ≡ map (text_in sys form) ls ++ last_line sys end ∷ ts → take (suc (length ls)) us ≡ map (text_in sys form) ls ++ last_line sys end ∷ []
    front ts e = ap (take (suc (length ls))) e ∙ seam ls ts
      where
        seam : (ks : List Line) (ys : List (List ℕ)) → take (suc (length ks)) (map (text_in sys form) ks ++ last_line sys end ∷ ys) ≡ map (text_in sys form) ks ++ last_line sys end ∷ []
        seam [] ys = refl
        seam (k ∷ ks) ys = ap (λ (zs : List (List ℕ)). text_in sys form k ∷ zs) (seam ks ys)
