-- Lines that are gone through one after another.
use Rattle.fb_inspect.proofs.lemmas.Common.{◌≡◌, ℕ, Bool, true, false, List, [], ◌∷◌, ◌++◌, ◌+◌, map, length, Option, refl, sym, ◌∙◌, ap, subst, append_assoc, append-nil, arith, length-append, All, Consumes, Consumes-trans, map-append, All-append, All-nil, line_of, System, line_text, lines_text, Form, Line, IsLineOf, IsTextOf, IsAlone, IsNext, IsNextLine, Next, Goes, IsLineAt, StaysAlone, shown_text, Trail}
use Rattle.fb_types.proofs.Common.{All-push}
use Rattle.std.proofs.KnownBytes.{Consumes-nil}
use Rattle.fb_types.specs.States as model
use Rattle.fb_coverage.specs.Sets.{with_port}
use Rattle.fb_coverage.specs.declared.marks.PortMarks.{PortMarks}
use Rattle.fb_inspect.specs.declared.walk.reading.Next.TheVariants as next
use Rattle.fb_inspect.specs.Markings.{lines_marked}
use Rattle.fb_inspect.specs.walk.Moves.{HavePassed, IsAside, lines_kept}
use Rattle.fb_inspect.specs.declared.walk.trail.PassedLines.{PassedLines}

-- the text of lines, and of others after them
pub lines-append : (form : Form) (sys : System) (ls ks : List model.Line) → lines_text form sys (ls ++ ks) ≡ lines_text form sys ls ++ lines_text form sys ks
lines-append form sys [] ks = refl
lines-append form sys (l ∷ ls) ks =
    ap (λ (t : List ℕ). line_text form sys l ++ t) (lines-append form sys ls ks) ∙ sym (append_assoc (line_text form sys l) (lines_text form sys ls) (lines_text form sys ks))

pub shown-append : (b : Bool) (xs ys : List ℕ) → shown_text b (xs ++ ys) ≡ shown_text b xs ++ shown_text b ys
shown-append true xs ys = refl
shown-append false xs ys = refl

-- two texts that were added one after another
pub shown_both :
    (f b : Bool) (xs ys zs ws text end : List ℕ) → f ≡ b → xs ≡ zs → ys ≡ ws → end ≡ (text ++ shown_text f xs) ++ shown_text f ys → end ≡ text ++ shown_text b (zs ++ ws)
shown_both f b xs ys zs ws text end flag one two is =
    is ∙ append_assoc text (shown_text f xs) (shown_text f ys) ∙ ap (λ (l : List ℕ). text ++ l) (sym (shown-append f xs ys))
    ∙ ap (λ (c : Bool). text ++ shown_text c (xs ++ ys)) flag
    ∙ ap (λ (l : List ℕ). text ++ shown_text b (l ++ ys)) one
    ∙ ap (λ (l : List ℕ). text ++ shown_text b (zs ++ l)) two

pub shown-nil : (b : Bool) → shown_text b [] ≡ []
shown-nil true = refl
shown-nil false = refl

-- the ports of lines, and of others after them
pub marked-append : (ls ks : List Line) (m : PortMarks) → lines_marked (ls ++ ks) m ≡ lines_marked ks (lines_marked ls m)
marked-append [] ks m = refl
marked-append (l ∷ ls) ks m = marked-append ls ks (with_port l.instance l.taken l.event m)

-- nothing but the text differs, if that
pub aside :
    (old new : Trail) → new.is_shown ≡ old.is_shown → new.marks.ports ≡ old.marks.ports → new.passed ≡ old.passed → new.reading.number ≡ old.reading.number → IsAside old new
aside old new kept ported passed number = record { kept = kept; ported = ported; passed = passed; number = number }

pub aside_none : (t : Trail) → IsAside t t
aside_none t = record { kept = refl; ported = refl; passed = refl; number = refl }

-- no line was passed, and some one after another
passed_none : (b : Bool) (ls : List Line) → ls ≡ lines_kept b ls []
passed_none true ls = sym (append-nil ls)
passed_none false ls = refl

pub none_passed : (old new : PassedLines) → new ≡ old → HavePassed [] old new
none_passed old new same = record {
  same = ap (λ (p : PassedLines). p.are_kept) same;
  lines = ap (λ (p : PassedLines). p.lines.items) same ∙ passed_none old.are_kept old.lines.items;
}

passed_then : (b : Bool) (old ls ks : List Line) → lines_kept b (lines_kept b old ls) ks ≡ lines_kept b old (ls ++ ks)
passed_then true old ls ks = append_assoc old ls ks
passed_then false old ls ks = refl

then_passed : (ls ks : List Line) (a b c : PassedLines) → HavePassed ls a b → HavePassed ks b c → HavePassed (ls ++ ks) a c
then_passed ls ks a b c first second = record {
  same = second.same ∙ first.same;
  lines = second.lines
      ∙ ap (λ (v : Bool). lines_kept v b.lines.items ks) first.same
      ∙ ap (λ (v : List Line). lines_kept a.are_kept v ks) first.lines
      ∙ passed_then a.are_kept a.lines.items ls ks;
}

pub plus_none : (n : ℕ) → n ≡ n + 0
plus_none n = omega arith

-- lines after others, counted
pub counted_then : {A : Type 0} (ls ks : List A) (a b c : ℕ) → b ≡ a + length ls → c ≡ b + length ks → c ≡ a + length (ls ++ ks)
counted_then ls ks a b c first second = omega (arith, first, second, length-append ls ks)

module _ (sys : System) (form : Form) (tick : ℕ) where
  -- text is added, and no line is read
  pub goes_note :
      (old new : Trail) (bytes : List ℕ) (left : Option (List ℕ)) → IsAside old new → new.reading.line.items ≡ old.reading.line.items
      → new.page.text.items ≡ old.page.text.items ++ bytes → Goes sys form tick [] bytes old new left left
  goes_note old new bytes left aside line text = record {
    each = All-nil (IsLineAt sys tick);
    kept = aside.kept;
    taken = [];
    took = Consumes-nil left;
    read = append-nil old.reading.line.items ∙ sym line;
    text = text;
    ported = aside.ported;
    passed = none_passed old.passed new.passed aside.passed;
    numbered = aside.number ∙ plus_none old.reading.number;
  }

  pub goes_then :
      (a b c : Trail) (ls ks : List Line) (bs cs : List ℕ) (l m n : Option (List ℕ)) → Goes sys form tick ls bs a b l m → Goes sys form tick ks cs b c m n
      → Goes sys form tick (ls ++ ks) (bs ++ cs) a c l n
  goes_then a b c ls ks bs cs l m n first second =
      let L : List ℕ = lines_text form sys (map (line_of sys) ls) in
      let K : List ℕ = lines_text form sys (map (line_of sys) ks) in
      record {
        each = All-append (IsLineAt sys tick) ls ks first.each second.each;
        kept = second.kept ∙ first.kept;
        taken = first.taken ++ second.taken;
        took = Consumes-trans l m n first.taken second.taken first.took second.took;
        read = sym (append_assoc a.reading.line.items first.taken second.taken)
            ∙ ap (λ (x : List ℕ). x ++ second.taken) first.read
            ∙ append_assoc L b.reading.line.items second.taken
            ∙ ap (λ (x : List ℕ). L ++ x) second.read
            ∙ sym (append_assoc L K c.reading.line.items)
            ∙ ap (λ (x : List ℕ). x ++ c.reading.line.items) (sym (ap (lines_text form sys) (map-append (line_of sys) ls ks) ∙ lines-append form sys (map (line_of sys) ls) (map (line_of sys) ks)));
        text = second.text ∙ ap (λ (x : List ℕ). x ++ cs) first.text ∙ append_assoc a.page.text.items bs cs;
        ported = second.ported ∙ ap (lines_marked ks) first.ported ∙ sym (marked-append ls ks a.marks.ports);
        passed = then_passed ls ks a.passed b.passed c.passed first.passed second.passed;
        numbered = counted_then ls ks a.reading.number b.reading.number c.reading.number first.numbered second.numbered;
      }

  -- the same text by another name
  pub goes_as :
      (a b : Trail) (ls : List Line) (bs cs : List ℕ) (l m : Option (List ℕ)) → bs ≡ cs → Goes sys form tick ls bs a b l m → Goes sys form tick ls cs a b l m
  goes_as a b ls bs cs l m same goes = subst (λ (x : List ℕ). Goes sys form tick ls x a b l m) same goes

-- the next line, where nothing is said of one that cannot come there
pub next_line : (sys : System) (form : Form) (tick : ℕ) (text : List ℕ) (n : Next) → IsNext sys form tick text n → IsNextLine sys form tick text n
next_line sys form tick text (next.Event l) is = (is.0, is.1)
next_line sys form tick text (next.End e) is = is
next_line sys form tick text next.Bad is = tt

-- the next line is the same as at another place
pub alone_from :
    (a b c : Trail) (l m : Option (List ℕ)) → b.reading.line.items ≡ a.reading.line.items → StaysAlone b.reading c.reading l m → StaysAlone a.reading c.reading l m
alone_from a b c l m line stays = λ alone. stays (subst (λ (t : List ℕ). IsAlone t l) (sym line) alone)

pub alone_on :
    (a b c : Trail) (l m : Option (List ℕ)) → c.reading.line.items ≡ b.reading.line.items → StaysAlone a.reading b.reading l m → StaysAlone a.reading c.reading l m
alone_on a b c l m line stays = λ alone. subst (λ (t : List ℕ). IsAlone t m) (sym line) (stays alone)

-- one line is read, and added where it is shown
pub goes_pass :
    (sys : System) (form : Form) (line : Line) (a c : Trail) (l m : Option (List ℕ)) → IsTextOf sys form line a.reading.line.items
    → c.page.text.items ≡ a.page.text.items ++ shown_text a.is_shown a.reading.line.items → c.is_shown ≡ a.is_shown
    → c.marks.ports ≡ with_port line.instance line.taken line.event a.marks.ports → HavePassed (line ∷ []) a.passed c.passed → Consumes l m c.reading.line.items
    → c.reading.number ≡ a.reading.number + 1
    → Goes sys form line.key.tick (line ∷ []) (shown_text a.is_shown (line_text form sys (line_of sys line))) a c l m
goes_pass sys form line a c l m is put shown ported passed took number = record {
  each = All-one sys line is.line;
  kept = shown;
  taken = c.reading.line.items;
  took = took;
  read = ap (λ (x : List ℕ). x ++ c.reading.line.items) (is.is ∙ sym (append-nil (line_text form sys (line_of sys line))));
  text = put ∙ ap (λ (x : List ℕ). a.page.text.items ++ shown_text a.is_shown x) is.is;
  ported = ported;
  passed = passed;
  numbered = number;
}
  where
    All-one : (sys : System) (line : Line) → IsLineOf sys line → All (IsLineAt sys line.key.tick) (line ∷ [])
    All-one sys line one = All-push (IsLineAt sys line.key.tick) [] line (All-nil (IsLineAt sys line.key.tick)) (record { line = one; tick_is = refl })

-- the same way from a trail with the same line and text
pub goes_same :
    (sys : System) (form : Form) (tick : ℕ) (ls : List Line) (bytes : List ℕ) (a b c : Trail) (l m : Option (List ℕ)) → IsAside b a
    → a.reading.line.items ≡ b.reading.line.items → a.page.text.items ≡ b.page.text.items → Goes sys form tick ls bytes a c l m → Goes sys form tick ls bytes b c l m
goes_same sys form tick ls bytes a b c l m aside line text goes = record {
  each = goes.each;
  kept = goes.kept ∙ aside.kept;
  taken = goes.taken;
  took = goes.took;
  read = ap (λ (x : List ℕ). x ++ goes.taken) (sym line) ∙ goes.read;
  text = goes.text ∙ ap (λ (x : List ℕ). x ++ bytes) text;
  ported = goes.ported ∙ ap (lines_marked ls) aside.ported;
  passed = subst (λ (p : PassedLines). HavePassed ls p c.passed) aside.passed goes.passed;
  numbered = goes.numbered ∙ ap (λ (n : ℕ). n + length ls) aside.number;
}

-- a line and more are not none
pub not_none : (l : Line) (ls : List Line) → l ∷ ls ≡ [] → ⊥
not_none l ls same = cc
