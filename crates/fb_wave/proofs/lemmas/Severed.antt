-- Traces that are cut off, and what is known where a trace may be.
use Rattle.fb_wave.proofs.lemmas.Common.{◌≡◌, ◌⊎◌, ℕ, suc, ◌+◌, ◌-◌, ◌≤◌, Bool, true, false, cond, List, [], ◌∷◌, ◌++◌, length, refl, sym, ap, subst, ◌∙◌, inl, inr, arith, append_assoc, append-nil, All, IfSome, not, ◌==◌, slice_get, Option, Some, None, take_through, and_from, not-true, not_from_false, All-head, All-tail, System, Form, Line, ending_of, Outcome, IsAfter, IsCopied, RefusesLine, last_tick, IsLast, IsLineOf, HasNames, Progress, WaveError, Refused, Names, Memory, Read, Write}
use Rattle.fb_types.proofs.Common.{and_parts, count_by, Appends, Appends-trans}
use Rattle.std.proofs.lemmas.List.Sums.{sum_by-append}
use Rattle.fb_trace.specs.Progress.{bounded}
use Rattle.fb_wave.specs.Copying.{IsCutFinished, IsCutUnfinished, RefusesEnd}
use Rattle.fb_wave.specs.CutOff.{BlamesShown, FailsShown, IsCutWave, IsNoCut, IsShown, IsUncut, cut_text, has_no_feed, is_cut, is_unended, is_unended_by}
use Rattle.fb_wave.specs.Faults.{IsReadFault}
use Rattle.fb_wave.specs.Refusals.{Blames}
use Rattle.fb_wave.specs.Waves.{FailsWave, IsWave, WritesFront}
use Rattle.fb_wave.specs.Writing.{HasShown}
use Rattle.fb_wave.specs.declared.truncation.Cut.{Cut}
use Rattle.fb_wave.specs.declared.truncation.Cut.TheVariants as cut
use Rattle.fb_wave.specs.Pages.{IsCutShort}
use Rattle.fb_wave.specs.declared.page.Page.{Page}
use Rattle.fb_wave.specs.declared.page.PageFault.{PageFault}
use Rattle.fb_wave.proofs.lemmas.Blaming.{known}
use Rattle.fb_wave.proofs.lemmas.Copied.{count_more, ends_after, front_copied, part_written}
use Rattle.fb_wave.proofs.lemmas.Lining.{IsOneLine, last_one, line_one}
use Rattle.fb_wave.proofs.lemmas.Plain.{is_flat}
use Rattle.fb_wave.proofs.lemmas.Refusing.{all_text, text_in}

-- ---- Where a trace may be cut off or not

pub fails_in : (c : Cut) (sys : System) (old new : Option (List ℕ)) (e : WaveError) → FailsWave sys old new e → FailsShown c sys old new e
fails_in cut.Refused sys old new e fails = fails
fails_in cut.Allowed sys old new e fails = inl fails

pub shown_in :
    (c : Cut) (sys : System) (input old new : Option (List ℕ)) → IfSome input (λ text. IsWave sys text old new) → IfSome input (λ text. IsShown c sys text old new)
shown_in cut.Refused sys input old new wave = wave
shown_in cut.Allowed sys None old new wave = tt
shown_in cut.Allowed sys (Some text) old new wave = inl wave

pub blames_in :
    (c : Cut) (sys : System) (text : Option (List ℕ)) (e : WaveError) → Blames sys text e → (c ≡ cut.Allowed → IsNoCut sys text e) → BlamesShown c sys text e
blames_in cut.Refused sys text e blames whole = blames
blames_in cut.Allowed sys text e blames whole = (blames, whole refl)

pub blames_memory : (c : Cut) (sys : System) (text : Option (List ℕ)) → BlamesShown c sys text Memory
blames_memory c sys text = blames_in c sys text Memory tt (λ same. tt)

-- a reader that fails blames no line
pub read_blames : (c : Cut) (sys : System) (text : Option (List ℕ)) (e : WaveError) → IsReadFault e → BlamesShown c sys text e
read_blames c sys text Memory fault = blames_memory c sys text
read_blames c sys text Read fault = blames_in c sys text Read tt (λ same. tt)
read_blames c sys text e fault = absurd fault

pub blames_names : (c : Cut) (sys : System) (text : Option (List ℕ)) → ¬ (HasNames sys) → BlamesShown c sys text Names
blames_names c sys text none = blames_in c sys text Names none (λ same. tt)

-- a writer that fails blames no line
pub write_blames : (c : Cut) (sys : System) (text : Option (List ℕ)) (n : ℕ) → BlamesShown c sys text (Write n)
write_blames c sys text n = blames_in c sys text (Write n) tt (λ same. tt)

-- ---- Line feeds

abbrev pub feeds : List ℕ → ℕ
feeds text = count_by (λ (b : ℕ). b == 10) text

pub feeds-append : (u v : List ℕ) → feeds (u ++ v) ≡ feeds u + feeds v
feeds-append u v = sum_by-append (λ (b : ℕ). cond (b == 10) 1 0) u v

pub flat_feeds : (body : List ℕ) → is_flat body ≡ true → feeds body ≡ 0
flat_feeds [] flat = refl
flat_feeds (b ∷ bs) flat =
    let parts = and_parts (not (b == 10)) (is_flat bs) flat in
    let none : ◌≡◌ {A = ℕ} (cond (b == 10) 1 0) 0 = ap (λ (t : Bool). cond {A = ℕ} t 1 0) (not-true (b == 10) parts.0) in
    let counted : feeds (b ∷ []) ≡ 0 + cond (b == 10) 1 0 = refl in
    let more = flat_feeds bs parts.1 in
    let both : feeds (b ∷ bs) ≡ feeds (b ∷ []) + feeds bs = feeds-append (b ∷ []) bs in
    omega (arith, none, counted, more, both)

pub one_feed : (text : List ℕ) → IsOneLine text → feeds text ≡ 1
one_feed text one =
    let counted : feeds text ≡ feeds one.body + 1 = ap feeds one.is ∙ feeds-append one.body (10 ∷ []) in
    let none = flat_feeds one.body one.flat in
    omega (arith, counted, none)

-- lines have as many line feeds as there are lines
pub lines_feeds : (sys : System) (form : Form) (ls : List Line) → HasNames sys → All (IsLineOf sys) ls → feeds (all_text sys form ls) ≡ length ls
lines_feeds sys form [] names all = refl
lines_feeds sys form (l ∷ ls) names all =
    let one = one_feed _ (line_one sys form l names (All-head (IsLineOf sys) l ls all)) in
    let more = lines_feeds sys form ls names (All-tail (IsLineOf sys) l ls all) in
    let both : feeds (all_text sys form (l ∷ ls)) ≡ feeds (text_in sys form l) + feeds (all_text sys form ls) = feeds-append (text_in sys form l) (all_text sys form ls) in
    omega (arith, one, more, both)

-- the last byte of a longer line
pub shift : (b c : ℕ) (bs : List ℕ) → is_unended (b ∷ c ∷ bs) ≡ is_unended (c ∷ bs)
shift b c bs =
    let next : length (b ∷ c ∷ bs) - 1 ≡ suc (length (c ∷ bs) - 1) = omega arith in
    ap (λ (k : ℕ). is_unended_by (slice_get (b ∷ c ∷ bs) k)) next

pub ended_feeds : (next : List ℕ) → is_unended next ≡ false → 1 ≤ feeds next
ended_feeds [] ended = absurd (cc)
ended_feeds (b ∷ []) ended = by (b == 10) refl ended
  where
    by : (t : Bool) → (b == 10) ≡ t → not t ≡ false → 1 ≤ feeds (b ∷ [])
    by true is other =
        let ten : ◌≡◌ {A = ℕ} (cond (b == 10) 1 0) 1 = ap (λ (t : Bool). cond {A = ℕ} t 1 0) is in
        let counted : feeds (b ∷ []) ≡ 0 + cond (b == 10) 1 0 = refl in
        omega (arith, ten, counted)
    by false is other = absurd (cc)
ended_feeds (b ∷ c ∷ bs) ended =
    let more = ended_feeds (c ∷ bs) (sym (shift b c bs) ∙ ended) in
    let both : feeds (b ∷ c ∷ bs) ≡ feeds (b ∷ []) + feeds (c ∷ bs) = feeds-append (b ∷ []) (c ∷ bs) in
    omega (arith, more, both)

pub none_left : (rest : List ℕ) → [] ≡ take_through 10 rest → rest ≡ []
none_left [] is = refl
none_left (b ∷ bs) is = absurd (by (b == 10) is)
  where
    by : (t : Bool) → [] ≡ cond t (b ∷ []) (b ∷ take_through 10 bs) → ⊥
    by true e = cc
    by false e = cc

-- a line that does not end in a line feed has none, and is the last
unended_all : (next rest : List ℕ) → next ≡ take_through 10 (next ++ rest) → is_unended next ≡ true → (rest ≡ []) × (has_no_feed next ≡ true)
unended_all [] rest is last = (none_left rest is, refl)
unended_all (b ∷ []) rest is last =
    let other : (b == 10) ≡ false = not-true (b == 10) last in
    let tail : b ∷ [] ≡ b ∷ take_through 10 rest = is ∙ ap (λ (t : Bool). cond t (b ∷ []) (b ∷ take_through 10 rest)) other in
    (none_left rest (cc), and_from (not (b == 10)) true last refl)
unended_all (b ∷ c ∷ bs) rest is last = by (λ e. unended_all (c ∷ bs) rest e (sym (shift b c bs) ∙ last)) (b == 10) refl
  where
    by :
        (c ∷ bs ≡ take_through 10 ((c ∷ bs) ++ rest) → (rest ≡ []) × (has_no_feed (c ∷ bs) ≡ true)) → (t : Bool) → (b == 10) ≡ t
        → (rest ≡ []) × (has_no_feed (b ∷ c ∷ bs) ≡ true)
    by go true ten =
        let short : b ∷ c ∷ bs ≡ b ∷ [] = is ∙ ap (λ (t : Bool). cond t (b ∷ []) (b ∷ take_through 10 ((c ∷ bs) ++ rest))) ten in
        absurd (cc)
    by go false other =
        let tail : b ∷ c ∷ bs ≡ b ∷ take_through 10 ((c ∷ bs) ++ rest) = is ∙ ap (λ (t : Bool). cond t (b ∷ []) (b ∷ take_through 10 ((c ∷ bs) ++ rest))) other in
        let more = go (cc) in
        (more.0, and_from (not (b == 10)) (has_no_feed (c ∷ bs)) (not_from_false (b == 10) other) more.1)

-- ---- The lines before it

module _ (sys : System) (form : Form) (number : ℕ) (x : Progress) (next : List ℕ) (input left old mid : Option (List ℕ))
    (is : IsCopied sys form number x next input left old mid) where
  -- a refused line with a line feed
  whole_line : HasNames sys → 1 ≤ feeds next → IfSome input (IsUncut sys number)
  whole_line names some =
      known input left (all_text sys form is.lines) next (IsUncut sys number) is.read
      (λ text rest at after_front parts.
      let many = lines_feeds sys form is.lines names is.are.each in
      let counted : feeds text ≡ feeds (all_text sys form is.lines) + (feeds next + feeds rest) =
      ap feeds parts ∙ feeds-append (all_text sys form is.lines) (next ++ rest) ∙ ap (λ (k : ℕ). feeds (all_text sys form is.lines) + k) (feeds-append next rest)
      in
      let numbered = is.numbered in
      inl (omega (arith, many, counted, numbered, some)))

  -- a refused line after a trace
  after_trace : (end : Outcome) → IsLast sys next end → IsAfter x.tick end → (k : ℕ) → IfSome input (IsUncut sys k)
  after_trace end last after k =
      known input left (all_text sys form is.lines) next (IsUncut sys k) is.read
      (λ text rest at after_front parts.
      inr
      (record {
        trace = all_text sys form is.lines ++ next;
        rest = rest;
        is = record {
          form = form;
          lines = is.lines;
          end = ending_of end;
          is = record {
            lines = is.are;
            last = last.can;
            ends = ends_after x.tick (last_tick 0 is.lines) end is.last after;
            is = ap (λ (t : List ℕ). all_text sys form is.lines ++ t) last.is;
          };
        };
        parts = parts ∙ sym (append_assoc (all_text sys form is.lines) next rest);
      }))

  pub line_no_cut : HasNames sys → is_unended next ≡ false → (e : WaveError) → RefusesLine sys form x.tick number next e → IsNoCut sys input e
  line_no_cut names ended (Refused n) refuses =
      subst (λ (k : ℕ). IfSome input (IsUncut sys k)) (sym refuses.0) (whole_line names (ended_feeds next ended))
  line_no_cut names ended Names refuses = tt
  line_no_cut names ended Memory refuses = tt
  line_no_cut names ended Read refuses = tt
  line_no_cut names ended (Write n) refuses = tt

  pub end_no_cut : HasNames sys → (end : Outcome) → IsLast sys next end → (e : WaveError) → RefusesEnd end x.tick number left e → IsNoCut sys input e
  end_no_cut names end last (Refused n) (inl early) =
      subst (λ (k : ℕ). IfSome input (IsUncut sys k)) (sym early.0)
      (whole_line names (let one = one_feed next (subst IsOneLine (sym last.is) (last_one sys (ending_of end) names last.can)) in omega (arith, one)))
  end_no_cut names end last (Refused n) (inr late) = after_trace end last late.1 n
  end_no_cut names end last Names refuses = tt
  end_no_cut names end last Memory refuses = tt
  end_no_cut names end last Read refuses = tt
  end_no_cut names end last (Write n) refuses = tt

  -- the trace is cut off here, and that was shown
  pub cut_shown : (new : Option (List ℕ)) (c : Cut) → is_cut c next ≡ true → IsCutFinished sys x mid new → IfSome input (λ text. IsShown c sys text old new)
  cut_shown new cut.Refused here finished = absurd (cc)
  cut_shown new cut.Allowed here finished =
      known input left (all_text sys form is.lines) next (λ text. IsWave sys text old new ⊎ IsCutWave sys text old new) is.read
      (λ text rest at after_front parts.
      let last = unended_all next rest (is.first text rest at after_front) here in
      inr
      (record {
        form = form;
        lines = is.lines;
        trace = record {
          lines = is.are;
          part = next;
          unended = last.1;
          is = parts ∙ ap (λ (r : List ℕ). all_text sys form is.lines ++ (next ++ r)) last.0 ∙ ap (λ (t : List ℕ). all_text sys form is.lines ++ t) (append-nil next);
        };
        got = subst (Appends old new) (finished.whole is.lines is.sent is.shown) (Appends-trans old mid new is.sent finished.sent is.got finished.got);
      }))

  -- and where it was not shown, or not all of it
  pub cut_fails : (new : Option (List ℕ)) (c : Cut) → is_cut c next ≡ true → (e : WaveError) → IsCutUnfinished sys x mid new e → FailsShown c sys old new e
  cut_fails new cut.Refused here e fails = absurd (cc)
  cut_fails new cut.Allowed here (Write n) fails =
      inr
      (record {
        lines = is.lines;
        are = is.are;
        got =
            part_written (cut_text sys is.lines) old new (is.sent ++ fails.sent) fails.missing n (Appends-trans old mid new is.sent fails.sent is.got fails.got)
            (fails.parts is.lines is.sent is.shown) fails.short (count_more x.page.written is.sent fails.sent n is.counted fails.counted);
      })
  cut_fails new cut.Allowed here Memory fails =
      inl (subst (WritesFront sys old) (sym fails) (front_copied sys form number x next input left old mid is))
  cut_fails new cut.Allowed here e fails = absurd fails

  -- only a failure of memory or of the writer
  pub cut_blames : (new : Option (List ℕ)) (c : Cut) (e : WaveError) → IsCutUnfinished sys x mid new e → BlamesShown c sys input e
  cut_blames new c (Write n) fails = blames_in c sys input (Write n) tt (λ same. tt)
  cut_blames new c Memory fails = blames_memory c sys input
  cut_blames new c e fails = absurd fails

-- the trace is cut off at a line
pub cut_there : (c : Cut) (line : List ℕ) → is_cut c line ≡ true → (c ≡ cut.Allowed) × (is_unended line ≡ true)
cut_there cut.Refused line here = absurd (cc)
cut_there cut.Allowed line here = (refl, here)

-- a line that is not cut off
pub uncut_line : (c : Cut) (line : List ℕ) → is_cut c line ≡ false → c ≡ cut.Allowed → is_unended line ≡ false
uncut_line cut.Refused line other same = absurd (cc)
uncut_line cut.Allowed line other same = other

-- a part of the end of such a dump is sent
pub unfinished_cut :
    (sys : System) (x : Progress) (page : Page) (old new : Option (List ℕ)) → page.written ≡ x.page.written
    → ((ls : List Line) (front : List ℕ) → HasShown sys ls (front ++ x.page.text.items) x.dump → front ++ page.text.items ≡ cut_text sys ls)
    → (fault : PageFault) → IsCutShort old new page fault → IsCutUnfinished sys x old new (Write fault.written)
unfinished_cut sys x page old new kept whole fault short =
    record {
      sent = short.sent;
      missing = short.missing;
      got = short.got;
      short = short.short;
      counted = short.counted ∙ ap (λ (w : ℕ). bounded (w + length short.sent)) kept;
      parts = λ ls front shown.
          append_assoc front short.sent short.missing ∙ ap (λ (t : List ℕ). front ++ t) (sym short.parts) ∙ whole ls front shown;
    }
