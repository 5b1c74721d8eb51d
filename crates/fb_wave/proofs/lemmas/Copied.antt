-- Lines that are read and shown one after another.
use Rattle.fb_wave.proofs.lemmas.Common.{◌≡◌, ℕ, ◌+◌, ◌<◌, ◌≤◌, List, [], ◌∷◌, ◌++◌, length, map, take, refl, sym, ap, subst, ◌∙◌, arith, append_assoc, append-nil, length-append, IfSome, Option, None, Some, take_through, Consumes, take-append_seam, Ending, System, line_of, lines_text, Form, Line, ending_of, Outcome, last_tick, IsLast, IsLineOf, IsTextOf, HasNames, IsAfter, IsCopied, Progress, WaveError, Refused, Names, Memory, Read, Write}
use Rattle.fb_types.proofs.Common.{Appends, IsAtEnd, All-nil, All-push, Appends-nil, Appends-trans, Consumes-trans, AtHorizon, line_text, trace_text}
use Rattle.fb_trace.specs.Progress.{IsPartWritten, bounded}
use Rattle.fb_trace.specs.declared.last.Outcome.TheVariants.{End, Stop}
use Rattle.fb_wave.specs.Scopes.{head_text}
use Rattle.fb_wave.specs.Dumps.{dump_text, end_text, ticks_text}
use Rattle.fb_wave.specs.Writing.{HasShown, IsDump}
use Rattle.fb_wave.specs.declared.dump.Dump.{Dump}
use Rattle.fb_wave.specs.Copying.{IsFinished, IsFirstLine, IsNoWriteError, IsTaken, IsUnfinished}
use Rattle.fb_wave.specs.Waves.{AreLinesOf, EndsAfter, FailsWave, IsBegun, IsWave, RiseFrom, WritesFront, WritesPart}
use Rattle.fb_wave.specs.Pages.{IsCutShort, IsFlushed}
use Rattle.fb_wave.specs.declared.page.Page.{Page}
use Rattle.fb_wave.specs.declared.page.PageFault.{PageFault}

-- ---- Lists of lines

rise-one : (t : ℕ) (ls : List Line) (l : Line) → RiseFrom t ls → last_tick t ls ≤ l.key.tick → RiseFrom t (ls ++ l ∷ [])
rise-one t [] l rise more = (more, tt)
rise-one t (m ∷ ls) l rise more = (rise.0, rise-one m.key.tick ls l rise.1 more)

last-one : (t : ℕ) (ls : List Line) (l : Line) → last_tick t (ls ++ l ∷ []) ≡ l.key.tick
last-one t [] l = refl
last-one t (m ∷ ls) l = last-one m.key.tick ls l

text-one :
    (form : Form) (sys : System) (ls : List Line) (l : Line)
    → lines_text form sys (map (line_of sys) (ls ++ l ∷ [])) ≡ lines_text form sys (map (line_of sys) ls) ++ line_text form sys (line_of sys l)
text-one form sys [] l = append-nil (line_text form sys (line_of sys l))
text-one form sys (m ∷ ls) l =
    ap (λ (t : List ℕ). line_text form sys (line_of sys m) ++ t) (text-one form sys ls l)
    ∙ sym (append_assoc (line_text form sys (line_of sys m)) (lines_text form sys (map (line_of sys) ls)) (line_text form sys (line_of sys l)))

-- ---- Counts, which stop at the greatest

pub count_more : (w : ℕ) (s t : List ℕ) (n : ℕ) → bounded w ≡ bounded (length s) → n ≡ bounded (w + length t) → n ≡ bounded (length (s ++ t))
count_more w s t n before more = rw length-append (omega arith)

count_kept : (v w z : ℕ) (s t : List ℕ) → bounded w ≡ bounded (length s) → v ≡ w → bounded z ≡ bounded (v + length t) → bounded z ≡ bounded (length (s ++ t))
count_kept v w z s t before kept more = rw length-append (omega arith)

-- ---- Steps of the copy

Consumes-none : (a : Option (List ℕ)) → Consumes a a []
Consumes-none None = tt
Consumes-none (Some xs) = refl

-- the line that was read next is the first of what was left
first_next :
    (input left new : Option (List ℕ)) (text rest before next : List ℕ) → input ≡ Some text → new ≡ Some rest → Consumes input left before → Consumes left new next
    → IsFirstLine next left → next ≡ take_through 10 (next ++ rest)
first_next None left new text rest before next known rests gone read one = absurd (cc)
first_next (Some t) None new text rest before next known rests gone read one = absurd gone
first_next (Some t) (Some u) None text rest before next known rests gone read one = absurd (cc)
first_next (Some t) (Some u) (Some v) text rest before next known rests gone read one =
    let same : v ≡ rest = cc in
    one ∙ ap (take_through 10) (read ∙ ap (λ (w : List ℕ). next ++ w) same)

-- the lines with one more that was read
are_one :
    (sys : System) (form : Form) (number : ℕ) (x y : Progress) (line : List ℕ) (input left old new : Option (List ℕ)) (is : IsCopied sys form number x line input left old new)
    (taken : IsTaken sys form line x y) → AreLinesOf sys (is.lines ++ taken.line ∷ [])
are_one sys form number x y line input left old new is taken =
    record {
      each = All-push (IsLineOf sys) is.lines taken.line is.are.each taken.is.line;
      rise = rise-one 0 is.lines taken.line is.are.rise (subst (λ (t : ℕ). t ≤ taken.line.key.tick) is.last taken.rises);
    }

-- one more line was read and shown, some of the text was sent, and the next line was read
pub copied_one :
    (sys : System) (form : Form) (number : ℕ) (x y z : Progress) (line next : List ℕ) (input left new old mid got : Option (List ℕ)) → IsCopied sys form number x line input left old mid
    → IsTaken sys form line x y → z.tick ≡ y.tick → z.dump ≡ y.dump → IsFlushed mid got y.page z.page → Consumes left new next → IsFirstLine next left
    → IsCopied sys form (number + 1) z next input new old got
copied_one sys form number x y z line next input left new old mid got is taken tick dump flushed read one =
    let l = taken.line in
    let more : List ℕ = lines_text form sys (map (line_of sys) is.lines) in
    let shown : HasShown sys (is.lines ++ l ∷ []) (is.sent ++ y.page.text.items) y.dump = taken.shown is.lines is.sent is.shown in
    let sends : is.sent ++ y.page.text.items ≡ (is.sent ++ flushed.sent) ++ z.page.text.items =
    ap (λ (t : List ℕ). is.sent ++ t) flushed.parts ∙ sym (append_assoc is.sent flushed.sent z.page.text.items)
    in
    let grown : more ++ line ≡ lines_text form sys (map (line_of sys) (is.lines ++ l ∷ [])) =
    ap (λ (t : List ℕ). more ++ t) taken.is.is ∙ sym (text-one form sys is.lines l)
    in
    record {
      lines = is.lines ++ l ∷ [];
      numbered = let before = is.numbered in omega (arith, before, length-append is.lines (l ∷ []));
      formed = λ names none. absurd (omega (arith, ap length none, length-append is.lines (l ∷ [])));
      first = λ text rest known rests. first_next input left new text rest (more ++ line) next known rests is.read read one;
      sent = is.sent ++ flushed.sent;
      are = are_one sys form number x y line input left old mid is taken;
      last = tick ∙ taken.tick ∙ sym (last-one 0 is.lines l);
      numbers = subst (IsDump sys) (sym dump) taken.numbers;
      shown = shown_with sys (is.lines ++ l ∷ []) y z (is.sent ++ y.page.text.items) ((is.sent ++ flushed.sent) ++ z.page.text.items) dump sends shown;
      read = subst (λ (t : List ℕ). Consumes input new (t ++ next)) grown (Consumes-trans input left new (more ++ line) next is.read read);
      got = Appends-trans old mid got is.sent flushed.sent is.got flushed.got;
      counted = count_kept y.page.written x.page.written z.page.written is.sent flushed.sent is.counted taken.kept flushed.counted;
    }
  where
    shown_with :
        (sys : System) (ls : List Line) (y z : Progress) (a b : List ℕ) → z.dump ≡ y.dump → a ≡ b → HasShown sys ls a y.dump → HasShown sys ls b z.dump
    shown_with sys ls y z a b same is shown = subst (λ d. HasShown sys ls b d) (sym same) (subst (λ (t : List ℕ). HasShown sys ls t y.dump) is shown)

-- before the first line
pub copied_none :
    (sys : System) (form : Form) (number : ℕ) (x : Progress) (next : List ℕ) (input left old : Option (List ℕ)) → x.tick ≡ 0 → IsDump sys x.dump
    → HasShown sys [] x.page.text.items x.dump → x.page.written ≡ 0 → Consumes input left next → IsFirstLine next input → number ≡ 1
    → (HasNames sys → (f : Form) (l : Line) → IsTextOf sys f l next → f ≡ form) → IsCopied sys form number x next input left old old
copied_none sys form number x next input left old tick numbers shown written read one counts formed =
    record {
      lines = [];
      numbered = counts;
      formed = λ names none. formed names;
      first = λ text rest known rests. first_next input input left text rest [] next known rests (Consumes-none input) read one;
      sent = [];
      are = record { each = All-nil (IsLineOf sys); rise = tt };
      last = tick;
      numbers = numbers;
      shown = shown;
      read = read;
      got = Appends-nil old;
      counted = ap bounded written;
    }

pub ends_after : (t u : ℕ) (end : Outcome) → t ≡ u → IsAfter t end → EndsAfter u (ending_of end)
ends_after t u (End h) same after = subst (λ (k : ℕ). k < h) same after
ends_after t u (Stop m) same after = subst (λ (k : ℕ). k ≤ m.tick) same after

-- the end was read and shown
pub copied_all :
    (sys : System) (form : Form) (number : ℕ) (x : Progress) (line : List ℕ) (input left old mid new : Option (List ℕ)) (end : Outcome) → IsCopied sys form number x line input left old mid
    → IsLast sys line end → IsFinished sys end x left mid new → IfSome input (λ text. IsWave sys text old new)
copied_all sys form number x line input left old mid new end is last finished = by input left is.read finished.over
  where
    lines : List Line
    lines = is.lines

    wave : (text : List ℕ) → text ≡ trace_text form sys (map (line_of sys) lines) (ending_of end) → IsWave sys text old new
    wave text parts =
        record {
          form = form;
          lines = lines;
          end = ending_of end;
          trace = record {
            lines = is.are;
            last = last.can;
            ends = ends_after x.tick (last_tick 0 lines) end is.last finished.after;
            is = parts;
          };
          got = subst (Appends old new) (finished.whole lines is.sent is.shown) (Appends-trans old mid new is.sent finished.sent is.got finished.got);
        }

    by :
        (a b : Option (List ℕ)) → Consumes a b (lines_text form sys (map (line_of sys) lines) ++ line) → IsAtEnd b → IfSome a (λ text. IsWave sys text old new)
    by None b read over = tt
    by (Some t) None read over = absurd read
    by (Some t) (Some u) read over =
        wave t
        (read ∙ ap (λ (v : List ℕ). (lines_text form sys (map (line_of sys) lines) ++ line) ++ v) over
        ∙ append-nil (lines_text form sys (map (line_of sys) lines) ++ line)
        ∙ ap (λ (v : List ℕ). lines_text form sys (map (line_of sys) lines) ++ v) last.is)

-- ---- Beginnings

glued :
    (head : List ℕ) (ticks : List Line → List ℕ) (ls : List Line) (end sent waits last : List ℕ) → (sent ++ waits) ++ last ≡ head ++ ticks (ls ++ [])
    → sent ++ (waits ++ (last ++ end)) ≡ (head ++ ticks ls) ++ end
glued head ticks ls end sent waits last is =
    sym (append_assoc sent waits (last ++ end)) ∙ sym (append_assoc (sent ++ waits) last end)
    ∙ ap (λ (t : List ℕ). t ++ end) (is ∙ ap (λ (m : List Line). head ++ ticks m) (append-nil ls))

-- what was sent goes on to the dump of the lines that were shown, by way of the text that waits
goes_on :
    (sys : System) (ls : List Line) (sent waits : List ℕ) (x : Dump) → HasShown sys ls (sent ++ waits) x
    → (more : List ℕ) × (sent ++ (waits ++ more) ≡ dump_text sys ls (AtHorizon 0))
goes_on sys ls sent waits x shown =
    let last : List ℕ = ticks_text sys x.tick shown.before shown.now [] in
    let end : List ℕ = end_text sys (last_tick 0 ls) (AtHorizon 0) in
    (last ++ end, glued (head_text sys) (ticks_text sys 0 [] []) ls end sent waits last (shown.text []))

begun_of : (sys : System) (ls : List Line) (sent waits : List ℕ) (x : Dump) → HasShown sys ls (sent ++ waits) x → IsBegun sys ls sent
begun_of sys ls sent waits x shown =
    let on : (more : List ℕ) × (sent ++ (waits ++ more) ≡ dump_text sys ls (AtHorizon 0)) = goes_on sys ls sent waits x shown in
    record { end = AtHorizon 0; rest = waits ++ on.0; parts = on.1 }

-- before anything is sent
pub front_none : (sys : System) (old : Option (List ℕ)) → WritesFront sys old old
front_none sys old =
    record {
      bytes = [];
      got = Appends-nil old;
      lines = [];
      are = record { each = All-nil (IsLineOf sys); rise = tt };
      begun = record { end = AtHorizon 0; rest = dump_text sys [] (AtHorizon 0); parts = refl };
    }

-- where nothing more is sent than was before
pub front_copied :
    (sys : System) (form : Form) (number : ℕ) (x : Progress) (next : List ℕ) (input left old new : Option (List ℕ)) → IsCopied sys form number x next input left old new → WritesFront sys old new
front_copied sys form number x next input left old new is =
    record { bytes = is.sent; got = is.got; lines = is.lines; are = is.are; begun = begun_of sys is.lines is.sent x.page.text.items x.dump is.shown }

-- a line more was shown, and of what waited then a front was sent
shown_cut :
    (sys : System) (form : Form) (number : ℕ) (x y : Progress) (line sent rest : List ℕ) (input left old new : Option (List ℕ)) (is : IsCopied sys form number x line input left old new)
    (taken : IsTaken sys form line x y) → y.page.text.items ≡ sent ++ rest → HasShown sys (is.lines ++ taken.line ∷ []) ((is.sent ++ sent) ++ rest) y.dump
shown_cut sys form number x y line sent rest input left old new is taken parts =
    subst (λ (t : List ℕ). HasShown sys (is.lines ++ taken.line ∷ []) t y.dump)
    (ap (λ (t : List ℕ). is.sent ++ t) parts ∙ sym (append_assoc is.sent sent rest)) (taken.shown is.lines is.sent is.shown)

-- a line more was shown, some of the text was sent, and no line could be read
pub front_flushed :
    (sys : System) (form : Form) (number : ℕ) (x y : Progress) (after : Page) (line : List ℕ) (input left old mid got : Option (List ℕ)) → IsCopied sys form number x line input left old mid
    → IsTaken sys form line x y → IsFlushed mid got y.page after → WritesFront sys old got
front_flushed sys form number x y after line input left old mid got is taken flushed =
    record {
      bytes = is.sent ++ flushed.sent;
      got = Appends-trans old mid got is.sent flushed.sent is.got flushed.got;
      lines = is.lines ++ taken.line ∷ [];
      are = are_one sys form number x y line input left old mid is taken;
      begun = begun_of sys (is.lines ++ taken.line ∷ []) (is.sent ++ flushed.sent) after.text.items y.dump
          (shown_cut sys form number x y line flushed.sent after.text.items input left old mid is taken flushed.parts);
    }

-- ---- Failures

-- the writer did not fail
pub fails_front : (sys : System) (old new : Option (List ℕ)) (e : WaveError) → IsNoWriteError e → WritesFront sys old new → FailsWave sys old new e
fails_front sys old new (Write n) other front = absurd other
fails_front sys old new (Refused line) other front = front
fails_front sys old new Names other front = front
fails_front sys old new Memory other front = front
fails_front sys old new Read other front = front

-- the writer failed when it had got the first bytes of a text
pub part_written :
    (all : List ℕ) (old new : Option (List ℕ)) (sent rest : List ℕ) (n : ℕ) → Appends old new sent → sent ++ rest ≡ all → 0 < length rest
    → n ≡ bounded (length sent) → IsPartWritten old new all n
part_written all old new sent rest n got parts short counted =
    record {
      count = length sent;
      short = subst (λ (t : List ℕ). length sent < length t) parts (rw length-append (omega arith));
      got = subst (λ (t : List ℕ). Appends old new (take (length sent) t)) parts (subst (Appends old new) (sym (take-append_seam sent rest)) got);
      counted = counted;
    }

part_of :
    (sys : System) (ls : List Line) (end : Ending) (old new : Option (List ℕ)) (sent rest : List ℕ) (n : ℕ) → AreLinesOf sys ls → Appends old new sent
    → sent ++ rest ≡ dump_text sys ls end → 0 < length rest → n ≡ bounded (length sent) → WritesPart sys old new n
part_of sys ls end old new sent rest n are got parts short counted =
    record { lines = ls; end = end; are = are; got = part_written (dump_text sys ls end) old new sent rest n got parts short counted }

-- a line more was shown, and the writer failed before it got all that waited then
pub fails_taken :
    (sys : System) (form : Form) (number : ℕ) (x y : Progress) (line : List ℕ) (input left old mid got : Option (List ℕ)) → IsCopied sys form number x line input left old mid
    → IsTaken sys form line x y → (fault : PageFault) → IsCutShort mid got y.page fault → FailsWave sys old got (Write fault.written)
fails_taken sys form number x y line input left old mid got is taken fault cut =
    let ls : List Line = is.lines ++ taken.line ∷ [] in
    let sent : List ℕ = is.sent ++ cut.sent in
    let on : (more : List ℕ) × (sent ++ (cut.missing ++ more) ≡ dump_text sys ls (AtHorizon 0)) =
    goes_on sys ls sent cut.missing y.dump (shown_cut sys form number x y line cut.sent cut.missing input left old mid is taken cut.parts)
    in
    let some : 0 < length cut.missing = cut.short in
    part_of sys ls (AtHorizon 0) old got sent (cut.missing ++ on.0) fault.written (are_one sys form number x y line input left old mid is taken)
    (Appends-trans old mid got is.sent cut.sent is.got cut.got) on.1 (rw length-append (omega arith))
    (count_more y.page.written is.sent cut.sent fault.written (ap bounded taken.kept ∙ is.counted) cut.counted)

-- the end was not sent, or not all of it
pub fails_unfinished :
    (sys : System) (form : Form) (number : ℕ) (x : Progress) (line : List ℕ) (input left old mid new : Option (List ℕ)) → IsCopied sys form number x line input left old mid
    → (e : WaveError) → IsUnfinished sys x mid new e → FailsWave sys old new e
fails_unfinished sys form number x line input left old mid new is (Write n) cut =
    part_of sys is.lines cut.end old new (is.sent ++ cut.sent) cut.missing n is.are (Appends-trans old mid new is.sent cut.sent is.got cut.got)
    (cut.parts is.lines is.sent is.shown) cut.short (count_more x.page.written is.sent cut.sent n is.counted cut.counted)
fails_unfinished sys form number x line input left old mid new is e same =
    fails_front sys old new e tt (subst (WritesFront sys old) (sym same) (front_copied sys form number x line input left old mid is))

-- a part of the end is sent
pub unfinished_part :
    (sys : System) (x : Progress) (page : Page) (end : Outcome) (old new : Option (List ℕ)) → page.written ≡ x.page.written
    → ((ls : List Line) (front : List ℕ) → HasShown sys ls (front ++ x.page.text.items) x.dump → front ++ page.text.items ≡ dump_text sys ls (ending_of end))
    → (fault : PageFault) → IsCutShort old new page fault → IsUnfinished sys x old new (Write fault.written)
unfinished_part sys x page end old new kept whole fault cut =
    record {
      end = ending_of end;
      sent = cut.sent;
      missing = cut.missing;
      got = cut.got;
      short = cut.short;
      counted = cut.counted ∙ ap (λ (w : ℕ). bounded (w + length cut.sent)) kept;
      parts = λ ls front shown.
          append_assoc front cut.sent cut.missing ∙ ap (λ (t : List ℕ). front ++ t) (sym cut.parts) ∙ whole ls front shown;
    }
