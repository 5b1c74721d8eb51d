-- What comes of a walk that is over, or that failed.
use Rattle.fb_inspect.proofs.lemmas.Common.{◌≡◌, ℕ, true, List, [], ◌∷◌, ◌++◌, map, All, All-cons, All-head, All-tail, map-append, RiseFrom, Option, Some, None, refl, sym, ◌∙◌, ap, subst, inl, inr, append_assoc, append-nil, IfSome, Appends, Consumes, Appends-nil, Appends-trans, All-nil, AreAccepted, Inputs, system_of, line_of, System, last_line, lines_text, BlockType, Form, Line, One, ending_of, Outcome, IsFirstLine, is_unended, last_tick, IsLineOf, Marks, Selection, IsNext, Taking, IsCutAfter, IsSevered, Starts, Page, Reading, Walk}
use Rattle.fb_types.proofs.Common.{IsAtEnd, trace_text}
use Rattle.fb_wave.specs.declared.truncation.Cut.{Cut}
use Rattle.fb_wave.specs.declared.truncation.Cut.TheVariants as cut
use Rattle.fb_wave.proofs.lemmas.Copied.{ends_after}
use Rattle.fb_wave.specs.Waves.{AreLinesOf}
use Rattle.fb_inspect.specs.Covering.{Covers, IsCovered, IsCoveredBy, IsCutCovered}
use Rattle.fb_inspect.specs.Happenings.{History}
use Rattle.fb_inspect.specs.Inspections.{IsCutInspected, IsCutShown, IsInspected, BeginsWith, IsShown, IsShownBy, ShowsFront, ShowsRead, all_text, cut_note, one_text}
use Rattle.fb_wave.specs.Pages.{IsCutShort}
use Rattle.fb_inspect.specs.walk.Walking.{Begins, Finishes, FinishesCut, IsComplete, IsGone, SendsCutPart, SendsPart, SendsSome}
use Rattle.fb_wave.specs.declared.page.PageFault.{PageFault}
use Rattle.fb_inspect.specs.declared.walk.Extent.{Extent}
use Rattle.fb_inspect.specs.declared.walk.Extent.TheVariants.{CutOff, Whole}
use Rattle.fb_inspect.proofs.lemmas.marks.Happened.{marked_by}
use Rattle.fb_inspect.proofs.lemmas.lines.Moving.{lines-append}
use Rattle.fb_inspect.proofs.lemmas.lines.Severing.{cut_whole, on_some}

-- ---- What was read

-- a text that was read begins with its first part
pub begins_read : (input remaining : Option (List ℕ)) (front line : List ℕ) → Consumes input remaining (front ++ line) → IfSome input (BeginsWith front)
begins_read None remaining front line read = tt
begins_read (Some text) None front line read = absurd read
begins_read (Some text) (Some rest) front line read = (line ++ rest, read ∙ append_assoc front line rest)

pub begins_none : (input : Option (List ℕ)) → IfSome input (BeginsWith [])
begins_none None = tt
begins_none (Some text) = (text, refl)

pub begins_all : (input remaining : Option (List ℕ)) (front : List ℕ) → Consumes input remaining front → IfSome input (BeginsWith front)
begins_all None remaining front read = tt
begins_all (Some text) None front read = absurd read
begins_all (Some text) (Some rest) front read = (rest, read)

-- a text that is cut off begins with the first of its lines
pub begins_cut :
    (form : Form) (sys : System) (ls us : List Line) (text : List ℕ) → IsCutAfter text (lines_text form sys (map (line_of sys) (ls ++ us)))
    → BeginsWith (lines_text form sys (map (line_of sys) ls)) text
begins_cut form sys ls us text after =
    let L : List ℕ = lines_text form sys (map (line_of sys) ls) in
    let U : List ℕ = lines_text form sys (map (line_of sys) us) in (
      U ++ after.part,
      after.is
          ∙ ap (λ (t : List ℕ). t ++ after.part) (ap (lines_text form sys) (map-append (line_of sys) ls us) ∙ lines-append form sys (map (line_of sys) ls) (map (line_of sys) us))
          ∙ append_assoc L U after.part,
    )

-- lines before others are those of a trace, too
rises_before : (t : ℕ) (ls ms : List Line) → RiseFrom t (ls ++ ms) → RiseFrom t ls
rises_before t [] ms rise = tt
rises_before t (l ∷ ls) ms rise = (rise.0, rises_before l.key.tick ls ms rise.1)

each_before : (sys : System) (ls ms : List Line) → All (IsLineOf sys) (ls ++ ms) → All (IsLineOf sys) ls
each_before sys [] ms each = All-nil (IsLineOf sys)
each_before sys (l ∷ ls) ms each =
    All-cons (IsLineOf sys) l ls (All-head (IsLineOf sys) l (ls ++ ms) each) (each_before sys ls ms (All-tail (IsLineOf sys) l (ls ++ ms) each))

lines_before : (sys : System) (ls ms : List Line) → AreLinesOf sys (ls ++ ms) → AreLinesOf sys ls
lines_before sys ls ms are = record { each = each_before sys ls ms are.each; rise = rises_before 0 ls ms are.rise }

-- ---- The end

module _ (i : Inputs) (form : Form) (what : Selection) (steps : ℕ) (first : Marks) where
  abbrev types_of : List BlockType
  types_of = i.library.blocks

  abbrev its_system : System
  its_system = system_of i

  module _ (walk : Walk) (end : Outcome) (input remaining old mid : Option (List ℕ)) (complete : IsComplete types_of first its_system form what steps walk end input remaining old mid) where
    abbrev its_lines : List ℕ
    its_lines = lines_text form its_system (map (line_of its_system) complete.gone.lines)

    inspected_as :
        (text : List ℕ) → text ≡ trace_text form its_system (map (line_of its_system) complete.gone.lines) (ending_of end)
        → IsInspected its_system what steps text (all_text form its_system what complete.takings ++ last_line its_system (ending_of end))
    inspected_as text is = record {
      form = form;
      lines = complete.gone.lines;
      end = ending_of end;
      trace = record {
        lines = complete.gone.are;
        last = complete.last.can;
        ends = ends_after (last_tick 0 complete.gone.lines) (last_tick 0 complete.gone.lines) end refl complete.after;
        is = is;
      };
      takings = complete.takings;
      lines_are = complete.gone.lines_are;
      ends = complete.ends;
      written = refl;
    }

    -- the text is all that was read
    of_text : (P : List ℕ → Type 0) → IsAtEnd remaining → ((text : List ℕ) → text ≡ trace_text form its_system (map (line_of its_system) complete.gone.lines) (ending_of end) → P text) → IfSome input P
    of_text P over f = by input remaining complete.gone.read over
      where
        by : (a b : Option (List ℕ)) → Consumes a b (its_lines ++ walk.trail.reading.line.items) → IsAtEnd b → IfSome a P
        by None b read over = tt
        by (Some t) None read over = absurd read
        by (Some t) (Some u) read over =
            f t
            (read ∙ ap (λ (v : List ℕ). (its_lines ++ walk.trail.reading.line.items) ++ v) over ∙ append-nil (its_lines ++ walk.trail.reading.line.items)
            ∙ ap (λ (v : List ℕ). its_lines ++ v) complete.last.is)

    -- all was written
    pub complete_shown : (new : Option (List ℕ)) → Finishes walk remaining mid new → IfSome input (λ text. IsShown its_system what steps text old new)
    complete_shown new finished =
        of_text (λ text. IsShown its_system what steps text old new) finished.over
        (λ text is. record {
          bytes = all_text form its_system what complete.takings ++ last_line its_system (ending_of end);
          inspected = inspected_as text is;
          got = subst (Appends old new)
              (sym (append_assoc complete.gone.sent walk.trail.page.text.items walk.trail.reading.line.items)
              ∙ ap (λ (t : List ℕ). t ++ walk.trail.reading.line.items) complete.gone.text
              ∙ ap (λ (t : List ℕ). all_text form its_system what complete.takings ++ t) complete.last.is)
              (Appends-trans old mid new complete.gone.sent (walk.trail.page.text.items ++ walk.trail.reading.line.items) complete.gone.got finished.got);
        })

    -- all was marked
    pub complete_covered : IsAtEnd remaining → IfSome input (λ text. IsCovered i what steps text first walk.trail.marks)
    unfolding inspected_as
    complete_covered over =
        of_text (λ text. IsCovered i what steps text first walk.trail.marks) over
        (λ text is. record {
          bytes = all_text form its_system what complete.takings ++ last_line its_system (ending_of end);
          inspected = inspected_as text is;
          charts = complete.marked.charts;
          ports = complete.marked.ports;
        })

    -- a part was written
    complete_front : (new : Option (List ℕ)) → SendsPart walk mid new → ShowsFront its_system what steps old new
    complete_front new part = record {
      form = form;
      takings = complete.takings;
      taken = complete.gone.taken;
      last = walk.trail.reading.line.items;
      ends = inr (inl (ending_of end, complete.last.is));
      got = complete.gone.sent ++ part.got;
      rest = part.rest;
      parts = ap (λ (t : List ℕ). t ++ walk.trail.reading.line.items) (sym complete.gone.text)
          ∙ append_assoc complete.gone.sent walk.trail.page.text.items walk.trail.reading.line.items
          ∙ ap (λ (t : List ℕ). complete.gone.sent ++ t) part.parts
          ∙ sym (append_assoc complete.gone.sent part.got part.rest);
      appended = Appends-trans old mid new complete.gone.sent part.got complete.gone.got part.appended;
    }

    pub complete_part : (new : Option (List ℕ)) → SendsPart walk mid new → ShowsRead its_system what steps input old new
    unfolding complete_front
    complete_part new part = record {
      front = complete_front new part;
      lines = complete.gone.lines;
      are = complete.gone.are;
      lines_are = complete.gone.lines_are;
      read = begins_read input remaining its_lines walk.trail.reading.line.items complete.gone.read;
      ends = inr (inl (
        ending_of end,
        complete.last.is,
        begins_all input remaining (its_lines ++ last_line its_system (ending_of end))
            (subst (λ (l : List ℕ). Consumes input remaining (its_lines ++ l)) complete.last.is complete.gone.read),
      ));
    }

  module _ (walk : Walk) (input old mid : Option (List ℕ)) (off : IsSevered types_of first its_system form what walk input old mid) where
    cut_inspected :
        (text : List ℕ) → IsCutAfter text (lines_text form its_system (map (line_of its_system) (off.lines ++ off.untaken)))
        → IsCutInspected its_system what text (all_text form its_system what off.takings ++ (one_text form its_system what off.untaken ++ cut_note))
    cut_inspected text after = record {
      form = form;
      lines = off.lines;
      untaken = off.untaken;
      trace = record { lines = off.are; part = after.part; unended = after.unended; is = after.is };
      of_one = off.of_one;
      last = off.last;
      takings = off.takings;
      lines_are = off.lines_are;
      chain = off.chain;
      goes_on = off.goes_on;
      written = refl;
    }

    -- all was written
    pub severed_shown : (new : Option (List ℕ)) → FinishesCut walk mid new → IfSome input (λ text. IsCutShown its_system what text old new)
    severed_shown new finished =
        on_some input _ _ off.rest
        (λ text after. record {
          bytes = all_text form its_system what off.takings ++ (one_text form its_system what off.untaken ++ cut_note);
          inspected = cut_inspected text after;
          got = subst (Appends old new)
              (sym (append_assoc off.sent walk.trail.page.text.items cut_note)
              ∙ ap (λ (t : List ℕ). t ++ cut_note) off.text
              ∙ append_assoc (all_text form its_system what off.takings) (one_text form its_system what off.untaken) cut_note)
              (Appends-trans old mid new off.sent (walk.trail.page.text.items ++ cut_note) off.got finished.got);
        })

    -- all was marked
    pub severed_covered : IfSome input (λ text. IsCutCovered i what text first walk.trail.marks)
    unfolding cut_inspected
    severed_covered =
        on_some input _ _ off.rest
        (λ text after. record {
          bytes = all_text form its_system what off.takings ++ (one_text form its_system what off.untaken ++ cut_note);
          inspected = cut_inspected text after;
          charts = off.marked.charts;
          ports = off.marked.ports;
        })

    -- a part was written
    severed_front : (new : Option (List ℕ)) → SendsCutPart walk mid new → ShowsFront its_system what steps old new
    severed_front new part = record {
      form = form;
      takings = off.takings;
      taken = inl off.chain;
      last = one_text form its_system what off.untaken ++ cut_note;
      ends = inr (inr (off.untaken, off.of_one, refl));
      got = off.sent ++ part.got;
      rest = part.rest;
      parts = sym (append_assoc (all_text form its_system what off.takings) (one_text form its_system what off.untaken) cut_note)
          ∙ ap (λ (t : List ℕ). t ++ cut_note) (sym off.text)
          ∙ append_assoc off.sent walk.trail.page.text.items cut_note
          ∙ ap (λ (t : List ℕ). off.sent ++ t) part.parts
          ∙ sym (append_assoc off.sent part.got part.rest);
      appended = Appends-trans old mid new off.sent part.got off.got part.appended;
    }

    pub severed_part : (new : Option (List ℕ)) → SendsCutPart walk mid new → ShowsRead its_system what steps input old new
    unfolding severed_front
    severed_part new part = record {
      front = severed_front new part;
      lines = off.lines;
      are = lines_before its_system off.lines off.untaken off.are;
      lines_are = off.lines_are;
      read = on_some input _ _ off.rest (λ text after. begins_cut form its_system off.lines off.untaken text after);
      ends = inr (inr (off.untaken, refl, on_some input _ _ off.rest (λ text after. (after.part, after.is))));
    }

  -- a trace is cut off before its first line ends
  pub severed_none :
      (walk : Walk) (line : List ℕ) (input remaining old : Option (List ℕ)) → walk.trail.page.text.items ≡ [] → Consumes input remaining line → IsFirstLine line input
      → is_unended line ≡ true → walk.trail.marks ≡ first → IsSevered types_of first its_system form what walk input old old
  severed_none walk line input remaining old empty read one short same = record {
    takings = [];
    goes_on = tt;
    chain = tt;
    lines = [];
    lines_are = refl;
    untaken = [];
    of_one = tt;
    last = λ none. refl;
    are = record { each = All-nil (IsLineOf its_system); rise = tt };
    rest = cut_whole input remaining line read one short;
    sent = [];
    got = Appends-nil old;
    text = empty;
    marked = record { charts = ap (λ (m : Marks). m.charts) same; ports = ap (λ (m : Marks). m.ports) same };
  }

-- where a trace may be cut off or not
pub shown_whole :
    (may : Cut) (sys : System) (what : Selection) (steps : ℕ) (input old new : Option (List ℕ)) → IfSome input (λ text. IsShown sys what steps text old new)
    → IfSome input (λ text. IsShownBy may sys what steps text old new)
shown_whole cut.Refused sys what steps input old new shown = shown
shown_whole cut.Allowed sys what steps input old new shown = on_some input _ _ shown (λ text is. inl is)

pub shown_cut :
    (may : Cut) (sys : System) (what : Selection) (steps : ℕ) (input old new : Option (List ℕ)) → may ≡ cut.Allowed → IfSome input (λ text. IsCutShown sys what text old new)
    → IfSome input (λ text. IsShownBy may sys what steps text old new)
shown_cut cut.Refused sys what steps input old new same shown = absurd (cc)
shown_cut cut.Allowed sys what steps input old new same shown = on_some input _ _ shown (λ text is. inr is)

-- what is covered, whatever is shown of it, next to marks by another name
covers_by :
    (may : Cut) (i : Inputs) → AreAccepted i → (what : Selection) (steps : ℕ) (text : List ℕ) (first last : Marks) (extent : Extent) → IsCoveredBy may i what steps text first last extent
    → Covers may i steps text first last extent
covers_by may i accepted what steps text first last Whole covered =
    let h : History = record { takings = covered.inspected.takings; lines = covered.inspected.lines } in
    record { what = what; history = h; goes = (covered.bytes, covered.inspected, refl); marked = marked_by i accepted h first last covered.charts covered.ports }
covers_by may i accepted what steps text first last CutOff (allowed, covered) =
    let h : History = record { takings = covered.inspected.takings; lines = covered.inspected.lines } in
    record { what = what; history = h; goes = (allowed, covered.bytes, covered.inspected, refl); marked = marked_by i accepted h first last covered.charts covered.ports }

pub covers_of :
    (may : Cut) (i : Inputs) → AreAccepted i → (what : Selection) (steps : ℕ) (known : Option (List ℕ)) (own first last : Marks) (extent : Extent) → own ≡ first
    → IfSome known (λ text. IsCoveredBy may i what steps text own last extent) → IfSome known (λ text. Covers may i steps text first last extent)
covers_of may i accepted what steps known own first last extent same is =
    on_some known _ _ is
    (λ text covered. covers_by may i accepted what steps text first last extent (subst (λ (m : Marks). IsCoveredBy may i what steps text m last extent) same covered))

-- ---- Faults

-- what the writer got is the front of what is shown of the takings that were gone through
front_sent :
    (sys : System) (form : Form) (what : Selection) (steps : ℕ) (walk : Walk) (takings : List Taking) (input remaining old new : Option (List ℕ))
    → IsGone sys form what steps walk takings input remaining old new → ShowsFront sys what steps old new
front_sent sys form what steps walk takings input remaining old new gone = record {
  form = form;
  takings = takings;
  taken = gone.taken;
  last = [];
  ends = inl refl;
  got = gone.sent;
  rest = walk.trail.page.text.items;
  parts = append-nil (all_text form sys what takings) ∙ sym gone.text;
  appended = gone.got;
}

pub front_gone :
    (sys : System) (form : Form) (what : Selection) (steps : ℕ) (walk : Walk) (takings : List Taking) (input remaining old new : Option (List ℕ))
    → IsGone sys form what steps walk takings input remaining old new → ShowsRead sys what steps input old new
unfolding front_sent
front_gone sys form what steps walk takings input remaining old new gone = record {
  front = front_sent sys form what steps walk takings input remaining old new gone;
  lines = gone.lines;
  are = gone.are;
  lines_are = gone.lines_are;
  read = begins_read input remaining (lines_text form sys (map (line_of sys) gone.lines)) walk.trail.reading.line.items gone.read;
  ends = inl refl;
}

-- the same, where a part of what waits was sent after it
front_short :
    (sys : System) (form : Form) (what : Selection) (steps : ℕ) (walk : Walk) (takings : List Taking) (input remaining old mid new : Option (List ℕ))
    → IsGone sys form what steps walk takings input remaining old mid → SendsSome walk.trail.page.text.items mid new → ShowsFront sys what steps old new
front_short sys form what steps walk takings input remaining old mid new gone short = record {
  form = form;
  takings = takings;
  taken = gone.taken;
  last = [];
  ends = inl refl;
  got = gone.sent ++ short.sent;
  rest = short.missing;
  parts = append-nil (all_text form sys what takings) ∙ sym gone.text ∙ ap (λ (t : List ℕ). gone.sent ++ t) short.parts ∙ sym (append_assoc gone.sent short.sent short.missing);
  appended = Appends-trans old mid new gone.sent short.sent gone.got short.got;
}

pub front_flush :
    (sys : System) (form : Form) (what : Selection) (steps : ℕ) (walk : Walk) (takings : List Taking) (input remaining old mid new : Option (List ℕ))
    → IsGone sys form what steps walk takings input remaining old mid → SendsSome walk.trail.page.text.items mid new → ShowsRead sys what steps input old new
unfolding front_short
front_flush sys form what steps walk takings input remaining old mid new gone short = record {
  front = front_short sys form what steps walk takings input remaining old mid new gone short;
  lines = gone.lines;
  are = gone.are;
  lines_are = gone.lines_are;
  read = begins_read input remaining (lines_text form sys (map (line_of sys) gone.lines)) walk.trail.reading.line.items gone.read;
  ends = inl refl;
}

-- The writer got nothing, since nothing was gone through.
pub front_nothing : (sys : System) (what : Selection) (steps : ℕ) (old : Option (List ℕ)) → ShowsFront sys what steps old old
front_nothing sys what steps old = record {
  form = One;
  takings = [];
  taken = inl tt;
  last = [];
  ends = inl refl;
  got = [];
  rest = [];
  parts = refl;
  appended = Appends-nil old;
}

pub front_none : (sys : System) (what : Selection) (steps : ℕ) (input old : Option (List ℕ)) → ShowsRead sys what steps input old old
unfolding front_nothing
front_none sys what steps input old = record {
  front = front_nothing sys what steps old;
  lines = [];
  are = record { each = All-nil (IsLineOf sys); rise = tt };
  lines_are = refl;
  read = begins_none input;
  ends = inl refl;
}

-- a part of what waits was sent
pub short_sent :
    (old new : Option (List ℕ)) (page : Page) (fault : PageFault) → IsCutShort old new page fault
    → (got : List ℕ) × (rest : List ℕ) × ((page.text.items ≡ got ++ rest) × Appends old new got)
short_sent old new page fault short = (short.sent, short.missing, (short.parts, short.got))

-- nothing of it was
pub nothing_sent : (walk : Walk) (old : Option (List ℕ)) → SendsPart walk old old
nothing_sent walk old = record { got = []; rest = walk.trail.page.text.items ++ walk.trail.reading.line.items; parts = refl; appended = Appends-nil old }

pub no_cut_sent : (walk : Walk) (old : Option (List ℕ)) → SendsCutPart walk old old
no_cut_sent walk old = record { got = []; rest = walk.trail.page.text.items ++ cut_note; parts = refl; appended = Appends-nil old }

-- some text is that of a line and what is left after it
pub some_text : (remaining : Option (List ℕ)) (line : List ℕ) → (known : Option (List ℕ)) × Consumes known remaining line
some_text None line = (None, tt)
some_text (Some rest) line = (Some (line ++ rest), refl)

-- ---- The start

-- a walk that was begun starts with a line that was judged
pub starts_of :
    (sys : System) (form : Form) (what : Selection) (marks : Marks) (reading : Reading) (walk : Walk) → Begins sys what marks reading walk → IsNext sys form 0 reading.line.items reading.next
    → reading.number ≡ 1 → Starts sys form what walk
starts_of sys form what marks reading walk begins next number = record {
  blocks = begins.blocks;
  steps = begins.steps;
  shown = begins.shown;
  empty = begins.empty;
  next = subst (λ (r : Reading). IsNext sys form 0 r.line.items r.next) (sym begins.reading_is) next;
  first = ap (λ (r : Reading). r.number) begins.reading_is ∙ number;
}
