-- How a dump ends, and what the writer got where it does not.
use Rattle.fb_inspect.proofs.lemmas.Common.{◌≡◌, ◌<◌, ◌+◌, ℕ, true, List, [], ◌∷◌, ◌++◌, length, map, Option, Some, None, refl, sym, ◌∙◌, ap, subst, inl, inr, append_assoc, append-nil, arith, IfSome, Appends, Consumes, Appends-nil, Appends-trans, map-append, All-nil, line_of, AtHorizon, System, last_line, last_look, lines_text, opening_look, Form, Line, One, ending_of, Outcome, IsFirstLine, is_unended, last_tick, IsLineOf, all_lines, taking_lines, Page, Reading, Shows, Taken, lines_of, takings_of, HasWaved}
use Rattle.fb_inspect.specs.walk.Walking.{SendsSome}
use Rattle.fb_inspect.specs.Refusals.{IsAfterLast}
use Rattle.fb_types.proofs.Common.{IsAtEnd, trace_text}
use Rattle.std.specs.Io.KnownBytes.{prepend_known}
use Rattle.fb_types.specs.States as model
use Rattle.fb_inspect.proofs.lemmas.walk.Stepped.{none_ahead}
use Rattle.fb_wave.specs.declared.truncation.Cut.{Cut}
use Rattle.fb_wave.specs.declared.truncation.Cut.TheVariants as cut
use Rattle.fb_wave.proofs.lemmas.Copied.{ends_after}
use Rattle.fb_wave.specs.CutOff.{cut_comment}
use Rattle.fb_wave.specs.Dumps.{end_text}
use Rattle.fb_inspect.specs.declared.dump.port_dump.PortDump.{PortDump}
use Rattle.fb_inspect.proofs.lemmas.walk.Ended.{begins_all, begins_cut, begins_none, begins_read}
use Rattle.fb_wave.specs.Pages.{IsCutShort}
use Rattle.fb_wave.specs.declared.page.PageFault.{PageFault}
use Rattle.fb_inspect.proofs.lemmas.lines.Severing.{cut_whole, on_some}
use Rattle.fb_inspect.specs.dump.Dumping.{ShowsUntaken}
use Rattle.fb_inspect.specs.dump.StateDumps.{HaveLines, cut_dump, state_dump, takings_text}
use Rattle.fb_inspect.specs.StateWaves.{AreFirst, IsCutStateWave, IsShownWith, IsStateWave, WritesFront, WritesRead}
use Rattle.fb_inspect.specs.dump.Waving.{Begins, Finishes, FinishesCut, IsCut, IsWhole, SendsCutPart, SendsPart}
use Rattle.fb_inspect.specs.declared.dump.state_wave.StateWave.{StateWave}
use Rattle.fb_inspect.proofs.lemmas.dump.Growing.{shows_cut_front, shows_front, shows_untaken_none}

-- ---- What is left after the last line

pub some_left : (text : List ℕ) (o : Option (List ℕ)) → (length text ≡ 0 → ⊥) → IfSome (prepend_known text o) (λ rest. 0 < length rest)
some_left text None some = tt
some_left [] (Some xs) some = absurd (some refl)
some_left (x ∷ text) (Some xs) some = omega arith

pub more_left : (text : List ℕ) (o : Option (List ℕ)) → text ≡ [] → IfSome o (λ rest. 0 < length rest) → IfSome (prepend_known text o) (λ rest. 0 < length rest)
more_left text o none more = subst (λ (p : Option (List ℕ)). IfSome p (λ rest. 0 < length rest)) (sym (none_ahead text o none)) more

pub end_left : (text : List ℕ) (o : Option (List ℕ)) → text ≡ [] → IsAtEnd o → IsAtEnd (prepend_known text o)
end_left text o none over = subst IsAtEnd (sym (none_ahead text o none)) over

-- some text is that of a line and what is left after it
pub some_text : (remaining : Option (List ℕ)) (line : List ℕ) → (known : Option (List ℕ)) × Consumes known remaining line
some_text None line = (None, tt)
some_text (Some rest) line = (Some (line ++ rest), refl)

-- ---- What was sent of the end

-- nothing
pub none_sent : (sys : System) (end : Outcome) (x : StateWave) (old : Option (List ℕ)) → SendsPart sys end x old old
none_sent sys end x old = record {
  part = [];
  got = Appends-nil old;
  whole = λ xs sent shown.
      let front = shows_front sys xs (sent ++ x.page.text.items) (ending_of end) x.dump shown in
      let T : List ℕ = x.page.text.items in
      (T ++ front.0, ap (λ (l : List ℕ). l ++ (T ++ front.0)) (append-nil sent) ∙ sym (append_assoc sent T front.0) ∙ front.1);
}

-- a part
pub part_sent :
    (sys : System) (end : Outcome) (x : StateWave) (page : Page) (old new : Option (List ℕ)) (fault : PageFault)
    → ((xs : List Taken) (sent : List ℕ) → Shows sys xs (sent ++ x.page.text.items) x.dump → sent ++ page.text.items ≡ state_dump true sys xs (ending_of end)) → IsCutShort old new page fault
    → SendsPart sys end x old new
part_sent sys end x page old new fault whole short = record {
  part = short.sent;
  got = short.got;
  whole = λ xs sent shown. (
    short.missing,
    append_assoc sent short.sent short.missing ∙ ap (λ (l : List ℕ). sent ++ l) (sym short.parts) ∙ whole xs sent shown,
  );
}

-- nothing is a part of the dump of a trace that is cut off
pub none_cut_sent : (sys : System) (x : StateWave) (old : Option (List ℕ)) → SendsCutPart sys x old old
none_cut_sent sys x old = record {
  part = [];
  got = Appends-nil old;
  whole = λ xs us sent shown.
      let T : List ℕ = x.page.text.items in
      let front = shows_cut_front sys xs us (sent ++ T) x.dump shown in
      (T ++ front.0, ap (λ (l : List ℕ). l ++ (T ++ front.0)) (append-nil sent) ∙ sym (append_assoc sent T front.0) ∙ front.1);
}

pub part_cut_sent :
    (sys : System) (x : StateWave) (page : Page) (old new : Option (List ℕ)) (fault : PageFault)
    → ((xs : List Taken) (us : List Line) (sent : List ℕ) → ShowsUntaken sys xs us (sent ++ x.page.text.items) x.dump → sent ++ page.text.items ≡ cut_dump true sys xs us) → IsCutShort old new page fault
    → SendsCutPart sys x old new
part_cut_sent sys x page old new fault whole short = record {
  part = short.sent;
  got = short.got;
  whole = λ xs us sent shown. (
    short.missing,
    append_assoc sent short.sent short.missing ∙ ap (λ (l : List ℕ). sent ++ l) (sym short.parts) ∙ whole xs us sent shown,
  );
}

-- ---- Whatever comes after takings

-- what was sent goes on to the dump of the takings and any others
pub first_of : (sys : System) (xs : List Taken) (sent waits : List ℕ) (x : PortDump) → Shows sys xs (sent ++ waits) x → AreFirst sys xs sent
first_of sys xs sent waits x shown = record {
  ended = λ more end.
      let K : List ℕ = takings_text true sys [] x.tick shown.before shown.now (last_look (opening_look sys) (takings_of xs)) more in
      let E : List ℕ = end_text sys (last_tick 0 (lines_of (xs ++ more))) end in
      (waits ++ (K ++ E), ap (λ (m : List ℕ). m ++ E) (sym (shown.text [] more)) ∙ append_assoc (sent ++ waits) K E ∙ append_assoc sent waits (K ++ E));
  cut = λ more us.
      let K : List ℕ = takings_text true sys us x.tick shown.before shown.now (last_look (opening_look sys) (takings_of xs)) more in (
        waits ++ (K ++ cut_comment),
        ap (λ (m : List ℕ). m ++ cut_comment) (sym (shown.text us more)) ∙ append_assoc (sent ++ waits) K cut_comment ∙ append_assoc sent waits (K ++ cut_comment),
      );
}

-- ---- Fronts

module _ (sys : System) (form : Form) (steps : ℕ) where
  abbrev text_of : List Taken → List ℕ
  text_of xs = lines_text form sys (map (line_of sys) (lines_of xs))

  -- what the writer got is the front of the dump of the takings that were gone through
  waved_front : (x : StateWave) (input remaining old new : Option (List ℕ)) → HasWaved sys form steps x input remaining old new → WritesFront sys steps old new
  waved_front x input remaining old new have =
      let waved = have.waved in
      let T : List ℕ = x.page.text.items in
      let front = shows_front sys have.takings (waved.sent ++ T) (AtHorizon 0) x.dump waved.shown in
      record {
        takings = have.takings;
        are = waved.are;
        lines = waved.lines;
        taken = waved.taken;
        dump = state_dump true sys have.takings (AtHorizon 0);
        is = inl (AtHorizon 0, refl);
        bytes = waved.sent;
        rest = T ++ front.0;
        parts = sym (append_assoc waved.sent T front.0) ∙ front.1;
        got = waved.got;
      }

  pub front_waved : (x : StateWave) (input remaining old new : Option (List ℕ)) → HasWaved sys form steps x input remaining old new → WritesRead sys steps input old new
  unfolding waved_front
  front_waved x input remaining old new have = record {
    front = waved_front x input remaining old new have;
    form = form;
    read = begins_read input remaining (text_of have.takings) x.walk.trail.reading.line.items have.waved.read;
    goes_on = inl (first_of sys have.takings have.waved.sent x.page.text.items x.dump have.waved.shown);
  }

  -- the same, where a part of what waits was sent after it
  flushed_front :
      (x : StateWave) (input remaining old mid new : Option (List ℕ)) → HasWaved sys form steps x input remaining old mid → SendsSome x.page.text.items mid new
      → WritesFront sys steps old new
  flushed_front x input remaining old mid new have short =
      let waved = have.waved in
      let front = shows_front sys have.takings (waved.sent ++ x.page.text.items) (AtHorizon 0) x.dump waved.shown in
      record {
        takings = have.takings;
        are = waved.are;
        lines = waved.lines;
        taken = waved.taken;
        dump = state_dump true sys have.takings (AtHorizon 0);
        is = inl (AtHorizon 0, refl);
        bytes = waved.sent ++ short.sent;
        rest = short.missing ++ front.0;
        parts = sym (append_assoc (waved.sent ++ short.sent) short.missing front.0)
            ∙ ap (λ (l : List ℕ). l ++ front.0) (append_assoc waved.sent short.sent short.missing ∙ ap (λ (l : List ℕ). waved.sent ++ l) (sym short.parts))
            ∙ front.1;
        got = Appends-trans old mid new waved.sent short.sent waved.got short.got;
      }

  pub front_flush :
      (x : StateWave) (input remaining old mid new : Option (List ℕ)) → HasWaved sys form steps x input remaining old mid → SendsSome x.page.text.items mid new
      → WritesRead sys steps input old new
  unfolding flushed_front
  front_flush x input remaining old mid new have short = record {
    front = flushed_front x input remaining old mid new have short;
    form = form;
    read = begins_read input remaining (text_of have.takings) x.walk.trail.reading.line.items have.waved.read;
    goes_on = inl
        (first_of sys have.takings (have.waved.sent ++ short.sent) short.missing x.dump
        (subst (λ (l : List ℕ). Shows sys have.takings l x.dump)
        (ap (λ (l : List ℕ). have.waved.sent ++ l) short.parts ∙ sym (append_assoc have.waved.sent short.sent short.missing)) have.waved.shown));
  }

  -- ---- The whole dump

  module _ (x : StateWave) (end : Outcome) (input remaining old mid : Option (List ℕ)) (whole : IsWhole sys form steps x end input remaining old mid) where
    -- all was written
    pub whole_done : (new : Option (List ℕ)) → Finishes sys end x remaining mid new → IfSome input (λ text. IsStateWave sys steps text old new)
    whole_done new finished = by input remaining whole.waved.read finished.over
      where
        L : List ℕ
        L = lines_text form sys (map (line_of sys) (lines_of whole.takings))

        shown : (text : List ℕ) → text ≡ trace_text form sys (map (line_of sys) (lines_of whole.takings)) (ending_of end) → IsStateWave sys steps text old new
        shown text is = record {
          form = form;
          takings = whole.takings;
          end = ending_of end;
          trace = record {
            lines = whole.waved.are;
            last = whole.last.can;
            ends = ends_after (last_tick 0 (lines_of whole.takings)) (last_tick 0 (lines_of whole.takings)) end refl whole.after;
            is = is;
          };
          lines = whole.waved.lines;
          ends = whole.ends;
          got = subst (Appends old new) (finished.whole whole.takings whole.waved.sent whole.waved.shown)
              (Appends-trans old mid new whole.waved.sent finished.rest whole.waved.got finished.got);
        }

        by : (a b : Option (List ℕ)) → Consumes a b (L ++ whole.line) → IsAtEnd b → IfSome a (λ text. IsStateWave sys steps text old new)
        by None b read over = tt
        by (Some t) None read over = absurd read
        by (Some t) (Some u) read over =
            shown t (read ∙ ap (λ (v : List ℕ). (L ++ whole.line) ++ v) over ∙ append-nil (L ++ whole.line) ∙ ap (λ (v : List ℕ). L ++ v) whole.last.is)

    -- a part was written
    whole_front : (new : Option (List ℕ)) → SendsPart sys end x mid new → WritesFront sys steps old new
    whole_front new part =
        let waved = whole.waved in
        let all = part.whole whole.takings waved.sent waved.shown in
        record {
          takings = whole.takings;
          are = waved.are;
          lines = waved.lines;
          taken = waved.taken;
          dump = state_dump true sys whole.takings (ending_of end);
          is = inl (ending_of end, refl);
          bytes = waved.sent ++ part.part;
          rest = all.0;
          parts = all.1;
          got = Appends-trans old mid new waved.sent part.part waved.got part.got;
        }

    pub whole_part : (new : Option (List ℕ)) → SendsPart sys end x mid new → WritesRead sys steps input old new
    unfolding whole_front
    whole_part new part = record {
      front = whole_front new part;
      form = form;
      read = begins_read input remaining (text_of whole.takings) whole.line whole.waved.read;
      goes_on = inr (inl (
        ending_of end,
        refl,
        begins_all input remaining (text_of whole.takings ++ last_line sys (ending_of end))
            (subst (λ (l : List ℕ). Consumes input remaining (text_of whole.takings ++ l)) whole.last.is whole.waved.read),
      ));
    }

  -- ---- The dump of a trace that is cut off

  module _ (x : StateWave) (input old mid : Option (List ℕ)) (off : IsCut sys form x input old mid) where
    -- all was written
    pub cut_done : (new : Option (List ℕ)) → FinishesCut sys x mid new → IfSome input (λ text. IsCutStateWave sys text old new)
    cut_done new finished =
        on_some input _ _ off.rest
        (λ text after. record {
          form = form;
          takings = off.takings;
          untaken = off.untaken;
          trace = record { lines = off.are; part = after.part; unended = after.unended; is = after.is };
          of_one = off.of_one;
          last = off.last;
          lines = off.lines;
          chain = off.chain;
          goes_on = off.goes_on;
          got = subst (Appends old new) (finished.whole off.takings off.untaken off.sent off.shown) (Appends-trans old mid new off.sent finished.rest off.got finished.got);
        })

    -- a part was written
    cut_front : (new : Option (List ℕ)) → SendsCutPart sys x mid new → WritesFront sys steps old new
    cut_front new part =
        let all = part.whole off.takings off.untaken off.sent off.shown in
        record {
          takings = off.takings;
          are = off.before;
          lines = off.lines;
          taken = inl off.chain;
          dump = cut_dump true sys off.takings off.untaken;
          is = inr (off.untaken, off.of_one, refl);
          bytes = off.sent ++ part.part;
          rest = all.0;
          parts = all.1;
          got = Appends-trans old mid new off.sent part.part off.got part.got;
        }

    pub cut_part : (new : Option (List ℕ)) → SendsCutPart sys x mid new → WritesRead sys steps input old new
    unfolding cut_front
    cut_part new part = record {
      front = cut_front new part;
      form = form;
      read = on_some input _ _ off.rest (λ text after. begins_cut form sys (lines_of off.takings) off.untaken text after);
      goes_on = inr (inr (off.untaken, refl, off.rest));
    }

  -- a trace is cut off before its first line ends
  pub cut_none :
      (x : StateWave) (reading : Reading) (line : List ℕ) (input remaining old : Option (List ℕ)) → Begins sys reading x → Consumes input remaining line → IsFirstLine line input
      → is_unended line ≡ true → IsCut sys form x input old old
  cut_none x reading line input remaining old begins read one short = record {
    takings = [];
    goes_on = tt;
    chain = tt;
    lines = tt;
    before = record { each = All-nil (IsLineOf sys); rise = tt };
    untaken = [];
    of_one = tt;
    last = λ none. refl;
    are = record { each = All-nil (IsLineOf sys); rise = tt };
    rest = cut_whole input remaining line read one short;
    numbers = begins.numbers;
    sent = [];
    got = Appends-nil old;
    shown = shows_untaken_none sys [] x.page.text.items x.dump begins.shown;
  }

-- The writer got nothing, since nothing was gone through.
pub front_nothing : (sys : System) (steps : ℕ) (old : Option (List ℕ)) → WritesFront sys steps old old
front_nothing sys steps old = record {
  takings = [];
  are = record { each = All-nil (IsLineOf sys); rise = tt };
  lines = tt;
  taken = inl tt;
  dump = state_dump true sys [] (AtHorizon 0);
  is = inl (AtHorizon 0, refl);
  bytes = [];
  rest = state_dump true sys [] (AtHorizon 0);
  parts = refl;
  got = Appends-nil old;
}

pub front_none : (sys : System) (steps : ℕ) (input old : Option (List ℕ)) → WritesRead sys steps input old old
unfolding front_nothing
front_none sys steps input old = record {
  front = front_nothing sys steps old;
  form = One;
  read = begins_none input;
  goes_on = inl (record { ended = λ more end. (state_dump true sys more end, refl); cut = λ more us. (cut_dump true sys more us, refl) });
}

-- where a trace may be cut off or not
pub shown_whole :
    (may : Cut) (sys : System) (steps : ℕ) (input old new : Option (List ℕ)) → IfSome input (λ text. IsStateWave sys steps text old new) → IfSome input (λ text. IsShownWith may sys steps text old new)
shown_whole cut.Refused sys steps input old new shown = shown
shown_whole cut.Allowed sys steps input old new shown = on_some input _ _ shown (λ text is. inl is)

pub shown_cut :
    (may : Cut) (sys : System) (steps : ℕ) (input old new : Option (List ℕ)) → may ≡ cut.Allowed → IfSome input (λ text. IsCutStateWave sys text old new)
    → IfSome input (λ text. IsShownWith may sys steps text old new)
shown_cut cut.Refused sys steps input old new same shown = absurd (cc)
shown_cut cut.Allowed sys steps input old new same shown = on_some input _ _ shown (λ text is. inr is)

-- the lines are those of the takings
pub lines_are_of : (sys : System) (xs : List Taken) → HaveLines sys xs → map (line_of sys) (lines_of xs) ≡ all_lines (takings_of xs)
lines_are_of sys [] have = refl
lines_are_of sys (x ∷ xs) have =
    map-append (line_of sys) x.lines (lines_of xs) ∙ ap (λ (ls : List model.Line). ls ++ map (line_of sys) (lines_of xs)) have.0 ∙ ap (λ (ls : List model.Line). taking_lines x.taking ++ ls) (lines_are_of sys xs have.1)

-- more than the last line is left
pub after_last :
    (sys : System) (form : Form) (steps : ℕ) (x : StateWave) (end : Outcome) (text : List ℕ) (remaining old mid : Option (List ℕ)) (n : ℕ) → IsWhole sys form steps x end (Some text) remaining old mid
    → n ≡ x.walk.trail.reading.number + 1 → IfSome remaining (λ rest. 0 < length rest) → IsAfterLast sys steps n text
after_last sys form steps x end text None old mid n whole number more = absurd whole.waved.read
after_last sys form steps x end text (Some rest) old mid n whole number more =
    let counted = whole.waved.numbered in
    let ls = lines_of whole.takings in
    record {
      front = lines_text form sys (map (line_of sys) ls) ++ whole.line;
      accepted = record {
        form = form;
        lines = ls;
        end = ending_of end;
        trace = record {
          lines = whole.waved.are;
          last = whole.last.can;
          ends = ends_after (last_tick 0 ls) (last_tick 0 ls) end refl whole.after;
          is = ap (λ (u : List ℕ). lines_text form sys (map (line_of sys) ls) ++ u) whole.last.is;
        };
        takings = takings_of whole.takings;
        lines_are = lines_are_of sys whole.takings whole.waved.lines;
        ends = whole.ends;
      };
      numbered = omega (arith, number, counted);
      rest = rest;
      more = more;
      is = whole.waved.read;
    }
