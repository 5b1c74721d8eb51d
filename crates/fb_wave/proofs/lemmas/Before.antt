-- What was written before a line is refused.
use Rattle.fb_wave.proofs.lemmas.Common.{◌≡◌, ℕ, ◌+◌, List, [], ◌++◌, map, sym, ap, subst, ◌∙◌, inl, inr, arith, append_assoc, length, IfSome, Option, None, Some, System, line_of, lines_text, Form, Line, ending_of, Outcome, last_tick, IsLast, RefusesLine, IsCopied, Progress, WaveError, Refused, Names, Memory, Read, Write}
use Rattle.fb_types.proofs.Common.{Appends}
use Rattle.fb_wave.specs.Copying.{IsCutUnfinished, IsUnfinished, RefusesEnd}
use Rattle.fb_wave.specs.CutOff.{cut_comment}
use Rattle.fb_wave.specs.Dumps.{end_text, ticks_text}
use Rattle.fb_wave.specs.Faults.{IsReadFault}
use Rattle.fb_wave.specs.Fronts.{AreFirst, WritesBefore, WritesUpTo}
use Rattle.fb_wave.specs.Scopes.{head_text}
use Rattle.fb_wave.specs.Writing.{HasShown}
use Rattle.fb_wave.specs.declared.dump.Dump.{Dump}
use Rattle.fb_wave.proofs.lemmas.Blaming.{known}

glued : (head ticks end sent waits last : List ℕ) → (sent ++ waits) ++ last ≡ head ++ ticks → sent ++ (waits ++ (last ++ end)) ≡ (head ++ ticks) ++ end
glued head ticks end sent waits last is =
    sym (append_assoc sent waits (last ++ end)) ∙ sym (append_assoc (sent ++ waits) last end) ∙ ap (λ (t : List ℕ). t ++ end) is

-- What was sent of the dump of lines goes on to the dump of these and any others.
first_of_all : (sys : System) (ls : List Line) (sent waits : List ℕ) (x : Dump) → HasShown sys ls (sent ++ waits) x → AreFirst sys ls sent
first_of_all sys ls sent waits x shown = record {
  ended = λ more end.
      let last = ticks_text sys x.tick shown.before shown.now more in
      let ends = end_text sys (last_tick 0 (ls ++ more)) end in
      (waits ++ (last ++ ends), glued (head_text sys) (ticks_text sys 0 [] [] (ls ++ more)) ends sent waits last (shown.text more));
  cut = λ more.
      let last = ticks_text sys x.tick shown.before shown.now more in
      (waits ++ (last ++ cut_comment), glued (head_text sys) (ticks_text sys 0 [] [] (ls ++ more)) cut_comment sent waits last (shown.text more));
}

-- a fault of the reader or of the writer refuses no line
pub read_before : (sys : System) (text old new : Option (List ℕ)) (e : WaveError) → IsReadFault e → WritesBefore sys text old new e
read_before sys text old new Memory fault = tt
read_before sys text old new Read fault = tt
read_before sys text old new e fault = absurd fault

module _ (sys : System) (form : Form) (number : ℕ) (x : Progress) (next : List ℕ) (input left old mid : Option (List ℕ))
    (is : IsCopied sys form number x next input left old mid) where
  -- the next line is refused
  refuses_next : (new : Option (List ℕ)) → new ≡ mid → (n : ℕ) → n ≡ number → IfSome input (λ text. WritesUpTo sys n text old new)
  refuses_next new same n at =
      known input left (lines_text form sys (map (line_of sys) is.lines)) next (λ text. WritesUpTo sys n text old new) is.read
      (λ text rest from after_front parts. record {
        form = form;
        lines = is.lines;
        are = is.are;
        left = next ++ rest;
        read = parts;
        next = inl (at ∙ is.numbered);
        bytes = is.sent;
        first = first_of_all sys is.lines is.sent x.page.text.items x.dump is.shown;
        got = subst (λ (o : Option (List ℕ)). Appends old o is.sent) (sym same) is.got;
      })

  -- the line after the last one is refused
  refuses_after : (end : Outcome) → IsLast sys next end → (new : Option (List ℕ)) → new ≡ mid → (n : ℕ) → n ≡ number + 1 → IfSome input (λ text. WritesUpTo sys n text old new)
  refuses_after end last new same n at =
      known input left (lines_text form sys (map (line_of sys) is.lines)) next (λ text. WritesUpTo sys n text old new) is.read
      (λ text rest from after_front parts. record {
        form = form;
        lines = is.lines;
        are = is.are;
        left = next ++ rest;
        read = parts;
        next = inr (record {
          end = ending_of end;
          can = last.can;
          rest = rest;
          is = ap (λ (t : List ℕ). t ++ rest) last.is;
          numbered = let before = is.numbered in omega (arith, at, before);
        });
        bytes = is.sent;
        first = first_of_all sys is.lines is.sent x.page.text.items x.dump is.shown;
        got = subst (λ (o : Option (List ℕ)). Appends old o is.sent) (sym same) is.got;
      })

  pub line_before : (new : Option (List ℕ)) → new ≡ mid → (e : WaveError) → RefusesLine sys form x.tick number next e → WritesBefore sys input old new e
  line_before new same (Refused n) refuses = refuses_next new same n refuses.0
  line_before new same Names refuses = tt
  line_before new same Memory refuses = tt
  line_before new same Read refuses = tt
  line_before new same (Write n) refuses = tt

  pub end_before :
      (end : Outcome) → IsLast sys next end → (new : Option (List ℕ)) (e : WaveError) → RefusesEnd end x.tick number left e → IsUnfinished sys x mid new e
      → WritesBefore sys input old new e
  end_before end last new (Refused n) (inl early) unfinished = refuses_next new unfinished n early.0
  end_before end last new (Refused n) (inr late) unfinished = refuses_after end last new unfinished n late.0
  end_before end last new Names refuses unfinished = tt
  end_before end last new Memory refuses unfinished = tt
  end_before end last new Read refuses unfinished = tt
  end_before end last new (Write n) refuses unfinished = tt

-- where the trace is cut off, no line is refused
pub cut_before : (sys : System) (x : Progress) (text old mid new : Option (List ℕ)) (e : WaveError) → IsCutUnfinished sys x mid new e → WritesBefore sys text old new e
cut_before sys x text old mid new (Write n) fails = tt
cut_before sys x text old mid new Memory fails = tt
cut_before sys x text old mid new e fails = absurd fails
