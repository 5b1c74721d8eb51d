-- What was written of a dump before a line was refused.
use Rattle.fb_inspect.proofs.lemmas.Common.{◌≡◌, ◌⊎◌, ◌≤◌, ℕ, ◌+◌, List, [], ◌++◌, length, take, Option, Some, sym, ap, subst, inl, inr, append-nil, arith, Appends, Appends-trans, System, Form, last_tick, IsNext, Next, Shows, lines_of, HasWaved}
use Rattle.fb_inspect.specs.StateWaves.{WritesBefore, WritesFirst}
use Rattle.fb_inspect.specs.dump.Waving.{HasGrown}
use Rattle.fb_inspect.specs.walk.Walking.{HasFlushed}
use Rattle.fb_inspect.specs.declared.dump.state_wave.StateWave.{StateWave}
use Rattle.fb_inspect.proofs.lemmas.dump.Ending.{first_of}
use Rattle.fb_inspect.proofs.lemmas.walk.Held.{front_is, more_read, one_more, same_sent}

pub written_later : (sys : System) (n m : ℕ) (text : List ℕ) (old new : Option (List ℕ)) → n ≤ m → WritesBefore sys n text old new → WritesBefore sys m text old new
written_later sys n m text old new less (inl none) = inl none
written_later sys n m text old new less (inr (form, first)) =
    let before = first.before in
    inr (
      form,
      record {
        takings = first.takings;
        chain = first.chain;
        lines = first.lines;
        next = first.next;
        are = first.are;
        read = first.read;
        before = omega (arith, before, less);
        bytes = first.bytes;
        first = first.first;
        got = first.got;
      },
    )

module _ (sys : System) (form : Form) (steps : ℕ) (x done : StateWave) (text page : List ℕ) (remaining old mid out : Option (List ℕ)) (have : HasWaved sys form steps x (Some text) remaining old mid) (grown : HasGrown x done)
    (flushed : HasFlushed (length x.page.text.items) mid out done.page.text.items page) where
  -- a front of the page was sent
  sent_front : flushed.sent ≡ x.page.text.items → WritesFirst sys form done.walk.trail.reading.number text old out
  sent_front is =
      let waved = have.waved in
      let here = subst (λ (n : Next). IsNext sys form (last_tick 0 (lines_of have.takings)) x.walk.trail.reading.line.items n) (sym grown.is) have.next in
      let numbered = waved.numbered in
      let less = grown.number in
      record {
        takings = have.takings;
        chain = have.chain;
        lines = waved.lines;
        next = grown.line;
        are = one_more sys form (lines_of have.takings) grown.line waved.are here.0.line here.1;
        read = more_read sys form (lines_of have.takings) grown.line text x.walk.trail.reading.line.items remaining here.0.is waved.read;
        before = omega (arith, numbered, less);
        bytes = waved.sent ++ x.page.text.items;
        first = first_of sys have.takings (waved.sent ++ x.page.text.items) [] x.dump (subst (λ (t : List ℕ). Shows sys have.takings t x.dump) (sym (append-nil (waved.sent ++ x.page.text.items))) waved.shown);
        got = subst (λ (u : List ℕ). Appends old out u) (ap (λ (u : List ℕ). waved.sent ++ u) is) (Appends-trans old mid out waved.sent flushed.sent waved.got flushed.got);
      }

  kept_back : flushed.sent ≡ [] → WritesBefore sys x.walk.trail.reading.number text old mid → WritesBefore sys done.walk.trail.reading.number text old out
  kept_back none (inl nothing) = inl (same_sent old mid out [] flushed.sent nothing flushed.got none)
  kept_back none (inr (f, shown)) =
      let before = shown.before in
      let less = grown.number in
      inr (
        f,
        record {
          takings = shown.takings;
          chain = shown.chain;
          lines = shown.lines;
          next = shown.next;
          are = shown.are;
          read = shown.read;
          before = omega (arith, before, less);
          bytes = shown.bytes;
          first = shown.first;
          got = same_sent old mid out _ flushed.sent shown.got flushed.got none;
        },
      )

  -- what was written before the next line is refused
  pub written_on : WritesBefore sys x.walk.trail.reading.number text old mid → WritesBefore sys done.walk.trail.reading.number text old out
  written_on held = by flushed.front
    where
      by : (flushed.sent ≡ []) ⊎ (flushed.sent ≡ take (length x.page.text.items) done.page.text.items) → WritesBefore sys done.walk.trail.reading.number text old out
      by (inl none) = kept_back none held
      by (inr all) = inr (form, sent_front (front_is x.page.text.items done.page.text.items flushed.sent grown.text all))
