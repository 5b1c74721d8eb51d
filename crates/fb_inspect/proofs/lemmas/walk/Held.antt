-- What was written before a line was refused.
use Rattle.fb_inspect.proofs.lemmas.Common.{◌≡◌, ◌⊎◌, ◌<◌, ◌≤◌, ℕ, ◌+◌, List, [], ◌∷◌, ◌++◌, length, map, take, Option, Some, None, refl, sym, ap, subst, ◌∙◌, inl, inr, append-nil, arith, length-append, length-map, Consumes, Appends, Appends-trans, map-append, All-append, All-cons, All-nil, line_of, System, line_text, lines_text, BlockType, Form, Line, Reason, last_tick, IsLineOf, Marks, last_look, Selection, IsNextLine, Look, Taking, most, opening_look, taking_lines, IsLineAt, FailsBy, Finding, Refusal, Refuses, HasCovered, WalkTakes, Ahead, WalkError, Refused, Reading, Ended, Walk, append_assoc}
use Rattle.fb_trace.specs.declared.last.Outcome.{Outcome}
use Rattle.fb_wave.specs.Waves.{AreLinesOf}
use Rattle.fb_inspect.specs.Inspections.{BeginsWith, ShowsBefore, ShowsFirst}
use Rattle.fb_inspect.specs.walk.Stepping.{GoesWith, IsStopped, IsUsedUp, StepGoes}
use Rattle.fb_inspect.specs.walk.Walking.{HasFlushed}
use Rattle.fb_inspect.specs.declared.walk.Step.TheVariants.{Taken}
use Rattle.fb_inspect.specs.declared.walk.error.WalkError.TheVariants.{Memory, Read, Write}
use Rattle.fb_inspect.specs.declared.walk.reading.Next.{Next}
use Rattle.fb_inspect.proofs.lemmas.lines.Moving.{lines-append}
use Rattle.fb_inspect.proofs.lemmas.walk.Ended.{begins_all}
use Rattle.fb_inspect.proofs.lemmas.walk.WalkedTakings.{rise_more}

-- ---- Numbers of lines

-- what holds of each refusal
pub refuses_any : (P : Refusal → Type 0) (e : WalkError) → ((n : Refusal) → P n) → Refuses P e
refuses_any P (Refused n) h = h n
refuses_any P Memory h = tt
refuses_any P Read h = tt
refuses_any P (Write n) h = tt

-- a line is refused, or one after it
pub fails_later :
    (T : Taking → Type 0) (F : Finding → Type 0) (sys : System) (form : Form) (line : Line) (old new : Reading) (left after : Option (List ℕ)) (n : Refusal) → FailsBy T F sys form line old new left after n
    → (old.number ≤ new.number) × (n.number ≡ new.number)
fails_later T F sys form line old new left after n (inl none) =
    let same = ap (λ (r : Reading). r.number) none.same in
    let number = none.number_is in
    (omega (arith, same), omega (arith, same, number))
fails_later T F sys form line old new left after n (inr fails) = let numbered = fails.reads.numbered in (omega (arith, numbered), fails.number_is)

pub longer : (old new : List ℕ) → BeginsWith old new → length old ≤ length new
longer old new grown =
    let all = ap length grown.1 in
    let parts = length-append old grown.0 in
    omega (arith, all, parts)

module _ (types : List BlockType) (sys : System) (form : Form) (limit : ℕ) (look : Look) (line : Line) (stop : Option Reason) (old new : Walk) (remaining rest : Option (List ℕ))
    (goes : WalkTakes types sys form limit look line stop old new remaining rest) where
  pub takes_later : old.trail.reading.number < new.trail.reading.number
  takes_later =
      let count : length goes.lines ≡ length (taking_lines goes.taking) = sym (length-map goes.lines (line_of sys)) ∙ ap length goes.lines_are in
      let numbered = goes.goes.numbered in
      omega (arith, count, numbered)

  pub takes_longer : length old.trail.page.text.items ≤ length new.trail.page.text.items
  takes_longer = longer old.trail.page.text.items new.trail.page.text.items (_, goes.goes.text)

-- the end of a trace
pub end_later :
    (types : List BlockType) (sys : System) (form : Form) (steps : ℕ) (look : Look) (old new : Walk) (ahead : Ahead) (remaining rest : Option (List ℕ)) (end : Outcome)
    → StepGoes types sys form steps look old new ahead remaining rest (Ended end) → old.trail.reading.number ≤ new.trail.reading.number
end_later types sys form steps look old new ahead remaining rest end (inl here) = let same = here.number in omega (arith, same)
end_later types sys form steps look old new ahead remaining rest end (inr goes) = by goes.goes.how
  where
    by : IsStopped types sys form look goes.line end old new remaining rest ⊎ IsUsedUp types sys form steps look goes.line end old new remaining rest → old.trail.reading.number ≤ new.trail.reading.number
    by (inl stopped) = let less = takes_later types sys form most look goes.line (Some stopped.reason) old new remaining rest stopped.goes in omega (arith, less)
    by (inr used) = let less = takes_later types sys form steps _ goes.line used.stop old new remaining rest used.goes in omega (arith, less)

-- ---- Text

take_front : (xs ys : List ℕ) → take (length xs) (xs ++ ys) ≡ xs
take_front [] ys = refl
take_front (x ∷ xs) ys = ap (λ (zs : List ℕ). x ∷ zs) (take_front xs ys)

-- the front of a text that has grown is what it was
pub front_is : (old new sent : List ℕ) → BeginsWith old new → sent ≡ take (length old) new → sent ≡ old
front_is old new sent grown is = is ∙ ap (take (length old)) grown.1 ∙ take_front old grown.0

-- a text that has grown twice
pub grown_twice : (first second third more : List ℕ) → BeginsWith first second → third ≡ second ++ more → BeginsWith first third
grown_twice first second third more grown is = (grown.0 ++ more, is ∙ ap (λ (u : List ℕ). u ++ more) grown.1 ∙ append_assoc first grown.0 more)

-- nothing more was sent
pub same_sent : (old mid new : Option (List ℕ)) (bytes sent : List ℕ) → Appends old mid bytes → Appends mid new sent → sent ≡ [] → Appends old new bytes
same_sent old mid new bytes sent first second none =
    subst (λ (u : List ℕ). Appends old new u) (ap (λ (u : List ℕ). bytes ++ u) none ∙ append-nil bytes) (Appends-trans old mid new bytes sent first second)

-- ---- The lines of takings, and one more

pub one_more :
    (sys : System) (form : Form) (lines : List Line) (line : Line) → AreLinesOf sys lines → IsLineOf sys line → last_tick 0 lines ≤ line.key.tick → AreLinesOf sys (lines ++ line ∷ [])
one_more sys form lines line are is later = record {
  each = All-append (IsLineOf sys) lines (line ∷ []) are.each (All-cons (IsLineOf sys) line [] is (All-nil (IsLineOf sys)));
  rise = rise_more sys line.key.tick 0 lines (line ∷ []) are.rise later (All-cons (IsLineAt sys line.key.tick) line [] (record { line = is; tick_is = refl }) (All-nil (IsLineAt sys line.key.tick)));
}

pub more_text : (sys : System) (form : Form) (lines : List Line) (line : Line) → lines_text form sys (map (line_of sys) (lines ++ line ∷ [])) ≡ lines_text form sys (map (line_of sys) lines) ++ line_text form sys (line_of sys line)
more_text sys form lines line =
    ap (lines_text form sys) (map-append (line_of sys) lines (line ∷ [])) ∙ lines-append form sys (map (line_of sys) lines) (line_of sys line ∷ [])
    ∙ ap (λ (u : List ℕ). lines_text form sys (map (line_of sys) lines) ++ u) (append-nil (line_text form sys (line_of sys line)))

-- a text that begins with these lines
pub more_read :
    (sys : System) (form : Form) (lines : List Line) (line : Line) (text here : List ℕ) (rest : Option (List ℕ)) → here ≡ line_text form sys (line_of sys line)
    → Consumes (Some text) rest (lines_text form sys (map (line_of sys) lines) ++ here) → BeginsWith (lines_text form sys (map (line_of sys) (lines ++ line ∷ []))) text
more_read sys form lines line text here rest is read =
    begins_all (Some text) rest (lines_text form sys (map (line_of sys) (lines ++ line ∷ [])))
    (subst (Consumes (Some text) rest) (ap (λ (u : List ℕ). lines_text form sys (map (line_of sys) lines) ++ u) is ∙ sym (more_text sys form lines line)) read)

-- ---- What was written

pub before_later : (sys : System) (what : Selection) (n m : ℕ) (text : List ℕ) (old new : Option (List ℕ)) → n ≤ m → ShowsBefore sys what n text old new → ShowsBefore sys what m text old new
before_later sys what n m text old new less (inl none) = inl none
before_later sys what n m text old new less (inr (form, first)) =
    let before = first.before in
    inr (
      form,
      record {
        takings = first.takings;
        chain = first.chain;
        lines = first.lines;
        lines_are = first.lines_are;
        next = first.next;
        are = first.are;
        read = first.read;
        before = omega (arith, before, less);
        got = first.got;
      },
    )

module _ (types : List BlockType) (first : Marks) (sys : System) (form : Form) (what : Selection) (steps : ℕ) (w done : Walk) (text : List ℕ) (page : List ℕ) (remaining r s old mid out : Option (List ℕ)) (ahead : Ahead)
    (covered : HasCovered types first sys form what steps w (Some text) remaining old mid)
    (step : GoesWith types sys form steps (last_look (opening_look sys) covered.gone.takings) w done ahead r s Taken)
    (flushed : HasFlushed (length w.trail.page.text.items) mid out done.trail.page.text.items page) where
  less : w.trail.reading.number < done.trail.reading.number
  less = takes_later types sys form most (last_look (opening_look sys) covered.gone.takings) step.line None w done r s step.goes.goes

  grown : BeginsWith w.trail.page.text.items done.trail.page.text.items
  grown = (_, step.goes.goes.goes.text)

  -- a front of the page was sent
  sent_front : flushed.sent ≡ w.trail.page.text.items → ShowsFirst sys form what done.trail.reading.number text old out
  sent_front is =
      let gone = covered.gone.gone in
      let here = subst (λ (n : Next). IsNextLine sys form (last_tick 0 gone.lines) w.trail.reading.line.items n) (sym step.is) covered.gone.next in
      let numbered = gone.numbered in
      record {
        takings = covered.gone.takings;
        chain = covered.gone.chain;
        lines = gone.lines;
        lines_are = gone.lines_are;
        next = step.line;
        are = one_more sys form gone.lines step.line gone.are here.0.line here.1;
        read = more_read sys form gone.lines step.line text w.trail.reading.line.items remaining here.0.is gone.read;
        before = omega (arith, numbered, less);
        got = subst (λ (u : List ℕ). Appends old out u) (ap (λ (u : List ℕ). gone.sent ++ u) is ∙ gone.text) (Appends-trans old mid out gone.sent flushed.sent gone.got flushed.got);
      }

  kept_back : flushed.sent ≡ [] → ShowsBefore sys what w.trail.reading.number text old mid → ShowsBefore sys what done.trail.reading.number text old out
  kept_back none (inl nothing) = inl (same_sent old mid out [] flushed.sent nothing flushed.got none)
  kept_back none (inr (f, shown)) =
      let before = shown.before in
      inr (
        f,
        record {
          takings = shown.takings;
          chain = shown.chain;
          lines = shown.lines;
          lines_are = shown.lines_are;
          next = shown.next;
          are = shown.are;
          read = shown.read;
          before = omega (arith, before, less);
          got = same_sent old mid out _ flushed.sent shown.got flushed.got none;
        },
      )

  -- what was written before the next line is refused
  pub held_on : ShowsBefore sys what w.trail.reading.number text old mid → ShowsBefore sys what done.trail.reading.number text old out
  held_on held = by flushed.front
    where
      by : (flushed.sent ≡ []) ⊎ (flushed.sent ≡ take (length w.trail.page.text.items) done.trail.page.text.items) → ShowsBefore sys what done.trail.reading.number text old out
      by (inl none) = kept_back none held
      by (inr all) = inr (form, sent_front (front_is w.trail.page.text.items done.trail.page.text.items flushed.sent grown all))

pub below : {n m : ℕ} → n < m → n ≤ m
below {n} {m} less = omega (arith, less)

pub after_that : (from here n : ℕ) → from ≤ here → n ≡ here + 1 → from ≤ n
after_that from here n less is = omega (arith, less, is)
