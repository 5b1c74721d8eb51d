-- A walk that stands at the next line, whatever comes after what was read.
use Rattle.fb_inspect.proofs.lemmas.Common.{◌≡◌, ◌⊎◌, ◌+◌, ℕ, false, List, [], ◌∷◌, ◌++◌, Option, Some, Result, Ok, Err, refl, sym, ap, subst, ◌∙◌, inl, inr, append_assoc, append-nil, arith, take_through, system_of, System, Form, Line, IsTextOf, HasNames, PortTable, is_unended, Selection, IsNext, Taking, opening_look, AreAhead, BeginsText, GoesAfter, StandsWell, Watches, IsLookOf, Starts, Ahead, WalkError, Refused, Next, Page, Trail, Walk, Step, Ended, Marks}
use Rattle.fb_wave.specs.CutOff.{IsUncut}
use Rattle.fb_wave.proofs.lemmas.Severed.{feeds, feeds-append}
use Rattle.fb_inspect.specs.Refusals.{IsAfterLast}
use Rattle.fb_inspect.specs.walk.Standing.{AreApart, AreNumbered, GoesWhole, ReadsWhole, StandsAt, StandsWhole, StandsWholeAt}
use Rattle.fb_inspect.specs.declared.walk.Step.TheVariants.{CutOff, Taken}
use Rattle.fb_inspect.specs.declared.walk.error.WalkError.TheVariants.{Memory, Read, Write}
use Rattle.fb_inspect.specs.declared.walk.reading.Next.TheVariants as next
use Rattle.fb_inspect.specs.declared.walk.trail.PassedLines.{PassedLines}
use Rattle.fb_inspect.proofs.lemmas.lines.Judging.{event_at}
use Rattle.fb_inspect.proofs.lemmas.lines.WholeLines.{ended_alone, ended_append, wrong_within}
use Rattle.fb_inspect.proofs.lemmas.walk.StandsAfter.{at_look}
use Rattle.fb_inspect.proofs.lemmas.walk.UpToRefusal.{well_aside, well_flushed, well_opens}

module _ (sys : System) (form : Form) (steps : ℕ) where
  -- ---- The first line

  begins_so :
      (line rest text : List ℕ) (excess : Option ℕ) → BeginsText sys form line excess rest text → is_unended line ≡ false → (left : List ℕ) → BeginsText sys form line excess left (line ++ left)
  begins_so line rest text excess begins ended left =
      let alone = ended_alone line rest left (begins.alone ∙ ap (take_through 10) begins.is) ended in
      record {
        is = refl;
        alone = alone;
        formed = λ f m is. begins.formed f m (subst (IsTextOf sys f m) (sym alone ∙ begins.alone) is);
        unwatched = begins.unwatched;
      }

  pub whole_opens :
      (w : Walk) (a : Ahead) (rest text : List ℕ) → IsLookOf sys w.blocks.items w.steps.items (opening_look sys) → w.trail.reading.number ≡ 1 → IsNext sys form 0 w.trail.reading.line.items w.trail.reading.next
      → a.text.items ≡ [] → BeginsText sys form w.trail.reading.line.items a.excess rest text → is_unended w.trail.reading.line.items ≡ false → StandsWhole sys form steps w a rest text
  whole_opens w a rest text look number next empty begins ended =
      let line = w.trail.reading.line.items in
      record {
        front = line;
        ended = ended;
        is = begins.is;
        stands = λ left. well_opens sys form steps w a left (line ++ left) look number next empty (begins_so line rest text a.excess begins ended left);
      }

  pub whole_first :
      (what : Selection) (w : Walk) (a : Ahead) (rest text : List ℕ) → Starts sys form what w → a.text.items ≡ [] → BeginsText sys form w.trail.reading.line.items a.excess rest text
      → is_unended w.trail.reading.line.items ≡ false → StandsWhole sys form steps w a rest text
  whole_first what w a rest text starts empty begins ended =
      whole_opens w a rest text (record { are = starts.blocks; counts = starts.steps.all; lefts = λ r s at. sym (starts.steps.each r s at) }) starts.first starts.next empty begins ended

  -- ---- What does not move it

  -- a part of what waited was sent
  pub whole_flushed :
      (w : Walk) (page : Page) (a : Ahead) (rest text : List ℕ) → StandsWhole sys form steps w a rest text → StandsWhole sys form steps (record w { trail = record (w.trail) { page = page } }) a rest text
  whole_flushed w page a rest text whole = record {
    front = whole.front;
    ended = whole.ended;
    is = whole.is;
    stands = λ left. well_flushed sys form steps w page a left (whole.front ++ left) (whole.stands left);
  }

  -- other marks are set, or other lines kept
  pub whole_aside :
      (w : Walk) (t : Trail) (passed : PassedLines) (marks : Marks) (a : Ahead) (rest text : List ℕ) → t ≡ record (w.trail) { passed = passed; marks = marks } → StandsWhole sys form steps w a rest text
      → StandsWhole sys form steps (record w { trail = t }) a rest text
  whole_aside w t passed marks a rest text same whole = record {
    front = whole.front;
    ended = whole.ended;
    is = whole.is;
    stands = λ left. well_aside sys form steps w t passed marks a left (whole.front ++ left) same (whole.stands left);
  }

  -- the next line is that of an event
  pub whole_at :
      (w : Walk) (bad : Next) (a : Ahead) (rest text : List ℕ) → HasNames sys → AreNumbered sys → AreApart sys → StandsWhole sys form steps w a rest text → (line : Line) → next.Event line ≡ w.trail.reading.next
      → StandsWholeAt sys form steps (record w { trail = record (w.trail) { reading = record (w.trail.reading) { next = bad } } }) a line rest text
  whole_at w bad a rest text names numbers apart whole line is = record {
    front = whole.front;
    ended = whole.ended;
    is = whole.is;
    stands = λ left.
        let well = whole.stands left in
        (well.takings, event_at sys form well.takings w bad a.text.items a.last.items left (whole.front ++ left) names numbers apart well.on line is, well.watched);
  }

  -- ---- What comes of a step

  -- what holds whatever comes after a text holds where a text may be cut off
  pub goes_whole :
      (w : Walk) (a : Ahead) (front rest text : List ℕ) (remaining : Option (List ℕ)) (r : Result Step WalkError) → HasNames sys → is_unended front ≡ false → text ≡ front ++ rest → remaining ≡ Some rest
      → ((left : List ℕ) → GoesAfter sys form steps w a (Some left) (front ++ left) r) → GoesWhole sys form steps w a remaining text r
  goes_whole w a front rest text remaining (Ok Taken) names ended is known goes = (
    rest,
    known,
    record {
      front = front;
      ended = ended;
      is = is;
      stands = λ left. let there = goes left in same_left left there.0 there.1 there.2;
    },
  )
    where
      same_left : (left k : List ℕ) → Some left ≡ Some k → StandsWell sys form steps w a k (front ++ left) → StandsWell sys form steps w a left (front ++ left)
      same_left left k e well = let back : k ≡ left = cc in subst (λ (u : List ℕ). StandsWell sys form steps w a u (front ++ left)) back well
  goes_whole w a front rest text remaining (Ok (Ended end)) names ended is known goes = tt
  goes_whole w a front rest text remaining (Ok CutOff) names ended is known goes = tt
  goes_whole w a front rest text remaining (Err (Refused n)) names ended is known goes =
      let within = wrong_within sys names front ended n.number steps n w.trail.reading.line.items refl (goes []) (goes (10 ∷ [])) in
      let counted : feeds text ≡ feeds front + feeds rest = ap feeds is ∙ feeds-append front rest in
      omega (arith, within, counted)
  goes_whole w a front rest text remaining (Err Memory) names ended is known goes = tt
  goes_whole w a front rest text remaining (Err Read) names ended is known goes = tt
  goes_whole w a front rest text remaining (Err (Write n)) names ended is known goes = tt

  -- what was read, and more that was read ahead
  pub ended_more : (front more : List ℕ) → is_unended front ≡ false → (more ≡ []) ⊎ (is_unended more ≡ false) → is_unended (front ++ more) ≡ false
  ended_more front more ended (inl none) = ap is_unended (ap (λ (u : List ℕ). front ++ u) none ∙ append-nil front) ∙ ended
  ended_more front more ended (inr other) = ended_append front more other

-- a line after the last one of a trace
pub uncut_after : (sys : System) (steps n : ℕ) (text : List ℕ) → IsAfterLast sys steps n text → IsUncut sys n text
uncut_after sys steps n text after = inr
    (record {
      trace = after.front;
      rest = after.rest;
      is = record { form = after.accepted.form; lines = after.accepted.lines; end = after.accepted.end; is = after.accepted.trace };
      parts = after.is;
    })

-- the step that takes an event, after a look ahead
module _ (t : PortTable) (form : Form) (steps : ℕ) (w : Walk) (a b : Ahead) (line : Line) (rest text : List ℕ) (remaining : Option (List ℕ))
    (whole : StandsWholeAt (system_of t.system.now) form steps w a line rest text) (read : ReadsWhole (system_of t.system.now) form line a b rest remaining) (done : Walk) (c : Ahead) (left_after : Option (List ℕ)) (r : Result Step WalkError) where
  abbrev sys : System
  sys = system_of t.system.now

  -- what is shown of the step for any takings
  pub step_whole :
      left_after ≡ Some read.left.0
      → ((takings : List Taking) (left all : List ℕ) (rows : List Line) → StandsAt sys form takings w a.text.items a.last.items line (read.more ++ left) all → StandsAt sys form takings w b.text.items b.last.items line left all
      → Watches sys steps takings a.excess → AreAhead sys form line rows b.text.items b.last.items left
      → GoesAfter sys form steps done c (Some left) all r)
      → GoesWhole sys form steps done c left_after text r
  step_whole known goes =
      let front = whole.front in
      let more = read.more in
      let names = (whole.stands []).1.names in
      goes_whole sys form steps done c (front ++ more) read.left.0 text left_after r names (ended_more sys form steps front more whole.ended read.ended)
      (whole.is ∙ ap (λ (u : List ℕ). front ++ u) read.left.2 ∙ sym (append_assoc front more read.left.0)) known
      (λ left.
      let all = front ++ (more ++ left) in
      let before = whole.stands (more ++ left) in
      let at = before.1 in
      let ahead = read.ahead left (at.stands.after line at.is) in
      let there = at_look t form before.0 w line a.text.items a.last.items (more ++ left) all at ahead.0 b.text.items b.last.items left
      (sym (append_assoc a.text.items more left) ∙ ap (λ (u : List ℕ). u ++ left) (sym read.text)) ahead.1 in
      subst (λ (u : List ℕ). GoesAfter sys form steps done c (Some left) u r) (sym (append_assoc front more left))
      (goes before.0 left all ahead.0 at there before.2 ahead.1))
