-- One step of a dump: what was taken was shown, or the trace is over.
use Rattle.fb_inspect.proofs.lemmas.Common.{◌≡◌, ◌<◌, ◌≤◌, ◌⊎◌, ℕ, ◌+◌, true, List, [], ◌∷◌, ◌++◌, length, map, Option, Some, None, refl, sym, ◌∙◌, ap, subst, inl, inr, append_assoc, All, IfSome, Consumes, map-append, All-append, All-cons, line_of, path_at, System, line_text, lines_text, BlockType, Form, Line, Reason, Steps, ending_of, Outcome, last_tick, BelongsTo, IsLast, IsLineOf, AreTaken, AreTakings, EndsSo, last_look, limited, most, IsNext, IsTaking, Look, Taking, opening_look, IsLineAt, AreCutOff, AreKept, IsCutAfter, IsLookOf, WalkTakes, Ahead, Next, Step, Walk, Shows, Taken, lines_of, takings_of, HasWaved, Trail}
use Rattle.fb_types.specs.States as model
use Rattle.fb_wave.specs.Copying.{IsAfter}
use Rattle.fb_inspect.specs.walk.Stepping.{EndsAfter, EndsHere, GoesOn, GoesWith, IsStopped, IsUsedUp, StepGoes, stop_at}
use Rattle.fb_inspect.specs.declared.walk.reading.Next.TheVariants as next
use Rattle.fb_inspect.specs.declared.walk.Step.TheVariants as step
use Rattle.fb_inspect.proofs.lemmas.walk.WalkedTakings.{chain_more, each_of, rise_more}
use Rattle.fb_inspect.proofs.lemmas.lines.Moving.{lines-append, not_none}
use Rattle.fb_inspect.proofs.lemmas.walk.Stepped.{ends_between, ends_stopped, ends_used, last_limited}
use Rattle.fb_inspect.specs.dump.Dumping.{IsPortDump, ShowsUntaken}
use Rattle.fb_inspect.specs.dump.Saved.{IsBefore}
use Rattle.fb_inspect.specs.dump.Waving.{CanShow, HasGoneOn, IsCut, IsEventKept, IsNextKept, IsWhole, ShowsTaking, TakingGoes}
use Rattle.fb_inspect.specs.declared.dump.before.Before.{Before}
use Rattle.fb_inspect.specs.declared.dump.state_wave.EventAt.{EventAt}
use Rattle.fb_inspect.specs.declared.dump.state_wave.StateWave.{StateWave}
use Rattle.fb_inspect.proofs.lemmas.dump.Growing.{look-one, takings-one}
use Rattle.fb_inspect.proofs.lemmas.marks.Losses.{lost_is}
use Rattle.fb_inspect.proofs.lemmas.dump.Waved.{last_is, lines_belong, passed_are, stops_more, waved_more}

pub same_line : (a b : Line) (n : Next) → next.Event a ≡ n → n ≡ next.Event b → a ≡ b
same_line a b n one other = same (one ∙ other)
  where
    same : next.Event a ≡ next.Event b → a ≡ b
    same e = cc

no_end : (line : Line) (end : Outcome) (n : Next) → n ≡ next.Event line → next.End end ≡ n → ⊥
no_end line end n one other = differ (other ∙ one)
  where
    differ : next.End end ≡ next.Event line → ⊥
    differ e = cc

pub own_rows :
    (sys : System) (form : Form) (line : Line) (rows : List Line) (text : List ℕ) (r : Option (List ℕ)) → AreCutOff sys form line rows text r → All (IsLineAt sys line.key.tick) rows
own_rows sys form line rows text r off n d h = record { line = (off.each n d h).line; tick_is = (off.each n d h).tick }

pub rows_belong :
    (sys : System) (form : Form) (line : Line) (rows : List Line) (text : List ℕ) (r : Option (List ℕ)) → AreCutOff sys form line rows text r → All (BelongsTo sys) rows
rows_belong sys form line rows text r off n d h = (off.each n d h).line.belongs

-- the rows that were read ahead are lines of the tick of the event
row_lines :
    (sys : System) (form : Form) (line : Line) (rows : List Line) (text : List ℕ) (r : Option (List ℕ)) → IsLineOf sys line → AreCutOff sys form line rows text r
    → All (IsLineAt sys line.key.tick) (line ∷ rows)
row_lines sys form line rows text r is off =
    All-cons (IsLineAt sys line.key.tick) line rows (record { line = is; tick_is = refl }) (own_rows sys form line rows text r off)

-- what is left after them is a part of a line
cut_after :
    (sys : System) (form : Form) (line : Line) (rows : List Line) (text : List ℕ) (ls : List Line) (own : List ℕ) (known r : Option (List ℕ)) → AreCutOff sys form line rows text r
    → Consumes known r (lines_text form sys (map (line_of sys) ls) ++ own)
    → lines_text form sys (map (line_of sys) (ls ++ (line ∷ rows))) ≡ lines_text form sys (map (line_of sys) ls) ++ (own ++ text)
    → IfSome known (λ t. IsCutAfter t (lines_text form sys (map (line_of sys) (ls ++ (line ∷ rows)))))
cut_after sys form line rows text ls own None r off read whole = tt
cut_after sys form line rows text ls own (Some t) None off read whole = absurd read
cut_after sys form line rows text ls own (Some t) (Some s) off read whole =
    let L : List ℕ = lines_text form sys (map (line_of sys) ls) in
    record {
      part = off.rest.part;
      unended = off.rest.unended;
      is = read ∙ ap (λ (u : List ℕ). (L ++ own) ++ u) off.rest.is ∙ regroup L own text off.rest.part ∙ ap (λ (u : List ℕ). u ++ off.rest.part) (sym whole);
    }
  where
    regroup : (a b c d : List ℕ) → (a ++ b) ++ (c ++ d) ≡ (a ++ (b ++ c)) ++ d
    regroup a b c d = append_assoc a b (c ++ d) ∙ ap (λ (u : List ℕ). a ++ u) (sym (append_assoc b c d)) ∙ sym (append_assoc a (b ++ c) d)

-- A walk that was made ready for a step: no line was passed yet.
pub record IsReady (w : StateWave) (was : Walk) : Type 0 where
  pub reading : was.trail.reading ≡ w.walk.trail.reading
  pub kept : was.trail.passed.are_kept ≡ true
  pub none : was.trail.passed.lines.items ≡ []

-- a walk whose passed lines are set back is ready
pub ready_of :
    (w : StateWave) (t : Trail) → w.walk.trail.passed.are_kept ≡ true → t.passed.lines.items ≡ []
    → t ≡ record (w.walk.trail) { passed = record (w.walk.trail.passed) { lines = t.passed.lines } } → IsReady w (record (w.walk) { trail = t })
ready_of w t kept none is = record {
  reading = ap (λ (v : Trail). v.reading) is;
  kept = ap (λ (v : Trail). v.passed.are_kept) is ∙ kept;
  none = none;
}

-- the instance is one of the system
pub within_of :
    (sys : System) (form : Form) (tick : ℕ) (walk : Walk) (kept : Before) (at : EventAt) → IsEventKept sys walk kept at → IsNext sys form tick walk.trail.reading.line.items walk.trail.reading.next
    → at.instance < length sys.paths
within_of sys form tick walk kept at event here =
    subst (λ (i : ℕ). i < length sys.paths) (sym event.instance_is) (subst (IsNext sys form tick walk.trail.reading.line.items) event.is here).0.line.belongs.instance

module _ (types : List BlockType) (sys : System) (form : Form) (steps : ℕ) (w : StateWave) (known r old mid : Option (List ℕ)) (have : HasWaved sys form steps w known r old mid) where
  abbrev xs : List Taken
  xs = have.takings

  abbrev seen : Look
  seen = last_look (opening_look sys) (takings_of xs)

  next_here : (was : Walk) (n : Next) → IsReady w was → n ≡ was.trail.reading.next → IsNext sys form (last_tick 0 (lines_of xs)) w.walk.trail.reading.line.items n
  next_here was n ready is =
      subst (λ (m : Next). IsNext sys form (last_tick 0 (lines_of xs)) w.walk.trail.reading.line.items m) (sym (is ∙ ap (λ v. v.next) ready.reading)) have.next

  -- ---- After a taking

  module _ (was now : Walk) (kept : Before) (done : StateWave) (at : EventAt) (rest : Option (List ℕ)) (ready : IsReady w was) (event : IsEventKept sys w.walk kept at)
      (own : done.walk ≡ now) (numbers : IsPortDump sys done.dump)
      (by : (look after : Look) → IsBefore (sys.kind (path_at sys at.instance)) kept (look.blocks (path_at sys at.instance)) → AreKept sys now.blocks.items after
      → ShowsTaking sys at look after (record w { walk = now; before = kept }) done) where
    line_is : (line : Line) → next.Event line ≡ was.trail.reading.next → line ≡ event.line
    line_is line is = same_line line event.line w.walk.trail.reading.next (is ∙ ap (λ v. v.next) ready.reading) event.is

    taking_goes :
        (limit : ℕ) (judged : Look) (line : Line) (stop : Option Reason) → next.Event line ≡ was.trail.reading.next → WalkTakes types sys form limit judged line stop was now r rest
        → TakingGoes sys form limit judged xs line stop w done r rest
    taking_goes limit judged line stop is goes =
        let same : line ≡ event.line = line_is line is in
        let passed = passed_are goes.lines was.trail.passed now.trail.passed ready.kept ready.none goes.goes.passed in
        let p_is : path_at sys line.instance ≡ path_at sys at.instance = ap (λ (l : Line). path_at sys l.instance) same ∙ ap (path_at sys) (sym event.instance_is) in
        let at_is : goes.taking.first.at ≡ path_at sys at.instance = ap (λ (m : model.Line). m.at) goes.first_is ∙ p_is in
        let taken : Taken = record { taking = goes.taking; lines = goes.lines } in
        record {
          taken = taken;
          first_is = goes.first_is;
          stop_is = goes.stop_is;
          is_taking = goes.is_taking;
          look_after = subst (λ (v : Walk). IsLookOf sys v.blocks.items v.steps.items goes.taking.after) (sym own) goes.look_after;
          kept = ap (λ (v : Walk). v.trail.passed.are_kept) own ∙ goes.goes.passed.same ∙ ready.kept;
          lines_are = goes.lines_are;
          each = goes.goes.each;
          bytes = goes.goes.taken;
          took = goes.goes.took;
          read = ap (λ v. v.line.items ++ goes.goes.taken) (sym ready.reading) ∙ goes.goes.read
              ∙ ap (λ (v : Walk). lines_text form sys (map (line_of sys) goes.lines) ++ v.trail.reading.line.items) (sym own);
          numbered = ap (λ (v : Walk). v.trail.reading.number) own ∙ goes.goes.numbered ∙ ap (λ v. v.number + length goes.lines) ready.reading;
          numbers = numbers;
          shown = λ sent shows.
              (by seen goes.taking.after (event.saved seen have.look.are) goes.look_after.are).shown xs taken sent shows refl at_is
              (ap (λ (m : model.Line). m.key.tick) goes.first_is ∙ ap (λ (l : Line). l.key.tick) same ∙ sym event.tick_is) refl (sym passed)
              (λ t kind. lost_is types (sys.kind goes.taking.first.at) goes.taking _ _ t goes.marked (ap sys.kind at_is ∙ kind)) goes.lines_are;
        }

    later_than : (line : Line) → next.Event line ≡ was.trail.reading.next → last_tick 0 (lines_of xs) ≤ line.key.tick
    later_than line is = (next_here was (next.Event line) ready is).1

    one_more :
        (limit : ℕ) (judged : Look) (line : Line) (stop : Option Reason) (takes : TakingGoes sys form limit judged xs line stop w done r rest) → IsTaking sys most seen takes.taken.taking
        → AreTakings sys most (opening_look sys) (takings_of (xs ++ takes.taken ∷ []))
    one_more limit judged line stop takes is_taking =
        subst (AreTakings sys most (opening_look sys)) (sym (takings-one xs takes.taken)) (chain_more sys most (opening_look sys) (takings_of xs) takes.taken.taking have.chain have.goes_on is_taking)

    -- the trace goes on
    gone_taken :
        (line : Line) → next.Event line ≡ was.trail.reading.next → GoesOn types sys form seen line was now r rest → HasWaved sys form steps done known rest old mid
    gone_taken line is goes =
        let takes = taking_goes most seen line None is goes.goes in
        let chain = one_more most seen line None takes takes.is_taking in
        let later = later_than line is in
        record {
          takings = xs ++ takes.taken ∷ [];
          goes_on = stops_more xs takes.taken have.goes_on takes.stop_is;
          chain = chain;
          look = subst (λ (k : Look). IsLookOf sys done.walk.blocks.items done.walk.steps.items k) (sym (look-one (opening_look sys) xs takes.taken)) takes.look_after;
          kept = takes.kept;
          waved = waved_more sys form steps w done xs line None most seen known r rest old mid have.waved later takes (inl chain);
          next = subst (λ (t : ℕ). IsNext sys form t done.walk.trail.reading.line.items done.walk.trail.reading.next)
              (sym (last_is sys form steps w done xs line None most seen known r rest old mid have.waved later takes))
              (subst (λ (v : Walk). IsNext sys form line.key.tick v.trail.reading.line.items v.trail.reading.next) (sym own) goes.next);
        }

    -- the trace ends, since a reason other than the steps stops the resource
    gone_stopped :
        (line : Line) (end : Outcome) → next.Event line ≡ was.trail.reading.next → IsStopped types sys form seen line end was now r rest → IsLast sys now.trail.reading.line.items end
        → IsAfter line.key.tick end → IsWhole sys form steps done end known rest old mid
    gone_stopped line end is x last after =
        let takes = taking_goes most seen line (Some x.reason) is x.goes in
        let later = later_than line is in
        let all : List Taking = takings_of (xs ++ takes.taken ∷ []) in
        record {
          takings = xs ++ takes.taken ∷ [];
          line = done.walk.trail.reading.line.items;
          waved = waved_more sys form steps w done xs line (Some x.reason) most seen known r rest old mid have.waved later takes
              (inl (one_more most seen line (Some x.reason) takes takes.is_taking));
          ends = subst (λ (e : Outcome). EndsSo sys steps all (ending_of e)) (sym x.is)
              (subst (λ (ts : List Taking). EndsSo sys steps ts (ending_of (stop_at line x.reason))) (sym (takings-one xs takes.taken))
              (ends_stopped sys steps (takings_of xs) have.chain have.goes_on takes.taken.taking line takes.first_is x.reason takes.is_taking takes.stop_is x.other));
          last = subst (λ (v : Walk). IsLast sys v.trail.reading.line.items end) (sym own) last;
          after = subst (λ (t : ℕ). IsAfter t end) (sym (last_is sys form steps w done xs line (Some x.reason) most seen known r rest old mid have.waved later takes)) after;
        }

    -- the trace ends, since the resource has used up its steps
    gone_used :
        (line : Line) (end : Outcome) → next.Event line ≡ was.trail.reading.next → IsUsedUp types sys form steps seen line end was now r rest → IsLast sys now.trail.reading.line.items end
        → IsAfter line.key.tick end → IsWhole sys form steps done end known rest old mid
    unfolding taking_goes
    gone_used line end is x last after =
        let judged : Look = limited steps line.key.tick line.key.resource seen in
        let takes = taking_goes steps judged line x.stop is x.goes in
        let later = later_than line is in
        let all : List Taking = takings_of (xs ++ takes.taken ∷ []) in
        let so = last_limited sys steps (takings_of xs) have.chain have.goes_on takes.taken.taking line takes.first_is x.kept x.within takes.is_taking in
        let limits : AreTaken sys steps (takings_of xs ++ takes.taken.taking ∷ []) = inr (line.key.tick, line.key.resource, so) in
        record {
          takings = xs ++ takes.taken ∷ [];
          line = done.walk.trail.reading.line.items;
          waved = waved_more sys form steps w done xs line x.stop steps judged known r rest old mid have.waved later takes (subst (AreTaken sys steps) (sym (takings-one xs takes.taken)) limits);
          ends = subst (λ (e : Outcome). EndsSo sys steps all (ending_of e)) (sym x.is)
              (subst (λ (ts : List Taking). EndsSo sys steps ts (ending_of (stop_at line Steps))) (sym (takings-one xs takes.taken))
              (ends_used sys steps (takings_of xs) have.chain have.goes_on takes.taken.taking line takes.first_is x.kept x.within takes.is_taking x.out));
          last = subst (λ (v : Walk). IsLast sys v.trail.reading.line.items end) (sym own) last;
          after = subst (λ (t : ℕ). IsAfter t end) (sym (last_is sys form steps w done xs line x.stop steps judged known r rest old mid have.waved later takes)) after;
        }

    gone_ended :
        (line : Line) (end : Outcome) → next.Event line ≡ was.trail.reading.next → (e : EndsAfter types sys form steps seen line end was now r rest)
        → IsStopped types sys form seen line end was now r rest ⊎ IsUsedUp types sys form steps seen line end was now r rest → IsWhole sys form steps done end known rest old mid
    gone_ended line end is e (inl x) = gone_stopped line end is x e.last e.after
    gone_ended line end is e (inr x) = gone_used line end is x e.last e.after

    -- the event was taken, and shown
    pub gone_on :
        (ahead : Ahead) (s : Step) → (s ≡ step.CutOff → ⊥) → StepGoes types sys form steps seen was now ahead r rest s → HasGoneOn sys form steps done known rest old mid s
    gone_on ahead step.Taken whole x = gone_taken x.line x.is x.goes
    gone_on ahead (step.Ended end) whole (inl x) = absurd (no_end event.line end was.trail.reading.next (ap (λ v. v.next) ready.reading ∙ event.is) x.is)
    gone_on ahead (step.Ended end) whole (inr x) = gone_ended x.line end x.is x.goes x.goes.how
    gone_on ahead step.CutOff whole x = absurd (whole refl)

  -- ---- Where nothing was taken

  module _ (was now : Walk) (kept : Before) (ready : IsReady w was) where
    no_event : (line : Line) → next.Event line ≡ was.trail.reading.next → IsNextKept sys w.walk kept None → ⊥
    no_event line is none = none line (sym (is ∙ ap (λ v. v.next) ready.reading))

    -- the next line is the last one
    gone_last : (rest : Option (List ℕ)) (end : Outcome) → EndsHere sys steps seen end was now r rest → IsWhole sys form steps (record w { walk = now; before = kept }) end known rest old mid
    gone_last rest end x =
        let here = next_here was (next.End end) ready x.is in
        record {
          takings = xs;
          line = w.walk.trail.reading.line.items;
          waved = record {
            taken = have.waved.taken;
            lines = have.waved.lines;
            are = have.waved.are;
            numbered = x.number ∙ ap (λ v. v.number) ready.reading ∙ have.waved.numbered;
            read = subst (λ (o : Option (List ℕ)). Consumes known o (lines_text form sys (map (line_of sys) (lines_of xs)) ++ w.walk.trail.reading.line.items)) (sym x.left) have.waved.read;
            numbers = have.waved.numbers;
            sent = have.waved.sent;
            got = have.waved.got;
            shown = have.waved.shown;
          };
          ends = ends_between sys steps (takings_of xs) have.chain have.goes_on end x.may;
          last = here.0;
          after = here.1;
        }

    pub gone_none :
        (rest : Option (List ℕ)) (ahead : Ahead) (s : Step) → IsNextKept sys w.walk kept None → (s ≡ step.CutOff → ⊥) → StepGoes types sys form steps seen was now ahead r rest s
        → HasGoneOn sys form steps (record w { walk = now; before = kept }) known rest old mid s
    gone_none rest ahead step.Taken none whole x = absurd (no_event x.line x.is none)
    gone_none rest ahead (step.Ended end) none whole (inl x) = gone_last rest end x
    gone_none rest ahead (step.Ended end) none whole (inr x) = absurd (no_event x.line x.is none)
    gone_none rest ahead step.CutOff none whole x = absurd (whole refl)

  -- the trace is cut off in the lines after that of an event
  pub gone_cut :
      (was now : Walk) (ahead : Ahead) (rest : Option (List ℕ)) (done : StateWave) → IsReady w was → (x : GoesWith types sys form steps seen was now ahead r rest step.CutOff) → IsPortDump sys done.dump
      → ((sent : List ℕ) → Shows sys xs (sent ++ w.page.text.items) w.dump → ShowsUntaken sys xs (x.line ∷ ahead.rows.items) (sent ++ done.page.text.items) done.dump) → IsCut sys form done known old mid
  gone_cut was now ahead rest done ready x numbers shows =
      let line : Line = x.line in
      let rows : List Line = ahead.rows.items in
      let text : List ℕ = ahead.text.items in
      let here = next_here was (next.Event line) ready x.is in
      let all : List Line = line ∷ rows in
      let L : List ℕ = lines_text form sys (map (line_of sys) (lines_of xs)) in
      let own : w.walk.trail.reading.line.items ++ text ≡ lines_text form sys (map (line_of sys) all) =
      ap (λ (t : List ℕ). t ++ text) here.0.is ∙ ap (λ (t : List ℕ). line_text form sys (line_of sys line) ++ t) x.goes.is in
      let whole : lines_text form sys (map (line_of sys) (lines_of xs ++ all)) ≡ L ++ (w.walk.trail.reading.line.items ++ text) =
      ap (lines_text form sys) (map-append (line_of sys) (lines_of xs) all) ∙ lines-append form sys (map (line_of sys) (lines_of xs)) (map (line_of sys) all)
      ∙ ap (λ (t : List ℕ). L ++ t) (sym own) in
      let at = row_lines sys form line rows text r here.0.line x.goes in
      record {
        takings = xs;
        goes_on = have.goes_on;
        chain = have.chain;
        lines = have.waved.lines;
        before = have.waved.are;
        untaken = all;
        of_one = x.goes.each;
        last = λ none. absurd (not_none line rows none);
        are = record {
          each = All-append (IsLineOf sys) (lines_of xs) all have.waved.are.each (each_of sys line.key.tick all at);
          rise = rise_more sys line.key.tick 0 (lines_of xs) all have.waved.are.rise here.1 at;
        };
        rest = cut_after sys form line rows text (lines_of xs) w.walk.trail.reading.line.items known r x.goes have.waved.read whole;
        numbers = numbers;
        sent = have.waved.sent;
        got = have.waved.got;
        shown = shows have.waved.sent have.waved.shown;
      }

-- ---- What a step needs

module _ (types : List BlockType) (sys : System) (form : Form) (steps : ℕ) (w : StateWave) (look : Look) (was now : Walk) (kept : Before) (at : EventAt) (ahead : Ahead) (r rest : Option (List ℕ)) where
  can_by :
      (limit : ℕ) (judged : Look) (line : Line) (stop : Option Reason) → IsReady w was → IsEventKept sys w.walk kept at → IsPortDump sys w.dump → AreKept sys w.walk.blocks.items look
      → at.instance < length sys.paths → WalkTakes types sys form limit judged line stop was now r rest → CanShow sys at (record w { walk = now; before = kept })
  can_by limit judged line stop ready event numbers are within goes = record {
    dump = numbers;
    within = within;
    look = goes.taking.after;
    kept = goes.look_after.are;
    seen = look.blocks (path_at sys at.instance);
    saved = event.saved look are;
    lines = subst (All (BelongsTo sys)) (sym (passed_are goes.lines was.trail.passed now.trail.passed ready.kept ready.none goes.goes.passed))
        (lines_belong sys line.key.tick goes.lines goes.goes.each);
  }

  -- what was taken can be shown
  pub can_show :
      (s : Step) → IsReady w was → IsEventKept sys w.walk kept at → IsPortDump sys w.dump → AreKept sys w.walk.blocks.items look → at.instance < length sys.paths
      → (s ≡ step.CutOff → ⊥) → StepGoes types sys form steps look was now ahead r rest s → CanShow sys at (record w { walk = now; before = kept })
  can_show step.Taken ready event numbers are within whole x = can_by most look x.line None ready event numbers are within x.goes.goes
  can_show (step.Ended end) ready event numbers are within whole (inl x) =
      absurd (no_end event.line end was.trail.reading.next (ap (λ v. v.next) ready.reading ∙ event.is) x.is)
  can_show (step.Ended end) ready event numbers are within whole (inr x) = ended x.goes.how
    where
      ended : IsStopped types sys form look x.line end was now r rest ⊎ IsUsedUp types sys form steps look x.line end was now r rest → CanShow sys at (record w { walk = now; before = kept })
      ended (inl y) = can_by most look x.line (Some y.reason) ready event numbers are within y.goes
      ended (inr y) = can_by steps (limited steps x.line.key.tick x.line.key.resource look) x.line y.stop ready event numbers are within y.goes
  can_show step.CutOff ready event numbers are within whole x = absurd (whole refl)
