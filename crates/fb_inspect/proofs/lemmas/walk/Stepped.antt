-- One step of a walk, by one event or to the end of the trace.
use Rattle.fb_inspect.proofs.lemmas.Common.{◌≡◌, ◌<◌, ◌≤◌, ◌⊎◌, ℕ, ◌+◌, ◌-◌, ◌==◌, Bool, true, false, List, [], ◌∷◌, ◌++◌, length, map, Option, Some, None, refl, sym, ◌∙◌, ap, subst, inl, inr, append_assoc, append-nil, arith, All, IfSome, if◌then◌else◌, slice_get, slice_set, list_any, Consumes, false_from_ne_true, nat_tests, map-append, All-append, All-cons, line_of, path_at, AtStop, System, line_text, lines_text, Key, BlockType, Form, Line, StopMark, Reason, Steps, Divide, Range, ending_of, Outcome, Stop, last_tick, IsLast, IsLineOf, IsTextOf, Marks, left_of, AreTaken, AreTakings, EndsBySteps, EndsSo, KeepSteps, KeepsLimit, NoneStops, RunsOut, last_look, limited, stop_of, Selection, is_loss, IsNext, IsNextLine, IsTaking, Left, Look, Taking, left_at, most, opening_look, Goes, IsLineAt, shown_text, AreCutOff, HasCovered, IsCutAfter, IsLookOf, IsSevered, MayEnd, WalkTakes, Ahead, Remembered, Next, TickSteps, Trail, Step, Ended, Walk}
use Rattle.std.specs.Io.KnownBytes.{prepend_known}
use Rattle.std.proofs.Math.ListN.{length-set}
use Rattle.fb_types.specs.States as model
use Rattle.fb_trace.specs.declared.last.Outcome.TheVariants.{End}
use Rattle.fb_wave.specs.Copying.{IsAfter}
use Rattle.fb_net.proofs.lemmas.blocks.OtherBlocks.{get_set_other, get_set_same}
use Rattle.fb_inspect.specs.Inspections.{AreLimited, EndsByStop, all_text}
use Rattle.fb_inspect.specs.Selections.{is_shown_at}
use Rattle.fb_inspect.specs.Markings.{TakingMarks}
use Rattle.fb_inspect.specs.walk.Looks.{taking_text}
use Rattle.fb_inspect.specs.walk.Stepping.{EndsAfter, IsStopped, IsUsedUp, LineGoes, stop_at}
use Rattle.fb_inspect.specs.walk.Walking.{AreMarked, HasAdvanced, HasLimited, IsComplete, IsGone, IsReadOn, may_show, shows}
use Rattle.fb_inspect.specs.declared.filter.Shown.{Shown}
use Rattle.fb_inspect.specs.declared.walk.reading.Next.TheVariants as next
use Rattle.fb_inspect.specs.declared.walk.Step.TheVariants.{Taken, CutOff}
use Rattle.fb_inspect.proofs.lemmas.walk.WalkedTakings.{chain_more, each_of, gone_more, last_is, look_more, more_marked, none_more, nothing, rise_more, shown_if, shows_is, stop_by, stop_more}
use Rattle.fb_inspect.proofs.lemmas.lines.Moving.{lines-append, next_line, not_none}
use Rattle.fb_inspect.proofs.lemmas.walk.Walked.{one_or_other}

-- ---- Limits

-- the steps that are left in a tick, of the resource that has the limit in it
left_here : (n t left least : ℕ) → left_at n t (record { tick = Some t; left = left; least = least }) ≡ left
left_here n t left least =
    let same : (t == t) ≡ true = grind (arith, nat_tests) in
    ap (λ (b : Bool). if b then left else n) same

left_with : (steps t r : ℕ) (look : Look) → (limited steps t r look).steps r ≡ record { tick = Some t; left = (left_at most t (look.steps r) + steps) - most; least = (look.steps r).least }
left_with steps t r look =
    let same : (r == r) ≡ true = grind (arith, nat_tests) in
    ap (λ (b : Bool). if b then record { tick = Some t; left = (left_at most t (look.steps r) + steps) - most; least = (look.steps r).least } else look.steps r) same

-- what a resource has left is limited
pub look_limited :
    (sys : System) (steps : ℕ) (key : Key) (look : Look) (blocks : List Remembered) (old new : List TickSteps) → IsLookOf sys blocks old look → HasLimited steps key old new
    → IsLookOf sys blocks new (limited steps key.tick key.resource look)
look_limited sys steps key look blocks old new is has = record {
  are = record { all = is.are.all; each = is.are.each };
  counts = ap length has.steps_are ∙ length-set old key.resource has.after ∙ is.counts;
  lefts = λ r s at.
      let found : slice_get (slice_set old key.resource has.after) r ≡ Some s = ap (λ (l : List TickSteps). slice_get l r) (sym has.steps_are) ∙ at in
      one_or_other r key.resource ((limited steps key.tick key.resource look).steps r ≡ left_of s)
      (λ same.
      let own : s ≡ has.after =
      same_some s has.after
      (sym (subst (λ (i : ℕ). slice_get (slice_set old key.resource has.after) i ≡ Some s) same found) ∙ get_set_same old key.resource has.before has.after has.stood) in
      subst (λ (i : ℕ). (limited steps key.tick key.resource look).steps i ≡ left_of s) (sym same)
      (left_with steps key.tick key.resource look
      ∙ ap (λ (l : Left). record { tick = Some key.tick; left = (left_at most key.tick l + steps) - most; least = l.least }) (is.lefts key.resource has.before has.stood)
      ∙ sym has.left_is
      ∙ ap left_of (sym own)))
      (λ differ.
      let theirs : (r == key.resource) ≡ false = false_from_ne_true (r == key.resource) (λ e. differ (grind (arith, nat_tests))) in
      ap (λ (b : Bool). if b then record { tick = Some key.tick; left = (left_at most key.tick (look.steps key.resource) + steps) - most; least = (look.steps key.resource).least } else look.steps r) theirs
      ∙ is.lefts r s (sym (get_set_other old key.resource r has.after differ) ∙ found));
}
  where
    same_some : (a b : TickSteps) → Some a ≡ Some b → a ≡ b
    same_some a b e = cc

-- ---- How a trace ends

module _ (sys : System) (steps : ℕ) (xs : List Taking) (chain : AreTakings sys most (opening_look sys) xs) (goes_on : NoneStops xs) where
  abbrev last_seen : Look
  last_seen = last_look (opening_look sys) xs

  out_of_steps : (t r : ℕ) → left_at most t (last_seen.steps r) + steps ≡ most → KeepSteps sys steps last_seen → EndsBySteps sys steps t r xs
  out_of_steps t r used kept = record {
    limited_so = record { before = xs; last = []; parts = sym (append-nil xs); chain = chain; goes_on = goes_on; one = tt; kept = kept; within = omega (arith, used); judged = tt };
    runs_out = ap (left_at steps t) (left_with steps t r last_seen) ∙ left_here steps t ((left_at most t (last_seen.steps r) + steps) - most) (last_seen.steps r).least ∙ omega (arith, used);
  }

  by_reason : (m : StopMark) (r : Reason) → MayEnd sys steps last_seen (AtStop m.tick m.resource r) → EndsSo sys steps xs (AtStop m.tick m.resource r)
  by_reason m Steps may = out_of_steps m.tick m.resource may.0 may.1
  by_reason m Divide may = absurd may
  by_reason m Range may = absurd may

  -- where no taking stopped its resource
  pub ends_between : (e : Outcome) → MayEnd sys steps last_seen (ending_of e) → EndsSo sys steps xs (ending_of e)
  ends_between (End h) may = (chain, goes_on)
  ends_between (Stop m) may = by_reason m m.reason may

  module _ (x : Taking) (line : Line) (first_is : x.first ≡ line_of sys line) where
    pub key_is : x.first.key ≡ line.key
    key_is = ap (λ (m : model.Line). m.key) first_is

    by_stop :
        (r : Reason) → (r ≡ Steps → ⊥) → EndsByStop sys (xs ++ x ∷ []) (AtStop line.key.tick line.key.resource r) → EndsSo sys steps (xs ++ x ∷ []) (AtStop line.key.tick line.key.resource r)
    by_stop Steps other ends = absurd (other refl)
    by_stop Divide other ends = ends
    by_stop Range other ends = ends

    -- where the last one did, for a reason other than the steps
    pub ends_stopped : (r : Reason) → IsTaking sys most last_seen x → x.stop ≡ Some r → (r ≡ Steps → ⊥) → EndsSo sys steps (xs ++ x ∷ []) (AtStop line.key.tick line.key.resource r)
    ends_stopped r is_taking stops other =
        let ended : stop_of (xs ++ x ∷ []) ≡ Some (AtStop line.key.tick line.key.resource r) =
        stop_more xs x ∙ ap (stop_by x) stops ∙ ap (λ (k : Key). Some (AtStop k.tick k.resource r)) key_is in
        by_stop r other (chain_more sys most (opening_look sys) xs x chain goes_on is_taking, ended)

    -- the last one has what its resource has left there of these steps
    unfoldable pub last_limited :
        KeepSteps sys steps last_seen → KeepsLimit steps line.key.tick line.key.resource last_seen → IsTaking sys steps (limited steps line.key.tick line.key.resource last_seen) x
        → AreLimited sys steps line.key.tick line.key.resource (xs ++ x ∷ [])
    last_limited kept within is_taking = record {
      before = xs;
      last = x ∷ [];
      parts = refl;
      chain = chain;
      goes_on = goes_on;
      one = (ap (λ (k : Key). k.tick) key_is, ap (λ (k : Key). k.resource) key_is);
      kept = kept;
      within = within;
      judged = (is_taking, nothing x.stop, tt);
    }

    -- the last one runs out of these steps, so the run ends there
    pub ends_used :
        KeepSteps sys steps last_seen → KeepsLimit steps line.key.tick line.key.resource last_seen → IsTaking sys steps (limited steps line.key.tick line.key.resource last_seen) x
        → RunsOut steps line.key.tick line.key.resource (limited steps line.key.tick line.key.resource last_seen) (x ∷ [])
        → EndsSo sys steps (xs ++ x ∷ []) (AtStop line.key.tick line.key.resource Steps)
    unfolding last_limited
    ends_used kept within is_taking out = record { limited_so = last_limited kept within is_taking; runs_out = out }

-- ---- Takings

module _ (types : List BlockType) (sys : System) (form : Form) (limit : ℕ) (look : Look) (line : Line) (stop : Option Reason) where
  -- in a text that was read ahead, before what is left to read
  pub taking_joined :
      (old new : Walk) (s t u v : List ℕ) (remaining : Option (List ℕ)) → WalkTakes types sys form limit look line stop old new (Some s) (Some t) → u ≡ s → v ≡ t
      → WalkTakes types sys form limit look line stop old new (prepend_known u remaining) (prepend_known v remaining)
  taking_joined old new s t u v remaining goes same rest = record {
    taking = goes.taking;
    first_is = goes.first_is;
    stop_is = goes.stop_is;
    is_taking = goes.is_taking;
    look_after = goes.look_after;
    shown_are = goes.shown_are;
    lines = goes.lines;
    lines_are = goes.lines_are;
    goes = record {
      each = goes.goes.each;
      kept = goes.goes.kept;
      taken = goes.goes.taken;
      took = joined remaining;
      read = goes.goes.read;
      text = goes.goes.text;
      ported = goes.goes.ported;
      passed = goes.goes.passed;
      numbered = goes.goes.numbered;
    };
    marked = goes.marked;
  }
    where
      joined : (o : Option (List ℕ)) → Consumes (prepend_known u o) (prepend_known v o) goes.goes.taken
      joined None = tt
      joined (Some x) =
          ap (λ (w : List ℕ). w ++ x) (same ∙ goes.goes.took ∙ ap (λ (w : List ℕ). goes.goes.taken ++ w) (sym rest)) ∙ append_assoc goes.goes.taken v x

  -- from what was not read ahead yet
  unfoldable pub taking_reread :
      (old new : Walk) (r s rest : Option (List ℕ)) → ((bytes : List ℕ) → Consumes s rest bytes → Consumes r rest bytes) → WalkTakes types sys form limit look line stop old new s rest
      → WalkTakes types sys form limit look line stop old new r rest
  taking_reread old new r s rest back goes = record {
    taking = goes.taking;
    first_is = goes.first_is;
    stop_is = goes.stop_is;
    is_taking = goes.is_taking;
    look_after = goes.look_after;
    shown_are = goes.shown_are;
    lines = goes.lines;
    lines_are = goes.lines_are;
    goes = record {
      each = goes.goes.each;
      kept = goes.goes.kept;
      taken = goes.goes.taken;
      took = back goes.goes.taken goes.goes.took;
      read = goes.goes.read;
      text = goes.goes.text;
      ported = goes.goes.ported;
      passed = goes.goes.passed;
      numbered = goes.goes.numbered;
    };
    marked = goes.marked;
  }

  -- whatever the next line was
  unfoldable pub taking_next :
      (old : Walk) (bad : Next) (new : Walk) (remaining rest : Option (List ℕ))
      → WalkTakes types sys form limit look line stop (record old { trail = record (old.trail) { reading = record (old.trail.reading) { next = bad } } }) new remaining rest
      → WalkTakes types sys form limit look line stop old new remaining rest
  taking_next old bad new remaining rest goes = record {
    taking = goes.taking;
    first_is = goes.first_is;
    stop_is = goes.stop_is;
    is_taking = goes.is_taking;
    look_after = goes.look_after;
    shown_are = goes.shown_are;
    lines = goes.lines;
    lines_are = goes.lines_are;
    goes = record {
      each = goes.goes.each;
      kept = goes.goes.kept;
      taken = goes.goes.taken;
      took = goes.goes.took;
      read = goes.goes.read;
      text = goes.goes.text;
      ported = goes.goes.ported;
      passed = goes.goes.passed;
      numbered = goes.goes.numbered;
    };
    marked = goes.marked;
  }

  -- from a walk with the same text, marks and instances that are shown
  pub taking_from :
      (old mid new : Walk) (remaining rest : Option (List ℕ)) → mid.shown ≡ old.shown → mid.trail ≡ old.trail → WalkTakes types sys form limit look line stop mid new remaining rest
      → WalkTakes types sys form limit look line stop old new remaining rest
  taking_from old mid new remaining rest shown trail goes = record {
    taking = goes.taking;
    first_is = goes.first_is;
    stop_is = goes.stop_is;
    is_taking = goes.is_taking;
    look_after = goes.look_after;
    shown_are = goes.shown_are ∙ shown;
    lines = goes.lines;
    lines_are = goes.lines_are;
    goes = subst (λ (t : Trail). Goes sys form line.key.tick goes.lines (shown_text (shows old.shown line (list_any is_loss goes.taking.pieces)) (taking_text form sys goes.taking)) (record t { is_shown = may_show old.shown line }) new.trail remaining rest) trail
        (subst (λ (v : Shown). Goes sys form line.key.tick goes.lines (shown_text (shows v line (list_any is_loss goes.taking.pieces)) (taking_text form sys goes.taking)) (record (mid.trail) { is_shown = may_show v line }) new.trail remaining rest) shown
        goes.goes);
    marked = subst (λ (t : Trail). TakingMarks types sys goes.taking t.marks.charts new.trail.marks.charts) trail goes.marked;
  }

-- ---- One step on

-- nothing more is known of what was read ahead than of what is left to read
pub refilled : (o n r : Option (List ℕ)) (text taken : List ℕ) → Consumes o n text → Consumes (prepend_known text n) r taken → Consumes o r taken
refilled None n r text taken filled took = tt
refilled (Some x) None r text taken filled took = absurd filled
refilled (Some x) (Some y) r text taken filled took = subst (λ (z : List ℕ). Consumes (Some z) r taken) (sym filled) took

pub none_ahead : (text : List ℕ) (o : Option (List ℕ)) → text ≡ [] → prepend_known text o ≡ o
none_ahead text None none = refl
none_ahead text (Some x) none = ap (λ (t : List ℕ). Some (t ++ x)) none

pub known_refilled : (known o n : Option (List ℕ)) (text bytes : List ℕ) → Consumes known o bytes → Consumes o n text → Consumes known (prepend_known text n) bytes
known_refilled None o n text bytes read filled = tt
known_refilled (Some x) None n text bytes read filled = absurd read
known_refilled (Some x) (Some y) None text bytes read filled = absurd filled
known_refilled (Some x) (Some y) (Some z) text bytes read filled = read ∙ ap (λ (t : List ℕ). bytes ++ t) filled

-- the lines after the next one were read ahead, or some were before
pub filled_on : (text new : List ℕ) (o n : Option (List ℕ)) → text ≡ [] → Consumes o n new → IsReadOn (prepend_known text o) (prepend_known new n)
filled_on text new o n none filled = record {
  after = λ known bytes read. known_refilled known o n new bytes (subst (λ (p : Option (List ℕ)). Consumes known p bytes) (none_ahead text o none) read) filled;
  before = λ rest bytes read. subst (λ (p : Option (List ℕ)). Consumes p rest bytes) (sym (none_ahead text o none)) (refilled o n rest new bytes filled read);
}

pub same_on : (o : Option (List ℕ)) → IsReadOn o o
same_on o = record { after = λ known bytes read. read; before = λ rest bytes read. read }

module _ (types : List BlockType) (first : Marks) (sys : System) (form : Form) (what : Selection) (steps : ℕ) where
  -- what is left to go through may be read ahead
  pub reread_on :
      (w : Walk) (known r s old mid : Option (List ℕ)) → ((bytes : List ℕ) → Consumes known r bytes → Consumes known s bytes)
      → (covered : HasCovered types first sys form what steps w known r old mid) (t : ℕ) → last_tick 0 covered.gone.gone.lines ≤ t
      → (c : HasCovered types first sys form what steps w known s old mid) × (last_tick 0 c.gone.gone.lines ≤ t)
  reread_on w known r s old mid on covered t later =
      let gone = covered.gone.gone in (
        record {
          gone = record {
            takings = covered.gone.takings;
            goes_on = covered.gone.goes_on;
            chain = covered.gone.chain;
            look = covered.gone.look;
            gone = record {
              taken = gone.taken;
              shown = gone.shown;
              lines = gone.lines;
              lines_are = gone.lines_are;
              are = gone.are;
              numbered = gone.numbered;
              read = on _ gone.read;
              sent = gone.sent;
              got = gone.got;
              text = gone.text;
            };
            next = covered.gone.next;
          };
          marked = covered.marked;
        },
        later,
      )

  -- what is known of a walk does not depend on what the next line is
  pub bad_on :
      (w : Walk) (bad : Next) (known r old mid : Option (List ℕ)) → bad ≡ next.Bad → (covered : HasCovered types first sys form what steps w known r old mid) (t : ℕ)
      → last_tick 0 covered.gone.gone.lines ≤ t
      → (c : HasCovered types first sys form what steps (record w { trail = record (w.trail) { reading = record (w.trail.reading) { next = bad } } }) known r old mid)
      × (last_tick 0 c.gone.gone.lines ≤ t)
  bad_on w bad known r old mid is covered t later =
      let gone = covered.gone.gone in (
        record {
          gone = record {
            takings = covered.gone.takings;
            goes_on = covered.gone.goes_on;
            chain = covered.gone.chain;
            look = covered.gone.look;
            gone = record {
              taken = gone.taken;
              shown = gone.shown;
              lines = gone.lines;
              lines_are = gone.lines_are;
              are = gone.are;
              numbered = gone.numbered;
              read = gone.read;
              sent = gone.sent;
              got = gone.got;
              text = gone.text;
            };
            next = subst (λ (n : Next). IsNextLine sys form (last_tick 0 gone.lines) w.trail.reading.line.items n) (sym is) tt;
          };
          marked = covered.marked;
        },
        later,
      )

  pub complete_bad :
      (w : Walk) (bad : Next) (end : Outcome) (known r old mid : Option (List ℕ)) → IsComplete types first sys form what steps w end known r old mid
      → IsComplete types first sys form what steps (record w { trail = record (w.trail) { reading = record (w.trail.reading) { next = bad } } }) end known r old mid
  complete_bad w bad end known r old mid complete =
      let gone = complete.gone in
      record {
        takings = complete.takings;
        gone = record {
          taken = gone.taken;
          shown = gone.shown;
          lines = gone.lines;
          lines_are = gone.lines_are;
          are = gone.are;
          numbered = gone.numbered;
          read = gone.read;
          sent = gone.sent;
          got = gone.got;
          text = gone.text;
        };
        ends = complete.ends;
        last = complete.last;
        after = complete.after;
        marked = complete.marked;
      }

  module _ (w : Walk) (input remaining old mid : Option (List ℕ)) (covered : HasCovered types first sys form what steps w input remaining old mid) where
    abbrev seen_last : Look
    seen_last = last_look (opening_look sys) covered.gone.takings

    -- the last line comes where no taking stopped its resource
    pub ended_here :
        (end : Outcome) → IsNext sys form (last_tick 0 covered.gone.gone.lines) w.trail.reading.line.items (next.End end) → MayEnd sys steps seen_last (ending_of end)
        → IsComplete types first sys form what steps w end input remaining old mid
    ended_here end here may = record {
      takings = covered.gone.takings;
      gone = covered.gone.gone;
      ends = ends_between sys steps covered.gone.takings covered.gone.chain covered.gone.goes_on end may;
      last = here.0;
      after = here.1;
      marked = covered.marked;
    }

    module _ (line : Line) (later : last_tick 0 covered.gone.gone.lines ≤ line.key.tick) (is : IsTextOf sys form line w.trail.reading.line.items) where
      within : line.instance < length sys.paths
      within = is.line.belongs.instance

      module _ (done : Walk) (stop : Option Reason) (rest : Option (List ℕ)) (goes : WalkTakes types sys form most seen_last line stop w done remaining rest) where
        chained : AreTakings sys most (opening_look sys) (covered.gone.takings ++ goes.taking ∷ [])
        chained = chain_more sys most (opening_look sys) covered.gone.takings goes.taking covered.gone.chain covered.gone.goes_on goes.is_taking

        more : IsGone sys form what steps done (covered.gone.takings ++ goes.taking ∷ []) input rest old mid
        more = gone_more sys form what steps types w done covered.gone.takings line stop input remaining rest old mid covered.gone.gone later within most seen_last goes (inl chained)

        tick_is : last_tick 0 (covered.gone.gone.lines ++ goes.lines) ≡ line.key.tick
        tick_is = last_is sys form what steps types w done covered.gone.takings line stop input remaining rest old mid covered.gone.gone later within most seen_last goes (inl chained)

        marks_are : AreMarked types sys (covered.gone.takings ++ goes.taking ∷ []) (covered.gone.gone.lines ++ goes.lines) first done.trail.marks
        marks_are = more_marked sys form what steps types w done covered.gone.takings line stop input remaining rest old mid covered.gone.gone later within most seen_last goes (inl chained) first covered.marked

        -- one more event is taken
        taken_on : stop ≡ None → IsNext sys form line.key.tick done.trail.reading.line.items done.trail.reading.next → HasCovered types first sys form what steps done input rest old mid
        unfolding more gone_more
        taken_on goes_on next_is = record {
          gone = record {
            takings = covered.gone.takings ++ goes.taking ∷ [];
            goes_on = none_more covered.gone.takings goes.taking covered.gone.goes_on (goes.stop_is ∙ goes_on);
            chain = chained;
            look = subst (λ (k : Look). IsLookOf sys done.blocks.items done.steps.items k) (sym (look_more (opening_look sys) covered.gone.takings goes.taking)) goes.look_after;
            gone = more;
            next = subst (λ (t : ℕ). IsNextLine sys form t done.trail.reading.line.items done.trail.reading.next) (sym tick_is) (next_line sys form line.key.tick done.trail.reading.line.items done.trail.reading.next next_is);
          };
          marked = marks_are;
        }

        -- one more event is taken, and a reason other than the steps stops its resource
        stopped_on :
            (r : Reason) → stop ≡ Some r → (r ≡ Steps → ⊥) → IsLast sys done.trail.reading.line.items (stop_at line r) → IsAfter line.key.tick (stop_at line r)
            → IsComplete types first sys form what steps done (stop_at line r) input rest old mid
        unfolding more gone_more
        stopped_on r stops other last after =
            let it = covered.gone.takings ++ goes.taking ∷ [] in
            record {
              takings = it;
              gone = more;
              ends = ends_stopped sys steps covered.gone.takings covered.gone.chain covered.gone.goes_on goes.taking line goes.first_is r goes.is_taking (goes.stop_is ∙ stops) other;
              last = last;
              after = subst (λ (t : ℕ). IsAfter t (stop_at line r)) (sym tick_is) after;
              marked = marks_are;
            }

      -- one more event is taken, and its resource runs out of these steps
      ran_out_on :
          (done : Walk) (stop : Option Reason) (rest : Option (List ℕ)) (goes : WalkTakes types sys form steps (limited steps line.key.tick line.key.resource seen_last) line stop w done remaining rest)
          → KeepSteps sys steps seen_last → KeepsLimit steps line.key.tick line.key.resource seen_last → RunsOut steps line.key.tick line.key.resource (limited steps line.key.tick line.key.resource seen_last) (goes.taking ∷ [])
          → IsLast sys done.trail.reading.line.items (stop_at line Steps) → IsAfter line.key.tick (stop_at line Steps) → IsComplete types first sys form what steps done (stop_at line Steps) input rest old mid
      unfolding gone_more
      ran_out_on done stop rest goes kept within_limit out last after =
          let so = last_limited sys steps covered.gone.takings covered.gone.chain covered.gone.goes_on goes.taking line goes.first_is kept within_limit goes.is_taking in
          let taken : AreTaken sys steps (covered.gone.takings ++ goes.taking ∷ []) = inr (line.key.tick, line.key.resource, so) in
          let look : Look = limited steps line.key.tick line.key.resource seen_last in
          record {
            takings = covered.gone.takings ++ goes.taking ∷ [];
            gone = gone_more sys form what steps types w done covered.gone.takings line stop input remaining rest old mid covered.gone.gone later within steps look goes taken;
            ends = ends_used sys steps covered.gone.takings covered.gone.chain covered.gone.goes_on goes.taking line goes.first_is kept within_limit goes.is_taking out;
            last = last;
            after = subst (λ (t : ℕ). IsAfter t (stop_at line Steps))
                (sym (last_is sys form what steps types w done covered.gone.takings line stop input remaining rest old mid covered.gone.gone later within steps look goes taken)) after;
            marked = more_marked sys form what steps types w done covered.gone.takings line stop input remaining rest old mid covered.gone.gone later within steps look goes taken first covered.marked;
          }

      -- one more event is taken, and the trace ends after it
      ended_on :
          (done : Walk) (end : Outcome) (rest : Option (List ℕ)) → EndsAfter types sys form steps seen_last line end w done remaining rest
          → IsComplete types first sys form what steps done end input rest old mid
      ended_on done end rest ends = by ends.how
        where
          by :
              IsStopped types sys form seen_last line end w done remaining rest ⊎ IsUsedUp types sys form steps seen_last line end w done remaining rest
              → IsComplete types first sys form what steps done end input rest old mid
          by (inl x) =
              subst (λ (e : Outcome). IsLast sys done.trail.reading.line.items e → IsAfter line.key.tick e → IsComplete types first sys form what steps done e input rest old mid) (sym x.is)
              (stopped_on done (Some x.reason) rest x.goes x.reason refl x.other) ends.last ends.after
          by (inr x) =
              subst (λ (e : Outcome). IsLast sys done.trail.reading.line.items e → IsAfter line.key.tick e → IsComplete types first sys form what steps done e input rest old mid) (sym x.is)
              (ran_out_on done x.stop rest x.goes x.kept x.within x.out) ends.last ends.after

      -- the step that a walk makes with the line, where the trace is not cut off
      pub advanced_on :
          (done : Walk) (ahead : Ahead) (rest : Option (List ℕ)) (step : Step) → (step ≡ CutOff → ⊥) → LineGoes types sys form steps seen_last line w done ahead remaining rest step
          → HasAdvanced types first sys form what steps done input rest old mid step
      advanced_on done ahead rest Taken whole goes = taken_on done None rest goes.goes refl goes.next
      advanced_on done ahead rest (Ended end) whole goes = ended_on done end rest goes
      advanced_on done ahead rest CutOff whole goes = absurd (whole refl)

      -- the trace is cut off in the lines after it
      pub severed_on :
          (done : Walk) (rows : List Line) (text : List ℕ) → AreCutOff sys form line rows text remaining → done.trail.marks ≡ w.trail.marks
          → done.trail.page.text.items ≡ w.trail.page.text.items ++ shown_text (shows w.shown line false) (w.trail.reading.line.items ++ text)
          → IsSevered types first sys form what done input old mid
      severed_on done rows text off marks_same put =
          let gone = covered.gone.gone in
          let all : List Line = line ∷ rows in
          let L : List ℕ = lines_text form sys (map (line_of sys) gone.lines) in
          let flag : Bool = shows w.shown line false in
          let own : w.trail.reading.line.items ++ text ≡ lines_text form sys (map (line_of sys) all) =
          ap (λ (t : List ℕ). t ++ text) is.is ∙ ap (λ (t : List ℕ). line_text form sys (line_of sys line) ++ t) off.is in
          let whole : lines_text form sys (map (line_of sys) (gone.lines ++ all)) ≡ L ++ (w.trail.reading.line.items ++ text) =
          ap (lines_text form sys) (map-append (line_of sys) gone.lines all) ∙ lines-append form sys (map (line_of sys) gone.lines) (map (line_of sys) all)
          ∙ ap (λ (t : List ℕ). L ++ t) (sym own) in
          record {
            takings = covered.gone.takings;
            goes_on = covered.gone.goes_on;
            chain = covered.gone.chain;
            lines = gone.lines;
            lines_are = gone.lines_are;
            untaken = all;
            of_one = off.each;
            last = λ none. absurd (not_none line rows none);
            are = record {
              each = All-append (IsLineOf sys) gone.lines all gone.are.each (each_of sys line.key.tick all (here off));
              rise = rise_more sys line.key.tick 0 gone.lines all gone.are.rise later (here off);
            };
            rest = after input remaining off gone.read whole;
            sent = gone.sent;
            got = gone.got;
            text = ap (λ (t : List ℕ). gone.sent ++ t) put
                ∙ sym (append_assoc gone.sent w.trail.page.text.items (shown_text flag (w.trail.reading.line.items ++ text)))
                ∙ ap (λ (t : List ℕ). t ++ shown_text flag (w.trail.reading.line.items ++ text)) gone.text
                ∙ ap (λ (t : List ℕ). all_text form sys what covered.gone.takings ++ shown_text flag t) own
                ∙ ap (λ (t : List ℕ). all_text form sys what covered.gone.takings ++ t)
                (shown_if (is_shown_at what (path_at sys line.instance) line.key.tick []) flag (lines_text form sys (map (line_of sys) all)) (shows_is sys what w.shown line [] gone.shown within));
            marked = subst (AreMarked types sys covered.gone.takings gone.lines first) (sym marks_same) covered.marked;
          }
        where
          here : (off : AreCutOff sys form line rows text remaining) → All (IsLineAt sys line.key.tick) (line ∷ rows)
          here off =
              All-cons (IsLineAt sys line.key.tick) line rows (record { line = is.line; tick_is = refl })
              (λ n d h. record { line = (off.each n d h).line; tick_is = (off.each n d h).tick })

          regroup : (a b c d : List ℕ) → (a ++ b) ++ (c ++ d) ≡ (a ++ (b ++ c)) ++ d
          regroup a b c d = append_assoc a b (c ++ d) ∙ ap (λ (u : List ℕ). a ++ u) (sym (append_assoc b c d)) ∙ sym (append_assoc a (b ++ c) d)

          after :
              (known o : Option (List ℕ)) (off : AreCutOff sys form line rows text o) → Consumes known o (lines_text form sys (map (line_of sys) covered.gone.gone.lines) ++ w.trail.reading.line.items)
              → lines_text form sys (map (line_of sys) (covered.gone.gone.lines ++ (line ∷ rows))) ≡ lines_text form sys (map (line_of sys) covered.gone.gone.lines) ++ (w.trail.reading.line.items ++ text)
              → IfSome known (λ t. IsCutAfter t (lines_text form sys (map (line_of sys) (covered.gone.gone.lines ++ (line ∷ rows)))))
          after None o off read whole = tt
          after (Some t) None off read whole = absurd read
          after (Some t) (Some s) off read whole = record {
            part = off.rest.part;
            unended = off.rest.unended;
            is = read ∙ ap (λ (u : List ℕ). (lines_text form sys (map (line_of sys) covered.gone.gone.lines) ++ w.trail.reading.line.items) ++ u) off.rest.is
                ∙ regroup (lines_text form sys (map (line_of sys) covered.gone.gone.lines)) w.trail.reading.line.items text off.rest.part
                ∙ ap (λ (u : List ℕ). u ++ off.rest.part) (sym whole);
          }
