-- Round after round, and what a whole run has written.
use Rattle.fb_sim.proofs.lemmas.Common.{◌≡◌, ℕ, ◌+◌, ◌<◌, List, [], ◌∷◌, ◌++◌, map, length, All, Option, None, Result, Ok, Err, inl, inr, ⊎_elim, refl, sym, ap, ◌∙◌, subst, arith, append_assoc, append-nil, length-append, Vec, length-map, IfSome, Appends, IsErrAnd, Appends-nil, Appends-trans, Inputs, system_of, Ending, AtStop, line_of, machine, last_line, StopMark, BelongsTo, Lists, flat, AreGood, IsPartWritten, bounded, core_of, IsMerged, lists_of, CoreState, AreAll, Begin, FailsRun, HasCome, RunsOn, WritesPartOf, after_bytes, text_of, AtEnd, AtMark, Options, RunError, Refused, Memory, Write, BadOption, Failed, Going, Ended, Stopped, Written}
use Rattle.fb_types.proofs.Common.{IfErr, All-nil, IsTrace, ending_of, IsFloor, trace_text}
use Rattle.std.specs.Global.{Global}
use Rattle.std.proofs.lemmas.List.Sorted.{length_permutation}
use Rattle.fb_types.specs.Cores as model_cores
use Rattle.fb_types.specs.declared.run.Line as run
use Rattle.fb_types.specs.States.{Line}
use Rattle.fb_trace.specs.End as trace
use Rattle.fb_trace.specs.End.{EndsIn}
use Rattle.fb_window.specs.Settling.{IsUnderWay}
use Rattle.fb_sim.specs.Given.{Given}
use Rattle.fb_sim.specs.Serial.{AreTrace, AreWithin, Declares, IsRefusal, Writes, WritesPart}
use Rattle.fb_sim.specs.Rounds.{RoundsWithCounts, FailsAfter, HandsOutAfter, HoldsTo, IsAfter, IsFinished, IsShort, WritesFront, outcome_at}
use Rattle.fb_sim.specs.declared.rounds.all_rounds.Finish.{Finish}
use Rattle.fb_sim.specs.Texts.{AreTextsOf}
use Rattle.fb_sim.specs.declared.rounds.unwritten_lines.UnwrittenLines.{UnwrittenLines}
use Rattle.fb_sim.specs.declared.rounds.job_texts.FinalTexts.{FinalTexts}
use Rattle.fb_sim.specs.declared.progress.Round.{Round}
use Rattle.fb_sim.specs.declared.rounds.tally.Tally.{Tally}
use Rattle.fb_sim.proofs.lemmas.rounds.RoundIs.{all_begin, come_begins}
use Rattle.fb_sim.proofs.lemmas.text.Texts.{bounded-length, lines_text-append, merged_list, part-after, part-before}

-- ---- Rounds

-- the same lines, named otherwise
abbrev come_as : (i : Inputs) (limit horizon : ℕ) (core : CoreState) (ks ls : List Line) → ks ≡ ls → HasCome i limit horizon core ks → HasCome i limit horizon core ls
come_as i limit horizon core ks ls e h = record {
  of = h.of;
  steps = h.steps;
  way = subst (λ (xs : List Line). IsUnderWay i limit horizon h.steps core.resources.items (lists_of core.pending.items) xs) e h.way;
}

-- the lines of a list, as the model has them
abbrev pub lines_in : Inputs → Vec run.Line → List Line
lines_in i all = map (line_of (system_of i)) all.items

-- lists without a line become no list but the empty one
none_of : (lists : Lists) (all : List run.Line) → lists ≡ [] → IsMerged lists all → all ≡ []
none_of lists all none m =
    let long : length all ≡ 0 = length_permutation (flat lists) all m.moved ∙ ap (λ (vs : Lists). length (flat vs)) none in
    empty all long
  where
    empty : (xs : List run.Line) → length xs ≡ 0 → xs ≡ []
    empty [] e = refl
    empty (x ∷ xs) e = absurd (omega (arith, e))

-- a beginning of what begins the simulation begins it
begins_before : (i : Inputs) (limit horizon : ℕ) (ks ls : List Line) → Begin i limit horizon (ks ++ ls) → Begin i limit horizon ks
begins_before i limit horizon ks ls b = record { takings = b.takings; simulation = b.simulation; rest = ls ++ b.rest; split = b.split ∙ append_assoc ks ls b.rest }

module _ (i : Inputs) (good : AreGood i) (limit horizon : ℕ) where
  -- what was written before the unwritten lines
  pub holds_begins : (heap : Global) (core : CoreState) (unwritten : UnwrittenLines) (ls : List Line) → HoldsTo i limit horizon core unwritten ls → Begin i limit horizon ls
  holds_begins heap core unwritten ls h =
      let all = merged_list heap unwritten.lists.items unwritten.count h.of.few h.of.counted in
      begins_before i limit horizon ls (lines_in i all.0) (come_begins i good limit horizon core (ls ++ lines_in i all.0) (h.come all.0 all.1))

  after_begins : (c : model_cores.Core (machine (system_of i) limit)) (ls : List Line) (round : Round) → IsAfter i limit horizon c ls round → Begin i limit horizon ls
  after_begins c ls (Going core) a = come_begins i good limit horizon core ls a.0
  after_begins c ls (Ended core) a = come_begins i good limit horizon core ls a.0
  after_begins c ls (Stopped mark) a = all_begin i good limit horizon ls (AtStop mark.tick mark.resource mark.reason) a.1

module _ (i : Inputs) (o : Options) where
  -- the text of what came before and of what a round gave
  pub joined : (ks ms : List Line) → text_of i o.form ks ++ text_of i o.form ms ≡ text_of i o.form (ks ++ ms)
  joined ks ms = sym (lines_text-append o.form (system_of i) ks ms)

  pub both_got : (old mid new : Option (List ℕ)) (ks ms : List Line) → Appends old mid (text_of i o.form ks) → Appends mid new (text_of i o.form ms) → Appends old new (text_of i o.form (ks ++ ms))
  both_got old mid new ks ms a b = subst (λ (t : List ℕ). Appends old new t) (joined ks ms) (Appends-trans old mid new (text_of i o.form ks) (text_of i o.form ms) a b)

  pub both_counted : (ks ms : List Line) (n m : ℕ) → n ≡ bounded (length (text_of i o.form ks)) → m ≡ bounded (length (text_of i o.form ms)) → bounded (n + m) ≡ bounded (length (text_of i o.form (ks ++ ms)))
  both_counted ks ms n m a b =
      ap (λ z. bounded (z + m)) a ∙ ap (λ z. bounded (bounded (length (text_of i o.form ks)) + z)) b
      ∙ bounded-length (text_of i o.form ks) (text_of i o.form ms) ∙ ap (λ (t : List ℕ). bounded (length t)) (joined ks ms)

  both_lined : (ks ms : List Line) (n m : ℕ) → n ≡ bounded (length ks) → m ≡ length ms → bounded (n + m) ≡ bounded (length (ks ++ ms))
  both_lined ks ms n m a b = rw length-append (omega (arith, a, b))

  -- The writer has got the text of these lines, of this many bytes and lines.
  pub record HasGot (old now : Option (List ℕ)) (w : Written) (out : List Line) : Type 0 where
    pub got : Appends old now (text_of i o.form out)
    pub counted : w.bytes ≡ bounded (length (text_of i o.form out))
    pub lined : w.lines ≡ bounded (length out)

  -- with this many bytes and lines more
  abbrev pub with : Written → (bytes lines : ℕ) → Written
  with n bytes lines = record { bytes = bounded (n.bytes + bytes); lines = bounded (n.lines + lines) }

  got_more : (old mid new : Option (List ℕ)) (n : Written) (bytes lines : ℕ) (ks : List Line) (all : Vec run.Line) → HasGot old mid n ks
      → Appends mid new (text_of i o.form (lines_in i all)) → bytes ≡ bounded (length (text_of i o.form (lines_in i all))) → lines ≡ length all.items
      → HasGot old new (with n bytes lines) (ks ++ lines_in i all)
  got_more old mid new n bytes lines ks all h got counted lined = record {
    got = both_got old mid new ks (lines_in i all) h.got got;
    counted = both_counted ks (lines_in i all) n.bytes bytes h.counted counted;
    lined = both_lined ks (lines_in i all) n.lines lines h.lined (lined ∙ sym (length-map all.items (line_of (system_of i))));
  }

-- From where these lines were written, the core has made some rounds, and the writer has got the text of the next ones, but not of the unwritten ones. No event comes before the tick that has the number of the rounds.
pub record Came (i : Inputs) (o : Options) (ls : List Line) (core : CoreState) (unwritten : UnwrittenLines) (old now : Option (List ℕ)) (w : Written) (rounds : ℕ) : Type 0 where
  pub out : List Line
  pub holds : HoldsTo i o.steps o.horizon core unwritten (ls ++ out)
  pub floor : (all : Vec run.Line) (merged : IsMerged unwritten.lists.items all.items) → IsFloor (machine (system_of i) o.steps) (core_of i o.steps (holds.come all merged).steps) rounds
  pub wrote : HasGot i o old now w out

-- The last lines are written too.
pub record CameLast (i : Inputs) (o : Options) (ls : List Line) (round : Round) (old now : Option (List ℕ)) (w : Written) : Type 0 where
  pub out : List Line
  pub before : model_cores.Core (machine (system_of i) o.steps)
  pub after : IsAfter i o.steps o.horizon before (ls ++ out) round
  pub wrote : HasGot i o old now w out

module _ (i : Inputs) (o : Options) (ls : List Line) where
  -- nothing is unwritten
  pub came_first : (core : CoreState) (unwritten : UnwrittenLines) (old : Option (List ℕ)) → unwritten.lists.items ≡ [] → unwritten.count ≡ 0 → unwritten.texts ≡ None → HasCome i o.steps o.horizon core ls → Came i o ls core unwritten old old (record { bytes = 0; lines = 0 }) 0
  came_first core unwritten old none none_unwritten no_texts h = record {
    out = [];
    holds = record {
      of = record {
        belong = subst (λ (vs : Lists). All (λ p. All (BelongsTo (system_of i)) p.items) vs) (sym none) (All-nil (λ (p : Vec run.Line). All (BelongsTo (system_of i)) p.items));
        counted = none_unwritten ∙ ap (λ (vs : Lists). length (flat vs)) (sym none);
        few = omega (arith, none_unwritten);
        texts = subst (λ (t : Option FinalTexts). IfSome t (AreTextsOf i unwritten.lists.items)) (sym no_texts) tt;
      };
      come = λ all m.
          come_as i o.steps o.horizon core ls ((ls ++ []) ++ lines_in i all)
          (sym (append-nil ls) ∙ sym (append-nil (ls ++ [])) ∙ ap (λ (xs : List run.Line). (ls ++ []) ++ map (line_of (system_of i)) xs) (sym (none_of unwritten.lists.items all.items none m))) h;
    };
    floor = λ all m s k b. absurd (omega arith);
    wrote = record { got = Appends-nil old; counted = omega arith; lined = omega arith };
  }

  module _ (core : CoreState) (unwritten : UnwrittenLines) (old mid new : Option (List ℕ)) (n : Written) (rounds : ℕ) (c : Came i o ls core unwritten old mid n rounds) where
    module _ (round : Round) (next : UnwrittenLines) (m : Tally) (r : RoundsWithCounts i o core unwritten (ls ++ c.out) c.holds mid new (Ok (round, next, m))) where
      wrote_more : HasGot i o old new (with i o n m.bytes m.final_lines) (c.out ++ lines_in i r.0)
      wrote_more = got_more i o old mid new n m.bytes m.final_lines c.out r.0 c.wrote r.2 r.3 r.4

      -- the last ones, after those of the round
      pub came_last : (last : Option (List ℕ)) (w : Written) → HandsOutAfter i o.form next.lists.items new last (record { bytes = bounded (n.bytes + m.bytes); lines = bounded (n.lines + m.final_lines) }) w
          → CameLast i o ls round old last w
      came_last last w h =
          let out = (c.out ++ lines_in i r.0) ++ lines_in i h.2.all in
          record {
            out = out;
            before = core_of i o.steps (c.holds.come r.0 r.1).steps;
            after =
                subst (λ (ks : List Line). IsAfter i o.steps o.horizon (core_of i o.steps (c.holds.come r.0 r.1).steps) ks round)
                (ap (λ (ks : List Line). ks ++ lines_in i h.2.all) (append_assoc ls c.out (lines_in i r.0)) ∙ append_assoc ls (c.out ++ lines_in i r.0) (lines_in i h.2.all))
                (r.6 h.2.all h.2.merged);
            wrote =
                subst (λ (v : Written). HasGot i o old last v out) (sym h.3)
                (got_more i o old new last (with i o n m.bytes m.final_lines) h.0 h.1 (c.out ++ lines_in i r.0) h.2.all wrote_more h.2.got h.2.counted h.2.lined);
          }

      -- memory ran out, or the writer failed, at the last lines
      pub came_last_failed : AreGood i → (last : Option (List ℕ)) (e : RunError) → FailsAfter i o.form next.lists.items new last (bounded (n.bytes + m.bytes)) e → RunsOn i o ls old last (Err e)
      came_last_failed good last e h = subst (λ (f : RunError). RunsOn i o ls old last (Err f)) (sym h.2) (⊎_elim (λ w. no_memory w.0 w.1) (λ p. part p.all p.merged h.0 p.part) h.1)
        where
          no_memory : h.0 ≡ Memory → last ≡ new → RunsOn i o ls old last (Err (after_bytes (bounded (n.bytes + m.bytes)) h.0))
          no_memory is same = subst (λ (f : RunError). RunsOn i o ls old last (Err (after_bytes (bounded (n.bytes + m.bytes)) f))) (sym is) (
            c.out ++ lines_in i r.0,
            subst (λ (ks : List Line). Begin i o.steps o.horizon ks) (append_assoc ls c.out (lines_in i r.0))
                (come_begins i good o.steps o.horizon core ((ls ++ c.out) ++ lines_in i r.0) (c.holds.come r.0 r.1)),
            subst (λ (z : Option (List ℕ)). Appends old z (text_of i o.form (c.out ++ lines_in i r.0))) (sym same) wrote_more.got,
          )

          part : (all : Vec run.Line) → IsMerged next.lists.items all.items → (f : RunError) → WritesPartOf new last (text_of i o.form (lines_in i all)) f
              → RunsOn i o ls old last (Err (after_bytes (bounded (n.bytes + m.bytes)) f))
          part all merged (Write k) p = (
            (c.out ++ lines_in i r.0) ++ lines_in i all,
            subst (λ (ks : List Line). Begin i o.steps o.horizon ks)
                (ap (λ (ks : List Line). ks ++ lines_in i all) (append_assoc ls c.out (lines_in i r.0)) ∙ append_assoc ls (c.out ++ lines_in i r.0) (lines_in i all))
                (after_begins i good o.steps o.horizon (core_of i o.steps (c.holds.come r.0 r.1).steps) (((ls ++ c.out) ++ lines_in i r.0) ++ lines_in i all) round (r.6 all merged)),
            subst (λ (t : List ℕ). IsPartWritten old last t (bounded (bounded (n.bytes + m.bytes) + k))) (joined i o (c.out ++ lines_in i r.0) (lines_in i all))
                (part-after (text_of i o.form (c.out ++ lines_in i r.0)) wrote_more.got wrote_more.counted p),
          )
          part all merged (Refused x) bad = absurd bad
          part all merged Memory bad = absurd bad
          part all merged BadOption bad = absurd bad
          part all merged Failed bad = absurd bad

    module _ (next : CoreState) (later : UnwrittenLines) (m : Tally) (r : RoundsWithCounts i o core unwritten (ls ++ c.out) c.holds mid new (Ok (Going next, later, m))) where
      -- There are no more rounds than ticks.
      pub came_early : Global → rounds < o.horizon
      came_early heap =
          let all = merged_list heap later.lists.items later.count r.5.few r.5.counted in
          let risen = (r.6 all.0 all.1).3 rounds (c.floor r.0 r.1) in
          risen.0

      pub came_more : Came i o ls next later old new (record { bytes = bounded (n.bytes + m.bytes); lines = bounded (n.lines + m.final_lines) }) (rounds + 1)
      came_more = record {
        out = c.out ++ lines_in i r.0;
        holds = record {
          of = r.5;
          come = λ all merged.
              come_as i o.steps o.horizon next (((ls ++ c.out) ++ lines_in i r.0) ++ lines_in i all) ((ls ++ (c.out ++ lines_in i r.0)) ++ lines_in i all)
              (ap (λ (ks : List Line). ks ++ lines_in i all) (append_assoc ls c.out (lines_in i r.0))) (r.6 all merged).0;
        };
        floor = λ all merged. let risen = (r.6 all merged).3 rounds (c.floor r.0 r.1) in risen.1;
        wrote = got_more i o old mid new n m.bytes m.final_lines c.out r.0 c.wrote r.2 r.3 r.4;
      }

    came_short : (m : ℕ) → RoundsWithCounts i o core unwritten (ls ++ c.out) c.holds mid new (Err (Write m)) → RunsOn i o ls old new (Err (Write (bounded (n.bytes + m))))
    came_short m r = (
      c.out ++ r.0,
      subst (λ (ks : List Line). Begin i o.steps o.horizon ks) (append_assoc ls c.out r.0) r.1,
      subst (λ (t : List ℕ). IsPartWritten old new t (bounded (n.bytes + m))) (joined i o c.out r.0) (part-after (text_of i o.form c.out) c.wrote.got c.wrote.counted r.2),
    )

    came_wanting : AreGood i → Global → new ≡ mid → RunsOn i o ls old new (Err Memory)
    came_wanting good heap same = (
      c.out,
      holds_begins i good o.steps o.horizon heap core unwritten (ls ++ c.out) c.holds,
      subst (λ (z : Option (List ℕ)). Appends old z (text_of i o.form c.out)) (sym same) c.wrote.got,
    )

    -- the options of a round may name other workers
    pub came_failed : AreGood i → Global → (w : ℕ) (e : RunError) → RoundsWithCounts i (record { horizon = o.horizon; steps = o.steps; workers = w; form = o.form }) core unwritten (ls ++ c.out) c.holds mid new (Err e) → RunsOn i o ls old new (Err (after_bytes n.bytes e))
    came_failed good heap w (Write m) r = came_short m r
    came_failed good heap w Memory same = came_wanting good heap same
    came_failed good heap w (Refused r) bad = absurd bad
    came_failed good heap w BadOption bad = absurd bad
    came_failed good heap w Failed bad = absurd bad

  -- the last round of a run
  pub ran_to_end : (core : CoreState) (old new : Option (List ℕ)) (w : Written) → CameLast i o ls (Ended core) old new w → RunsOn i o ls old new (Ok (AtEnd core, w))
  ran_to_end core old new w l = (l.out, l.after, l.wrote.got, l.wrote.counted, l.wrote.lined)

  pub ran_to_mark : (mark : StopMark) (old new : Option (List ℕ)) (w : Written) → CameLast i o ls (Stopped mark) old new w → RunsOn i o ls old new (Ok (AtMark mark, w))
  ran_to_mark mark old new w l = (l.out, l.after, l.wrote.got, l.wrote.counted, l.wrote.lined)

-- the error that `?` passes on, where nothing is known of another answer
pub err_passed : {A : Type 0} (P : Result A RunError → Type 0) (r : Result A RunError) (e : RunError) → IsErrAnd r (λ f. f ≡ e) → P (Err e) → P r
err_passed P (Ok x) e bad h = absurd bad
err_passed P (Err f) e is h = subst (λ (x : RunError). P (Err x)) (sym is) h

-- ---- A whole run

-- the error that `?` passes on
pub err_is : {A : Type 0} (P : RunError → Type 0) (r : Result A RunError) (e : RunError) → IsErrAnd r (λ f. f ≡ e) → P e → IfErr r P
err_is P (Ok x) e bad h = tt
err_is P (Err f) e is h = subst P (sym is) h

module _ (given : Given) (o : Options) (within : AreWithin o) (old : Option (List ℕ)) where
  -- nothing was run
  pub fails_open : (e : RunError) → IsRefusal given e → FailsRun given o old old e
  fails_open (Refused r) h = (within, h, refl)
  fails_open Memory h = inl (within, refl)
  fails_open (Write n) h = absurd h
  fails_open BadOption h = absurd h
  fails_open Failed h = absurd h

  pub fails_wanting : FailsRun given o old old Memory
  fails_wanting = inl (within, refl)

-- a run that was stopped, was so by one of its resources
pub stop_counted : (i : Inputs) (o : Options) (finish : Finish) (n : Written) (old mid : Option (List ℕ)) → RunsOn i o [] old mid (Ok (finish, n)) → EndsIn (system_of i) (outcome_at o.horizon finish)
stop_counted i o (AtEnd core) n old mid ran = tt
stop_counted i o (AtMark mark) n old mid ran = ran.1.0

-- whichever way it has ended, these are all lines
all_of : (i : Inputs) (o : Options) (finish : Finish) (out : List Line) → IsFinished i o.steps o.horizon finish out → AreAll i o.steps o.horizon out (trace.ending_of (outcome_at o.horizon finish))
all_of i o (AtEnd core) out finished = finished.2
all_of i o (AtMark mark) out finished = finished.1

module _ (given : Given) (o : Options) (i : Inputs) (within : AreWithin o) (declares : Declares given i) where
  -- all lines, and then the last line
  pub trace_of : (out : List Line) (end : Ending) → AreAll i o.steps o.horizon out end → AreTrace given o (text_of i o.form out ++ last_line (system_of i) end) end
  trace_of out end all = record {
    within = within;
    inputs = i;
    declared = declares;
    trace = record {
      takings = all.takings;
      simulation = all.simulation;
      ending = all.ending;
      text = ap (λ (ls : List Line). trace_text o.form (system_of i) ls end) all.lines;
    };
  }

  pub record Fronts (out : List Line) : Type 0 where
    pub rest : List ℕ
    pub end : Ending
    pub trace : IsTrace i o.form o.horizon o.steps (text_of i o.form out ++ rest) end

  -- the trace of what is declared
  abbrev trace_so : (bytes : List ℕ) (end : Ending) → IsTrace i o.form o.horizon o.steps bytes end → AreTrace given o bytes end
  trace_so bytes end t = record { within = within; inputs = i; declared = declares; trace = t }

  -- what begins the lines begins the trace
  pub front_of : (out : List Line) → Begin i o.steps o.horizon out → Fronts out
  front_of out b =
      let sys = system_of i in
      let end = ending_of o.horizon b.takings in
      record {
        rest = text_of i o.form b.rest ++ last_line sys end;
        end = end;
        trace = record {
          takings = b.takings;
          simulation = b.simulation;
          ending = refl;
          text =
              sym (append_assoc (text_of i o.form out) (text_of i o.form b.rest) (last_line sys end))
              ∙ ap (λ (t : List ℕ). t ++ last_line sys end) (sym (lines_text-append o.form sys out b.rest))
              ∙ ap (λ (ls : List Line). trace_text o.form sys ls end) (sym b.split);
        };
      }

  pub fails_short : (old new : Option (List ℕ)) (n : ℕ) (out : List Line) → Begin i o.steps o.horizon out → IsPartWritten old new (text_of i o.form out) n → WritesPart given o old new n
  fails_short old new n out b p =
      let f = front_of out b in
      record { bytes = text_of i o.form out ++ f.rest; end = f.end; got = part-before f.rest p; trace = trace_so (text_of i o.form out ++ f.rest) f.end f.trace }

  pub fails_front : (old new : Option (List ℕ)) (out : List Line) → Begin i o.steps o.horizon out → Appends old new (text_of i o.form out) → WritesFront given o old new
  fails_front old new out b got =
      let f = front_of out b in
      record { bytes = text_of i o.form out; rest = f.rest; end = f.end; got = got; trace = trace_so (text_of i o.form out ++ f.rest) f.end f.trace; lines = out; whole = refl }

  -- what is written of a last line, after all lines
  pub writes_all : (old mid new : Option (List ℕ)) (out : List Line) (end : Ending) → AreAll i o.steps o.horizon out end → Appends old mid (text_of i o.form out)
      → Appends mid new (last_line (system_of i) end) → Writes given o old new end
  writes_all old mid new out end all a b = record {
    bytes = text_of i o.form out ++ last_line (system_of i) end;
    got = Appends-trans old mid new (text_of i o.form out) (last_line (system_of i) end) a b;
    trace = trace_of out end all;
  }

  pub fails_last : (old mid new : Option (List ℕ)) (out : List Line) (end : Ending) (n m : ℕ) → AreAll i o.steps o.horizon out end → Appends old mid (text_of i o.form out) → n ≡ bounded (length (text_of i o.form out))
      → IsPartWritten mid new (last_line (system_of i) end) m → WritesPart given o old new (bounded (n + m))
  fails_last old mid new out end n m all a counted p = record {
    bytes = text_of i o.form out ++ last_line (system_of i) end;
    end = end;
    got = part-after (text_of i o.form out) a counted p;
    trace = trace_of out end all;
  }

  -- a run whose rounds failed
  pub fails_on : (old new : Option (List ℕ)) (e : RunError) → RunsOn i o [] old new (Err e) → FailsRun given o old new e
  fails_on old new (Write n) r = fails_short old new n r.0 r.1 r.2
  fails_on old new Memory r = inr (fails_front old new r.0 r.1 r.2)
  fails_on old new (Refused r) bad = absurd bad
  fails_on old new BadOption bad = absurd bad
  fails_on old new Failed bad = absurd bad

  -- a writer that failed at the last line
  pub fails_at : (n : ℕ) (old mid new : Option (List ℕ)) (end : Ending) (out : List Line) → AreAll i o.steps o.horizon out end → Appends old mid (text_of i o.form out)
      → n ≡ bounded (length (text_of i o.form out)) → (e : RunError) → IsShort mid new (last_line (system_of i) end) n e → FailsRun given o old new e
  fails_at n old mid new end out all got counted (Write w) s = subst (λ (z : ℕ). WritesPart given o old new z) (sym s.2) (fails_last old mid new out end n s.0 all got counted s.1)
  fails_at n old mid new end out all got counted (Refused r) s = absurd s
  fails_at n old mid new end out all got counted Memory s = absurd s
  fails_at n old mid new end out all got counted BadOption s = absurd s
  fails_at n old mid new end out all got counted Failed s = absurd s

  module _ (finish : Finish) (n : Written) (old mid new : Option (List ℕ)) (ran : RunsOn i o [] old mid (Ok (finish, n))) where
    abbrev end : Ending
    end = trace.ending_of (outcome_at o.horizon finish)

    -- with the last line after it
    pub ended : Appends mid new (last_line (system_of i) (trace.ending_of (outcome_at o.horizon finish))) → Writes given o old new (trace.ending_of (outcome_at o.horizon finish))
    ended last = writes_all old mid new ran.0 end (all_of i o finish ran.0 ran.1) ran.2 last

    pub ended_short : (e : RunError) → IsShort mid new (last_line (system_of i) (trace.ending_of (outcome_at o.horizon finish))) n.bytes e → FailsRun given o old new e
    ended_short e s = fails_at n.bytes old mid new end ran.0 (all_of i o finish ran.0 ran.1) ran.2 ran.3 e s
