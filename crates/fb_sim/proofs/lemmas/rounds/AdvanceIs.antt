-- What advancing a simulation has written, and what it answers.
use Rattle.fb_sim.proofs.lemmas.Common.{◌≡◌, ℕ, ◌^◌, ◌<◌, ◌≤◌, inl, List, ◌++◌, Option, Result, Ok, Err, refl, sym, ap, ◌∙◌, subst, arith, append_assoc, append-nil, IsErrAnd, Appends, Appends-trans, system_of, Ending, AtHorizon, AtStop, lines_text, last_line, StopMark, IsPartWritten, CoreState, AreAll, Begin, RunsOn, text_of, SimulationView, AtEnd, AtMark, Options, Outcome, End, Stop, RunError, Refused, Memory, Write, BadOption, Failed, Written}
use Rattle.fb_types.proofs.Common.{ending_of}
use Rattle.fb_types.specs.States.{Line}
use Rattle.fb_sim.specs.Advances.{Advances, AdvancesBy, AdvancesOn, Finishes, FinishesBy, FinishesOn, HasAdvanced, IsNext, RunsTo, stop_line}
use Rattle.fb_sim.specs.Rounds.{IsShort}
use Rattle.fb_sim.specs.declared.state.Stage.{Stage}
use Rattle.fb_sim.specs.declared.state.Stage.TheVariants as going
use Rattle.fb_sim.proofs.lemmas.text.Texts.{lines_text-append, part-after, part-before}

module _ (s : SimulationView) (to : ℕ) (ls out : List Line) (was : AreAll s.inputs s.steps s.to ls (AtHorizon s.to)) where
  -- all lines to the later tick
  abbrev pub next_all : (end : Ending) → AreAll s.inputs s.steps to (ls ++ out) end → IsNext s to (text_of s.inputs s.form out ++ stop_line (system_of s.inputs) end) end
  next_all end all = record {
    before = was.takings;
    takings = all.takings;
    was = was.simulation;
    simulation = all.simulation;
    rest = out;
    split = sym all.lines ∙ ap (λ z. z ++ out) was.lines;
    ending = all.ending;
    text = refl;
  }

  pub record Fronts : Type 0 where
    pub rest : List ℕ
    pub end : Ending
    pub next : IsNext s to (text_of s.inputs s.form out ++ rest) end

  -- the first lines on the way
  pub next_begin : Begin s.inputs s.steps to (ls ++ out) → Fronts
  next_begin b =
      let sys = system_of s.inputs in
      let end = ending_of to b.takings in
      record {
        rest = lines_text s.form sys b.rest ++ stop_line sys end;
        end = end;
        next = record {
          before = was.takings;
          takings = b.takings;
          was = was.simulation;
          simulation = b.simulation;
          rest = out ++ b.rest;
          split = b.split ∙ append_assoc ls out b.rest ∙ ap (λ z. z ++ (out ++ b.rest)) was.lines;
          ending = refl;
          text =
              sym (append_assoc (lines_text s.form sys out) (lines_text s.form sys b.rest) (stop_line sys end))
              ∙ ap (λ (t : List ℕ). t ++ stop_line sys end) (sym (lines_text-append s.form sys out b.rest));
        };
      }

-- ---- On to a later tick

-- the options of the run to there
abbrev pub onward : SimulationView → ℕ → Options
onward s to = record { horizon = to; steps = s.steps; workers = s.workers; form = s.form }

module _ (s : SimulationView) (to : ℕ) (later : s.to < to) (ls : List Line) (was : AreAll s.inputs s.steps s.to ls (AtHorizon s.to)) (old : Option (List ℕ)) where
  pub advanced_end : (new : Option (List ℕ)) (core : CoreState) (n : Written) → RunsOn s.inputs (onward s to) ls old new (Ok (AtEnd core, n))
      → RunsTo s (record s { to = to; stage = going.Running }) to old new (Ok (End to, n))
  advanced_end new core n r = (
    record {
      later = later;
      bytes = text_of s.inputs s.form r.0 ++ stop_line (system_of s.inputs) (AtHorizon to);
      is_next = next_all s to ls r.0 was (AtHorizon to) r.1.2;
      got = subst (λ (t : List ℕ). Appends old new t) (sym (append-nil (text_of s.inputs s.form r.0))) r.2;
      now = refl;
    },
    r.3,
    r.4,
  )

  pub advanced_stop : (mid new : Option (List ℕ)) (mark : StopMark) (n : Written) → RunsOn s.inputs (onward s to) ls old mid (Ok (AtMark mark, n)) → Appends mid new (last_line (system_of s.inputs) (AtStop mark.tick mark.resource mark.reason))
      → RunsTo s (record s { to = to; stage = going.Stopped mark }) to old new (Ok (Stop mark, n))
  advanced_stop mid new mark n r got =
      let end = AtStop mark.tick mark.resource mark.reason in (
        record {
          later = later;
          bytes = text_of s.inputs s.form r.0 ++ last_line (system_of s.inputs) end;
          is_next = next_all s to ls r.0 was end r.1.1;
          got = Appends-trans old mid new (text_of s.inputs s.form r.0) (last_line (system_of s.inputs) end) r.2 got;
          now = refl;
        },
        r.3,
        r.4,
      )

  -- the last line of a stop can't be written
  pub short_stop : (mid new : Option (List ℕ)) (mark : StopMark) (n : Written) → RunsOn s.inputs (onward s to) ls old mid (Ok (AtMark mark, n)) → (e : RunError)
      → IsShort mid new (last_line (system_of s.inputs) (AtStop mark.tick mark.resource mark.reason)) n.bytes e → AdvancesOn s (record s { stage = going.Failed }) to old new (Err e)
  short_stop mid new mark n r (Write k) p =
      let end = AtStop mark.tick mark.resource mark.reason in
      record {
        later = later;
        bytes = text_of s.inputs s.form r.0 ++ last_line (system_of s.inputs) end;
        end = end;
        is_next = next_all s to ls r.0 was end r.1.1;
        got = subst (λ (z : ℕ). IsPartWritten old new (text_of s.inputs s.form r.0 ++ last_line (system_of s.inputs) end) z) (sym p.2) (part-after (text_of s.inputs s.form r.0) r.2 r.3 p.1);
        now = refl;
      }
  short_stop mid new mark n r (Refused x) bad = absurd bad
  short_stop mid new mark n r Memory bad = absurd bad
  short_stop mid new mark n r BadOption bad = absurd bad
  short_stop mid new mark n r Failed bad = absurd bad

  -- a round finds no memory, or can't write
  pub broken_on : (new : Option (List ℕ)) (e : RunError) → RunsOn s.inputs (onward s to) ls old new (Err e) → AdvancesOn s (record s { stage = going.Failed }) to old new (Err e)
  broken_on new Memory r =
      let f = next_begin s to ls r.0 was r.1 in
      record { later = later; bytes = text_of s.inputs s.form r.0; rest = f.rest; end = f.end; is_next = f.next; got = r.2; lines = r.0; whole = refl; now = refl }
  broken_on new (Write n) r =
      let f = next_begin s to ls r.0 was r.1 in
      record { later = later; bytes = text_of s.inputs s.form r.0 ++ f.rest; end = f.end; is_next = f.next; got = part-before f.rest r.2; now = refl }
  broken_on new (Refused x) bad = absurd bad
  broken_on new BadOption bad = absurd bad
  broken_on new Failed bad = absurd bad

-- ---- Ending

pub short_end : (s : SimulationView) (old new : Option (List ℕ)) (e : RunError) → IsShort old new (last_line (system_of s.inputs) (AtHorizon s.to)) 0 e → FinishesOn s old new (Err e)
short_end s old new (Write k) p = record {
  count = p.1.count;
  short = p.1.short;
  got = p.1.got;
  counted = let c = p.1.counted in let d = p.2 in omega arith;
}
short_end s old new (Refused x) bad = absurd bad
short_end s old new Memory bad = absurd bad
short_end s old new BadOption bad = absurd bad
short_end s old new Failed bad = absurd bad

-- ---- In the functions

-- the error that `?` passes on
passed_on : (s t : SimulationView) (to : ℕ) (old new : Option (List ℕ)) (e : RunError) → AdvancesOn s t to old new (Err e) → (r : Result (Outcome × Written) RunError) → IsErrAnd r (λ f. f ≡ e) → RunsTo s t to old new r
passed_on s t to old new e h (Ok x) bad = absurd bad
passed_on s t to old new e h (Err f) is = subst (λ (x : RunError). AdvancesOn s t to old new (Err x)) (sym is) h

-- A call that fails leaves the simulation as it was when its core had been taken out.
pub fails_on : (v s : SimulationView) → v ≡ s → s.stage ≡ going.Failed → (to : ℕ) (old new : Option (List ℕ)) (e : RunError) → AdvancesOn (record v { stage = going.Running }) (record v { stage = going.Failed }) to old new (Err e)
    → (r : Result (Outcome × Written) RunError) → IsErrAnd r (λ f. f ≡ e) → RunsTo (record s { stage = going.Running }) s to old new r
fails_on v s same failed to old new e h r is =
    let t : record s { stage = going.Failed } ≡ s = ap (λ (p : Stage). record s { stage = p }) (sym failed) in
    let a : AdvancesOn (record s { stage = going.Running }) (record s { stage = going.Failed }) to old new (Err e) =
    subst (λ (x : SimulationView). AdvancesOn (record x { stage = going.Running }) (record x { stage = going.Failed }) to old new (Err e)) same h in
    passed_on (record s { stage = going.Running }) s to old new e (subst (λ (x : SimulationView). AdvancesOn (record s { stage = going.Running }) x to old new (Err e)) t a) r is

pub goes_on : (v s t : SimulationView) → v ≡ s → (to : ℕ) (old new : Option (List ℕ)) (o : Outcome) (w : Written) → RunsTo (record v { stage = going.Running }) t to old new (Ok (o, w)) → RunsTo (record s { stage = going.Running }) t to old new (Ok (o, w))
goes_on v s t same to old new o w h = subst (λ (x : SimulationView). RunsTo (record x { stage = going.Running }) t to old new (Ok (o, w))) same h

-- the error of the last line
pub unfinished : (v s : SimulationView) → v ≡ s → v.stage ≡ going.Running → (old new : Option (List ℕ)) (e : RunError) → IsShort old new (last_line (system_of v.inputs) (AtHorizon v.to)) 0 e
    → (r : Result Outcome RunError) → IsErrAnd r (λ f. f ≡ e) → Finishes s old new r
unfinished v s same running old new e h r is =
    subst (λ (x : SimulationView). Finishes x old new r) same (subst (λ (p : Stage). FinishesBy p v old new r) (sym running) (given r is))
  where
    given : (q : Result Outcome RunError) → IsErrAnd q (λ f. f ≡ e) → FinishesOn v old new q
    given (Ok x) bad = absurd bad
    given (Err f) is = subst (λ (x : RunError). FinishesOn v old new (Err x)) (sym is) (short_end v old new e h)

-- A later tick.
pub gets_there : (s t : SimulationView) → s.stage ≡ going.Running → (to : ℕ) → to ≤ 10 ^ 12 → (old new : Option (List ℕ)) (o : Outcome) → HasAdvanced s t to old new o → Advances s t to old new (Ok o)
gets_there s t running to early old new o h = record {
  bad = λ late. absurd (omega (arith, early, late));
  by = λ _. subst (λ (p : Stage). AdvancesBy p s t to old new (Ok o)) (sym running) (inl h);
}

-- A later tick that it does not come to.
pub fails_there : (s t : SimulationView) → s.stage ≡ going.Running → (to : ℕ) → to ≤ 10 ^ 12 → (old new : Option (List ℕ)) (e : RunError) → RunsTo s t to old new (Err e)
    → Advances s t to old new (Err e)
fails_there s t running to early old new e h = record {
  bad = λ late. absurd (omega (arith, early, late));
  by = λ _. subst (λ (p : Stage). AdvancesBy p s t to old new (Err e)) (sym running) h;
}
