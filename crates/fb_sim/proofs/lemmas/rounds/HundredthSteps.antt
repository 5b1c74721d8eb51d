-- How a run comes from hundredth to hundredth, and what it has written then.
use Rattle.fb_sim.proofs.lemmas.Common.{◌≡◌, inl, inr, ℕ, suc, ◌+◌, ◌<◌, ◌≤◌, Bool, true, false, refl, sym, ap, ap₂, ◌∙◌, subst, arith, List, [], ◌∷◌, ◌++◌, length, take, drop, take-append-drop, append_assoc, append-nil, length-append, Option, Result, Ok, Err, Appends, Appends-nil, Appends-trans, Inputs, system_of, stimuli_of, Ending, AtHorizon, AtStop, lines_text, last_line, Reason, StopMark, AreGood, IsPartWritten, bounded, SimulationView, Options, Outcome, End, Stop, RunError, Refused, Memory, Write, BadOption, Failed, Came, Comes, GoesOn, hundredth, view_at}
use Rattle.fb_types.proofs.Common.{◌*◌, ◌/◌, length-drop, IsTrace, Taken, IsSimulation, ending_of, lines_of}
use Rattle.std.proofs.Common.{mul-suc, mul-zero}
use Rattle.fb_laws.proofs.lemmas.soundness.Accepting.{sound_of}
use Rattle.fb_laws.proofs.lemmas.existence.Existence.{there_is}
use Rattle.fb_types.proofs.lemmas.determined.SimulationLaws.{one-simulation}
use Rattle.fb_sim_machine.proofs.lemmas.JoinedRuns.{lines_of-append}
use Rattle.fb_sim.specs.Advances.{IsNext, stop_line}
use Rattle.fb_sim.proofs.lemmas.text.Texts.{lines_text-append, part-after, part-before}
use Rattle.fb_sim.specs.Reports.{HasBroken, HasCome, HasReported, Hears, IsAsFar, report_text}
use Rattle.fb_sim.specs.declared.with_progress.ReportTally.{ReportTally}
use Rattle.fb_sim_machine.proofs.lemmas.Simulations.{horizon_is, later_begins, stop_is_early, stopped_later, stops}

module _ (i : Inputs) (o : Options) where
  abbrev pub come_first : HasCome i o 0 []
  come_first = record {
    takings = [];
    simulation = record { chain = tt; below = λ k d b. absurd (omega arith); rests = λ j b. absurd (omega arith) };
    goes_on = refl;
    text_is = refl;
  }

  -- the same, with the tick named otherwise
  abbrev pub come_at : (from to : ℕ) (text : List ℕ) → from ≡ to → HasCome i o from text → HasCome i o to text
  come_at from to text e h = record {
    takings = h.takings;
    simulation = subst (λ (t : ℕ). IsSimulation (system_of i) (stimuli_of i) t o.steps h.takings) e h.simulation;
    goes_on = subst (λ (t : ℕ). ending_of t h.takings ≡ AtHorizon t) e h.goes_on;
    text_is = h.text_is;
  }

  module _ (from to : ℕ) (text bytes : List ℕ) (come : HasCome i o from text) where
    same_takings : (end : Ending) (n : IsNext (view_at i o from) to bytes end) → come.takings ≡ n.before
    same_takings end n = one-simulation (system_of i) (stimuli_of i) from o.steps come.takings n.before come.simulation n.was

    -- the lines that were written and those that come next
    pub next_lines : (end : Ending) (n : IsNext (view_at i o from) to bytes end) → length (lines_of n.takings) ≡ length (lines_of come.takings) + length n.rest
    next_lines end n =
        ap length n.split ∙ length-append (lines_of n.before) n.rest ∙ ap (λ (ts : List Taken). length (lines_of ts) + length n.rest) (sym (same_takings end n))

    -- what was written and what comes next
    pub next_text : (end : Ending) (n : IsNext (view_at i o from) to bytes end) → text ++ bytes ≡ lines_text o.form (system_of i) (lines_of n.takings) ++ stop_line (system_of i) end
    next_text end n =
        let sys = system_of i in
        let same : come.takings ≡ n.before = same_takings end n in
        let first : text ≡ lines_text o.form sys (lines_of n.before) = come.text_is ∙ ap (λ ts. lines_text o.form sys (lines_of ts)) same in
        let both : lines_text o.form sys (lines_of n.takings) ≡ lines_text o.form sys (lines_of n.before) ++ lines_text o.form sys n.rest =
        ap (lines_text o.form sys) n.split ∙ lines_text-append o.form sys (lines_of n.before) n.rest in
        ap₂ (λ (a b : List ℕ). a ++ b) first n.text
        ∙ sym (append_assoc (lines_text o.form sys (lines_of n.before)) (lines_text o.form sys n.rest) (stop_line sys end))
        ∙ ap (λ (a : List ℕ). a ++ stop_line sys end) (sym both)

    abbrev pub come_next : IsNext (view_at i o from) to bytes (AtHorizon to) → HasCome i o to (text ++ bytes)
    come_next n = record {
      takings = n.takings;
      simulation = n.simulation;
      goes_on = sym n.ending;
      text_is = next_text (AtHorizon to) n ∙ append-nil (lines_text o.form (system_of i) (lines_of n.takings));
    }

    pub come_stop : (horizon tick r : ℕ) (reason : Reason) → to ≤ horizon → IsNext (view_at i o from) to bytes (AtStop tick r reason) → IsTrace i o.form horizon o.steps (text ++ bytes) (AtStop tick r reason)
    come_stop horizon tick r reason early n = record {
      takings = n.takings;
      simulation = stopped_later (system_of i) (stimuli_of i) o.steps to horizon tick r reason early n.takings (sym n.ending) n.simulation;
      ending = sym (stops to horizon tick r reason n.takings (sym n.ending));
      text = next_text (AtStop tick r reason) n;
    }

  pub come_end : (horizon : ℕ) (text : List ℕ) → HasCome i o horizon text → IsTrace i o.form horizon o.steps (text ++ last_line (system_of i) (AtHorizon horizon)) (AtHorizon horizon)
  come_end horizon text come = record {
    takings = come.takings;
    simulation = come.simulation;
    ending = sym come.goes_on;
    text = ap (λ (t : List ℕ). t ++ last_line (system_of i) (AtHorizon horizon)) come.text_is;
  }

  -- A text that begins the trace of the run to a horizon.
  pub record Fronts (horizon : ℕ) (text : List ℕ) : Type 0 where
    pub rest : List ℕ
    pub end : Ending
    pub trace : IsTrace i o.form horizon o.steps (text ++ rest) end

  pub come_front : AreGood i → (to horizon : ℕ) (text : List ℕ) → to ≤ horizon → HasCome i o to text → Fronts horizon text
  come_front good to horizon text early come =
      let sys = system_of i in
      let x = there_is sys (sound_of i good) horizon o.steps (stimuli_of i) in
      let more = later_begins sys o.steps (stimuli_of i) to horizon early come.takings x.0 come.simulation x.1 in
      let end = ending_of horizon x.0 in
      let rest = lines_text o.form sys (lines_of more.0) in
      let lines : lines_text o.form sys (lines_of x.0) ≡ text ++ rest =
      ap (λ ts. lines_text o.form sys (lines_of ts)) more.1
      ∙ ap (lines_text o.form sys) (lines_of-append come.takings more.0)
      ∙ lines_text-append o.form sys (lines_of come.takings) (lines_of more.0)
      ∙ ap (λ (t : List ℕ). t ++ rest) (sym come.text_is) in
      record {
        rest = rest ++ last_line sys end;
        end = end;
        trace = record {
          takings = x.0;
          simulation = x.1;
          ending = refl;
          text = sym (append_assoc text rest (last_line sys end)) ∙ ap (λ (t : List ℕ). t ++ last_line sys end) (sym lines);
        };
      }

  -- what must be written on the way begins the trace
  pub come_part : AreGood i → (from to horizon : ℕ) (text bytes : List ℕ) → to ≤ horizon → HasCome i o from text → (end : Ending) → IsNext (view_at i o from) to bytes end → Fronts horizon (text ++ bytes)
  come_part good from to horizon text bytes early come end n = go end n.ending n
    where
      at_stop : (tick r : ℕ) (reason : Reason) → IsNext (view_at i o from) to bytes (AtStop tick r reason) → Fronts horizon (text ++ bytes)
      at_stop tick r reason m =
          let t = come_stop from to text bytes come horizon tick r reason early m in
          record {
            rest = [];
            end = AtStop tick r reason;
            trace = subst (λ (x : List ℕ). IsTrace i o.form horizon o.steps x (AtStop tick r reason)) (sym (append-nil (text ++ bytes))) t;
          }

      at_horizon : (h : ℕ) → h ≡ to → IsNext (view_at i o from) to bytes (AtHorizon h) → Fronts horizon (text ++ bytes)
      at_horizon h is m =
          come_front good to horizon (text ++ bytes) early (come_next from to text bytes come (subst (λ (k : ℕ). IsNext (view_at i o from) to bytes (AtHorizon k)) is m))

      go : (e : Ending) → e ≡ ending_of to n.takings → IsNext (view_at i o from) to bytes e → Fronts horizon (text ++ bytes)
      go (AtHorizon h) is m = at_horizon h (horizon_is to n.takings h is) m
      go (AtStop tick r reason) is m = at_stop tick r reason m

-- ---- From hundredth to hundredth

-- the same, with the horizon named otherwise
abbrev pub next_at : (s : SimulationView) (to : ℕ) (bytes : List ℕ) (h k : ℕ) → h ≡ k → IsNext s to bytes (AtHorizon h) → IsNext s to bytes (AtHorizon k)
next_at s to bytes h k e n = record {
  before = n.before;
  takings = n.takings;
  was = n.was;
  simulation = n.simulation;
  rest = n.rest;
  split = n.split;
  ending = subst (λ (j : ℕ). AtHorizon j ≡ ending_of to n.takings) e n.ending;
  text = n.text;
}

-- a simulation as its own inputs say
pub at_own : (s : SimulationView) (i : Inputs) (o : Options) (to : ℕ) → s ≡ view_at i o to → s ≡ view_at s.inputs o to
at_own s i o to at = at ∙ ap (λ (j : Inputs). view_at j o to) (sym (ap (λ (z : SimulationView). z.inputs) at))

-- the result of a step of the loop, as the inputs are called before the loop
pub comes_so :
    (s : SimulationView) (i : Inputs) (o : Options) (to : ℕ) → s ≡ view_at i o to → (t : SimulationView) (first out new quiet err reported : Option (List ℕ)) (k l : ℕ) (n m : ReportTally) (r : Result Outcome RunError)
    → ((f : Option (List ℕ)) → (q : Option (List ℕ)) → Came s.inputs o f out q err k n → Comes s.inputs o t f new q reported l m r) → Came i o first out quiet err k n → Comes i o t first new quiet reported l m r
comes_so s i o to at t first out new quiet err reported k l n m r comes came =
    let e : s.inputs ≡ i = ap (λ (z : SimulationView). z.inputs) at in
    subst (λ (j : Inputs). Comes j o t first new quiet reported l m r) e (comes first quiet (subst (λ (j : Inputs). Came j o first out quiet err k n) (sym e) came))

pub hundredth_first : (h : ℕ) → hundredth h 0 ≡ 0
hundredth_first h = let e : h * 0 ≡ 0 = mul-zero h in ap (λ n. n / 100) e

pub hundredth_last : (h : ℕ) → hundredth h 100 ≡ h
hundredth_last h = omega arith

after_none : (x y : List ℕ) → x ++ y ≡ [] → y ≡ []
after_none [] y e = e
after_none (k ∷ x) y e = cc

-- where there is nothing to hear
pub heard_none : (err : Option (List ℕ)) → Hears true err err []
heard_none err = record { front = []; rest = []; parts = refl; got = Appends-nil err; all = λ h. refl; none = λ e. refl }

pub came_first : (i : Inputs) (o : Options) (out err : Option (List ℕ)) → Came i o out out err err 0 (record { bytes = 0; lines = 0; is_heard = true })
came_first i o out err = record {
  text = [];
  come = come_at i o 0 (hundredth o.horizon 0) [] (sym (hundredth_first o.horizon)) (come_first i o);
  got = Appends-nil out;
  bytes_are = omega arith;
  lines_are = refl;
  reports = [];
  reported = refl;
  hears = heard_none err;
}

-- more is heard where all was heard so far
heard_more : (reported : Bool) (old mid new : Option (List ℕ)) (a b : List ℕ) → (b ≡ [] → ⊥) → Hears true old mid a → Hears reported mid new b → Hears reported old new (a ++ b)
heard_more reported old mid new a b some h k =
    let e : h.rest ≡ [] = h.all refl in
    let whole : a ≡ h.front = h.parts ∙ ap (λ (t : List ℕ). h.front ++ t) e ∙ append-nil h.front in
    record {
      front = a ++ k.front;
      rest = k.rest;
      parts = ap (λ (t : List ℕ). a ++ t) k.parts ∙ sym (append_assoc a k.front k.rest);
      got = Appends-trans old mid new a k.front (subst (λ (t : List ℕ). Appends old mid t) (sym whole) h.got) k.got;
      all = k.all;
      none = λ e. absurd (some (after_none a b e));
    }

-- and nothing more where it was not
heard_no_more : (old mid : Option (List ℕ)) (a b : List ℕ) → (b ≡ [] → ⊥) → Hears false old mid a → Hears false old mid (a ++ b)
heard_no_more old mid a b some h = record {
  front = h.front;
  rest = h.rest ++ b;
  parts = ap (λ (t : List ℕ). t ++ b) h.parts ∙ append_assoc h.front h.rest b;
  got = h.got;
  all = λ e. absurd (let f : false ≡ true = e in cc);
  none = λ e. absurd (some (after_none a b e));
}

module _ (i : Inputs) (o : Options) (first out quiet err : Option (List ℕ)) (n : ReportTally) (count : ℕ) (c : Came i o first out quiet err count n) where
  abbrev now : ℕ
  now = hundredth o.horizon count

  abbrev next : ℕ
  next = hundredth o.horizon (suc count)

  same_tick : next ≤ now → next ≡ now
  same_tick b = omega (arith, mul-suc o.horizon count)

  -- the tick of the next hundredth is this one
  pub came_same : next ≤ now → Came i o first out quiet err (suc count) n
  came_same b =
      let e = sym (same_tick b) in
      record {
        text = c.text;
        come = come_at i o now next c.text e c.come;
        got = c.got;
        bytes_are = c.bytes_are;
        lines_are = c.lines_are;
        reports = c.reports;
        reported = (c.reports, [], c.reported, inl (b, refl), sym (append-nil c.reports));
        hears = c.hears;
      }

  -- and the simulation has not moved
  pub same_view : next ≤ now → view_at i o now ≡ view_at i o next
  same_view b = ap (view_at i o) (sym (same_tick b))

  -- the count of bytes after a text
  more_bytes : (bytes : List ℕ) → bounded (n.bytes + length bytes) ≡ bounded (length (c.text ++ bytes))
  more_bytes bytes = let e = c.bytes_are in rw length-append (omega (arith, e))

  -- and that of lines
  more_lines : (bytes : List ℕ) (k : IsNext (view_at i o now) next bytes (AtHorizon next)) → bounded (n.lines + length k.rest) ≡ bounded (length (lines_of k.takings))
  more_lines bytes k =
      let e = c.lines_are in
      let f : length (lines_of k.takings) ≡ length (lines_of c.come.takings) + length k.rest = next_lines i o now next c.text bytes c.come (AtHorizon next) k in
      omega (arith, e, f)

  -- a simulation at the tick of this many hundredths, on the way to the next
  pub goes_here : (s t : SimulationView) (tick : ℕ) (mid : Option (List ℕ)) (m : ReportTally) (r : Result Outcome RunError) → s ≡ view_at i o now → tick ≡ next → GoesOn s t tick out mid n m r
      → GoesOn (view_at i o now) t next out mid n m r
  goes_here s t tick mid m r at is goes =
      subst (λ (z : SimulationView). GoesOn z t next out mid n m r) at (subst (λ (k : ℕ). GoesOn s t k out mid n m r) is goes)

  -- it is reported that the run has reached the next hundredth
  pub hears_more : (mid : Option (List ℕ)) (t : SimulationView) (m : ReportTally) (k : ℕ) (heard : Bool) (new : Option (List ℕ)) → GoesOn (view_at i o now) t next out mid n m (Ok (End k)) → m.is_heard ≡ true
      → Hears heard err new (report_text o.horizon next m.lines) → Hears heard quiet new (c.reports ++ report_text o.horizon next m.lines)
  hears_more mid t m k heard new r is h =
      heard_more heard quiet err new c.reports (report_text o.horizon next m.lines) (λ e. cc) (subst (λ (b : Bool). Hears b quiet err c.reports) (sym r.4.2 ∙ is) c.hears) h

  -- or not, as standard error did not take an earlier report
  pub hears_no_more : (mid : Option (List ℕ)) (t : SimulationView) (m : ReportTally) (k : ℕ) → GoesOn (view_at i o now) t next out mid n m (Ok (End k)) → m.is_heard ≡ false
      → Hears false quiet err (c.reports ++ report_text o.horizon next m.lines)
  hears_no_more mid t m k r is =
      heard_no_more quiet err c.reports (report_text o.horizon next m.lines) (λ e. cc) (subst (λ (b : Bool). Hears b quiet err c.reports) (sym r.4.2 ∙ is) c.hears)

  -- the run goes on to the next hundredth
  pub came_more : (t : SimulationView) (mid : Option (List ℕ)) (m : ReportTally) (k : ℕ) (heard : Bool) (new : Option (List ℕ)) → now < next
      → GoesOn (view_at i o now) t next out mid n m (Ok (End k)) → Hears heard quiet new (c.reports ++ report_text o.horizon next m.lines)
      → Comes i o t first mid quiet new (suc count) (record m { is_heard = heard }) (Ok (End next))
  came_more t mid m k heard new later r hears =
      let bytes = r.0 in
      let at : k ≡ next = horizon_is next r.1.takings k r.1.ending in
      let y : IsNext (view_at i o now) next bytes (AtHorizon next) = next_at (view_at i o now) next bytes k next at r.1 in
      let come = come_next i o now next c.text bytes c.come y in
      let lines_are : m.lines ≡ bounded (length (lines_of come.takings)) = r.4.1 ∙ more_lines bytes y in
      let written : bytes ≡ lines_text o.form (system_of i) y.rest = y.text ∙ append-nil (lines_text o.form (system_of i) y.rest) in
      let bytes_are : m.bytes ≡ bounded (length (c.text ++ bytes)) = r.4.0 ∙ ap (λ (t : List ℕ). bounded (n.bytes + length t)) (sym written) ∙ more_bytes bytes in
      let report = report_text o.horizon next m.lines in (
        record {
          text = c.text ++ bytes;
          come = come;
          got = Appends-trans first out mid c.text bytes c.got r.2;
          bytes_are = bytes_are;
          lines_are = lines_are;
          reports = c.reports ++ report;
          reported = (c.reports, report, c.reported, inr (later, record { text = c.text ++ bytes; come = come; is = ap (report_text o.horizon next) lines_are }), refl);
          hears = hears;
        },
        r.3,
      )

  -- what was reported so far
  has_reported : count ≤ 100 → (mid : Option (List ℕ)) (heard : Bool) (end : Result Outcome RunError) → heard ≡ n.is_heard → IsAsFar i o first mid count end → HasReported i o first mid quiet err heard end
  has_reported few mid heard end same far = record {
    count = count;
    few = few;
    far = far;
    reports = c.reports;
    reported = c.reported;
    hears = subst (λ (h : Bool). Hears h quiet err c.reports) (sym same) c.hears;
  }

  -- the run stops on the way
  pub came_stop : count ≤ 100 → next ≤ o.horizon → (t : SimulationView) (mid : Option (List ℕ)) (m : ReportTally) (mark : StopMark) → GoesOn (view_at i o now) t next out mid n m (Ok (Stop mark))
      → Comes i o t first mid quiet err (suc count) m (Ok (Stop mark))
  came_stop few early t mid m mark r = (
    ap (λ (s : SimulationView). s.stage) r.3,
    record {
      bytes = c.text ++ r.0;
      got = Appends-trans first out mid c.text r.0 c.got r.2;
      trace = come_stop i o now next c.text r.0 c.come o.horizon mark.tick mark.resource mark.reason early r.1;
    },
    has_reported few mid m.is_heard (Ok (Stop mark)) r.4.2
        (stop_is_early (system_of i) (stimuli_of i) o.steps next mark.tick mark.resource mark.reason r.1.takings (sym r.1.ending) r.1.simulation),
  )

  -- The run was out of memory on the way, when this part was written.
  broken_at : (mid : Option (List ℕ)) (part rest : List ℕ) (end : Ending) → IsNext (view_at i o now) next (part ++ rest) end → Appends out mid part → HasBroken i o first mid count Memory
  broken_at mid part rest end k got = record {
    text = c.text;
    come = c.come;
    part = part;
    got = Appends-trans first out mid c.text part c.got got;
    left = λ b. record { rest = rest; end = end; next = k; missing = tt };
  }

  -- The writer failed on the way.
  cut_at : (mid : Option (List ℕ)) (bytes : List ℕ) (end : Ending) (w k : ℕ) → IsNext (view_at i o now) next bytes end → IsPartWritten out mid bytes w → HasBroken i o first mid count (Write k)
  cut_at mid bytes end w k x p =
      let part = take p.count bytes in
      let rest = drop p.count bytes in
      let both : bytes ≡ part ++ rest = sym (take-append-drop p.count bytes) in
      record {
        text = c.text;
        come = c.come;
        part = part;
        got = Appends-trans first out mid c.text part c.got p.got;
        left = λ b. record {
          rest = rest;
          end = end;
          next = subst (λ (t : List ℕ). IsNext (view_at i o now) next t end) both x;
          missing = let s = p.short in rw length-drop (omega arith);
        };
      }

  -- the run finds no memory on the way, or can't write
  pub came_failed : AreGood i → count ≤ 100 → next ≤ o.horizon → (t : SimulationView) (mid : Option (List ℕ)) (m : ReportTally) (e : RunError)
      → GoesOn (view_at i o now) t next out mid n m (Err e) → Comes i o t first mid quiet err (suc count) m (Err e)
  came_failed good few later t mid m Memory r =
      let sys = system_of i in
      let part = lines_text o.form sys r.0 in
      let rest = r.1 in
      let f = come_part i o good now next o.horizon c.text (part ++ rest) later c.come r.2 r.3 in
      let lines = lines_of c.come.takings ++ r.0 in
      let same : c.text ++ part ≡ lines_text o.form sys lines =
      ap (λ (t : List ℕ). t ++ part) c.come.text_is ∙ sym (lines_text-append o.form sys (lines_of c.come.takings) r.0) in
      let both : (c.text ++ (part ++ rest)) ++ f.rest ≡ (c.text ++ part) ++ (rest ++ f.rest) = simp append_assoc in (
        record {
          lines = lines;
          rest = rest ++ f.rest;
          end = f.end;
          got = subst (λ (t : List ℕ). Appends first mid t) same (Appends-trans first out mid c.text part c.got r.4);
          trace = subst (λ (t : List ℕ). IsTrace i o.form o.horizon o.steps t f.end) (both ∙ ap (λ (t : List ℕ). t ++ (rest ++ f.rest)) same) f.trace;
        },
        has_reported few mid m.is_heard (Err Memory) (ap (λ (z : ReportTally). z.is_heard) r.5) (broken_at mid part rest r.2 r.3 r.4),
      )
  came_failed good few later t mid m (Write k) r =
      let bytes = r.0 in
      let f = come_part i o good now next o.horizon c.text bytes later c.come r.1 r.2 in
      let short = r.3 in
      let part = part-before f.rest (part-after c.text c.got c.bytes_are short.1) in (
        record {
          bytes = (c.text ++ bytes) ++ f.rest;
          end = f.end;
          got = subst (λ (z : ℕ). IsPartWritten first mid ((c.text ++ bytes) ++ f.rest) z) (sym short.2) part;
          trace = f.trace;
        },
        has_reported few mid m.is_heard (Err (Write k)) (ap (λ (z : ReportTally). z.is_heard) r.4) (cut_at mid bytes r.1 short.0 k r.2 short.1),
      )
  came_failed good few later t mid m (Refused x) bad = absurd bad
  came_failed good few later t mid m BadOption bad = absurd bad
  came_failed good few later t mid m Failed bad = absurd bad
