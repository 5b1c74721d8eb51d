-- What a run has written and reported in the end.
use Rattle.fb_sim.proofs.lemmas.Common.{◌≡◌, ◌≤◌, ℕ, Bool, true, inl, inr, refl, sym, ap, ◌∙◌, subst, arith, List, [], ◌++◌, length, take, drop, take-append-drop, Option, Result, Ok, Err, Appends, Appends-trans, Inputs, system_of, AtHorizon, last_line, lines_text, FailsRun, after_bytes, IsPartWritten, SimulationView, Options, Outcome, End, Stop, RunError, Refused, Memory, Write, BadOption, Failed, Came, Comes, hundredth, view_at}
use Rattle.fb_types.proofs.Common.{IfErr, IsTrue, IsTrace}
use Rattle.std.proofs.Common.{drop_of_length-le}
use Rattle.fb_sim.specs.Advances.{FailsToOpen, Finishes, FinishesBy}
use Rattle.fb_sim.specs.Given.{Given}
use Rattle.fb_sim.specs.Serial.{AreWithin, Declares}
use Rattle.fb_sim.specs.declared.state.Stage.{Stage}
use Rattle.fb_sim.proofs.lemmas.text.Texts.{part-after}
use Rattle.fb_sim.specs.Reports.{AreReports, Ends, Fails, HasBroken, HasCome, HasReported, Hears, IsAsFar, Reports}
use Rattle.fb_sim.specs.declared.with_progress.ReportTally.{ReportTally}
use Rattle.fb_sim.proofs.lemmas.rounds.HundredthSteps.{come_end, heard_none, hundredth_last}

-- what holds where a writer took all of a text
pub heard_whole : (old new : Option (List ℕ)) (text bytes : List ℕ) (n : ℕ) (b : Bool) → bytes ≡ text → (text ≡ [] → ⊥) → n ≤ length bytes → Appends old new (take n bytes) → (IsTrue b → n ≡ length bytes)
    → Hears b old new text
heard_whole old new text bytes n b is some few got all = record {
  front = take n bytes;
  rest = drop n bytes;
  parts = sym is ∙ sym (take-append-drop n bytes);
  got = got;
  all = λ t. let e : n ≡ length bytes = all t in drop_of_length-le bytes {i = n} (omega (arith, e));
  none = λ e. absurd (some e);
}

-- ---- The last line

module _ (i : Inputs) (o : Options) (first mid quiet err : Option (List ℕ)) (n : ReportTally) (c : Came i o first mid quiet err 100 n) where
  come : HasCome i o o.horizon c.text
  come = subst (λ (t : ℕ). HasCome i o t c.text) (hundredth_last o.horizon) c.come

  abbrev last : List ℕ
  last = last_line (system_of i) (AtHorizon o.horizon)

  trace : IsTrace i o.form o.horizon o.steps (c.text ++ last) (AtHorizon o.horizon)
  trace = come_end i o o.horizon c.text come

  ended : (new : Option (List ℕ)) (y : Outcome) → Finishes (view_at i o o.horizon) mid new (Ok y) → Ends i o first new (Ok y)
  ended new y f = subst (λ (z : Outcome). Ends i o first new (Ok z)) (sym f.0) (record {
    bytes = c.text ++ last;
    got = Appends-trans first mid new c.text last c.got f.1;
    trace = trace;
  })

  cut_off : (new : Option (List ℕ)) (e : RunError) → Finishes (view_at i o o.horizon) mid new (Err e) → Fails i o first new (after_bytes n.bytes e)
  cut_off new (Write k) f = record { bytes = c.text ++ last; end = AtHorizon o.horizon; got = part-after c.text c.got c.bytes_are f; trace = trace }
  cut_off new (Refused x) bad = absurd bad
  cut_off new Memory bad = absurd bad
  cut_off new BadOption bad = absurd bad
  cut_off new Failed bad = absurd bad

  all_reported : (new : Option (List ℕ)) (end : Result Outcome RunError) → IsAsFar i o first new 100 end → HasReported i o first new quiet err n.is_heard end
  all_reported new end far = record { count = 100; few = omega arith; far = far; reports = c.reports; reported = c.reported; hears = c.hears }

  -- the last line was not written whole
  cut_at : (new : Option (List ℕ)) (k : ℕ) → IsPartWritten mid new last k → (e : RunError) → HasBroken i o first new 100 e
  cut_at new k p e = record {
    text = c.text;
    come = c.come;
    part = take p.count last;
    got = Appends-trans first mid new c.text (take p.count last) c.got p.got;
    left = λ b. absurd (omega (arith, b));
  }

  cut_reported : (new : Option (List ℕ)) (e : RunError) → Finishes (view_at i o o.horizon) mid new (Err e) → HasReported i o first new quiet err n.is_heard (Err (after_bytes n.bytes e))
  cut_reported new (Write k) f = all_reported new (Err (after_bytes n.bytes (Write k))) (cut_at new k f (after_bytes n.bytes (Write k)))
  cut_reported new (Refused x) bad = absurd bad
  cut_reported new Memory bad = absurd bad
  cut_reported new BadOption bad = absurd bad
  cut_reported new Failed bad = absurd bad

module _ (i : Inputs) (o : Options) (t : SimulationView) (first mid quiet err : Option (List ℕ)) (m : ReportTally) where
  at_last : (new : Option (List ℕ)) (r : Result Outcome RunError) → t ≡ view_at i o (hundredth o.horizon 100) → Finishes t mid new r → Finishes (view_at i o o.horizon) mid new r
  at_last new r at f = subst (λ (s : SimulationView). Finishes s mid new r) (at ∙ ap (view_at i o) (hundredth_last o.horizon)) f

  stopped : (new : Option (List ℕ)) (r : Result Outcome RunError) (p : Stage) → t.stage ≡ p → Finishes t mid new r → FinishesBy p t mid new r
  stopped new r p at f = subst (λ (q : Stage). FinishesBy q t mid new r) at f

  pub ends_well : (x : Outcome) → Comes i o t first mid quiet err 100 m (Ok x) → (new : Option (List ℕ)) (y : Outcome) → Finishes t mid new (Ok y) → Ends i o first new (Ok y)
  ends_well (End h) c new y f = ended i o first mid quiet err m c.0 new y (at_last new (Ok y) c.1 f)
  ends_well (Stop mark) c new y f =
      let g = stopped new (Ok y) _ c.0 f in
      subst (λ (r : Result Outcome RunError). Ends i o first new r) (sym g.0) (subst (λ (w : Option (List ℕ)). Ends i o first w (Ok (Stop mark))) (sym g.1) c.1)

  pub reports_well : (x : Outcome) → Comes i o t first mid quiet err 100 m (Ok x) → (new : Option (List ℕ)) (y : Outcome) → Finishes t mid new (Ok y) → HasReported i o first new quiet err m.is_heard (Ok y)
  reports_well (End h) c new y f =
      let g = at_last new (Ok y) c.1 f in
      subst (λ (z : Outcome). HasReported i o first new quiet err m.is_heard (Ok z)) (sym g.0) (all_reported i o first mid quiet err m c.0 new (Ok (End o.horizon)) refl)
  reports_well (Stop mark) c new y f =
      let g = stopped new (Ok y) _ c.0 f in
      subst (λ (r : Result Outcome RunError). HasReported i o first new quiet err m.is_heard r) (sym g.0)
      (subst (λ (w : Option (List ℕ)). HasReported i o first w quiet err m.is_heard (Ok (Stop mark))) (sym g.1) c.2)

  pub ends_short : (x : Outcome) → Comes i o t first mid quiet err 100 m (Ok x) → (new : Option (List ℕ)) (e : RunError) → Finishes t mid new (Err e) → Fails i o first new (after_bytes m.bytes e)
  ends_short (End h) c new e f = cut_off i o first mid quiet err m c.0 new e (at_last new (Err e) c.1 f)
  ends_short (Stop mark) c new e f = let g = stopped new (Err e) _ c.0 f in absurd (let q : Err e ≡ Ok (Stop mark) = g.0 in cc)

  pub reports_short : (x : Outcome) → Comes i o t first mid quiet err 100 m (Ok x) → (new : Option (List ℕ)) (e : RunError) → Finishes t mid new (Err e) → HasReported i o first new quiet err m.is_heard (Err (after_bytes m.bytes e))
  reports_short (End h) c new e f = cut_reported i o first mid quiet err m c.0 new e (at_last new (Err e) c.1 f)
  reports_short (Stop mark) c new e f = let g = stopped new (Err e) _ c.0 f in absurd (let q : Err e ≡ Ok (Stop mark) = g.0 in cc)

-- ---- What is reported in the end

pub reports_of :
    (given : Given) (i : Inputs) (o : Options) (old new quiet err : Option (List ℕ)) (heard : Bool) (end : Result Outcome RunError) → Declares given i → Ends i o old new end → HasReported i o old new quiet err heard end
    → (reports : List ℕ) × AreReports given o old new end reports × Hears heard quiet err reports
reports_of given i o old new quiet err heard end declared ends reported = (reported.reports, go end ends (record { inputs = i; declared = declared; count = reported.count; few = reported.few; far = reported.far; reported = reported.reported }), reported.hears)
  where
    go : (r : Result Outcome RunError) → Ends i o old new r → Reports given o old new r reported.reports → AreReports given o old new r reported.reports
    go (Ok x) e t = t
    go (Err (Write n)) e t = t
    go (Err Memory) e t = inl t
    go (Err (Refused r)) e t = absurd e
    go (Err BadOption) e t = absurd e
    go (Err Failed) e t = absurd e

-- What a run has written that failed.
pub fails_of : (given : Given) (i : Inputs) (o : Options) (old new : Option (List ℕ)) (e : RunError) → AreWithin o → Declares given i → Fails i o old new e → FailsRun given o old new e
fails_of given i o old new e within declared h = go e h
  where
    go : (e : RunError) → Fails i o old new e → FailsRun given o old new e
    go Memory h = inr (
        record {
          bytes = lines_text o.form (system_of i) h.lines;
          rest = h.rest;
          end = h.end;
          got = h.got;
          trace = record { within = within; inputs = i; declared = declared; trace = h.trace };
          lines = h.lines;
          whole = refl;
        }
        )
    go (Write n) h = record { bytes = h.bytes; end = h.end; got = h.got; trace = record { within = within; inputs = i; declared = declared; trace = h.trace } }
    go (Refused r) h = absurd h
    go BadOption h = absurd h
    go Failed h = absurd h

-- where it may have
pub fails_if : (given : Given) (i : Inputs) (o : Options) (old new : Option (List ℕ)) (end : Result Outcome RunError) → AreWithin o → Declares given i → Ends i o old new end → IfErr end (FailsRun given o old new)
fails_if given i o old new (Ok x) within declared h = tt
fails_if given i o old new (Err e) within declared h = fails_of given i o old new e within declared h

-- where no run begins
pub no_reports :
    (given : Given) (o : Options) (old quiet : Option (List ℕ)) (e : RunError) → FailsToOpen given o.steps o.workers e
    → (reports : List ℕ) × AreReports given o old old (Err e) reports × Hears true quiet quiet reports
no_reports given o old quiet e h = ([], go e h, heard_none quiet)
  where
    go : (e : RunError) → FailsToOpen given o.steps o.workers e → AreReports given o old old (Err e) []
    go (Refused r) h = (refl, refl)
    go Memory h = inr (refl, refl)
    go BadOption h = (refl, refl)
    go (Write n) h = absurd h
    go Failed h = absurd h
