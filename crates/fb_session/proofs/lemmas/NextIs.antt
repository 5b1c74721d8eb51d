-- What comes of taking one event.
use Rattle.fb_types.proofs.Common.{◌≡◌, ℕ, ◌+◌, ◌^◌, ◌<◌, ◌≤◌, List, [], ◌∷◌, ◌++◌, length, map, All, Option, Some, None, refl, sym, ap, ◌∙◌, subst, arith, append-nil, Appends, Appends-trans, All-append, All-nil, All-push, Inputs, system_of, NoneBelow, line_of, AtHorizon, AtStop, Taken, ending_by, ending_of, last, lines_of, Agenda, State, last_line, lines_text, inl}
use Rattle.fb_types.specs.declared.run.StopMark.{StopMark}
use Rattle.fb_types.specs.declared.value.Reason.{Reason}
use Rattle.fb_system.specs.Lines.{BelongsTo}
use Rattle.fb_sim_machine.specs.Machines.{IsAt, IsReady}
use Rattle.fb_sim_machine.specs.Pauses.{HasGone, IsLater, Steps}
use Rattle.fb_sim_machine.specs.declared.machine.Machine.{Machine}
use Rattle.fb_sim_machine.specs.declared.pause.Step.{Step}
use Rattle.fb_sim_machine.specs.declared.pause.Step.TheVariants.{Nothing, Took, Stopped}
use Rattle.fb_trace.specs.Progress.{IsPartWritten, bounded}
use Rattle.fb_session.specs.Going.{HasTaken, IsBeginning}
use Rattle.fb_session.specs.Pasts.{Past, StandsBy, Talk, now, stop_text}
use Rattle.fb_session.specs.Running.{IsWriteAfter, text_of}
use Rattle.fb_session.specs.declared.fault.SessionFault.{SessionFault}
use Rattle.fb_session.specs.declared.fault.SessionFault.TheVariants as fault
use Rattle.fb_session.specs.declared.stage.Stage.{Stage}
use Rattle.fb_session.specs.declared.stage.Stage.TheVariants as stage
use Rattle.fb_session.proofs.lemmas.Texts.{bounded-after, bounded-both}
use Rattle.fb_session.proofs.lemmas.GoingIs.{alive, at_event, ends_on, ends_stopped, fails_end, stands_on}

module _ (v : Talk) (p : Past) (was : StandsBy v p) (running : v.stage ≡ stage.Running) (m1 m2 : Machine) where
  abbrev i : Inputs
  i = v.inputs

  abbrev f : ℕ
  f = (was.goes (alive v p was running)).0

  abbrev piece : List ℕ
  piece = lines_text v.form (system_of i) (map (line_of (system_of i)) m1.traffic.outbox.lines.items)

  ready : IsReady i v.steps f v.machine
  ready = (was.goes (alive v p was running)).2

  -- the lines that are there are those of what was taken
  piece_is : (ts : List Taken) → HasGone i v.steps (now i p) v.machine m1 ts → piece ≡ text_of i v.form ts
  piece_is ts x =
      ap (lines_text v.form (system_of i)) (x.lines ∙ ap (λ z. map (line_of (system_of i)) z ++ lines_of ts) (was.none (alive v p was running)))

  -- what is to be written are lines of the system
  pub lines_belong : (s : Step) → Steps i (10 ^ 12) v.steps (now i p) v.machine m1 s → All (BelongsTo (system_of i)) m1.traffic.outbox.lines.items
  lines_belong Nothing s = (s.3 f ready).traffic.lines
  lines_belong (Took tick) s = (s.5 f ready).1.traffic.lines
  lines_belong (Stopped mark) s = (s.7 f ready).1.traffic.lines

  -- the lines were not written whole
  pub piece_fails : (s : Step) → Steps i (10 ^ 12) v.steps (now i p) v.machine m1 s → (w0 w1 : Option (List ℕ)) (k : ℕ) → IsPartWritten w0 w1 piece k
      → IsBeginning v p (fault.Write k) w0 w1
  piece_fails Nothing s w0 w1 k part =
      let none : piece ≡ [] = ap (λ z. lines_text v.form (system_of i) (map (line_of (system_of i)) z)) (s.2 ∙ was.none (alive v p was running)) in
      let short = (subst (λ (t : List ℕ). IsPartWritten w0 w1 t k) none part).short in
      absurd (omega (arith, short))
  piece_fails (Took tick) s w0 w1 k part =
      (s.0 ∷ [], [], s.1.chain, inl refl, subst (λ (t : List ℕ). IsPartWritten w0 w1 t k) (piece_is (s.0 ∷ []) s.1 ∙ sym (append-nil (text_of i v.form (s.0 ∷ [])))) part)
  piece_fails (Stopped mark) s w0 w1 k part =
      (s.0 ∷ [], [], s.1.chain, inl refl, subst (λ (t : List ℕ). IsPartWritten w0 w1 t k) (piece_is (s.0 ∷ []) s.1 ∙ sym (append-nil (text_of i v.form (s.0 ∷ [])))) part)

  -- the lines were written and dropped
  module _ (none : m2.traffic.outbox.lines.items ≡ []) (on : (s : State) (a : Agenda) → IsAt i s a m1 → IsAt i s a m2)
      (clear : (t : ℕ) → IsReady i v.steps t m1 → IsReady i v.steps t m2) (w0 w1 : Option (List ℕ)) (got : Appends w0 w1 piece) (n : ℕ) (counted : n ≡ bounded (length piece)) where
    -- the bytes of what was taken are counted
    counted_on : (w : ℕ) (ts : List Taken) → w ≡ bounded (v.written + n) → piece ≡ text_of i v.form ts → bounded w ≡ bounded (v.written + length (text_of i v.form ts ++ stop_text (system_of i) v.stage))
    counted_on w ts is same =
        bounded-after v.written n w (text_of i v.form ts) (counted ∙ ap (λ (z : List ℕ). bounded (length z)) same) is
        ∙ ap (λ (z : List ℕ). bounded (v.written + length z)) (sym (append-nil (text_of i v.form ts)) ∙ ap (λ (z : Stage). text_of i v.form ts ++ stop_text (system_of i) z) (sym running))

    pub next_nothing : (w : ℕ) → w ≡ bounded (v.written + n) → Steps i (10 ^ 12) v.steps (now i p) v.machine m1 Nothing
        → HasTaken v (record v { written = w; machine = m2 }) p [] w0 w1 × NoneBelow (now i p).agenda (10 ^ 12)
    next_nothing w is s =
        let goes = was.goes (alive v p was running) in
        let empty : piece ≡ [] = ap (λ z. lines_text v.form (system_of i) (map (line_of (system_of i)) z)) (s.2 ∙ was.none (alive v p was running)) in
        let below = All-append (λ (x : Taken). x.key.tick < v.reached) p.taken [] was.before (All-nil (λ (x : Taken). x.key.tick < v.reached)) in
        let stands =
        stands_on v p was running m2 [] tt (on (now i p).state (now i p).agenda s.1) none stage.Running v.reached w v.set v.breaks was.early below
        (ends_on v p was running m2 [] tt (on (now i p).state (now i p).agenda s.1) none tt)
        (λ live. (goes.0, λ go. goes.1 running, clear goes.0 (s.3 goes.0 goes.2), All-append (λ (x : Taken). x.key.tick ≤ goes.0) p.taken [] goes.3 (All-nil (λ (x : Taken). x.key.tick ≤ goes.0)))) in (
          record {
            of = record { inputs = refl; steps = refl; form = refl };
            rows = refl;
            breaks = refl;
            stands = subst (λ (z : Stage). StandsBy (record v { stage = z; written = w; machine = m2 }) (record p { taken = p.taken ++ [] })) (sym running) stands;
            got = subst (λ (z : Stage). Appends w0 w1 (text_of i v.form [] ++ stop_text (system_of i) z)) (sym running) (subst (λ (t : List ℕ). Appends w0 w1 t) empty got);
            counted = counted_on w [] is empty;
          },
          s.0,
        )

    -- one event was taken, at this tick
    module _ (t : Taken) (tick : ℕ) (x : HasGone i v.steps (now i p) v.machine m1 (t ∷ [])) (at_is : t.key.tick ≡ tick) (less : tick < 10 ^ 12) (later : f ≤ tick)
        (ready1 : IsReady i v.steps tick m1) where
      here : IsAt i (last (now i p) (t ∷ [])).state (last (now i p) (t ∷ [])).agenda m2
      here = on (last (now i p) (t ∷ [])).state (last (now i p) (t ∷ [])).agenda x.at

      onward : IsLater i v.steps f tick m2 (t ∷ [])
      onward = record {
        later = later;
        ready = clear tick ready1;
        before = All-push (λ (u : Taken). u.key.tick ≤ tick) [] t (All-nil (λ (u : Taken). u.key.tick ≤ tick)) (omega (arith, at_is));
      }

      got_text : Appends w0 w1 (text_of i v.form (t ∷ []))
      got_text = subst (λ (z : List ℕ). Appends w0 w1 z) (piece_is (t ∷ []) x) got

      -- it stops its resource
      stop_is : (r : ℕ) (reason : Reason) → t.key.resource ≡ r → t.effect.stop ≡ Some reason → ending_of 0 (t ∷ []) ≡ AtStop tick r reason
      stop_is r reason own stop = ap (λ (z : Option Reason). ending_by z t.key (AtHorizon 0)) stop ∙ (λ j. AtStop (at_is j) (own j) reason)

      pub next_took : (w : ℕ) → w ≡ bounded (v.written + n) → t.effect.stop ≡ None → HasTaken v (record v { reached = tick + 1; written = w; machine = m2 }) p (t ∷ []) w0 w1
      next_took w is go =
          let stands =
          at_event v p was running m2 (t ∷ []) x.chain here none stage.Running tick w v.set v.breaks less (ends_on v p was running m2 (t ∷ []) x.chain here none (go, tt)) onward in
          record {
            of = record { inputs = refl; steps = refl; form = refl };
            rows = refl;
            breaks = refl;
            stands = subst (λ (z : Stage). StandsBy (record v { stage = z; reached = tick + 1; written = w; machine = m2 }) (record p { taken = p.taken ++ t ∷ [] })) (sym running) stands;
            got = subst (λ (z : Stage). Appends w0 w1 (text_of i v.form (t ∷ []) ++ stop_text (system_of i) z)) (sym running)
                (subst (λ (z : List ℕ). Appends w0 w1 z) (sym (append-nil (text_of i v.form (t ∷ [])))) got_text);
            counted = counted_on w (t ∷ []) is (piece_is (t ∷ []) x);
          }

      pub next_stopped : (r : ℕ) (reason : Reason) (w b : ℕ) → b ≡ bounded (n + length (last_line (system_of i) (AtStop tick r reason))) → w ≡ bounded (v.written + b) → t.key.resource ≡ r → t.effect.stop ≡ Some reason → (w2 : Option (List ℕ)) → Appends w1 w2 (last_line (system_of i) (AtStop tick r reason))
          → HasTaken v (record v { stage = stage.Stopped (record { tick = tick; resource = r; reason = reason }); reached = tick + 1; written = w; machine = m2 }) p (t ∷ []) w0 w2
      next_stopped r reason w b whole sum own stop w2 last =
          let mark : StopMark = record { tick = tick; resource = r; reason = reason } in
          record {
            of = record { inputs = refl; steps = refl; form = refl };
            rows = refl;
            breaks = refl;
            stands = at_event v p was running m2 (t ∷ []) x.chain here none (stage.Stopped mark) tick w v.set v.breaks less
                (ends_stopped v p was running m2 (t ∷ []) x.chain here none 0 mark (stop_is r reason own stop)) onward;
            got = Appends-trans w0 w1 w2 (text_of i v.form (t ∷ [])) (last_line (system_of i) (AtStop tick r reason)) got_text last;
            counted = bounded-both v.written n b w (text_of i v.form (t ∷ [])) (last_line (system_of i) (AtStop tick r reason)) (counted ∙ ap (λ (z : List ℕ). bounded (length z)) (piece_is (t ∷ []) x)) whole sum;
          }

      pub stopped_fails : (r : ℕ) (reason : Reason) → t.key.resource ≡ r → t.effect.stop ≡ Some reason → (e : SessionFault) (w2 : Option (List ℕ))
          → IsWriteAfter w1 w2 (last_line (system_of i) (AtStop tick r reason)) n e → IsBeginning v p e w0 w2
      stopped_fails r reason own stop e w2 h =
          fails_end v p (t ∷ []) e w0 w1 w2 (last_line (system_of i) (AtStop tick r reason)) n x.chain got_text (counted ∙ ap (λ (z : List ℕ). bounded (length z)) (piece_is (t ∷ []) x)) h 0
          (ap (last_line (system_of i)) (sym (stop_is r reason own stop)))
