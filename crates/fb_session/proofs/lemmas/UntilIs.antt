-- What comes of taking events up to a tick, a break or a stop.
use Rattle.fb_types.proofs.Common.{◌≡◌, ℕ, ◌+◌, ◌^◌, ◌<◌, ◌≤◌, Bool, true, false, List, [], ◌++◌, Option, Ok, refl, sym, subst, arith, append-nil, Appends, Appends-trans, All-append, Inputs, IsTrace, system_of, NoneBelow, AtHorizon, AtStop, Taken, Config, last_line, ◌∙◌, length, ap}
use Rattle.fb_types.specs.declared.run.StopMark.{StopMark}
use Rattle.fb_sim_machine.specs.Machines.{IsReady}
use Rattle.fb_sim_machine.specs.declared.machine.Machine.{Machine}
use Rattle.fb_trace.specs.Progress.{bounded}
use Rattle.fb_session.specs.Going.{HasTaken, IsBeginning, Reaches}
use Rattle.fb_session.specs.Pasts.{Past, StandsBy, Talk, now, stop_text, told, with_rows}
use Rattle.fb_session.specs.Hitting.{PassBreaks}
use Rattle.fb_session.specs.Running.{AreUnbroken, IsWriteAfter, RunsOn, text_of}
use Rattle.fb_session.specs.declared.breaks.Break.{Break}
use Rattle.fb_session.specs.declared.fault.SessionFault.{SessionFault}
use Rattle.fb_session.specs.declared.going.Until.TheVariants as until
use Rattle.fb_session.specs.declared.run.Reach.{Reach}
use Rattle.fb_session.specs.declared.stage.Stage.{Stage}
use Rattle.fb_session.specs.declared.stage.Stage.TheVariants as stage
use Rattle.fb_session.proofs.lemmas.EndingIs.{ending_none, whole_on}
use Rattle.fb_session.proofs.lemmas.HittingIs.{unset_pass}
use Rattle.fb_session.proofs.lemmas.Texts.{bounded-after, bounded-both}
use Rattle.fb_session.proofs.lemmas.GoingIs.{alive, at_event, at_tick, before_all, chain_all, ends_on, ends_stopped, fails_end, leads}

abbrev pub reach_of : Talk → (to : ℕ) → Bool → Reach
reach_of v to watch = record { to = to; steps = v.steps; form = v.form; is_watched = watch }

module _ (v : Talk) (p : Past) (was : StandsBy v p) (running : v.stage ≡ stage.Running) (m : Machine) (to : ℕ) (watch : Bool) (later : v.reached ≤ to) (most : to ≤ 10 ^ 12)
    (w0 w1 : Option (List ℕ)) (n : ℕ) where
  abbrev i : Inputs
  i = v.inputs

  abbrev o : Reach
  o = reach_of v to watch

  abbrev f : ℕ
  f = (was.goes (alive v p was running)).0

  low : f ≤ to
  low = let a = (was.goes (alive v p was running)).1 running in omega (arith, a, later)

  ready : IsReady i v.steps f v.machine
  ready = (was.goes (alive v p was running)).2

  -- no break is for a line of these events, also where none is watched, since none is set then
  unbroken : (watch ≡ false → v.breaks ≡ []) → (ts : List Taken) → AreUnbroken i o v.breaks ts → PassBreaks (system_of i) v.breaks ts
  unbroken unset ts all = go watch refl
    where
      go : (b : Bool) → watch ≡ b → PassBreaks (system_of i) v.breaks ts
      go true is = all is
      go false is = unset_pass (system_of i) v.breaks ts (unset is)

  -- the bytes of what was taken are counted
  counted_on : (w : ℕ) (more : List Taken) → w ≡ bounded (v.written + n) → n ≡ bounded (length (text_of i v.form more)) → bounded w ≡ bounded (v.written + length (text_of i v.form more ++ stop_text (system_of i) v.stage))
  counted_on w more is counted =
      bounded-after v.written n w (text_of i v.form more) counted is
      ∙ ap (λ (t : List ℕ). bounded (v.written + length t)) (sym (append-nil (text_of i v.form more)) ∙ ap (λ (s : Stage). text_of i v.form more ++ stop_text (system_of i) s) (sym running))

  pub until_at : (watch ≡ false → v.breaks ≡ []) → (w k : ℕ) (bs : List Break) → w ≡ bounded (v.written + n) → bs ≡ v.breaks → RunsOn i o v.breaks (now i p) v.machine m w0 w1 (Ok (until.At, n))
      → (more : List Taken) × HasTaken v (record v { reached = to; written = w; set = k; breaks = bs; machine = m }) p more w0 w1
      × Reaches to v (record v { reached = to; written = w; set = k; breaks = bs; machine = m }) p more until.At
  until_at unset w k bs is same r =
      let y = r.2.3 f low ready in
      let stands = at_tick v p was running m r.0 r.1.chain r.1.at r.1.none to w k bs later most r.2.0 r.2.1 y.0 y.1 y.2 in (
        r.0,
        record {
          of = record { inputs = refl; steps = refl; form = refl };
          rows = refl;
          breaks = same;
          stands = subst (λ (s : Stage). StandsBy (record v { stage = s; reached = to; written = w; set = k; breaks = bs; machine = m }) (record p { taken = p.taken ++ r.0 })) (sym running) stands;
          got = subst (λ (s : Stage). Appends w0 w1 (text_of i v.form r.0 ++ stop_text (system_of i) s)) (sym running)
              (subst (λ (t : List ℕ). Appends w0 w1 t) (sym (append-nil (text_of i v.form r.0))) r.1.got);
          counted = counted_on w r.0 is r.1.counted;
        },
        (running, refl, subst (λ (z : Config). NoneBelow z.agenda to) (sym (leads v p was running m r.0 r.1.chain r.1.at r.1.none)) r.2.2, unbroken unset r.0 r.2.4),
      )

  pub until_break : (number tick w k : ℕ) (bs : List Break) → w ≡ bounded (v.written + n) → bs ≡ v.breaks → RunsOn i o v.breaks (now i p) v.machine m w0 w1 (Ok (until.Break number tick, n))
      → (more : List Taken) × HasTaken v (record v { reached = tick + 1; written = w; set = k; breaks = bs; machine = m }) p more w0 w1
      × Reaches to v (record v { reached = tick + 1; written = w; set = k; breaks = bs; machine = m }) p more (until.Break number tick)
  until_break number tick w k bs is same r =
      let less = r.2.6 in
      let stands = at_event v p was running m r.0 r.1.chain r.1.at r.1.none stage.Running tick w k bs (omega (arith, less, most))
      (ends_on v p was running m r.0 r.1.chain r.1.at r.1.none r.2.1) (r.2.7 f low ready) in (
        r.0,
        record {
          of = record { inputs = refl; steps = refl; form = refl };
          rows = refl;
          breaks = same;
          stands = subst (λ (s : Stage). StandsBy (record v { stage = s; reached = tick + 1; written = w; set = k; breaks = bs; machine = m }) (record p { taken = p.taken ++ r.0 })) (sym running)
              stands;
          got = subst (λ (s : Stage). Appends w0 w1 (text_of i v.form r.0 ++ stop_text (system_of i) s)) (sym running)
              (subst (λ (t : List ℕ). Appends w0 w1 t) (sym (append-nil (text_of i v.form r.0))) r.1.got);
          counted = counted_on w r.0 is r.1.counted;
        },
        (running, r.2.2, r.2.3, r.2.4, r.2.5, less, refl, r.2.8, r.2.9),
      )

  module _ (s : StopMark) (r : RunsOn i o v.breaks (now i p) v.machine m w0 w1 (Ok (until.Stop s, n))) where
    pub until_stop : (watch ≡ false → v.breaks ≡ []) → (w k b : ℕ) (bs : List Break) → b ≡ bounded (n + length (last_line (system_of i) (AtStop s.tick s.resource s.reason))) → w ≡ bounded (v.written + b) → bs ≡ v.breaks → (w2 : Option (List ℕ)) → Appends w1 w2 (last_line (system_of i) (AtStop s.tick s.resource s.reason))
        → (more : List Taken) × HasTaken v (record v { stage = stage.Stopped s; reached = s.tick + 1; written = w; set = k; breaks = bs; machine = m }) p more w0 w2
        × Reaches to v (record v { stage = stage.Stopped s; reached = s.tick + 1; written = w; set = k; breaks = bs; machine = m }) p more (until.Stop s)
    until_stop unset w k b bs whole is same w2 got =
        let less = r.2.2 in (
          r.0,
          record {
            of = record { inputs = refl; steps = refl; form = refl };
            rows = refl;
            breaks = same;
            stands = at_event v p was running m r.0 r.1.chain r.1.at r.1.none (stage.Stopped s) s.tick w k bs (omega (arith, less, most))
                (ends_stopped v p was running m r.0 r.1.chain r.1.at r.1.none to s r.2.1) (r.2.3 f low ready);
            got = Appends-trans w0 w1 w2 (text_of i v.form r.0) (last_line (system_of i) (AtStop s.tick s.resource s.reason)) r.1.got got;
            counted = bounded-both v.written n b w (text_of i v.form r.0) (last_line (system_of i) (AtStop s.tick s.resource s.reason)) r.1.counted whole is;
          },
          (refl, less, refl, (r.2.4.0, r.2.4.1, r.2.4.2, unbroken unset r.2.4.0 r.2.4.3)),
        )

    -- the whole trace, up to the stop
    pub whole_stop : (w b : ℕ) → b ≡ bounded (n + length (last_line (system_of i) (AtStop s.tick s.resource s.reason))) → w ≡ bounded (v.written + b) → (w2 : Option (List ℕ)) → Appends w1 w2 (last_line (system_of i) (AtStop s.tick s.resource s.reason))
        → (bytes : List ℕ) × Appends w0 w2 bytes × (bounded w ≡ bounded (v.written + length bytes)) × IsTrace (with_rows i p.given) v.form to v.steps (told v p ++ bytes) (AtStop s.tick s.resource s.reason)
    whole_stop w b whole is w2 got =
        let less = r.2.2 in
        let all = before_all v p was running m r.0 r.1.chain r.1.at r.1.none s.tick (r.2.3 f low ready) in (
          text_of i v.form r.0 ++ last_line (system_of i) (AtStop s.tick s.resource s.reason),
          Appends-trans w0 w1 w2 (text_of i v.form r.0) (last_line (system_of i) (AtStop s.tick s.resource s.reason)) r.1.got got,
          bounded-both v.written n b w (text_of i v.form r.0) (last_line (system_of i) (AtStop s.tick s.resource s.reason)) r.1.counted whole is,
          whole_on v p running to r.0 (AtStop s.tick s.resource s.reason) (chain_all v p was running m r.0 r.1.chain r.1.at r.1.none)
              (λ j d within. let b = all j d within in omega (arith, b, less)) (ends_stopped v p was running m r.0 r.1.chain r.1.at r.1.none to s r.2.1 to) tt,
        )

    pub stop_fails : (e : SessionFault) (w2 : Option (List ℕ)) → IsWriteAfter w1 w2 (last_line (system_of i) (AtStop s.tick s.resource s.reason)) n e → IsBeginning v p e w0 w2
    stop_fails e w2 h = fails_end v p r.0 e w0 w1 w2 (last_line (system_of i) (AtStop s.tick s.resource s.reason)) n r.1.chain r.1.got r.1.counted h to (ap (last_line (system_of i)) (sym r.2.1))

  module _ (r : RunsOn i o v.breaks (now i p) v.machine m w0 w1 (Ok (until.At, n))) where
    -- the whole trace, up to its horizon
    pub whole_at : (w b : ℕ) → b ≡ bounded (n + length (last_line (system_of i) (AtHorizon to))) → w ≡ bounded (v.written + b) → (w2 : Option (List ℕ)) → Appends w1 w2 (last_line (system_of i) (AtHorizon to))
        → (bytes : List ℕ) × Appends w0 w2 bytes × (bounded w ≡ bounded (v.written + length bytes)) × IsTrace (with_rows i p.given) v.form to v.steps (told v p ++ bytes) (AtHorizon to)
    whole_at w b whole is w2 got =
        let below = All-append (λ (x : Taken). x.key.tick < to) p.taken r.0 (λ j d within. let b = was.before j d within in omega (arith, b, later)) r.2.1 in (
          text_of i v.form r.0 ++ last_line (system_of i) (AtHorizon to),
          Appends-trans w0 w1 w2 (text_of i v.form r.0) (last_line (system_of i) (AtHorizon to)) r.1.got got,
          bounded-both v.written n b w (text_of i v.form r.0) (last_line (system_of i) (AtHorizon to)) r.1.counted whole is,
          whole_on v p running to r.0 (AtHorizon to) (chain_all v p was running m r.0 r.1.chain r.1.at r.1.none) below
              (ending_none to (p.taken ++ r.0) (ends_on v p was running m r.0 r.1.chain r.1.at r.1.none r.2.0))
              (subst (λ (z : Config). NoneBelow z.agenda to) (sym (leads v p was running m r.0 r.1.chain r.1.at r.1.none)) r.2.2),
        )

    pub end_fails : (e : SessionFault) (w2 : Option (List ℕ)) → IsWriteAfter w1 w2 (last_line (system_of i) (AtHorizon to)) n e → IsBeginning v p e w0 w2
    end_fails e w2 h = fails_end v p r.0 e w0 w1 w2 (last_line (system_of i) (AtHorizon to)) n r.1.chain r.1.got r.1.counted h to (ap (last_line (system_of i)) (sym (ending_none to r.0 r.2.0)))
