-- Where a session stands after it has taken events.
use Rattle.fb_types.proofs.Common.{◌≡◌, ℕ, ◌+◌, ◌^◌, ◌<◌, ◌≤◌, List, [], ◌∷◌, ◌++◌, length, All, Option, Some, None, refl, sym, ap, ◌∙◌, subst, arith, append-nil, Appends, All-append, Inputs, system_of, Each, AtStop, Chain, Taken, ending_by, ending_of, last, lines_of, Config, lines_text, last_line, inl, inr}
use Rattle.fb_types.specs.declared.run.StopMark.{StopMark}
use Rattle.fb_types.specs.declared.value.Reason.{Reason}
use Rattle.fb_sim_machine.specs.Machines.{IsAt, IsReady}
use Rattle.fb_sim_machine.specs.Pauses.{IsLater}
use Rattle.fb_sim_machine.specs.declared.machine.Machine.{Machine}
use Rattle.fb_sim_machine.proofs.lemmas.JoinedRuns.{chain_append, each_append, ending_append, last_append}
use Rattle.fb_trace.specs.Progress.{IsPartWritten, bounded}
use Rattle.fb_session.specs.Going.{IsBeginning}
use Rattle.fb_session.specs.Pasts.{EndsBy, IsAlive, Past, StandsBy, Talk, now, opening_with}
use Rattle.fb_session.specs.Running.{FailsRun, IsWriteAfter, text_of}
use Rattle.fb_session.specs.declared.breaks.Break.{Break}
use Rattle.fb_session.specs.declared.fault.SessionFault.{SessionFault}
use Rattle.fb_session.specs.declared.fault.SessionFault.TheVariants as fault
use Rattle.fb_session.specs.declared.run.Reach.{Reach}
use Rattle.fb_session.specs.declared.stage.Stage.{Stage}
use Rattle.fb_session.specs.declared.stage.Stage.TheVariants as stage
use Rattle.fb_session.proofs.lemmas.Texts.{part-after}

-- a stop is one with any horizon
pub ending_any : (ts : List Taken) (h k tick r : ℕ) (reason : Reason) → ending_of h ts ≡ AtStop tick r reason → ending_of k ts ≡ AtStop tick r reason
ending_any [] h k tick r reason is = absurd cc
ending_any (t ∷ ts) h k tick r reason is = go t.effect.stop refl is (ending_any ts h k tick r reason)
  where
    go : (s : Option Reason) → t.effect.stop ≡ s → ending_by t.effect.stop t.key (ending_of h ts) ≡ AtStop tick r reason
        → (ending_of h ts ≡ AtStop tick r reason → ending_of k ts ≡ AtStop tick r reason) → ending_by t.effect.stop t.key (ending_of k ts) ≡ AtStop tick r reason
    go None e it rest =
        ap (λ (s : Option Reason). ending_by s t.key (ending_of k ts)) e
        ∙ rest (sym (ap (λ (s : Option Reason). ending_by s t.key (ending_of h ts)) e) ∙ it)
    go (Some q) e it rest =
        ap (λ (s : Option Reason). ending_by s t.key (ending_of k ts)) e ∙ sym (ap (λ (s : Option Reason). ending_by s t.key (ending_of h ts)) e) ∙ it

module _ (old : Talk) (p : Past) (was : StandsBy old p) (running : old.stage ≡ stage.Running) where
  abbrev i : Inputs
  i = old.inputs

  pub alive : IsAlive old.stage
  alive = subst IsAlive (sym running) tt

  pub going : Each (λ (t : Taken). t.effect.stop ≡ None) p.taken
  going = subst (λ (z : Stage). EndsBy z p.taken) running was.ends

  -- the tick from which the machine is ready
  abbrev pub from : ℕ
  from = (was.goes alive).0

  module _ (m : Machine) (more : List Taken) (chain : Chain (system_of i) old.steps (now i p) more)
      (at : IsAt i (last (now i p) more).state (last (now i p) more).agenda m) (none : m.traffic.outbox.lines.items ≡ []) where
    abbrev pub then : Past
    then = record p { taken = p.taken ++ more }

    pub chain_all : Chain (system_of i) old.steps (opening_with i p.given) (p.taken ++ more)
    chain_all = chain_append (system_of i) old.steps p.taken more (opening_with i p.given) going was.chain chain

    pub leads : now i then ≡ last (now i p) more
    leads = last_append p.taken more (opening_with i p.given)

    pub before_all : (t : ℕ) → IsLater i old.steps from t m more → All (λ (x : Taken). x.key.tick ≤ t) (p.taken ++ more)
    before_all t y =
        let low = y.later in
        All-append (λ (x : Taken). x.key.tick ≤ t) p.taken more (λ j d less. let b = (was.goes alive).3 j d less in omega (arith, b, low)) y.before

    pub stands_on : (st : Stage) (r w k : ℕ) (bs : List Break) → r ≤ 10 ^ 12 → All (λ (x : Taken). x.key.tick < r) (p.taken ++ more) → EndsBy st (p.taken ++ more)
        → (IsAlive st → (f : ℕ) × (st ≡ stage.Running → f ≤ r) × IsReady i old.steps f m × All (λ (x : Taken). x.key.tick ≤ f) (p.taken ++ more))
        → StandsBy (record old { stage = st; reached = r; written = w; set = k; breaks = bs; machine = m }) then
    stands_on st r w k bs early below ends goes = record {
      judged = was.judged;
      some_steps = was.some_steps;
      few_steps = was.few_steps;
      early = early;
      rows = was.rows;
      counted = was.counted;
      chain = chain_all;
      before = below;
      ends = ends;
      at = λ live. subst (λ (z : Config). IsAt i z.state z.agenda m) (sym leads) at;
      none = λ live. none;
      goes = goes;
    }

    -- at a tick to which all was taken
    pub at_tick : (to w k : ℕ) (bs : List Break) → old.reached ≤ to → to ≤ 10 ^ 12 → Each (λ (t : Taken). t.effect.stop ≡ None) more → All (λ (t : Taken). t.key.tick < to) more
        → (t : ℕ) → t ≤ to → IsLater i old.steps from t m more → StandsBy (record old { stage = stage.Running; reached = to; written = w; set = k; breaks = bs; machine = m }) then
    at_tick to w k bs later most go below t le y =
        stands_on stage.Running to w k bs most
        (All-append (λ (x : Taken). x.key.tick < to) p.taken more (λ j d less. let b = was.before j d less in omega (arith, b, later)) below)
        (each_append (λ (t : Taken). t.effect.stop ≡ None) p.taken more going go) (λ live. (t, λ on. le, y.ready, before_all t y))

    -- after an event at this tick
    pub at_event : (st : Stage) (tick w k : ℕ) (bs : List Break) → tick < 10 ^ 12 → EndsBy st (p.taken ++ more) → IsLater i old.steps from tick m more
        → StandsBy (record old { stage = st; reached = tick + 1; written = w; set = k; breaks = bs; machine = m }) then
    at_event st tick w k bs early ends y =
        let all = before_all tick y in
        stands_on st (tick + 1) w k bs (omega (arith, early)) (λ j d less. let b = all j d less in omega (arith, b)) ends (λ live. (tick, λ on. omega arith, y.ready, all))

    pub ends_on : Each (λ (t : Taken). t.effect.stop ≡ None) more → EndsBy stage.Running (p.taken ++ more)
    ends_on go = each_append (λ (t : Taken). t.effect.stop ≡ None) p.taken more going go

    pub ends_stopped : (h : ℕ) (s : StopMark) → ending_of h more ≡ AtStop s.tick s.resource s.reason → EndsBy (stage.Stopped s) (p.taken ++ more)
    ends_stopped h s is k = ending_append k p.taken more going ∙ ending_any more h k s.tick s.resource s.reason is

-- ---- Faults

module _ (old : Talk) (p : Past) where
  -- the run failed
  pub fails_run : (o : Reach) (e : SessionFault) (written now' : Option (List ℕ)) → o.steps ≡ old.steps → o.form ≡ old.form → FailsRun old.inputs o (now old.inputs p) e written now'
      → IsBeginning old p e written now'
  fails_run o e written now' steps form h = go e h
    where
      go : (e : SessionFault) → FailsRun old.inputs o (now old.inputs p) e written now' → IsBeginning old p e written now'
      go fault.Memory h = (
        h.0,
        subst (λ n. Chain (system_of old.inputs) n (now old.inputs p) h.0) steps h.1,
        subst (λ f. Appends written now' (lines_text f (system_of old.inputs) (lines_of h.0))) form h.2,
      )
      go (fault.Write n) h = (
        h.0,
        [],
        subst (λ n. Chain (system_of old.inputs) n (now old.inputs p) h.0) steps h.1,
        inl refl,
        subst (λ (t : List ℕ). IsPartWritten written now' t n) (sym (append-nil (lines_text old.form (system_of old.inputs) (lines_of h.0))))
            (subst (λ f. IsPartWritten written now' (lines_text f (system_of old.inputs) (lines_of h.0)) n) form h.2),
      )

  -- the last line was not written whole
  pub fails_end : (more : List Taken) (e : SessionFault) (written mid now' : Option (List ℕ)) (text : List ℕ) (n : ℕ) → Chain (system_of old.inputs) old.steps (now old.inputs p) more
      → Appends written mid (text_of old.inputs old.form more) → n ≡ bounded (length (text_of old.inputs old.form more)) → IsWriteAfter mid now' text n e
      → (horizon : ℕ) → text ≡ last_line (system_of old.inputs) (ending_of horizon more) → IsBeginning old p e written now'
  fails_end more fault.Memory written mid now' text n chain got counted h horizon is = absurd h
  fails_end more (fault.Write k) written mid now' text n chain got counted h horizon is = (
    more,
    text,
    chain,
    inr (horizon, is),
    subst (λ z. IsPartWritten written now' (lines_text old.form (system_of old.inputs) (lines_of more) ++ text) z) (sym h.2)
        (part-after (text_of old.inputs old.form more) got counted h.1),
  )
