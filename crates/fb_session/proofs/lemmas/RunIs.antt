-- A run piece by piece, from where a machine is.
use Rattle.fb_types.proofs.Common.{◌≡◌, ℕ, ◌+◌, ◌<◌, ◌≤◌, List, [], ◌∷◌, ◌++◌, length, map, All, Contains, Option, Some, None, sym, ap, ◌∙◌, subst, arith, append_assoc, append-nil, inl, inr, IsTrue, Appends, Appends-nil, Appends-trans, All-append, All-head, All-nil, All-tail, Inputs, system_of, NoneBelow, Each, line_of, Taken, AtStop, ending_of, last, lines_of, Agenda, Config, State, lines_text}
use Rattle.fb_types.specs.declared.key.Key.{Key}
use Rattle.fb_types.specs.declared.run.StopMark.{StopMark}
use Rattle.fb_types.specs.States.{Line}
use Rattle.fb_types.specs.declared.run.Line as run
use Rattle.fb_types.proofs.lemmas.lists.Elements.{Contains-cons_cases, Contains-map, Contains-nil}
use Rattle.fb_sim_machine.specs.Machines.{IsAt, IsReady}
use Rattle.fb_sim_machine.specs.Pauses.{HasGone, IsLater, Onward}
use Rattle.fb_sim_machine.specs.declared.machine.Machine.{Machine}
use Rattle.fb_sim_machine.proofs.lemmas.JoinedRuns.{chain_append, each_append, ending_append, last_append, lines_of-append}
use Rattle.fb_sim_machine.proofs.lemmas.RisingTicks.{later_none}
use Rattle.fb_trace.specs.Progress.{IsPartWritten, bounded}
use Rattle.fb_session.specs.Hitting.{IsHitBy, PassBreaks}
use Rattle.fb_session.specs.Running.{AreUnbroken, EndsRun, FailsRun, HasRun, text_of}
use Rattle.fb_session.specs.declared.breaks.Break.{Break}
use Rattle.fb_session.specs.declared.fault.SessionFault.TheVariants as fault
use Rattle.fb_session.specs.declared.going.Until.TheVariants as until
use Rattle.fb_session.specs.declared.run.Reach.{Reach}
use Rattle.fb_session.proofs.lemmas.HittingIs.{quiet_pass}
use Rattle.fb_session.proofs.lemmas.Texts.{bounded-length, part-after, text-append}

-- ---- Ticks

module _ (i : Inputs) (limit : ℕ) where
  -- one piece after another
  pub later_after : (from t u : ℕ) (m new next : Machine) (xs ys : List Taken) → IsLater i limit from t m xs → IsLater i limit t u new ys
      → (IsReady i limit u new → IsReady i limit u next) → IsLater i limit from u next (xs ++ ys)
  later_after from t u m new next xs ys x y on =
      let low = x.later in
      let high = y.later in
      record {
        later = omega (arith, low, high);
        ready = on y.ready;
        before = All-append (λ (z : Taken). z.key.tick ≤ u) xs ys (λ j d less. let b = x.before j d less in omega (arith, b, high)) y.before;
      }

-- what holds of all holds of the last
pub last_holds : {X : Type 0} (P : X → Type 0) (xs : List X) (x : X) → All P (xs ++ x ∷ []) → P x
last_holds P [] x h = All-head P x [] h
last_holds P (y ∷ ys) x h = last_holds P ys x (All-tail P y (ys ++ x ∷ []) h)

-- what holds of each holds of one that is there
pub each_of : {X : Type 0} (P : X → Type 0) (xs : List X) (x : X) → Each P xs → Contains xs x → P x
each_of P [] x h there = absurd (Contains-nil x there)
each_of P (y ∷ ys) x h there =
    elim (Contains-cons_cases y ys x there) [
      | inl e ↦ subst P e h.0
      | inr rest ↦ each_of P ys x h.1 rest
    ]

-- ---- What came so far

-- From a configuration the machine has come this far, and no event has stopped its resource.
pub record Gone (i : Inputs) (o : Reach) (bs : List Break) (c : Config) (old m : Machine) (written now : Option (List ℕ)) (n : ℕ) : Type 0 where
  pub more : List Taken
  pub run : HasRun i o c m more written now n
  pub going : Each (λ (t : Taken). t.effect.stop ≡ None) more
  pub below : All (λ (t : Taken). t.key.tick < o.to) more
  pub onward : (from : ℕ) → from ≤ o.to → IsReady i o.steps from old → (t : ℕ) × (t ≤ o.to) × IsLater i o.steps from t m more
  pub unbroken : AreUnbroken i o bs more

module _ (i : Inputs) (o : Reach) (bs : List Break) where
  pub gone_first : (c : Config) (m : Machine) (written : Option (List ℕ)) → IsAt i c.state c.agenda m → m.traffic.outbox.lines.items ≡ [] → Gone i o bs c m m written written 0
  gone_first c m written is none = record {
    more = [];
    run = record { chain = tt; at = is; none = none; got = Appends-nil written; counted = omega arith };
    going = tt;
    below = All-nil (λ (t : Taken). t.key.tick < o.to);
    onward = λ from le ready. (from, le, later_none i o.steps from m ready);
    unbroken = λ watched. tt;
  }

  pub out_of_memory : (c : Config) (old m : Machine) (written now : Option (List ℕ)) (n : ℕ) → Gone i o bs c old m written now n → FailsRun i o c fault.Memory written now
  out_of_memory c old m written now n g = (g.more, g.run.chain, g.run.got)

  -- A piece more: the lines of what was taken were there, and were written or not.
  module _ (c : Config) (old m : Machine) (written mid : Option (List ℕ)) (n : ℕ) (g : Gone i o bs c old m written mid n) (new : Machine) (taken : List Taken)
      (x : HasGone i o.steps (last c g.more) m new taken) where
    abbrev pub d : Config
    d = last c g.more

    -- the lines that are there are those of the piece
    piece_is : map (line_of (system_of i)) new.traffic.outbox.lines.items ≡ lines_of taken
    piece_is = x.lines ∙ ap (λ z. map (line_of (system_of i)) z ++ lines_of taken) g.run.none

    piece_text : lines_text o.form (system_of i) (map (line_of (system_of i)) new.traffic.outbox.lines.items) ≡ text_of i o.form taken
    piece_text = ap (lines_text o.form (system_of i)) piece_is

    pub cut_off : (now : Option (List ℕ)) (k : ℕ) → IsPartWritten mid now (lines_text o.form (system_of i) (map (line_of (system_of i)) new.traffic.outbox.lines.items)) k
        → FailsRun i o c (fault.Write (bounded (n + k))) written now
    cut_off now k p = (
      g.more ++ taken,
      chain_append (system_of i) o.steps g.more taken c g.going g.run.chain x.chain,
      subst (λ (t : List ℕ). IsPartWritten written now t (bounded (n + k))) (sym (text-append i o.form g.more taken))
          (part-after (text_of i o.form g.more) g.run.got g.run.counted (subst (λ (t : List ℕ). IsPartWritten mid now t k) piece_text p)),
    )

    module _ (now : Option (List ℕ)) (k : ℕ) (got : Appends mid now (lines_text o.form (system_of i) (map (line_of (system_of i)) new.traffic.outbox.lines.items)))
        (counted : k ≡ bounded (length (lines_text o.form (system_of i) (map (line_of (system_of i)) new.traffic.outbox.lines.items))))
        (next : Machine) (none : next.traffic.outbox.lines.items ≡ []) (on : (s : State) (a : Agenda) → IsAt i s a new → IsAt i s a next)
        (ready : (t : ℕ) → IsReady i o.steps t new → IsReady i o.steps t next) where
      leads : last c (g.more ++ taken) ≡ last d taken
      leads = last_append g.more taken c

      pub run_more : HasRun i o c next (g.more ++ taken) written now (bounded (n + k))
      run_more = record {
        chain = chain_append (system_of i) o.steps g.more taken c g.going g.run.chain x.chain;
        at = subst (λ (z : Config). IsAt i z.state z.agenda next) (sym leads) (on (last d taken).state (last d taken).agenda x.at);
        none = none;
        got =
            subst (λ (t : List ℕ). Appends written now t) (sym (text-append i o.form g.more taken))
            (Appends-trans written mid now (text_of i o.form g.more) (text_of i o.form taken) g.run.got (subst (λ (t : List ℕ). Appends mid now t) piece_text got));
        counted =
            ap (λ z. bounded (z + k)) g.run.counted
            ∙ ap (λ z. bounded (bounded (length (text_of i o.form g.more)) + z)) (counted ∙ ap (λ (t : List ℕ). bounded (length t)) piece_text)
            ∙ bounded-length (text_of i o.form g.more) (text_of i o.form taken)
            ∙ ap (λ (t : List ℕ). bounded (length t)) (sym (text-append i o.form g.more taken));
      }

      -- ticks, where the piece ends at one
      onward_to : (u : ℕ) → Onward i o.to o.steps u m new taken → Onward i o.to o.steps u old next (g.more ++ taken)
      onward_to u y from le was =
          let first = g.onward from le was in
          later_after i o.steps from first.0 u m new next g.more taken first.2 (y first.0 first.1 first.2.ready) (ready u)

      below_more : All (λ (t : Taken). t.key.tick < o.to) taken → All (λ (t : Taken). t.key.tick < o.to) (g.more ++ taken)
      below_more y = All-append (λ (t : Taken). t.key.tick < o.to) g.more taken g.below y

      going_more : Each (λ (t : Taken). t.effect.stop ≡ None) taken → Each (λ (t : Taken). t.effect.stop ≡ None) (g.more ++ taken)
      going_more y = each_append (λ (t : Taken). t.effect.stop ≡ None) g.more taken g.going y

      -- no break was for a line before, and none is for one now
      unbroken_more : AreUnbroken i o bs taken → AreUnbroken i o bs (g.more ++ taken)
      unbroken_more passes watched = each_append (λ (z : Taken). IsHitBy (system_of i) bs z.effect.lines None) g.more taken (g.unbroken watched) (passes watched)

      -- the run goes on
      pub gone_more : (before : List Taken) (t : Taken) → taken ≡ before ++ t ∷ [] → Each (λ (t : Taken). t.effect.stop ≡ None) taken
          → All (λ (t : Taken). t.key.tick < o.to) taken → Onward i o.to o.steps t.key.tick m new taken → AreUnbroken i o bs taken → Gone i o bs c old next written now (bounded (n + k))
      gone_more before t is going below y passes =
          let less : t.key.tick < o.to = last_holds (λ (z : Taken). z.key.tick < o.to) before t (subst (λ zs. All (λ (z : Taken). z.key.tick < o.to) zs) is below) in
          record {
            more = g.more ++ taken;
            run = run_more;
            going = going_more going;
            below = below_more below;
            onward = λ from le was. (t.key.tick, omega (arith, less), onward_to t.key.tick y from le was);
            unbroken = unbroken_more passes;
          }

      -- the lines that are there are those of the last event, where the others have none
      last_lines : (before : List Taken) (t : Taken) → taken ≡ before ++ t ∷ [] → lines_of before ≡ [] → map (line_of (system_of i)) new.traffic.outbox.lines.items ≡ t.effect.lines
      last_lines before t is quiet =
          piece_is ∙ ap lines_of is ∙ lines_of-append before (t ∷ []) ∙ ap (λ z. z ++ (t.effect.lines ++ [])) quiet ∙ append-nil t.effect.lines

      -- no break is for a line that is there
      pub passes_here : (before : List Taken) (t : Taken) → taken ≡ before ++ t ∷ [] → (IsTrue o.is_watched → lines_of before ≡ [])
          → (IsTrue o.is_watched → IsHitBy (system_of i) bs (map (line_of (system_of i)) new.traffic.outbox.lines.items) None) → AreUnbroken i o bs taken
      passes_here before t is quiet least watched =
          let P : Taken → Type 0 = λ (z : Taken). IsHitBy (system_of i) bs z.effect.lines None in
          subst (λ (zs : List Taken). PassBreaks (system_of i) bs zs) (sym is)
          (each_append P before (t ∷ []) (quiet_pass (system_of i) bs before (quiet watched))
          (subst (λ (ls : List Line). IsHitBy (system_of i) bs ls None) (last_lines before t is (quiet watched)) (least watched), tt))

      -- it ends at its tick
      pub end_here : Each (λ (t : Taken). t.effect.stop ≡ None) taken → All (λ (t : Taken). t.key.tick < o.to) taken → NoneBelow (last d taken).agenda o.to
          → ((from : ℕ) → from ≤ o.to → IsReady i o.steps from m → (t : ℕ) × (t ≤ o.to) × IsLater i o.steps from t new taken)
          → (IsTrue o.is_watched → lines_of taken ≡ []) → EndsRun i o bs c old next (g.more ++ taken) until.At
      end_here going below none y quiet = (
        going_more going,
        below_more below,
        subst (λ (z : Config). NoneBelow z.agenda o.to) (sym leads) none,
        λ from le was.
            let first = g.onward from le was in
            let last = y first.0 first.1 first.2.ready in
            (last.0, last.1, later_after i o.steps from first.0 last.0 m new next g.more taken first.2 last.2 (ready last.0)),
        unbroken_more (λ watched. quiet_pass (system_of i) bs taken (quiet watched)),
      )

      -- a resource stops
      pub stop_here : (s : StopMark) → s.resource < length (system_of i).resource_names → ending_of o.to taken ≡ AtStop s.tick s.resource s.reason → s.tick < o.to
          → Onward i o.to o.steps s.tick m new taken → (before : List Taken) (t : Taken) → taken ≡ before ++ t ∷ [] → (IsTrue o.is_watched → lines_of before ≡ [])
          → EndsRun i o bs c old next (g.more ++ taken) (until.Stop s)
      stop_here s named ending less y before t is quiet = (
        named,
        ending_append o.to g.more taken g.going ∙ ending,
        less,
        onward_to s.tick y,
        (
          g.more ++ before,
          t,
          ap (λ zs. g.more ++ zs) is ∙ sym (append_assoc g.more before (t ∷ [])),
          λ watched. each_append (λ (z : Taken). IsHitBy (system_of i) bs z.effect.lines None) g.more before (g.unbroken watched) (quiet_pass (system_of i) bs before (quiet watched)),
        ),
      )

      -- a break is for the last event, of which a line is there
      pub break_here : (number tick : ℕ) → IsTrue o.is_watched → (before : List Taken) (t : Taken) → taken ≡ before ++ t ∷ [] → lines_of before ≡ []
          → Each (λ (l : Line). l.key ≡ t.key) t.effect.lines → (l : run.Line) → Contains new.traffic.outbox.lines.items l → l.key.tick ≡ tick
          → Each (λ (t : Taken). t.effect.stop ≡ None) taken → All (λ (t : Taken). t.key.tick < o.to) taken → Onward i o.to o.steps t.key.tick m new taken
          → IsHitBy (system_of i) bs (map (line_of (system_of i)) new.traffic.outbox.lines.items) (Some number) → EndsRun i o bs c old next (g.more ++ taken) (until.Break number tick)
      break_here number tick watched before t is quiet its l there at going below y least =
          let less : t.key.tick < o.to = last_holds (λ (z : Taken). z.key.tick < o.to) before t (subst (λ zs. All (λ (z : Taken). z.key.tick < o.to) zs) is below) in
          let lines : map (line_of (system_of i)) new.traffic.outbox.lines.items ≡ t.effect.lines = last_lines before t is quiet in
          let own : l.key ≡ t.key =
          each_of (λ (z : Line). z.key ≡ t.key) t.effect.lines (line_of (system_of i) l) its
          (subst (λ zs. Contains zs (line_of (system_of i) l)) lines (Contains-map (line_of (system_of i)) new.traffic.outbox.lines.items l there)) in
          let same : t.key.tick ≡ tick = ap (λ (z : Key). z.tick) (sym own) ∙ at in (
            watched,
            going_more going,
            g.more ++ before,
            t,
            ap (λ zs. g.more ++ zs) is ∙ sym (append_assoc g.more before (t ∷ [])),
            same,
            subst (λ z. z < o.to) same less,
            subst (λ z. Onward i o.to o.steps z old next (g.more ++ taken)) same (onward_to t.key.tick y),
            each_append (λ (z : Taken). IsHitBy (system_of i) bs z.effect.lines None) g.more before (g.unbroken watched) (quiet_pass (system_of i) bs before quiet),
            subst (λ (ls : List Line). IsHitBy (system_of i) bs ls (Some number)) lines least,
          )
