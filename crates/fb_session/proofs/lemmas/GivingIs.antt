-- A row more, while the session goes on.
use Rattle.fb_types.proofs.Common.{◌≡◌, ℕ, ◌+◌, ◌^◌, ◌<◌, ◌≤◌, List, [], ◌∷◌, ◌++◌, length, map, refl, sym, ap, ◌∙◌, subst, arith, append_assoc, length-append, get_or, inl, inr, Result, Ok, Err, length-map, map-append, All-push, IsErrAnd, IsGood, AreAccepted, Inputs, system_of, stimuli_of, Precedes, stimulus_key, Each, Port, path_at, Chain, Taken, last, opening, stimulus_of, Agenda, State, Stimulated}
use Rattle.fb_types.specs.declared.deploy.Stimulus.{Stimulus}
use Rattle.fb_types.specs.declared.key.Key.{Key}
use Rattle.fb_types.specs.declared.run.Event.TheVariants.{Given}
use Rattle.fb_types.specs.Keys.{with_all}
use Rattle.fb_types.specs.Simulation as model
use Rattle.fb_types.specs.States.{Event}
use Rattle.fb_types.specs.declared.run.GivenRow.{GivenRow}
use Rattle.fb_types.proofs.lemmas.events.KeyLaws.{earlier_precedes}
use Rattle.fb_system.specs.Stimuli.{IsRowOf}
use Rattle.fb_check.proofs.lemmas.GoodStimuli.{Known}
use Rattle.fb_laws.specs.GivenRows.{row_event}
use Rattle.fb_laws.proofs.lemmas.machine.Bridge.{all_each}
use Rattle.fb_laws.proofs.lemmas.takings.GivenRows.{rows_may_follow}
use Rattle.fb_net.specs.Events.{event_of}
use Rattle.fb_resource.proofs.lemmas.PostLaws.{port_path}
use Rattle.fb_sim_machine.specs.Machines.{IsAt, IsReady}
use Rattle.fb_sim_machine.specs.declared.machine.Machine.{Machine}
use Rattle.fb_inputs.specs.Words.{Text}
use Rattle.fb_session.specs.Giving.{Gives, HasGiven, IsRead, Puts, row_text}
use Rattle.fb_session.specs.Pasts.{IsAlive, IsRow, Past, StandsBy, Talk, with_rows}
use Rattle.fb_session.specs.declared.fault.GiveFault.{GiveFault}
use Rattle.fb_session.specs.declared.fault.GiveFault.TheVariants as fault
use Rattle.fb_session.specs.declared.give.GivenAnswer.{GivenAnswer}
use Rattle.fb_session.specs.declared.stage.Stage.TheVariants as stage

-- one row more comes after the others
pub rows_more : (i : Inputs) (given : List Stimulus) (s : Stimulus) → stimuli_of (with_rows i (given ++ s ∷ [])) ≡ stimuli_of (with_rows i given) ++ stimulus_of s ∷ []
rows_more i given s = ap (map stimulus_of) (sym (append_assoc i.stimuli given (s ∷ []))) ∙ map-append stimulus_of (i.stimuli ++ given) (s ∷ [])

-- the event of a row, by number and in the model
row_is : (i : Inputs) (ss : List model.Stimulus) (s : Stimulus) (g : GivenRow) (tick : ℕ) → tick ≡ s.tick → IsRowOf (system_of i) (stimulus_of s) g → g.row ≡ length ss
    → ◌≡◌ {A = Key × Event} (stimulus_key tick ((system_of i).resource (path_at (system_of i) g.target.instance)) g.row, event_of i (Given g)) (row_event (system_of i) (length ss) (stimulus_of s))
row_is i ss s g tick same is number =
    let sys = system_of i in
    let home : sys.resource (path_at sys g.target.instance) ≡ sys.resource (stimulus_of s).port.at =
    ap sys.resource (sym (port_path sys g.target) ∙ ap (λ (q : Port). q.at) is.port) in
    λ j. (stimulus_key (same j) (home j) (number j), Stimulated (is.port j) (is.sets j))

module _ (old : Talk) (p : Past) (s : Stimulus) (g : GivenRow) (m : Machine) (was : StandsBy old p) (running : old.stage ≡ stage.Running) (tick : ℕ) (same : tick ≡ s.tick) (later : old.reached ≤ tick)
    (row : IsRow old.inputs s) (is : IsRowOf (system_of old.inputs) (stimulus_of s) g) (number : g.row ≡ old.rows)
    (given : (st : State) (a : Agenda) → IsAt old.inputs st a old.machine
    → IsAt old.inputs st (with_all ((stimulus_key tick ((system_of old.inputs).resource (path_at (system_of old.inputs) g.target.instance)) g.row, event_of old.inputs (Given g)) ∷ []) a) m)
    (ready : (limit from : ℕ) → from ≤ tick → IsReady old.inputs limit from old.machine → IsReady old.inputs limit from m)
    (lines : m.traffic.outbox.lines.items ≡ old.machine.traffic.outbox.lines.items) where
  abbrev i : Inputs
  i = old.inputs

  abbrev ss : List model.Stimulus
  ss = stimuli_of (with_rows i p.given)

  count_is : g.row ≡ length ss
  count_is = number ∙ was.counted ∙ sym (length-map (i.stimuli ++ p.given) stimulus_of)

  before : Each (λ (t : Taken). Precedes t.key (row_event (system_of i) (length ss) (stimulus_of s)).0) p.taken
  before =
      all_each (λ (t : Taken). Precedes t.key (row_event (system_of i) (length ss) (stimulus_of s)).0) p.taken
      (λ j d less.
      earlier_precedes (get_or p.taken j d).key (row_event (system_of i) (length ss) (stimulus_of s)).0 (let b = was.before j d less in omega (arith, b, later, same)))

  abbrev more : Past
  more = record p { given = p.given ++ s ∷ [] }

  at_row : IsAt i (last (opening (system_of i) (ss ++ stimulus_of s ∷ [])) p.taken).state (last (opening (system_of i) (ss ++ stimulus_of s ∷ [])) p.taken).agenda m
  at_row =
      let f = rows_may_follow (system_of i) old.steps ss (stimulus_of s) p.taken was.chain before in
      let d = last (opening (system_of i) ss) p.taken in
      let at = subst (λ (e : Key × Event). IsAt i d.state (with_all (e ∷ []) d.agenda) m) (row_is i ss s g tick same is count_is)
      (given d.state d.agenda (was.at (subst IsAlive (sym running) tt))) in
      let here = subst (λ (z : State). IsAt i z (with_all (row_event (system_of i) (length ss) (stimulus_of s) ∷ []) d.agenda) m) (sym f.leads.state) at in
      record { here = here.here; sent = here.sent; agenda = λ j. f.leads.agenda j ∙ here.agenda j }

  pub stands_more : StandsBy (record old { rows = old.rows + 1; machine = m }) more
  stands_more =
      let f = rows_may_follow (system_of i) old.steps ss (stimulus_of s) p.taken was.chain before in
      record {
        judged = was.judged;
        some_steps = was.some_steps;
        few_steps = was.few_steps;
        early = was.early;
        rows = All-push (IsRow i) p.given s was.rows row;
        counted = let c = was.counted in rw (sym (append_assoc i.stimuli p.given (s ∷ [])), length-append) (omega (arith, c));
        chain = subst (λ zs. Chain (system_of i) old.steps (opening (system_of i) zs) p.taken) (sym (rows_more i p.given s)) f.chain;
        before = was.before;
        ends = was.ends;
        at = λ alive.
            subst (λ zs. IsAt i (last (opening (system_of i) zs) p.taken).state (last (opening (system_of i) zs) p.taken).agenda m) (sym (rows_more i p.given s)) at_row;
        none = λ alive. lines ∙ was.none alive;
        goes = λ alive.
            let goes = was.goes alive in
            let low = goes.1 running in
            (goes.0, λ on. low, ready old.steps goes.0 (omega (arith, low, later)) goes.2, goes.3);
      }

-- The session has the row after all others, whatever came before.
pub given_is : (v : Talk) (s : Stimulus) (g : GivenRow) (m : Machine) (n : ℕ) → n ≡ v.rows + 1 → v.stage ≡ stage.Running → (tick : ℕ) → tick ≡ s.tick → v.reached ≤ tick → IsRow v.inputs s
    → IsRowOf (system_of v.inputs) (stimulus_of s) g → g.row ≡ v.rows
    → ((st : State) (a : Agenda) → IsAt v.inputs st a v.machine
    → IsAt v.inputs st (with_all ((stimulus_key tick ((system_of v.inputs).resource (path_at (system_of v.inputs) g.target.instance)) g.row, event_of v.inputs (Given g)) ∷ []) a) m)
    → ((limit from : ℕ) → from ≤ tick → IsReady v.inputs limit from v.machine → IsReady v.inputs limit from m)
    → m.traffic.outbox.lines.items ≡ v.machine.traffic.outbox.lines.items → HasGiven s v (record v { rows = n; machine = m })
given_is v s g m n more running tick same later row is number given ready lines = record {
  talk = ap (λ z. record v { rows = z; machine = m }) more;
  stands = λ p was.
      subst (λ z. StandsBy (record v { rows = z; machine = m }) (record p { given = p.given ++ s ∷ [] })) (sym more)
      (stands_more v p s g m was running tick same later row is number given ready lines);
}

-- an accepted application knows its names
pub known_names : (i : Inputs) → AreAccepted i → Known i.library
known_names i accepted = record { plan = i.plan; once = λ twice. accepted 20 (inl (refl, twice)); known = λ unknown. accepted 21 (inr (inl (refl, unknown))) }

-- ---- What is answered

-- without memory nothing changes, and there is a number for the row
pub unput_for_memory : (s : Stimulus) (text : Text) (old new : Talk) (r : Result GivenAnswer GiveFault) → IsErrAnd r (λ e. e ≡ fault.Memory) → old.rows + 1 < 2 ^ 64 → new ≡ old → Puts s text old new r
unput_for_memory s text old new (Ok a) bad few is = absurd bad
unput_for_memory s text old new (Err e) memory few is = subst (λ (f : GiveFault). Puts s text old new (Err f)) (sym memory) (few, is)

module _ (tick event values : Text) (old : Talk) where
  -- it was put, or it was not
  pub put_gives : (new : Talk) (s : Stimulus) (text : Text) (r : Result GivenAnswer GiveFault) → IsRead tick event values s → IsGood old.inputs.library s → old.reached ≤ s.tick
      → old.stage ≡ stage.Running → text ≡ row_text s → Puts s text old new r → Gives tick event values old new r
  put_gives new s text (Ok answer) read good later running is h = (s, read, good, later, running, h.0, h.1 ∙ is, h.2)
  put_gives new s text (Err fault.NotGoing) read good later running is h = absurd h
  put_gives new s text (Err (fault.Unread f)) read good later running is h = absurd h
  put_gives new s text (Err (fault.Unfit t f)) read good later running is h = absurd h
  put_gives new s text (Err (fault.Late t)) read good later running is h = absurd h
  put_gives new s text (Err fault.Full) read good later running is h = h
  put_gives new s text (Err fault.Memory) read good later running is h = (running, h.1)
