-- From what is settled to what a round hands out.
use Rattle.fb_sim.proofs.lemmas.Common.{◌≡◌, ℕ, List, Result, Ok, Err, IfOk, [], ◌∷◌, ◌++◌, map, length, refl, sym, ap, ◌∙◌, subst, append-nil, arith, Vec, All, length-map, Inputs, system_of, stimuli_of, line_of, AtHorizon, AtStop, Ending, CoreStep, opening_core, machine, count_of, IsSchedule, IsAtHorizon, Reason, AreGood, BelongsTo, Resource, core_of, IsAt, lists_of, CoreState, Begin, AreAll, HasCome}
use Rattle.fb_types.proofs.Common.{slice_index_or, get_or-map, IsMerge, IsLeastStop}
use Rattle.fb_types.specs.States.{Line}
use Rattle.fb_types.specs.declared.run.Line as run
use Rattle.fb_laws.proofs.lemmas.soundness.Accepting.{sound_of}
use Rattle.fb_laws.proofs.lemmas.existence.Existence.{there_is}
use Rattle.fb_window.specs.Bounding.{AreGreatest}
use Rattle.fb_laws.specs.Finality.{HasHanded, HasKept}
use Rattle.fb_laws.specs.ScheduleLaw.{lines_to}
use Rattle.fb_window.specs.Settling.{Settles, after_phase}
use Rattle.fb_window.specs.declared.cores.Settled.{Settled}
use Rattle.fb_window.specs.declared.cores.Settled.TheVariants as settled
use Rattle.fb_laws.proofs.lemmas.schedules.Phasing.{phase_of, is_phase}
use Rattle.fb_laws.proofs.lemmas.schedules.AllSchedules.{end_law, stop_law}
use Rattle.fb_sim.specs.Rounds.{IsHomeAgain, IsHomeOnce, IsPhaseAt}
use Rattle.fb_sim.proofs.lemmas.rounds.Fronts.{left_begins, all_left, all_stopped}
use Rattle.fb_sim.proofs.lemmas.rounds.Rising.{rises}

module _ (i : Inputs) (good : AreGood i) (limit horizon : ℕ) where
  -- what was handed out of a core begins the lines of the simulation
  pub come_begins : (core : CoreState) (ls : List Line) → HasCome i limit horizon core ls → Begin i limit horizon ls
  come_begins core ls h =
      let x = there_is (system_of i) (sound_of i good) horizon limit (stimuli_of i) in
      let y = left_begins i good horizon limit h.steps h.way.schedule x.0 x.1 (lists_of core.pending.items) ls h.way.left in
      record { takings = x.0; simulation = x.1; rest = y.0; split = y.1 }

  pub all_begin : (ls : List Line) (end : Ending) → AreAll i limit horizon ls end → Begin i limit horizon ls
  all_begin ls end h = record { takings = h.takings; simulation = h.simulation; rest = []; split = sym (append-nil ls ∙ h.lines) }

  -- with every clock at the horizon it is all of them
  pub come_all : (core : CoreState) (ls : List Line) (h : HasCome i limit horizon core ls) → IsAtHorizon (machine (system_of i) limit) (count_of (system_of i)) horizon (core_of i limit h.steps)
      → AreAll i limit horizon ls (AtHorizon horizon)
  come_all core ls h e =
      let by_law = end_law (system_of i) (sound_of i good) (stimuli_of i) horizon limit h.steps h.way.schedule e in
      let x = by_law.there in
      record {
        takings = x.0;
        simulation = x.1;
        lines = all_left i good horizon limit h.steps h.way.schedule x.0 x.1 e (lists_of core.pending.items) ls h.way.left;
        ending = sym (by_law.ending x.0 x.1);
      }

  -- and so it is at the least stop, which all others are past
  pub stop_all : (es : List (CoreStep (machine (system_of i) limit))) → IsSchedule (machine (system_of i) limit) horizon (opening_core (system_of i) (stimuli_of i) limit) es
      → (s : ℕ) (reason : Reason) (tick : ℕ) (ls : List Line) → IsLeastStop (machine (system_of i) limit) (count_of (system_of i)) (core_of i limit es) s reason → (core_of i limit es s).clock ≡ tick
      → IsMerge (machine (system_of i) limit) (count_of (system_of i)) (lines_to (system_of i) limit tick s (core_of i limit es)) ls
      → AreAll i limit horizon ls (AtStop tick s reason)
  stop_all es sc s reason tick ls least at m =
      let by_law = stop_law (system_of i) (sound_of i good) (stimuli_of i) horizon limit es sc s reason least in
      let x = by_law.there in
      record {
        takings = x.0;
        simulation = x.1;
        lines = all_stopped i good horizon limit es sc x.0 x.1 s reason tick ls least at m;
        ending = ap (λ t. AtStop t s reason) (sym at) ∙ sym (by_law.ending x.0 x.1);
      }

  module _ (es : List (CoreStep (machine (system_of i) limit))) (xs : List Resource) (before : List (List run.Line)) (ls : List Line)
      (sc : IsSchedule (machine (system_of i) limit) horizon (opening_core (system_of i) (stimuli_of i) limit) es) (at : IsAt i limit (core_of i limit es) xs)
      (left : HasKept i limit horizon (core_of i limit es) before ls)
      (cap : ℕ) (bounds : List ℕ) (greatest : AreGreatest (system_of i) limit horizon cap (core_of i limit es) bounds) (workers : ℕ → ℕ) where
    pub home_again : (s : Settled) → Settles i limit horizon es bounds before workers s → IsHomeAgain i limit horizon (core_of i limit es) ls s
    home_again (settled.Going core out) st =
        let M = machine (system_of i) limit in
        let n = count_of (system_of i) in
        let fs = phase_of M st.loans n in
        let ph = is_phase M st.loans n st.are_loans.others in
        let se = st.settled fs ph in
        let k = se.0 in
        record {
          belong = k.belong;
          after = (
            record {
              of = record { inputs = k.inputs; steps = k.steps; kept = k.kept };
              steps = after_phase i limit es fs;
              way = record { schedule = st.schedule fs ph; at = k.at; left = k.left ls left };
            },
            se.1,
            se.2,
            rises i good limit horizon es sc xs at cap bounds greatest workers st.loans st.are_loans fs ph core.resources.items k.at se.1 se.2 se.3,
          );
        }
    home_again (settled.Ended core out) st =
        let M = machine (system_of i) limit in
        let n = count_of (system_of i) in
        let fs = phase_of M st.loans n in
        let ph = is_phase M st.loans n st.are_loans.others in
        let se = st.settled fs ph in
        let k = se.0 in
        let come : HasCome i limit horizon core (ls ++ map (line_of (system_of i)) out.items) = record {
          of = record { inputs = k.inputs; steps = k.steps; kept = k.kept };
          steps = after_phase i limit es fs;
          way = record { schedule = st.schedule fs ph; at = k.at; left = k.left ls left };
        } in
        record { belong = k.belong; after = (come, se.1, come_all core (ls ++ map (line_of (system_of i)) out.items) come se.1) }
    home_again (settled.Stopped out mark) st =
        let M = machine (system_of i) limit in
        let n = count_of (system_of i) in
        let fs = phase_of M st.loans n in
        let ph = is_phase M st.loans n st.are_loans.others in
        let se = st.settled fs ph in
        record {
          belong = se.2;
          after = (
            se.0.counted,
            stop_all (after_phase i limit es fs) (st.schedule fs ph) mark.resource mark.reason mark.tick (ls ++ map (line_of (system_of i)) out.items) se.0 se.1 (se.3 ls left),
          );
        }

    -- the steps of the round are those of one phase, and the exchange
    phase_at : (s : Settled) (st : Settles i limit horizon es bounds before workers s) → IsPhaseAt i limit horizon cap es (phase_of (machine (system_of i) limit) st.loans (count_of (system_of i)))
    phase_at s st = record {
      bounds = bounds;
      greatest = greatest;
      workers = workers;
      loans = st.loans;
      are_loans = st.are_loans;
      phase = is_phase (machine (system_of i) limit) st.loans (count_of (system_of i)) st.are_loans.others;
    }

    pub home_once : (s : Settled) → Settles i limit horizon es bounds before workers s → IsHomeOnce i limit horizon cap es ls s
    unfolding home_again
    home_once (settled.Going core out) st =
        let fs = phase_of (machine (system_of i) limit) st.loans (count_of (system_of i)) in
        let home = home_again (settled.Going core out) st in
        record { belong = home.belong; round = record { steps = fs; phase = phase_at (settled.Going core out) st; after = home.after; by = refl } }
    home_once (settled.Ended core out) st =
        let fs = phase_of (machine (system_of i) limit) st.loans (count_of (system_of i)) in
        let home = home_again (settled.Ended core out) st in
        record { belong = home.belong; round = record { steps = fs; phase = phase_at (settled.Ended core out) st; after = home.after; by = refl } }
    home_once (settled.Stopped out mark) st =
        let fs = phase_of (machine (system_of i) limit) st.loans (count_of (system_of i)) in
        let home = home_again (settled.Stopped out mark) st in
        let se = st.settled fs (is_phase (machine (system_of i) limit) st.loans (count_of (system_of i)) st.are_loans.others) in
        record { belong = home.belong; round = record { steps = fs; phase = phase_at (settled.Stopped out mark) st; after = home.after; by = (se.0, se.1) } }

-- ---- The opening

module _ (i : Inputs) (limit horizon : ℕ) where
  no_elements : {A B : Type 0} (f : A → B) (xs : List A) → map f xs ≡ [] → xs ≡ []
  no_elements f [] e = refl
  no_elements f (x ∷ xs) e = absurd (let g : f x ∷ map f xs ≡ [] = e in cc)

  -- Nothing is kept before the first event, so all that is kept belongs to the system.
  pub opened_kept : (pending : List (Vec run.Line)) → HasHanded i limit horizon (core_of i limit []) (lists_of pending) [] → All (λ p. All (BelongsTo (system_of i)) p.items) pending
  opened_kept pending h k d within =
      let long : length (lists_of pending) ≡ length pending = length-map pending (λ (p : Vec run.Line). p.items) in
      let count = h.handed.counted in
      let none = no_elements (line_of (system_of i)) (slice_index_or (lists_of pending) k []) (h.handed.left.rest k (omega arith)) in
      let same : slice_index_or (lists_of pending) k [] ≡ (slice_index_or pending k d).items = get_or-map (λ (p : Vec run.Line). p.items) pending k d [] within in
      subst (λ (ls : List run.Line). All (BelongsTo (system_of i)) ls) (sym none ∙ same) (λ j e b. absurd (omega arith))

module _ {E : Type 0} (i : Inputs) (limit : ℕ) where
  -- A core that was opened is before the first event.
  pub opened_come : (r : Result CoreState E) → IfOk r (λ c. c.system ≡ i) → IfOk r (λ c. c.steps ≡ limit) → IfOk r (λ c. IsAt i limit (core_of i limit []) c.resources.items)
      → IfOk r (λ c. (horizon : ℕ) → HasHanded i limit horizon (core_of i limit []) (lists_of c.pending.items) []) → IfOk r (λ c. (horizon : ℕ) → HasCome i limit horizon c [])
  opened_come (Err e) system steps at left = tt
  opened_come (Ok c) system steps at left =
      λ horizon. record {
        of = record { inputs = system; steps = steps; kept = opened_kept i limit horizon c.pending.items (left horizon) };
        steps = [];
        way = record { schedule = tt; at = at; left = left horizon };
      }
