-- What a phase hands out belongs to the system, whatever was handed out before.
use Rattle.fb_sim.proofs.lemmas.Common.{◌≡◌, ℕ, List, sym, ap₂, ◌∙◌, subst, All, AllZip, Inputs, system_of, stimuli_of, CoreStep, opening_core, machine, count_of, IsSchedule, core_of, AreGood, BelongsTo, Resource, WindowDone, Does, JobModel, jobs_of, AreLegal, KeepHorizon, OfEachCore, lists_of, IsAt, CoreState}
use Rattle.fb_types.specs.declared.run.Line as run
use Rattle.fb_window.specs.Leaving.{HasLeft}
use Rattle.fb_window.specs.Reached.{IsReached}
use Rattle.fb_window.specs.Settling.{Settles}
use Rattle.fb_window.specs.declared.cores.AwayState.{AwayState}
use Rattle.fb_window.specs.declared.cores.Settled.{Settled}
use Rattle.fb_window.specs.declared.cores.Settled.TheVariants as settled
use Rattle.fb_window.proofs.lemmas.bounds.KeptHorizons.{come}
use Rattle.fb_sim.specs.Rounds.{lines_out}
use Rattle.fb_laws.proofs.lemmas.schedules.Phasing.{phase_of, is_phase}

-- each job was done
pub all_done :
    (core : CoreState) (away : AwayState) (all : List ℕ) → away.system ≡ core.system → away.steps ≡ core.steps → HasLeft core.resources.items all away
    → (jobs : List JobModel) (dones : List WindowDone) → jobs ≡ jobs_of core.system core.steps all 0 core.resources.items → AllZip Does jobs dones
    → AllZip Does away.jobs.value.items dones
all_done core away all system steps left jobs dones is done =
    subst (λ (js : List JobModel). AllZip Does js dones) (is ∙ sym (left.jobs ∙ ap₂ (λ j l. jobs_of j l all 0 core.resources.items) system steps)) done

-- what is settled belongs to the system
settled_belong :
    (i : Inputs) (limit horizon : ℕ) (es : List (CoreStep (machine (system_of i) limit))) (bounds : List ℕ) (before : List (List run.Line)) (workers : ℕ → ℕ) (s : Settled)
    → Settles i limit horizon es bounds before workers s → All (BelongsTo (system_of i)) (lines_out s)
settled_belong i limit horizon es bounds before workers (settled.Going core out) st =
    let M = machine (system_of i) limit in
    (st.settled (phase_of M st.loans (count_of (system_of i))) (is_phase M st.loans (count_of (system_of i)) st.are_loans.others)).0.belong
settled_belong i limit horizon es bounds before workers (settled.Ended core out) st =
    let M = machine (system_of i) limit in
    (st.settled (phase_of M st.loans (count_of (system_of i))) (is_phase M st.loans (count_of (system_of i)) st.are_loans.others)).0.belong
settled_belong i limit horizon es bounds before workers (settled.Stopped out mark) st =
    let M = machine (system_of i) limit in
    (st.settled (phase_of M st.loans (count_of (system_of i))) (is_phase M st.loans (count_of (system_of i)) st.are_loans.others)).2

-- What settling says of what was away.
abbrev Says : AwayState → Inputs → ℕ → ℕ → List (List run.Line) → Settled → Type 0
Says away j l u before s =
    (xs : List Resource) (bounds : List ℕ) (es : List (CoreStep (machine (system_of j) l))) (workers : ℕ → ℕ)
    → HasLeft xs bounds away
    → IsSchedule (machine (system_of j) l) u (opening_core (system_of j) (stimuli_of j) l) es
    → IsAt j l (core_of j l es) xs
    → AreLegal j l u (core_of j l es) bounds
    → Settles j l u es bounds before workers s

module _ (i : Inputs) (good : AreGood i) (core : CoreState) (own : core.system ≡ i) (reached : IsReached core) (horizon : ℕ) (keep : KeepHorizon horizon core.resources.items) (all : List ℕ)
    (legal : OfEachCore core.system core.steps core.resources.items (λ c. AreLegal core.system core.steps horizon c all)) (away : AwayState) where
  pub out_belongs :
      away.system ≡ core.system → away.steps ≡ core.steps → away.horizon ≡ horizon → HasLeft core.resources.items all away
      → (s : Settled) → Says away away.system away.steps away.horizon (lists_of away.pending.items) s → All (BelongsTo (system_of i)) (lines_out s)
  out_belongs system steps to left s says =
      let k = come core (subst AreGood (sym own) good) reached horizon keep in
      let before = lists_of away.pending.items in
      let a : Says away core.system away.steps away.horizon before s = subst (λ (j : Inputs). Says away j away.steps away.horizon before s) system says in
      let b : Says away core.system core.steps away.horizon before s = subst (λ (l : ℕ). Says away core.system l away.horizon before s) steps a in
      let d : Says away core.system core.steps horizon before s = subst (λ (u : ℕ). Says away core.system core.steps u before s) to b in
      let st = d core.resources.items all k.0 (λ r. 0) left k.1 k.2 (legal horizon k.0 k.1 k.2) in
      subst (λ (j : Inputs). All (BelongsTo (system_of j)) (lines_out s)) own (settled_belong core.system core.steps horizon k.0 all before (λ r. 0) s st)
