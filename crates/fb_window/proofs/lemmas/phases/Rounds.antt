-- A round: all have come home, and what is found then says where the core is, which lines are handed out, and how far the run is.
use Rattle.fb_window.proofs.lemmas.Common.{◌≡◌, ℕ, suc, ◌+◌, ◌<◌, ◌≤◌, ◌^◌, ◌⊎◌, Option, Some, None, List, [], ◌∷◌, ◌++◌, map, length, refl, sym, ap, ◌∙◌, subst, inl, inr, ⊎_elim, arith, All, append_assoc, Vec, AllZip, nat_lt, slice_get, slice_index_or, cases_lt, Inputs, system_of, stimuli_of, Core, CoreStep, IsFloor, exchanged, opening_core, Machine, line_of, machine, count_of, IsSchedule, core_after, opening, System, Key, Line, StopMark, Reason, IsNext, waiting, BelongsTo, AreGood, IsSound, all_of, IsLawful, World, IsOpening, Resource, WindowDone, Edge, until, HasKept, core_of, AreCut, IsFirstStop, AreHome, Does, jobs_of, resting_of, ArePosted, Loan, after_loan, AreLegal, HasLeft, lists_of, IsReached, IsAt, AwayState, Home}
use Rattle.fb_types.proofs.Common.{if◌then◌else◌, Exchange, IsMerge, lines_before, IsAtHorizon, IsLeastStop}
use Rattle.fb_types.specs.States as model
use Rattle.fb_laws.proofs.lemmas.soundness.Accepting.{sound_of}
use Rattle.fb_trace.specs.Merging.{AreMerged, AreRising}
use Rattle.fb_laws.specs.Worlds.{IsCounted}
use Rattle.fb_laws.proofs.lemmas.machine.Bridge.{world_of}
use Rattle.fb_laws.proofs.lemmas.machine.Opening.{is_counted, is_opening}
use Rattle.fb_laws.proofs.lemmas.resources.OwnPart.{lawful}
use Rattle.fb_laws.specs.Finality.{HasHanded, IsEdge, IsLeastTick}
use Rattle.fb_window.specs.Frontiers.{IsEnd, IsFrontier, AreAllPast, AreAtHorizon}
use Rattle.fb_laws.specs.ScheduleLaw.{lines_to}
use Rattle.fb_laws.specs.Phases.{IsPhase}
use Rattle.fb_window.specs.Settling.{AreLoans, HasRisen, IsKept, IsSettled, Settles, after_phase, reach_of, settled_of}
use Rattle.fb_window.specs.Reached.{IsBrought}
use Rattle.fb_window.specs.declared.cores.CoreState as held
use Rattle.fb_window.specs.declared.cores.Settled.{Settled}
use Rattle.fb_window.specs.declared.cores.Settled.TheVariants.{Going, Ended, Stopped}
use Rattle.fb_window.specs.declared.ends.End.{End}
use Rattle.fb_window.specs.declared.ends.End.TheVariants.{Open, Horizon, Stop}
use Rattle.fb_laws.proofs.lemmas.schedules.Edges.{IsLater}
use Rattle.fb_window.proofs.lemmas.lines.Gather.{out_handed, out_merges}
use Rattle.fb_laws.proofs.lemmas.schedules.Handed.{until_at_stop}
use Rattle.fb_laws.proofs.lemmas.schedules.Handing.{AreLinesOf, core_lines, is_later}
use Rattle.fb_laws.proofs.lemmas.schedules.Keeps.{Inv}
use Rattle.fb_laws.proofs.lemmas.schedules.Phasing.{IsRound, after_loans, after_append, is_phase, is_round, phase_of}
use Rattle.fb_laws.proofs.lemmas.lists.Indexes.{has_at, is_at as is_at_index, one_at}
use Rattle.fb_window.proofs.lemmas.messages.Posted.{is_posted}
use Rattle.fb_laws.proofs.lemmas.schedules.Reached.{inv_after, runs_after}
use Rattle.fb_laws.proofs.lemmas.schedules.FloorsRise.{rises}
use Rattle.fb_window.proofs.lemmas.phases.Standings.{at_horizon, all_past, first_stop, from_horizon, is_edge, is_least, least_stop, mark_at, stop_clock}
use Rattle.fb_laws.proofs.lemmas.schedules.Start as start
use Rattle.fb_window.proofs.lemmas.phases.Loans.{AreBack, are_back, back_loans}
use Rattle.fb_laws.proofs.lemmas.schedules.Lines.{merge_same}

-- What is found when all have come home.
pub record HasFound (i : Inputs) (horizon : ℕ) (h : Home) (zs : List Resource) (fronts rests : List (Vec Line)) (end : End) : Type 0 where
  pub least : ℕ
  pub edge : Edge
  pub posted : ArePosted (system_of i) (all_of h.outboxes.items) h.resources.items zs
  pub cap : least ≤ horizon
  pub low : (r : ℕ) (x : Resource) (j : Key) → slice_get zs r ≡ Some x → j.tick < least → waiting x.agenda j ≡ None
  pub there : least < horizon → (r : ℕ) × (x : Resource) × (slice_get zs r ≡ Some x) × IsNext x.agenda least
  pub frontier : IsFrontier least zs edge
  pub cut : AreCut edge h.pending.items fronts rests
  pub ends : IsEnd horizon zs end

pub schedule_rest : (M : Machine) (horizon : ℕ) (es fs : List (CoreStep M)) (c : Core M) → IsSchedule M horizon c (es ++ fs) → IsSchedule M horizon (core_after M c es) fs
schedule_rest M horizon [] fs c x = x
schedule_rest M horizon (e ∷ es) fs c x = schedule_rest M horizon es fs _ x.1

module _ (i : Inputs) (good : AreGood i) (limit horizon : ℕ) (es : List (CoreStep (machine (system_of i) limit)))
    (sc : IsSchedule (machine (system_of i) limit) horizon (opening_core (system_of i) (stimuli_of i) limit) es)
    (xs : List Resource) (bounds : List ℕ) (workers : ℕ → ℕ) (before : List (Vec Line)) (h : Home)
    (at : IsAt i limit (core_of i limit es) xs) (legal : AreLegal i limit horizon (core_of i limit es) bounds) (home : AreHome i limit bounds xs before h)
    (zs : List Resource) (fronts rests : List (Vec Line)) (end : End) (found : HasFound i horizon h zs fronts rests end) where
  abbrev M : Machine
  M = machine (system_of i) limit

  abbrev sys : System
  sys = system_of i

  abbrev c : Core (machine (system_of i) limit)
  c = core_of i limit es

  sound : IsSound (system_of i)
  sound = sound_of i good

  law : IsLawful (machine (system_of i) limit)
  law = lawful (system_of i) sound limit

  abbrev w : World (machine (system_of i) limit)
  w = world_of (system_of i) sound limit (opening (system_of i) (stimuli_of i)) (λ r. None)

  opens : IsOpening (machine (system_of i) limit) w
  opens = is_opening (system_of i) sound limit (stimuli_of i)

  counts : IsCounted (machine (system_of i) limit) (count_of (system_of i)) w
  counts = is_counted (system_of i) sound limit (stimuli_of i)

  some : 0 < count_of (system_of i)
  some = let b = sound.counted [] in omega arith

  v : Inv (machine (system_of i) limit) horizon w c (runs_after (machine (system_of i) limit) es)
  v = inv_after M law w horizon es opens sc

  pub back : AreBack i limit horizon (core_of i limit es) bounds workers xs before h
  back = are_back i limit horizon c bounds workers xs before h at legal home

  abbrev loans : ℕ → Option (Loan (machine (system_of i) limit))
  loans = back.loans

  loans_are : AreLoans i limit horizon (core_of i limit es) bounds workers loans
  loans_are = back_loans i limit horizon c bounds workers xs before h at back

  abbrev d : Core (machine (system_of i) limit)
  d = exchanged (machine (system_of i) limit) (after_loans (machine (system_of i) limit) (core_of i limit es) loans)

  at_home : (r : ℕ) → (c r).out ≡ None
  at_home r =
      ⊎_elim (λ b. let n = at.counted in let x = has_at xs r (omega arith) in (at.each r x.0 x.1).home) (λ b. (at.others r b).home) (cases_lt r (count_of sys))

  -- what the lines of each resource grew by
  more_of : (r : ℕ) → (r < count_of (system_of i)) ⊎ (count_of (system_of i) ≤ r) → List Line
  more_of r (inl b) = (back.each r b).back.more
  more_of r (inr b) = []

  abbrev more : ℕ → List Line
  more r = more_of r (cases_lt r (count_of (system_of i)))

  grown : (r : ℕ) → r < count_of (system_of i) → (s : (r < count_of (system_of i)) ⊎ (count_of (system_of i) ≤ r)) → (d r).lines ≡ (c r).lines ++ map (line_of (system_of i)) (more_of r s)
  unfolding more_of
  grown r b (inl l) = (back.each r l).back.named
  grown r b (inr l) = absurd (omega arith)

  joined_of : (r : ℕ) (p q : Vec Line) → r < count_of (system_of i) → slice_get before r ≡ Some p → slice_get h.pending.items r ≡ Some q
      → (s : (r < count_of (system_of i)) ⊎ (count_of (system_of i) ≤ r)) → q.items ≡ p.items ++ more_of r s
  unfolding more_of
  joined_of r p q b e f (inl l) =
      let it = back.each r l in
      ap (λ (z : Vec Line). z.items) (one_at h.pending.items r q it.at.lines f it.at.lines_at) ∙ it.back.said
      ∙ ap (λ (z : Vec Line). z.items ++ it.back.more) (one_at before r it.at.kept p it.at.kept_at e)
  joined_of r p q b e f (inr l) = absurd (omega arith)

  joined : (r : ℕ) (p q : Vec Line) → slice_get before r ≡ Some p → slice_get h.pending.items r ≡ Some q → q.items ≡ p.items ++ more r
  joined r p q e f = joined_of r p q (let b = is_at_index h.pending.items r q f in let n = home.pending in let k = at.counted in omega arith) e f (cases_lt r (count_of sys))

  before_counted : {ls : List model.Line} → HasKept i limit horizon c (lists_of before) ls → length before ≡ count_of (system_of i)
  before_counted left = sym (length_lists before) ∙ left.counted
    where
      length_lists : (ps : List (Vec Line)) → length (lists_of ps) ≡ length ps
      length_lists [] = refl
      length_lists (p ∷ ps) = ap suc (length_lists ps)

  -- ---- One order of the steps

  module _ (fs : List (CoreStep (machine (system_of i) limit))) (phase : IsPhase (machine (system_of i) limit) loans fs) where
    round : IsRound (machine (system_of i) limit) horizon (start.opening (machine (system_of i) limit) w) es fs loans
    round = is_round M law horizon w (start.opening M w) es fs (runs_after M es) loans sc v at_home loans_are.may phase

    back_inv : Inv (machine (system_of i) limit) horizon w (after_loans (machine (system_of i) limit) (core_of i limit es) loans) (runs_after (machine (system_of i) limit) (es ++ fs))
    back_inv = subst (λ (z : Core M). Inv M horizon w z (runs_after M (es ++ fs))) round.back_is (inv_after M law w horizon (es ++ fs) opens round.back)

    end_inv : Inv (machine (system_of i) limit) horizon w d (runs_after (machine (system_of i) limit) (es ++ fs ++ Exchange ∷ []))
    end_inv = subst (λ (z : Core M). Inv M horizon w z (runs_after M (es ++ fs ++ Exchange ∷ []))) round.comes_to (inv_after M law w horizon (es ++ fs ++ Exchange ∷ []) opens round.schedule)

    is_at : IsAt i limit d zs
    is_at =
        is_posted i limit horizon c bounds workers xs before h at back (home.resources ∙ at.counted) (home.outboxes ∙ at.counted) law w (runs_after M (es ++ fs)) back_inv counts.links zs found.posted

    edge : IsEdge (machine (system_of i) limit) (count_of (system_of i)) d found.least found.edge
    edge = is_edge i limit d zs is_at found.least found.edge some found.frontier

    low : IsLeastTick (machine (system_of i) limit) horizon d found.least
    low = is_least i limit d zs is_at found.least horizon found.cap found.low found.there

    later : IsLater (machine (system_of i) limit) (count_of (system_of i)) horizon c d (λ r. map (line_of (system_of i)) (more r))
    later =
        subst (λ (z : Core M). IsLater M (count_of sys) horizon c z (λ r. map (line_of sys) (more r))) comes
        (is_later M law w horizon (fs ++ Exchange ∷ []) c (runs_after M es) v (count_of sys) (schedule_rest M horizon es (fs ++ Exchange ∷ []) (start.opening M w) (subst (λ (z : List (CoreStep M)). IsSchedule M horizon (start.opening M w) z) (append_assoc es fs (Exchange ∷ [])) round.schedule))
        (λ r. map (line_of sys) (more r)) (λ r b. ap (λ (z : Core M). (z r).lines) comes ∙ grown r b (cases_lt r (count_of sys))))
      where
        comes : core_after M c (fs ++ Exchange ∷ []) ≡ d
        comes =
            sym (after_append M es (fs ++ Exchange ∷ []) (start.opening M w))
            ∙ ap (λ z. core_after M (start.opening M w) z) (sym (append_assoc es fs (Exchange ∷ [])))
            ∙ round.comes_to

    lines : (r : ℕ) → AreLinesOf (machine (system_of i) limit) horizon r (d r).lines
    lines r = core_lines M law horizon w d (runs_after M (es ++ fs ++ Exchange ∷ [])) end_inv r

    module _ (out : List Line) (merged : AreRising fronts → AreMerged fronts out) where
      handed : (ls : List model.Line) → HasKept i limit horizon c (lists_of before) ls → HasHanded i limit horizon d (lists_of rests) (ls ++ map (line_of (system_of i)) out)
      handed ls left =
          out_handed i limit horizon c d before h.pending.items more (before_counted left) (home.pending ∙ at.counted) joined later lines found.least found.edge edge low fronts rests found.cut ls left out merged

      merges : (ls : List model.Line) → HasKept i limit horizon c (lists_of before) ls
          → IsMerge (machine (system_of i) limit) (count_of (system_of i)) (λ r. lines_before (machine (system_of i) limit) (until found.edge r) (d r).lines) (ls ++ map (line_of (system_of i)) out)
      merges ls left =
          out_merges i limit horizon c d before h.pending.items more (before_counted left) (home.pending ∙ at.counted) joined later lines found.least found.edge edge low fronts rests found.cut ls left out merged

    -- the least tick of all events
    risen : ((s : ℕ) (reason : Reason) → IsLeastStop (machine (system_of i) limit) (count_of (system_of i)) d s reason → ⊥) → HasRisen i limit c d bounds
    risen goes m floor over =
        subst (λ (z : Core M). IsFloor M z (m + 1)) round.comes_to
        (rises M law horizon (count_of sys) w es fs loans opens counts.links v round loans_are.may m floor
        (record {
          over = λ r b e. let t = loans_are.live r b e in (record { worker = workers r; bound = slice_index_or bounds r 0; run = t.0 }, t.1, over r b e);
          stopped = loans_are.stopped;
          others = loans_are.others;
          live = λ r b. (at.others r b).live;
          quiet = λ r b k e. (at.others r b).waits k e;
        })
        (λ s reason x. goes s reason (subst (λ (z : Core M). IsLeastStop M (count_of sys) z s reason) round.comes_to x)))

    -- ---- The answers

    module _ (core : held.CoreState) (inputs : core.system ≡ i) (steps : core.steps ≡ limit) (resources : core.resources.items ≡ zs) (pending : core.pending.items ≡ rests)
        (belongs : All (λ (p : Vec Line). All (BelongsTo (system_of i)) p.items) rests) (out : List Line) (merged : AreRising fronts → AreMerged fronts out) (belong : All (BelongsTo (system_of i)) out) where
      pub is_kept : IsKept i limit horizon c d (lists_of before) core out
      is_kept = record {
        inputs = inputs;
        steps = steps;
        at = subst (λ (z : List Resource). IsAt i limit d z) (sym resources) is_at;
        left = λ ls left. subst (λ (z : List (Vec Line)). HasHanded i limit horizon d (lists_of z) (ls ++ map (line_of sys) out)) (sym pending) (handed out merged ls left);
        belong = belong;
        kept = subst (λ (z : List (Vec Line)). All (λ (p : Vec Line). All (BelongsTo sys) p.items) z) (sym pending) belongs;
      }

    pub going : end ≡ Open → (IsAtHorizon (machine (system_of i) limit) (count_of (system_of i)) horizon d → ⊥)
        × ((s : ℕ) (reason : Reason) → IsLeastStop (machine (system_of i) limit) (count_of (system_of i)) d s reason → ⊥)
        × HasRisen i limit c d bounds
    going e = (
      λ x. ends.0 (from_horizon i limit d zs is_at horizon x),
      no_stop,
      risen no_stop,
    )
      where
        ends : (AreAtHorizon horizon zs → ⊥) × ((m : StopMark) → IsFirstStop zs (length zs) m → AreAllPast m.tick zs → ⊥)
        ends = subst (λ (z : End). IsEnd horizon zs z) e found.ends

        no_stop : (s : ℕ) (reason : Reason) → IsLeastStop M (count_of sys) d s reason → ⊥
        no_stop s reason x = ends.1 (mark_at i limit d zs is_at s reason) (first_stop i limit d zs is_at s reason x) (all_past i limit d zs is_at s reason x)

    pub ended : end ≡ Horizon → IsAtHorizon (machine (system_of i) limit) (count_of (system_of i)) horizon d
    ended e = at_horizon i limit d zs is_at horizon (subst (λ (z : End). IsEnd horizon zs z) e found.ends)

    pub stopped : (out : List Line) → (AreRising fronts → AreMerged fronts out) → (m : StopMark) → end ≡ Stop m → All (BelongsTo (system_of i)) out
        → IsLeastStop (machine (system_of i) limit) (count_of (system_of i)) d m.resource m.reason
        × ((d m.resource).clock ≡ m.tick)
        × All (BelongsTo (system_of i)) out
        × ((ls : List model.Line) → HasKept i limit horizon c (lists_of before) ls
        → IsMerge (machine (system_of i) limit) (count_of (system_of i)) (lines_to (system_of i) limit m.tick m.resource d) (ls ++ map (line_of (system_of i)) out))
    stopped out merged m e belong = (
      stop,
      clock,
      belong,
      λ ls left. merge_same M (count_of sys) _ _ (ls ++ map (line_of sys) out)
          (λ r b. ap (λ z. lines_before M z (d r).lines) (until_at_stop M (count_of sys) d found.least found.edge m.resource m.reason edge stop r ∙ ap (λ t. if nat_lt m.resource r then t else t + 1) clock))
          (merges out merged ls left),
    )
      where
        ends : IsFirstStop zs (length zs) m × AreAllPast m.tick zs
        ends = subst (λ (z : End). IsEnd horizon zs z) e found.ends

        stop : IsLeastStop M (count_of sys) d m.resource m.reason
        stop = least_stop i limit d zs is_at m ends.0 ends.1

        clock : (d m.resource).clock ≡ m.tick
        clock = stop_clock i limit d zs is_at m ends.0

  -- Some schedule has led to the resources as they are then: that of the loans one after another.
  pub brought : ((r : ℕ) → count_of (system_of i) ≤ r → (core_of i limit es r).clock ≡ 0) → IsBrought i limit zs
  brought idle =
      let fs = phase_of M loans (count_of sys) in
      let phase = is_phase M loans (count_of sys) loans_are.others in
      let r = round fs phase in
      record {
        range = horizon;
        steps = after_phase i limit es fs;
        schedule = r.schedule;
        at = subst (λ (z : Core M). IsAt i limit z zs) (sym r.comes_to) (is_at fs phase);
        idle = λ q b. ap (λ (z : Core M). (z q).clock) r.comes_to ∙ ap (λ (o : Option (Loan M)). (after_loan M (c q) o).clock) (loans_are.others q b) ∙ idle q b;
      }

  -- What is settled in every order of the steps.
  pub settles : (s : Settled) → ((fs : List (CoreStep (machine (system_of i) limit))) → IsPhase (machine (system_of i) limit) loans fs → IsSettled i limit horizon c d bounds (lists_of before) s)
      → Settles i limit horizon es bounds (lists_of before) workers s
  settles s settled = record {
    loans = loans;
    are_loans = loans_are;
    schedule = λ fs phase. (round fs phase).schedule;
    settled = λ fs phase. subst (λ (z : Core M). IsSettled i limit horizon c z bounds (lists_of before) s) (sym (round fs phase).comes_to) (settled fs phase);
  }

-- ---- The result of settling

-- What was done when all came home, whatever they left with.
pub record HasGathered (i : Inputs) (limit horizon : ℕ) (resting : List (Option Resource)) (before : List (Vec Line)) (dones : List WindowDone) (h : Home) (zs : List Resource) (fronts rests : List (Vec Line)) (end : End) : Type 0 where
  pub good : AreGood i
  pub home : (bounds : List ℕ) (xs : List Resource) → resting ≡ map resting_of xs → AllZip Does (jobs_of i limit bounds 0 xs) dones → AreHome i limit bounds xs before h
  pub found : HasFound i horizon h zs fronts rests end
  pub belongs : All (λ (p : Vec Line). All (BelongsTo (system_of i)) p.items) rests

module _ (a : AwayState) (dones : List WindowDone) (done : AllZip Does a.jobs.value.items dones) (h : Home) (zs : List Resource) (fronts rests : List (Vec Line)) (end : End)
    (x : HasGathered a.system a.steps a.horizon a.resting.items a.pending.items dones h zs fronts rests end)
    (xs : List Resource) (bounds : List ℕ) (es : List (CoreStep (machine (system_of a.system) a.steps))) (workers : ℕ → ℕ) (left : HasLeft xs bounds a)
    (sc : IsSchedule (machine (system_of a.system) a.steps) a.horizon (opening_core (system_of a.system) (stimuli_of a.system) a.steps) es)
    (at : IsAt a.system a.steps (core_of a.system a.steps es) xs) (legal : AreLegal a.system a.steps a.horizon (core_of a.system a.steps es) bounds) where
  came : AreHome a.system a.steps bounds xs a.pending.items h
  came = x.home bounds xs left.resting (subst (λ z. AllZip Does z dones) left.jobs done)

  pub settle_going : (core : held.CoreState) (lines : Vec Line) → (AreRising fronts → AreMerged fronts lines.items) → All (BelongsTo (system_of a.system)) lines.items
      → end ≡ Open → core.system ≡ a.system → core.steps ≡ a.steps → core.resources.items ≡ zs → core.pending.items ≡ rests
      → Settles a.system a.steps a.horizon es bounds (lists_of a.pending.items) workers (Going core lines)
  settle_going core lines merged belong e inputs steps resources pending =
      settles a.system x.good a.steps a.horizon es sc xs bounds workers a.pending.items h at legal came zs fronts rests end x.found (Going core lines)
      (λ fs phase.
      let k = is_kept a.system x.good a.steps a.horizon es sc xs bounds workers a.pending.items h at legal came zs fronts rests end x.found fs phase core inputs steps resources pending x.belongs lines.items merged belong in
      let g = going a.system x.good a.steps a.horizon es sc xs bounds workers a.pending.items h at legal came zs fronts rests end x.found fs phase e in
      (k, g.0, g.1, g.2))

  pub settle_ended : (core : held.CoreState) (lines : Vec Line) → (AreRising fronts → AreMerged fronts lines.items) → All (BelongsTo (system_of a.system)) lines.items
      → end ≡ Horizon → core.system ≡ a.system → core.steps ≡ a.steps → core.resources.items ≡ zs → core.pending.items ≡ rests
      → Settles a.system a.steps a.horizon es bounds (lists_of a.pending.items) workers (Ended core lines)
  settle_ended core lines merged belong e inputs steps resources pending =
      settles a.system x.good a.steps a.horizon es sc xs bounds workers a.pending.items h at legal came zs fronts rests end x.found (Ended core lines)
      (λ fs phase.
      let k = is_kept a.system x.good a.steps a.horizon es sc xs bounds workers a.pending.items h at legal came zs fronts rests end x.found fs phase core inputs steps resources pending x.belongs lines.items merged belong in
      (k, ended a.system x.good a.steps a.horizon es sc xs bounds workers a.pending.items h at legal came zs fronts rests end x.found fs phase e))

  -- The core that is put together is one.
  pub settle_reached : ((r : ℕ) → count_of (system_of a.system) ≤ r → (core_of a.system a.steps es r).clock ≡ 0) → 1 ≤ a.steps → a.steps ≤ 10 ^ 7
      → (resources : Vec Resource) (pending : Vec (Vec Line)) → resources.items ≡ zs → pending.items ≡ rests
      → IsReached (record { system = a.system; steps = a.steps; resources = resources; pending = pending })
  settle_reached idle some few resources pending same kept =
      let way : IsBrought a.system a.steps zs = brought a.system x.good a.steps a.horizon es sc xs bounds workers a.pending.items h at legal came zs fronts rests end x.found idle in
      record {
        way = subst (λ (z : List Resource). IsBrought a.system a.steps z) (sym same) way;
        some_steps = some;
        few_steps = few;
        counted = ap length kept ∙ x.found.cut.rests ∙ came.pending ∙ at.counted ∙ sym way.at.counted ∙ sym (ap length same);
        belong = subst (λ (z : List (Vec Line)). All (λ (p : Vec Line). All (BelongsTo (system_of a.system)) p.items) z) (sym kept) x.belongs;
      }

  pub settle_stopped : (lines : Vec Line) → (AreRising fronts → AreMerged fronts lines.items) → All (BelongsTo (system_of a.system)) lines.items → (m : StopMark) → end ≡ Stop m
      → Settles a.system a.steps a.horizon es bounds (lists_of a.pending.items) workers (Stopped lines m)
  settle_stopped lines merged belong m e =
      settles a.system x.good a.steps a.horizon es sc xs bounds workers a.pending.items h at legal came zs fronts rests end x.found (Stopped lines m)
      (λ fs phase. stopped a.system x.good a.steps a.horizon es sc xs bounds workers a.pending.items h at legal came zs fronts rests end x.found fs phase lines.items merged m e belong)

  -- All go on, or come to the horizon, or one has stopped.
  pub settle_each : (core : held.CoreState) (lines : Vec Line) → (AreRising fronts → AreMerged fronts lines.items) → All (BelongsTo (system_of a.system)) lines.items
      → core.system ≡ a.system → core.steps ≡ a.steps → core.resources.items ≡ zs → core.pending.items ≡ rests
      → Settles a.system a.steps a.horizon es bounds (lists_of a.pending.items) workers (settled_of (reach_of core end) lines)
  settle_each core lines merged belong inputs steps resources pending = go end refl
    where
      go : (e : End) → end ≡ e → Settles a.system a.steps a.horizon es bounds (lists_of a.pending.items) workers (settled_of (reach_of core e) lines)
      go Open is = settle_going core lines merged belong is inputs steps resources pending
      go Horizon is = settle_ended core lines merged belong is inputs steps resources pending
      go (Stop m) is = settle_stopped lines merged belong m is
