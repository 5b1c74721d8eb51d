-- What was handed out is what the lines of the simulation begin with, and at the end it is all of them.
use Rattle.fb_types.proofs.Common.{◌≡◌, ℕ, zero, suc, ◌+◌, ◌<◌, ◌≤◌, Bool, true, false, List, [], ◌∷◌, ◌++◌, None, refl, sym, ap, ◌∙◌, subst, inl, ⊎_elim, arith, if◌then◌else◌, nat_lt, not, filter, cases_lt, le-ltb, lt-ltb, Inputs, system_of, stimuli_of, Taken, IsSimulation, lines_of, opening, Machine, Item, Each, machine, items_of, count_of, IsMerge, lines_at, lines_before, Core, CoreStep, opening_core, IsSchedule, taken_after, IsAtHorizon, IsLeastStop}
use Rattle.fb_types.specs.declared.value.Reason.{Reason}
use Rattle.fb_types.specs.States.{Line}
use Rattle.fb_types.specs.Machines as machines
use Rattle.fb_types.specs.declared.run.Line as run
use Rattle.fb_types.proofs.lemmas.lists.EachLaws.{each_map, each_append}
use Rattle.fb_types.proofs.lemmas.lists.Lookups.{option_cases}
use Rattle.fb_laws.specs.Sound.{AreGood}
use Rattle.fb_laws.proofs.lemmas.soundness.Accepting.{sound_of}
use Rattle.fb_laws.specs.Facts.{IsLawful}
use Rattle.fb_laws.specs.Worlds.{World, IsOpening, IsCounted, Simulation}
use Rattle.fb_laws.proofs.lemmas.machine.Bridge.{world_of}
use Rattle.fb_laws.proofs.lemmas.schedules.Lines.{Here, sim_here, chain_here, merge_one, merge_same, sim_merge}
use Rattle.fb_laws.proofs.lemmas.machine.Opening.{is_opening, is_counted}
use Rattle.fb_laws.proofs.lemmas.resources.OwnPart.{lawful}
use Rattle.fb_laws.proofs.lemmas.resources.OneResource.{is_simulation, lines_items}
use Rattle.fb_laws.specs.Finality.{Edge, until, lines_from, IsFinalIn, HasHanded, core_of, lines_in}
use Rattle.fb_laws.specs.ScheduleLaw.{lines_to}
use Rattle.fb_laws.proofs.lemmas.schedules.Final.{final_lines}
use Rattle.fb_laws.proofs.lemmas.schedules.Keeps.{passed, done_of, passed_limit, floor_live}
use Rattle.fb_laws.proofs.lemmas.schedules.Reached.{inv_after, passed_live}
use Rattle.fb_laws.proofs.lemmas.schedules.AllSchedules.{end_law, stop_law}
use Rattle.fb_sim.proofs.lemmas.rounds.Edges.{all_before, before_later, none_before, at_below, begins}

module _ (M : Machine) where
  lines_under : (t : ℕ) (is : List (Item M)) → Each (Here M) is → Each (λ (i : Item M). i.key.tick < t) is → Each (λ (x : M.Line). M.line_tick x < t) (machines.lines_of M is)
  lines_under t [] h b = tt
  lines_under t (i ∷ is) h b =
      each_append _ i.out.lines (machines.lines_of M is)
      (each_map _ _ i.out.lines (λ x q. let e : M.line_tick x ≡ i.key.tick = q.0 in let c : i.key.tick < t = b.0 in omega arith) h.0)
      (lines_under t is h.1 b.1)

  -- where none is at a tick or later, all are before it
  none_from : (t : ℕ) (xs : List M.Line) → lines_from M t xs ≡ [] → Each (λ (x : M.Line). M.line_tick x < t) xs
  none_from t [] e = tt
  none_from t (x ∷ xs) e = ⊎_elim (λ b. (b, none_from t xs (later b))) (λ b. absurd (first b)) (cases_lt (M.line_tick x) t)
    where
      keep : (b : Bool) (ys : List M.Line) → b ≡ false → (if not b then x ∷ ys else ys) ≡ x ∷ ys
      keep true ys f = absurd cc
      keep false ys f = refl

      drop : (b : Bool) (ys : List M.Line) → b ≡ true → (if not b then x ∷ ys else ys) ≡ ys
      drop true ys f = refl
      drop false ys f = absurd cc

      later : M.line_tick x < t → lines_from M t xs ≡ []
      later b = sym (drop (nat_lt (M.line_tick x) t) (lines_from M t xs) (lt-ltb (M.line_tick x) t b)) ∙ e

      first : t ≤ M.line_tick x → ⊥
      first b = let f : x ∷ lines_from M t xs ≡ [] = sym (keep (nat_lt (M.line_tick x) t) (lines_from M t xs) (le-ltb (M.line_tick x) t b)) ∙ e in cc

  each_filter : (P : M.Line → Type 0) (p : M.Line → Bool) (xs : List M.Line) → Each P xs → Each P (filter p xs)
  each_filter P p [] h = tt
  each_filter P p (x ∷ xs) h = go (p x) (each_filter P p xs h.1)
    where
      go : (b : Bool) → Each P (filter p xs) → Each P (if b then x ∷ filter p xs else filter p xs)
      go true rest = (h.0, rest)
      go false rest = rest

module _ (i : Inputs) (good : AreGood i) (horizon limit_ : ℕ) (es : List (CoreStep (machine (system_of i) limit_)))
    (sc : IsSchedule (machine (system_of i) limit_) horizon (opening_core (system_of i) (stimuli_of i) limit_) es) where
  abbrev M : Machine
  M = machine (system_of i) limit_

  abbrev w : World (machine (system_of i) limit_)
  w = world_of (system_of i) (sound_of i good) limit_ (opening (system_of i) (stimuli_of i)) (λ r. None)

  abbrev c : Core (machine (system_of i) limit_)
  c = core_of i limit_ es

  abbrev runs : ℕ → List (Item (machine (system_of i) limit_))
  runs = taken_after (machine (system_of i) limit_) (λ r. []) es

  law : IsLawful (machine (system_of i) limit_)
  law = lawful (system_of i) (sound_of i good) limit_

  opens : IsOpening M w
  opens = is_opening (system_of i) (sound_of i good) limit_ (stimuli_of i)

  counts : IsCounted M (count_of (system_of i)) w
  counts = is_counted (system_of i) (sound_of i good) limit_ (stimuli_of i)

  -- all lines of a core are below the horizon
  pub core_below : (r : ℕ) → Each (λ (x : Line). x.key.tick < horizon) (c r).lines
  core_below r =
      let v = inv_after M law w horizon es opens sc in
      let a = v.each r in
      let p = passed_limit M w _ _ r (c r) (runs r) a in
      let l = v.range r in
      subst (λ (ls : List Line). Each (λ (x : Line). x.key.tick < horizon) ls) (sym a.said)
      (lines_under M horizon (runs r) (chain_here M law r (runs r) _ a.chain) (each_map _ _ (runs r) (λ (j : Item M) (b : j.key.tick < passed M (c r)). omega arith) a.below))

  -- ---- To the tick 0

  low : (r : ℕ) → passed M (c r) ≤ horizon
  low r =
      let v = inv_after M law w horizon es opens sc in
      let p = passed_limit M w _ _ r (c r) (runs r) (v.each r) in
      let l = v.range r in
      omega arith

  -- Nothing leads past tick 0 to there, so every clock is at it.
  pub at_zero : horizon ≡ 0 → IsAtHorizon M (count_of (system_of i)) horizon c
  at_zero zero_is = record {
    live = λ r b. live r;
    clocks = λ r b. let e = passed_live M (c r) (live r) in let l = low r in let z : horizon ≡ 0 = zero_is in omega arith;
  }
    where
      live : (r : ℕ) → (c r).state.stop ≡ None
      live r =
          ⊎_elim
          (λ none. none)
          (λ y. let e : passed M (c r) ≡ (c r).clock + 1 = ap (λ k. done_of k (c r).clock) y.1 in let l = low r in let z : horizon ≡ 0 = zero_is in absurd (omega arith))
          (option_cases (c r).state.stop)

  -- ---- With every clock at the horizon

  module _ (e : IsAtHorizon M (count_of (system_of i)) horizon c) where
    -- at the horizon every line is final
    pub all_final : (t r : ℕ) → t < horizon → IsFinalIn M (count_of (system_of i)) c t r
    all_final t r b = (
      0,
      (λ s k d. absurd (omega arith)),
      (λ s d. let f = floor_live M (c s).state.stop (c s).clock 0 (e.live s d) in let g : (c s).clock ≡ horizon = e.clocks s d in inl (inl (omega arith))),
    )

    -- nothing is kept
    pub none_left : (pending : List (List run.Line)) (ls : List Line) → HasHanded i limit_ horizon c pending ls → (r : ℕ) → r < count_of (system_of i) → lines_in i limit_ pending r ≡ []
    none_left pending ls h r b = go (lines_in i limit_ pending r) (h.handed.left.rest r b) (h.waits r b)
      where
        go : (p : List Line) → p ≡ lines_from M (until h.handed.left.edge r) (c r).lines → Each (λ (y : Line). IsFinalIn M (count_of (system_of i)) c y.key.tick r → ⊥) p → p ≡ []
        go [] one w = refl
        go (l ∷ p) one w =
            let below = each_filter M (λ (y : Line). y.key.tick < horizon) (λ (y : Line). not (nat_lt y.key.tick (until h.handed.left.edge r))) (c r).lines (core_below r) in
            absurd (w.0 (all_final l.key.tick r ((subst (λ (xs : List Line). Each (λ (y : Line). y.key.tick < horizon) xs) (sym one) below).0)))

    -- what was handed out of each resource are all its lines
    whole : (pending : List (List run.Line)) (ls : List Line) (h : HasHanded i limit_ horizon c pending ls) (r : ℕ) → r < count_of (system_of i) → lines_before M (until h.handed.left.edge r) (c r).lines ≡ (c r).lines
    whole pending ls h r b = all_before M (until h.handed.left.edge r) (c r).lines (none_from M (until h.handed.left.edge r) (c r).lines (sym (h.handed.left.rest r b) ∙ none_left pending ls h r b))

    pub all_merged : (pending : List (List run.Line)) (ls : List Line) → HasHanded i limit_ horizon c pending ls → IsMerge M (count_of (system_of i)) (λ r. (c r).lines) ls
    all_merged pending ls h = merge_same M (count_of (system_of i)) (λ r. lines_before M (until h.handed.left.edge r) (c r).lines) (λ r. (c r).lines) ls (whole pending ls h) h.handed.left.merged

  module _ (ts : List Taken) (x : IsSimulation (system_of i) (stimuli_of i) horizon limit_ ts) where
    abbrev is : List (Item (machine (system_of i) limit_))
    is = items_of (system_of i) limit_ ts

    simulated : Simulation M w horizon is
    simulated = is_simulation (system_of i) (sound_of i good) (stimuli_of i) horizon limit_ ts x

    same_lines : machines.lines_of M is ≡ lines_of ts
    same_lines = lines_items (system_of i) (sound_of i good) (stimuli_of i) horizon limit_ ts x ts

    merged : IsMerge M (count_of (system_of i)) (λ r. machines.lines_of M (machines.at M r is)) (lines_of ts)
    merged = subst (λ (ls : List Line). IsMerge M (count_of (system_of i)) (λ r. machines.lines_of M (machines.at M r is)) ls) same_lines (sim_merge M law (count_of (system_of i)) is w counts simulated.chain)

    lines_below : Each (λ (l : Line). l.key.tick < horizon) (lines_of ts)
    lines_below = subst (λ (ls : List Line). Each (λ (l : Line). l.key.tick < horizon) ls) same_lines (lines_under M horizon is (sim_here M law is w simulated.chain) simulated.below)

    -- a resource's lines up to a final tick are those of the simulation
    own : (q t : ℕ) → q < count_of (system_of i) → t < horizon → IsFinalIn M (count_of (system_of i)) c t q → lines_before M (t + 1) (c q).lines ≡ lines_before M (t + 1) (lines_at M q (lines_of ts))
    own q t b u f =
        subst (λ (ls : List Line). lines_before M (t + 1) (c q).lines ≡ lines_before M (t + 1) (lines_at M q ls)) same_lines
        (final_lines M law (count_of (system_of i)) w horizon is es opens counts simulated sc f.0 f.1 t q b u f.2)

    module _ (e : Edge) (final : (r t : ℕ) → r < count_of (system_of i) → t < horizon → t < until e r → IsFinalIn M (count_of (system_of i)) c t r) where
      up_to : (q v : ℕ) → q < count_of (system_of i) → v ≤ until e q → v ≤ horizon → lines_before M v (c q).lines ≡ lines_before M v (lines_at M q (lines_of ts))
      up_to q zero b u h = none_before M (c q).lines ∙ sym (none_before M (lines_at M q (lines_of ts)))
      up_to q (suc t) b u h =
          let s : t + 1 ≡ suc t = omega arith in
          subst (λ (z : ℕ). lines_before M z (c q).lines ≡ lines_before M z (lines_at M q (lines_of ts))) s (own q t b (omega arith) (final q t b (omega arith) (omega arith)))

      same_there : (q : ℕ) → q < count_of (system_of i) → lines_before M (until e q) (c q).lines ≡ lines_before M (until e q) (lines_at M q (lines_of ts))
      same_there q b =
          let below = at_below M horizon q (lines_of ts) lines_below in
          ⊎_elim
          (λ (h : horizon < until e q).
          before_later M horizon (until e q) (c q).lines (omega arith) (core_below q) ∙ sym (all_before M horizon (c q).lines (core_below q))
          ∙ up_to q horizon b (omega arith) (omega arith)
          ∙ all_before M horizon (lines_at M q (lines_of ts)) below ∙ sym (before_later M horizon (until e q) (lines_at M q (lines_of ts)) (omega arith) below))
          (λ (h : until e q ≤ horizon). up_to q (until e q) b (omega arith) h)
          (cases_lt horizon (until e q))

      pub front_of : (ls : List Line) → IsMerge M (count_of (system_of i)) (λ r. lines_before M (until e r) (c r).lines) ls → (rest : List Line) × (lines_of ts ≡ ls ++ rest)
      front_of ls m = begins M e (count_of (system_of i)) (λ r. (c r).lines) ls (lines_of ts) merged.order merged.counted same_there m

    -- what was handed out begins the lines of the simulation
    pub left_begins : (pending : List (List run.Line)) (ls : List Line) → HasHanded i limit_ horizon c pending ls → (rest : List Line) × (lines_of ts ≡ ls ++ rest)
    left_begins pending ls h = front_of h.handed.left.edge h.handed.left.final ls h.handed.left.merged

    pub all_left : (e : IsAtHorizon M (count_of (system_of i)) horizon c) (pending : List (List run.Line)) (ls : List Line) → HasHanded i limit_ horizon c pending ls → ls ≡ lines_of ts
    all_left e pending ls h =
        merge_one M (count_of (system_of i)) (λ r. (c r).lines) ls (lines_of ts) (all_merged e pending ls h)
        ((end_law (system_of i) (sound_of i good) (stimuli_of i) horizon limit_ es sc e).lines ts x)

    -- At a stop that all others are past, the lines up to it are those of the simulation.
    pub all_stopped : (s : ℕ) (reason : Reason) (tick : ℕ) (ls : List Line) → IsLeastStop M (count_of (system_of i)) c s reason → (c s).clock ≡ tick
        → IsMerge M (count_of (system_of i)) (lines_to (system_of i) limit_ tick s c) ls → ls ≡ lines_of ts
    all_stopped s reason tick ls least at m =
        let by_law = (stop_law (system_of i) (sound_of i good) (stimuli_of i) horizon limit_ es sc s reason least).lines ts x in
        merge_one M (count_of (system_of i)) (lines_to (system_of i) limit_ tick s c) ls (lines_of ts) m
        (subst (λ (t : ℕ). IsMerge M (count_of (system_of i)) (lines_to (system_of i) limit_ t s c) (lines_of ts)) at by_law)
