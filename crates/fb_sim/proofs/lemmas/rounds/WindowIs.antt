-- From what the calls of a round say of each other's values to what the round hands out.
use Rattle.fb_sim.proofs.lemmas.Common.{◌≡◌, ℕ, List, ◌++◌, map, Option, Result, Ok, Err, refl, sym, ap, ap₂, ◌∙◌, subst, ⊎_elim, Vec, All, AllZip, IsErrAnd, Appends, Inputs, system_of, stimuli_of, line_of, CoreStep, opening_core, machine, IsSchedule, AreGood, BelongsTo, Resource, WindowDone, core_of, Does, JobModel, jobs_of, KeepHorizon, OfEachCore, AreLegal, IsMerged, lists_of, IsAt, CoreState, HasCome, WritesPartOf, text_of, Options, RunError, Refused, Memory, Write, BadOption, Failed, Going, Ended, Stopped}
use Rattle.fb_types.specs.States.{Line}
use Rattle.fb_types.specs.Cores as model_cores
use Rattle.fb_types.specs.declared.run.Line as run
use Rattle.fb_window.specs.Bounding.{AreGreatest}
use Rattle.fb_window.specs.Leaving.{HasLeft}
use Rattle.fb_window.specs.Settling.{Settles, settled_of}
use Rattle.fb_window.specs.ManyTurns.{TakesTurns, after_series}
use Rattle.fb_window.specs.declared.cores.AwayState.{AwayState}
use Rattle.fb_window.specs.declared.cores.Reach.{Reach}
use Rattle.fb_window.specs.declared.cores.Reach.TheVariants as reach
use Rattle.fb_window.specs.declared.cores.Settled.{Settled}
use Rattle.fb_sim.specs.Rounds.{FailsRound, FailsToHandOut, HandsOut, RoundsWithCounts, HasTakenTurns, HoldsTo, IsAfter, AreUnwrittenOf, IsHomeAgain, IsHomeOnce, IsOnItsWay, Rounds, lines_out, round_of}
use Rattle.fb_sim.specs.declared.rounds.unwritten_lines.UnwrittenLines.{UnwrittenLines}
use Rattle.fb_sim.specs.declared.progress.Round.{Round}
use Rattle.fb_sim.specs.declared.rounds.tally.Tally.{Tally}
use Rattle.fb_window.proofs.lemmas.bounds.KeptHorizons.{keeps}
use Rattle.fb_sim.proofs.lemmas.rounds.RoundIs.{come_begins, home_again, home_once}

-- what holds of the inputs and the limit holds of the core's own
at_core : (P : Inputs → ℕ → Type 0) (j i : Inputs) (l limit : ℕ) → j ≡ i → l ≡ limit → P i limit → P j l
at_core P j i l limit e f h = subst (λ (x : Inputs). P x l) (sym e) (subst (λ (y : ℕ). P i y) (sym f) h)

module _ (i : Inputs) (limit horizon : ℕ) (core : CoreState) (ls : List Line) (h : IsOnItsWay i limit horizon core ls) where
  -- no clock is over the horizon
  pub keep : AreGood i → KeepHorizon horizon core.resources.items
  keep good = keeps i good limit core.resources.items horizon h.steps h.schedule h.at

  module _ (all : List ℕ) where
    are_legal : OfEachCore core.system core.steps core.resources.items (λ c. AreLegal core.system core.steps horizon c all) → AreLegal i limit horizon (core_of i limit h.steps) all
    are_legal f =
        let g : OfEachCore i limit core.resources.items (λ c. AreLegal i limit horizon c all) =
        at_core (λ j l. OfEachCore j l core.resources.items (λ c. AreLegal j l horizon c all)) i core.system limit core.steps (sym h.of.inputs) (sym h.of.steps) f in
        g horizon h.steps h.schedule h.at

    are_greatest : (cap : ℕ) → OfEachCore core.system core.steps core.resources.items (λ c. AreGreatest (system_of core.system) core.steps horizon cap c all)
        → AreGreatest (system_of i) limit horizon cap (core_of i limit h.steps) all
    are_greatest cap f =
        let g : OfEachCore i limit core.resources.items (λ c. AreGreatest (system_of i) limit horizon cap c all) =
        at_core (λ j l. OfEachCore j l core.resources.items (λ c. AreGreatest (system_of j) l horizon cap c all)) i core.system limit core.steps (sym h.of.inputs) (sym h.of.steps) f in
        g horizon h.steps h.schedule h.at

    -- ---- What is away

    module _ (away : AwayState) (system : away.system ≡ core.system) (steps : away.steps ≡ core.steps) (pending : away.pending ≡ core.pending) (left : HasLeft core.resources.items all away) where
      pub are_done : (jobs : List JobModel) (dones : List WindowDone) → jobs ≡ jobs_of core.system core.steps all 0 core.resources.items → AllZip Does jobs dones → AllZip Does away.jobs.value.items dones
      are_done jobs dones is done =
          subst (λ (js : List JobModel). AllZip Does js dones) (is ∙ sym (left.jobs ∙ ap₂ (λ j l. jobs_of j l all 0 core.resources.items) system steps)) done

      -- What settling says of what was away.
      abbrev Says : Inputs → ℕ → ℕ → List (List run.Line) → Settled → Type 0
      Says j l u before s =
          (xs : List Resource) (bounds : List ℕ) (es : List (CoreStep (machine (system_of j) l))) (workers : ℕ → ℕ)
          → HasLeft xs bounds away
          → IsSchedule (machine (system_of j) l) u (opening_core (system_of j) (stimuli_of j) l) es
          → IsAt j l (core_of j l es) xs
          → AreLegal j l u (core_of j l es) bounds
          → Settles j l u es bounds before workers s

      settles : (s : Settled) → away.horizon ≡ horizon
          → OfEachCore core.system core.steps core.resources.items (λ c. AreLegal core.system core.steps horizon c all)
          → Says away.system away.steps away.horizon (lists_of away.pending.items) s → Settles i limit horizon h.steps all (lists_of core.pending.items) (λ r. 0) s
      settles s to legal says =
          let a : Says i away.steps away.horizon (lists_of away.pending.items) s = subst (λ (j : Inputs). Says j away.steps away.horizon (lists_of away.pending.items) s) (system ∙ h.of.inputs) says in
          let b : Says i limit away.horizon (lists_of away.pending.items) s = subst (λ (l : ℕ). Says i l away.horizon (lists_of away.pending.items) s) (steps ∙ h.of.steps) a in
          let c : Says i limit horizon (lists_of away.pending.items) s = subst (λ (u : ℕ). Says i limit u (lists_of away.pending.items) s) to b in
          let d : Says i limit horizon (lists_of core.pending.items) s = subst (λ (ps : List (List run.Line)). Says i limit horizon ps s) (ap (λ ps. lists_of ps.items) pending) c in
          d core.resources.items all h.steps (λ r. 0) left h.schedule h.at (are_legal legal)

      pub is_home : (s : Settled) → AreGood i → away.horizon ≡ horizon
          → OfEachCore core.system core.steps core.resources.items (λ c. AreLegal core.system core.steps horizon c all)
          → (cap : ℕ) → OfEachCore core.system core.steps core.resources.items (λ c. AreGreatest (system_of core.system) core.steps horizon cap c all)
          → Says away.system away.steps away.horizon (lists_of away.pending.items) s → IsHomeAgain i limit horizon (core_of i limit h.steps) ls s
      is_home s good to legal cap greatest says =
          home_again i good limit horizon h.steps core.resources.items (lists_of core.pending.items) ls h.schedule h.at h.left cap all (are_greatest cap greatest) (λ r. 0) s
          (settles s to legal says)

      -- the same, with the one phase that led there
      pub is_home_once : (s : Settled) → AreGood i → away.horizon ≡ horizon
          → OfEachCore core.system core.steps core.resources.items (λ c. AreLegal core.system core.steps horizon c all)
          → (cap : ℕ) → OfEachCore core.system core.steps core.resources.items (λ c. AreGreatest (system_of core.system) core.steps horizon cap c all)
          → Says away.system away.steps away.horizon (lists_of away.pending.items) s → IsHomeOnce i limit horizon cap h.steps ls s
      is_home_once s good to legal cap greatest says =
          home_once i good limit horizon h.steps core.resources.items (lists_of core.pending.items) ls h.schedule h.at h.left cap all (are_greatest cap greatest) (λ r. 0) s
          (settles s to legal says)

-- a core that all final lines were handed out of
abbrev pub on_its_way : (i : Inputs) (limit horizon : ℕ) (core : CoreState) (ls : List Line) → HasCome i limit horizon core ls → IsOnItsWay i limit horizon core ls
on_its_way i limit horizon core ls h = record { of = h.of; steps = h.steps; schedule = h.way.schedule; at = h.way.at; left = h.way.left.handed }

-- ---- A series of turns before the window

module _ (i : Inputs) (limit horizon : ℕ) (core : CoreState) (ls : List Line) (h : HasCome i limit horizon core ls) where
  -- no clock is over the horizon
  pub series_keeps : AreGood i → KeepHorizon horizon core.resources.items
  series_keeps good = keeps i good limit core.resources.items horizon h.steps h.way.schedule h.way.at

  module _ (most : ℕ) (next : CoreState) (system : next.system ≡ core.system) (steps : next.steps ≡ core.steps) where
    has_taken_turns : All (λ p. All (BelongsTo (system_of i)) p.items) next.pending.items → TakesTurns i limit horizon most core next → HasTakenTurns i limit horizon (core_of i limit h.steps) ls next
    has_taken_turns belong takes_turns =
        let led = takes_turns h.steps h.way.schedule h.way.at in
        let l = led.1 in
        record {
          way = record {
            of = record { inputs = system ∙ h.of.inputs; steps = steps ∙ h.of.steps; kept = belong };
            steps = after_series i limit h.steps led.0;
            schedule = l.schedule;
            at = l.at;
            left = l.left ls h.way.left.handed;
          };
          floors = l.floors;
        }

    pub turned_on : All (λ p. All (BelongsTo (system_of core.system)) p.items) next.pending.items → TakesTurns core.system core.steps horizon most core next
        → HasTakenTurns i limit horizon (core_of i limit h.steps) ls next
    turned_on belong takes_turns =
        has_taken_turns (subst (λ (j : Inputs). All (λ p. All (BelongsTo (system_of j)) p.items) next.pending.items) h.of.inputs belong)
        (at_core (λ j l. TakesTurns j l horizon most core next) i core.system limit core.steps (sym h.of.inputs) (sym h.of.steps) takes_turns)

-- A round of the core after a series of turns is one of the core before it.
module _ (i : Inputs) (limit horizon : ℕ) (c : model_cores.Core (machine (system_of i) limit)) (ls ms : List Line) (core : CoreState) (h : HasTakenTurns i limit horizon c ls core) where
  after_since : (round : Round) → IsAfter i limit horizon (core_of i limit h.way.steps) ms round → IsAfter i limit horizon c ms round
  after_since (Going next) a = (a.0, a.1, a.2, λ m floor. a.3 m (h.floors m floor))
  after_since (Ended last) a = a
  after_since (Stopped mark) a = a

pub home_since : (i : Inputs) (limit horizon : ℕ) (c : model_cores.Core (machine (system_of i) limit)) (ls : List Line) (core : CoreState) (h : HasTakenTurns i limit horizon c ls core) (s : Settled)
    → IsHomeAgain i limit horizon (core_of i limit h.way.steps) ls s → IsHomeAgain i limit horizon c ls s
home_since i limit horizon c ls core h s home = record { belong = home.belong; after = after_since i limit horizon c ls (ls ++ map (line_of (system_of i)) (lines_out s)) core h (round_of s) home.after }

-- ---- What is written

module _ (i : Inputs) (o : Options) (core : CoreState) (unwritten : UnwrittenLines) (ls : List Line) (holds : HoldsTo i o.steps o.horizon core unwritten ls) (old new : Option (List ℕ)) where
  out_same : (r : Reach) (all : Vec run.Line) → lines_out (settled_of r all) ≡ all.items
  out_same (reach.Going core) all = refl
  out_same (reach.Ended core) all = refl
  out_same (reach.Stopped mark) all = refl

  -- what is known of the lines that have become final, whatever list they become
  abbrev Homes : Reach → UnwrittenLines → Type 0
  Homes r next = (ks : List Line) (come : HasCome i o.steps o.horizon core ks) (all : Vec run.Line) → IsMerged next.lists.items all.items → IsHomeAgain i o.steps o.horizon (core_of i o.steps come.steps) ks (settled_of r all)

  -- what is unwritten is written, and the next lines are unwritten
  pub unwritten_whole : (r : Reach) (finals : UnwrittenLines) (bytes lines : ℕ) (t : Round × UnwrittenLines × Tally) → ((all : Vec run.Line) → t.0 ≡ round_of (settled_of r all)) → t.1 ≡ finals → t.2.bytes ≡ bytes → t.2.final_lines ≡ lines
      → Homes r finals → AreUnwrittenOf i finals → HandsOut i o.form unwritten.lists.items old new bytes lines → RoundsWithCounts i o core unwritten ls holds old new (Ok t)
  unwritten_whole r finals bytes lines (round, next, n) is same counted lined home of h = (
    h.all,
    h.merged,
    h.got,
    counted ∙ h.counted,
    lined ∙ h.lined,
    subst (λ (v : UnwrittenLines). AreUnwrittenOf i v) (sym same) of,
    λ later merged.
        let come = holds.come h.all h.merged in
        let ks = ls ++ map (line_of (system_of i)) h.all.items in
        let c = core_of i o.steps come.steps in
        let again = home ks come later (subst (λ (v : UnwrittenLines). IsMerged v.lists.items later.items) same merged) in
        subst (λ (x : Round). IsAfter i o.steps o.horizon c (ks ++ map (line_of (system_of i)) later.items) x) (sym (is later))
        (subst (λ (xs : List run.Line). IsAfter i o.steps o.horizon c (ks ++ map (line_of (system_of i)) xs) (round_of (settled_of r later))) (out_same r later) again.after),
  )

  -- a writer that failed
  unwritten_part : AreGood i → (all : Vec run.Line) → IsMerged unwritten.lists.items all.items → (e : RunError) → WritesPartOf old new (text_of i o.form (map (line_of (system_of i)) all.items)) e → FailsRound i o ls old new e
  unwritten_part good all merged (Write n) part =
      (map (line_of (system_of i)) all.items, come_begins i good o.steps o.horizon core (ls ++ map (line_of (system_of i)) all.items) (holds.come all merged), part)
  unwritten_part good all merged (Refused r) bad = absurd bad
  unwritten_part good all merged Memory bad = absurd bad
  unwritten_part good all merged BadOption bad = absurd bad
  unwritten_part good all merged Failed bad = absurd bad

  -- memory that ran out before anything was written
  pub unwritten_out_of_memory : (e : RunError) → e ≡ Memory → new ≡ old → FailsRound i o ls old new e
  unwritten_out_of_memory e is same = subst (λ (f : RunError). FailsRound i o ls old new f) (sym is) same

  pub held_failed : AreGood i → (e : RunError) → FailsToHandOut i o.form unwritten.lists.items old new e → FailsRound i o ls old new e
  held_failed good e h = ⊎_elim (λ m. unwritten_out_of_memory e m.0 m.1) (λ p. unwritten_part good p.all p.merged e p.part) h

  -- the error that `?` passes on
  pub held_passed : (r : Result (Round × UnwrittenLines × Tally) RunError) (e : RunError) → IsErrAnd r (λ f. f ≡ e) → FailsRound i o ls old new e → RoundsWithCounts i o core unwritten ls holds old new r
  held_passed (Ok x) e bad h = absurd bad
  held_passed (Err f) e is h = subst (λ (x : RunError). FailsRound i o ls old new x) (sym is) h

-- What one round has written: the text of its lines, or a part of it.
module _ (i : Inputs) (o : Options) (es : List (CoreStep (machine (system_of i) o.steps))) (ls : List Line) (old new : Option (List ℕ)) where
  pub round_whole : (s : Settled) → IsHomeOnce i o.steps o.horizon 1024 es ls s → Appends old new (text_of i o.form (map (line_of (system_of i)) (lines_out s))) → Rounds i o es ls old new (Ok (round_of s))
  round_whole s h got = (map (line_of (system_of i)) (lines_out s), h.round, got)

  pub round_failed : (s : Settled) (e : RunError) → IsHomeOnce i o.steps o.horizon 1024 es ls s → WritesPartOf old new (text_of i o.form (map (line_of (system_of i)) (lines_out s))) e
      → Rounds i o es ls old new (Err e)
  round_failed s (Write n) h part = (map (line_of (system_of i)) (lines_out s), (round_of s, h.round), part)
  round_failed s (Refused r) h part = absurd part
  round_failed s Memory h part = absurd part
  round_failed s BadOption h part = absurd part
  round_failed s Failed h part = absurd part

  pub round_wanting : (e : RunError) → e ≡ Memory → new ≡ old → Rounds i o es ls old new (Err e)
  round_wanting e is same = subst (λ (f : RunError). Rounds i o es ls old new (Err f)) (sym is) same

  -- the error that `?` passes on
  pub round_passed : (r : Result Round RunError) (e : RunError) → IsErrAnd r (λ f. f ≡ e) → Rounds i o es ls old new (Err e) → Rounds i o es ls old new r
  round_passed (Ok x) e bad h = absurd bad
  round_passed (Err f) e is h = subst (λ (x : RunError). Rounds i o es ls old new (Err x)) (sym is) h
