-- A simulation that has reached a tick continues to a later one.
use Rattle.fb_sim.proofs.lemmas.Common.{◌≡◌, ℕ, ◌+◌, ◌<◌, ◌≤◌, false, List, [], ◌∷◌, refl, sym, ap, ◌∙◌, subst, arith, nat_lt, cond-false, le-ltb, lt-ltb, Inputs, system_of, stimuli_of, AtHorizon, AtStop, CoreStep, opening_core, Machine, Each, machine, count_of, IsSchedule, IsAtHorizon, StopMark, AreGood, core_of, lists_of, AreAll, HasCome, SimulationView, AtEnd}
use Rattle.fb_types.proofs.Common.{not, Core, Lend, Give, Exchange, done, lines_before}
use Rattle.fb_types.specs.States.{Line}
use Rattle.fb_types.specs.Cores.{MayDo}
use Rattle.fb_types.proofs.lemmas.lists.EachLaws.{each_map}
use Rattle.fb_laws.proofs.lemmas.schedules.Lines.{filter_nothing, merge_same}
use Rattle.fb_laws.specs.Finality.{Edge, until, lines_from, IsFinalIn}
use Rattle.fb_window.specs.declared.cores.CoreState as cores
use Rattle.fb_sim.specs.Rounds.{IsFinished}
use Rattle.fb_sim.specs.Views.{IsAhead, HasStoppedAt}
use Rattle.fb_sim.proofs.lemmas.rounds.Edges.{all_before}
use Rattle.fb_sim.proofs.lemmas.rounds.Fronts.{all_final, all_merged, at_zero, core_below, none_left}
use Rattle.fb_sim.proofs.lemmas.rounds.RoundIs.{come_all}

module _ (M : Machine) (t u : ℕ) (later : t ≤ u) where
  -- a step in its turn to a horizon is one to each later horizon
  may_later : (c : Core M) (e : CoreStep M) → MayDo M t c e → MayDo M u c e
  may_later c (Lend worker r bound) x = record { home = x.home; live = x.live; legal = x.legal; not_back = x.not_back; in_range = let b = x.in_range in omega arith }
  may_later c (Give worker r is) x = x
  may_later c Exchange x = x

  schedule_later : (es : List (CoreStep M)) (c : Core M) → IsSchedule M t c es → IsSchedule M u c es
  schedule_later [] c x = tt
  schedule_later (e ∷ es) c x = (may_later c e x.0, schedule_later es (done M c e) x.1)

module _ (M : Machine) where
  nothing_from : (t : ℕ) (xs : List M.Line) → Each (λ (x : M.Line). M.line_tick x < t) xs → lines_from M t xs ≡ []
  nothing_from t xs h = filter_nothing (λ x. not (nat_lt (M.line_tick x) t)) xs (each_map _ _ xs (λ x (b : M.line_tick x < t). ap not (lt-ltb (M.line_tick x) t b)) h)

-- the edge before a tick
abbrev before_tick : ℕ → Edge
before_tick t = record { tick = t; resource = 0; within = false }

until_tick : (t r : ℕ) → until (before_tick t) r ≡ t
until_tick t r = cond-false (nat_lt r 0) (t + 1) t (le-ltb r 0 (omega arith))

module _ (i : Inputs) (good : AreGood i) (limit t u : ℕ) (later : t ≤ u) where
  -- With every clock at the tick, the core has come as far on the way to each later one.
  pub come_later : (core : cores.CoreState) (ls : List Line) (h : HasCome i limit t core ls) → IsAtHorizon (machine (system_of i) limit) (count_of (system_of i)) t (core_of i limit h.steps)
      → HasCome i limit u core ls
  come_later core ls h e =
      let M = machine (system_of i) limit in
      let n = count_of (system_of i) in
      let sc = h.way.schedule in
      let kept = lists_of core.pending.items in
      let none = none_left i good t limit h.steps sc e kept ls h.way.left in
      let below = core_below i good t limit h.steps sc in
      record {
        of = h.of;
        steps = h.steps;
        way = record {
          schedule = schedule_later M t u later h.steps (opening_core (system_of i) (stimuli_of i) limit) sc;
          at = h.way.at;
          left = record {
            handed = record {
              counted = h.way.left.handed.counted;
              left = record {
                edge = before_tick t;
                final = λ r s b far near. all_final i good t limit h.steps sc e s r (subst (λ (z : ℕ). s < z) (until_tick t r) near);
                merged = merge_same M n (λ r. (core_of i limit h.steps r).lines) (λ r. lines_before M (until (before_tick t) r) (core_of i limit h.steps r).lines) ls
                    (λ r b. sym (ap (λ (z : ℕ). lines_before M z (core_of i limit h.steps r).lines) (until_tick t r) ∙ all_before M t (core_of i limit h.steps r).lines (below r)))
                    (all_merged i good t limit h.steps sc e kept ls h.way.left);
                rest = λ r b. none r b ∙ sym (ap (λ (z : ℕ). lines_from M z (core_of i limit h.steps r).lines) (until_tick t r) ∙ nothing_from M t (core_of i limit h.steps r).lines (below r));
              };
            };
            waits = λ r b. subst (λ (xs : List Line). Each (λ (x : Line). IsFinalIn M n (core_of i limit h.steps) x.key.tick r → ⊥) xs) (sym (none r b)) tt;
          };
        };
      }

-- ---- Where it is

module _ (i : Inputs) (good : AreGood i) (limit : ℕ) where
  -- before the first event
  pub ahead_first : (core : cores.CoreState) → HasCome i limit 0 core [] → IsAhead i limit 0 core
  ahead_first core h = record { lines = []; come = h; at = at_zero i good 0 limit h.steps h.way.schedule refl }

  -- the core on its way to a later tick
  pub ahead_later : (t u : ℕ) → t ≤ u → (core : cores.CoreState) (a : IsAhead i limit t core) → HasCome i limit u core a.lines
  ahead_later t u b core a = come_later i good limit t u b core a.lines a.come a.at

  -- what was handed out of it
  pub ahead_all : (t : ℕ) (core : cores.CoreState) (a : IsAhead i limit t core) → AreAll i limit t a.lines (AtHorizon t)
  ahead_all t core a = come_all i good limit t core a.lines a.come a.at

pub ahead_of : (i : Inputs) (limit t : ℕ) (core : cores.CoreState) (ls : List Line) → IsFinished i limit t (AtEnd core) ls → IsAhead i limit t core
ahead_of i limit t core ls f = record { lines = ls; come = f.0; at = f.1 }

pub stopped_of : (i : Inputs) (limit t : ℕ) (mark : StopMark) (ls : List Line) → AreAll i limit t ls (AtStop mark.tick mark.resource mark.reason) → HasStoppedAt i limit t mark
stopped_of i limit t mark ls all = record { lines = ls; all = all }

-- ---- On the way to a later tick

-- What is known of a simulation whose core has been taken out.
pub record OnWay (s : SimulationView) (to : ℕ) (core : cores.CoreState) : Type 0 where
  pub later : s.to < to
  pub lines : List Line
  pub was : AreAll s.inputs s.steps s.to lines (AtHorizon s.to)
  pub come : HasCome s.inputs s.steps to core lines

pub on_way : (v s : SimulationView) → v ≡ s → AreGood v.inputs → (to : ℕ) (core : cores.CoreState) → IsAhead s.inputs s.steps s.to core → s.to < to → OnWay v to core
on_way v s same good to core ahead later =
    let a = subst (λ (x : SimulationView). IsAhead x.inputs x.steps x.to core) (sym same) ahead in
    let l = subst (λ (x : SimulationView). x.to < to) (sym same) later in
    record {
      later = l;
      lines = a.lines;
      was = ahead_all v.inputs good v.steps v.to core a;
      come = ahead_later v.inputs good v.steps v.to to (omega arith) core a;
    }
