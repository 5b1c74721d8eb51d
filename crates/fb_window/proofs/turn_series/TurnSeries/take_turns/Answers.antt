use Rattle.fb_window.proofs.lemmas.Common.{◌≡◌, ℕ, ◌+◌, ◌<◌, ◌≤◌, All, List, Option, Some, None, slice_get, refl, sym, subst, ◌∙◌, arith, Vec, Inputs, system_of, Key, Line, StopMark, BelongsTo, AreGood, IsNext, waiting, IsOf, Resource, CoreState}
use Rattle.fb_window.specs.ManyTurns.{HasTurned}
use Rattle.fb_types.proofs.lemmas.lists.Options.{none_from_is_some, some_from_is_some}
use Rattle.fb_laws.proofs.lemmas.lists.Indexes.{is_at, one_at}
use Rattle.fb_window.proofs.lemmas.turns.OneTurn.{clock_before}
use Rattle.fb_window.proofs.lemmas.turns.Turned.{same_after}
use Rattle.fb_window.proofs.lemmas.turns.TurnByTurn.{HasStepped, HasGone, by_count, by_horizon, each_of, gone_none, stepped}
use Rattle.fb_window.proofs.turn_series.TurnSeries.take_turns.Goals as goal
use Rattle.fb_window.proofs.turn_series.TurnSeries.take_turns.Goals.{After-least-index}

pub loop-init : goal.loop-init
loop-init c =
    let w = c.args.self.now in
    let core = w.core.now in
    record {
      gone = gone_none core.system core.steps w.nexts.now.horizon core refl refl c.requires.may.pending c.requires.lines;
      live = c.requires.live;
      may = c.requires.may;
      same = record { system = refl; core = refl; nexts = refl; horizon = refl; inputs = refl; steps = refl };
    }

-- ---- What is known at the first resource that has the least event

-- the resources, in the order of their numbers
abbrev resources_of : After-least-index → List Resource
resources_of c = c.loop.self.core.now.resources.items

low_of : (c : After-least-index) (r : ℕ) (x : Resource) (j : Key) → slice_get (resources_of c) r ≡ Some x → j.tick < c.least-index.result.1 → waiting x.agenda j ≡ None
low_of c = c.least-index.ensures.low (resources_of c) c.loop.invariant.may.current

early_of : (c : After-least-index) → (c.least-index.result.1 ≡ c.args.self.now.nexts.now.horizon → ⊥) → c.least-index.result.1 < c.args.self.now.nexts.now.horizon
early_of c n = let cap = c.least-index.ensures.cap in let same = c.loop.invariant.same.horizon in omega (arith, cap, same, n)

there_of : (c : After-least-index) → (c.least-index.result.1 ≡ c.args.self.now.nexts.now.horizon → ⊥)
    → (x : Resource) × (slice_get (resources_of c) c.least-index.result.0 ≡ Some x) × IsNext x.agenda c.least-index.result.1
there_of c n =
    let early = early_of c n in
    let same = c.loop.invariant.same.horizon in
    c.least-index.ensures.there (resources_of c) c.loop.invariant.may.current (omega (arith, early, same))

of_at : (c : After-least-index) (r : ℕ) (x : Resource) → slice_get (resources_of c) r ≡ Some x → IsOf c.args.self.now.core.now.system x
of_at c r x e =
    let w = c.args.self.now in
    each_of w.core.now.system w.core.now.steps w.nexts.now.horizon w.core.now c.loop.counter c.loop.self.core.now c.loop.invariant.gone c.requires.come r x e

step : (c : After-least-index) → (c.least-index.result.1 ≡ c.args.self.now.nexts.now.horizon → ⊥) → (new : CoreState) (stop : Option StopMark)
    → HasTurned c.loop.self.core.now.system c.loop.self.core.now.steps c.least-index.result.0 (c.least-index.result.1 + 1) c.loop.self.core.now new stop
    → new.system ≡ c.loop.self.core.now.system → new.steps ≡ c.loop.self.core.now.steps
    → HasStepped c.args.self.now.core.now.system c.args.self.now.core.now.steps c.args.self.now.nexts.now.horizon c.args.self.now.core.now c.loop.counter new stop
step c n new stop turned system steps =
    let w = c.args.self.now in
    let good : AreGood w.core.now.system = subst AreGood c.requires.may.of w.good in
    let t = there_of c n in
    stepped w.core.now.system w.core.now.steps w.nexts.now.horizon w.core.now good c.loop.counter c.loop.self.core.now c.loop.invariant.live c.loop.invariant.gone
    c.least-index.result.1 (early_of c n) (low_of c) c.least-index.result.0 t.0 t.1 t.2 new stop turned system steps

-- ---- In the loop

pub returns-then-tick-horizon-clause-takes_turns : goal.returns-then-tick-horizon-clause-takes_turns
returns-then-tick-horizon-clause-takes_turns c =
    let d = (goal.at.returns-then-tick-horizon-clause-takes_turns c).After-least-index in
    let w = c.args.self.now in
    let same : c.least-index.result.1 ≡ w.nexts.now.horizon = c.if-tick-horizon.true in
    by_horizon w.core.now.system w.core.now.steps w.nexts.now.horizon w.core.now c.args.most c.loop.counter c.loop.self.core.now
    (λ r x j s b. low_of d r x j s (omega (arith, same))) c.loop.invariant.gone

pub turn-requires-clause-may : goal.turn-requires-clause-may
turn-requires-clause-may c =
    let may = c.loop.invariant.may in
    record { of = may.of; few_steps = may.few_steps; counted = may.counted; pending = may.pending; current = may.current }

pub turn-requires-clause-run : goal.turn-requires-clause-run
turn-requires-clause-run c =
    let d = (goal.at.turn-requires-clause-run c).After-least-index in
    let xs = c.loop.self.core.now.resources.items in
    let index = c.least-index.result.0 in
    let m = c.least-index.result.1 in
    let i = c.args.self.now.core.now.system in
    let t = there_of d c.if-tick-horizon.false in
    record {
      within = is_at xs index t.0 t.1;
      of = λ x e. subst (λ (z : Inputs). IsOf z x) (sym (c.loop.invariant.same.system ∙ c.requires.may.of)) (of_at d index x e);
      live = c.loop.invariant.live index;
      ahead = λ x e.
          let next : IsNext x.agenda m = subst (λ (z : Resource). IsNext z.agenda m) (one_at xs index t.0 x t.1 e) t.2 in
          let late : x.clock ≤ m = clock_before i m x (of_at d index x e) next in
          omega (arith, late);
      early = let early = early_of d c.if-tick-horizon.false in omega (arith, early, c.requires.early);
    }

pub returns-then-is_some-clause-takes_turns : goal.returns-then-is_some-clause-takes_turns
returns-then-is_some-clause-takes_turns c =
    let d = (goal.at.returns-then-is_some-clause-takes_turns c).After-least-index in
    let same = c.turn.ensures.same in
    let mark = some_from_is_some c.in_ok-stop.stop (sym c.is_some.ensures ∙ c.if-is_some.true) in
    (step d c.if-tick-horizon.false c.turn.new.self.core.now c.in_ok-stop.stop c.in_ok-stop.ensures.turned same.inputs same.steps).ends mark.0 mark.1 c.args.most

pub loop-preserved : goal.loop-preserved
loop-preserved c =
    let d = (goal.at.loop-preserved c).After-least-index in
    let same = c.turn.ensures.same in
    let s = step d c.if-tick-horizon.false c.turn.new.self.core.now c.in_ok-stop.stop c.in_ok-stop.ensures.turned same.inputs same.steps in
    record {
      gone = s.gone;
      live = s.live (none_from_is_some c.in_ok-stop.stop (sym c.is_some.ensures ∙ c.if-is_some.false));
      may = c.in_ok-stop.ensures.may;
      same = same_after c.args.self.now c.loop.self _ c.turn.new.self same c.loop.invariant.same refl refl refl refl refl refl;
    }

pub returns-clause-takes_turns : goal.returns-clause-takes_turns
returns-clause-takes_turns c =
    let w = c.args.self.now in
    let end : c.loop.counter ≡ c.args.most = let a = c.loop-test.false in let b = c.loop.auto.counter-end in omega (arith, a, b) in
    by_count w.core.now.system w.core.now.steps w.nexts.now.horizon w.core.now c.args.most c.loop.self.core.now
    (subst (λ (n : ℕ). HasGone w.core.now.system w.core.now.steps w.nexts.now.horizon w.core.now c.loop.self.core.now n) end c.loop.invariant.gone)

-- ---- The lines, and that it goes on

-- The lines of the core are lines of the system that it is of.
lines_of : (a b : CoreState) → b.system ≡ a.system → All (λ (p : Vec Line). All (BelongsTo (system_of a.system)) p.items) b.pending.items
    → All (λ (p : Vec Line). All (BelongsTo (system_of b.system)) p.items) b.pending.items
lines_of a b same all = subst (λ (i : Inputs). All (λ (p : Vec Line). All (BelongsTo (system_of i)) p.items) b.pending.items) (sym same) all

pub returns-then-tick-horizon-clause-lines : goal.returns-then-tick-horizon-clause-lines
returns-then-tick-horizon-clause-lines c = lines_of c.args.self.now.core.now c.loop.self.core.now c.loop.invariant.same.inputs c.loop.invariant.gone.belong

pub returns-then-is_some-clause-lines : goal.returns-then-is_some-clause-lines
returns-then-is_some-clause-lines c =
    let d = (goal.at.returns-then-is_some-clause-lines c).After-least-index in
    let same = c.turn.ensures.same in
    lines_of c.args.self.now.core.now c.turn.new.self.core.now (same.inputs ∙ c.loop.invariant.same.inputs)
    (step d c.if-tick-horizon.false c.turn.new.self.core.now c.in_ok-stop.stop c.in_ok-stop.ensures.turned same.inputs same.steps).gone.belong

pub returns-in_err-stop-clause-same : goal.returns-in_err-stop-clause-same
returns-in_err-stop-clause-same c = same_after c.args.self.now c.loop.self _ c.turn.new.self c.turn.ensures.same c.loop.invariant.same refl refl refl refl refl refl

pub returns-then-is_some-clause-same : goal.returns-then-is_some-clause-same
returns-then-is_some-clause-same c = same_after c.args.self.now c.loop.self _ c.turn.new.self c.turn.ensures.same c.loop.invariant.same refl refl refl refl refl refl

pub returns-clause-lines : goal.returns-clause-lines
returns-clause-lines c = lines_of c.args.self.now.core.now c.loop.self.core.now c.loop.invariant.same.inputs c.loop.invariant.gone.belong
