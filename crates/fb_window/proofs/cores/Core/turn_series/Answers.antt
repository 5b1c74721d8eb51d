use Rattle.fb_window.proofs.lemmas.Common.{◌≡◌, ℕ, true, false, All, Option, List, length, refl, sym, ap, subst, ◌∙◌, arith, Vec, is_some, opening_core, Inputs, stimuli_of, system_of, count_of, machine, IsSchedule, Line, StopMark, BelongsTo, Resource, AreGood, AreLive, IsFirstStop, AreCurrent, IsReached, KeepHorizon, CoreState}
use Rattle.fb_types.proofs.Common.{rules, IfNone, IfSome}
use Rattle.fb_types.proofs.lemmas.lists.Options.{none_from_is_some, some_from_is_some}
use Rattle.fb_window.specs.ManyTurns.{TakesTurns}
use Rattle.fb_window.proofs.lemmas.bounds.KeptHorizons.{come, is_reached}
use Rattle.fb_window.proofs.lemmas.turns.TurnByTurn.{by_stop, gone_none}
use Rattle.fb_window.proofs.cores.Core.turn_series.Goals as goal

stop_found : (xs : List Resource) (o : Option StopMark) → IfSome o (IsFirstStop xs (length xs)) → is_some o ≡ true → (m : StopMark) × IsFirstStop xs (length xs) m
stop_found xs o h e = let s = some_from_is_some o e in (s.0, subst (λ z. IfSome z (IsFirstStop xs (length xs))) s.1 h)

none_found : (xs : List Resource) (o : Option StopMark) → IfNone o (AreLive xs) → is_some o ≡ false → AreLive xs
none_found xs o h e = subst (λ z. IfNone z (AreLive xs)) (none_from_is_some o e) h

-- ---- Where one has stopped

pub returns-then-is_some-clause-takes_turns : goal.returns-then-is_some-clause-takes_turns
returns-then-is_some-clause-takes_turns c =
    let s : CoreState = c.self.inside.state in
    let xs = s.resources.items in
    let some = subst (λ (ys : List Resource). IfSome c.first_stop.result (IsFirstStop ys (length ys))) c.deref.ensures.value c.first_stop.ensures.some in
    let f = stop_found xs c.first_stop.result some (sym c.is_some.ensures ∙ c.if-is_some.true) in
    let t = f.1.there in
    subst (λ (z : CoreState). TakesTurns z.system z.steps c.args.horizon c.args.most z s) c.self.view_is
    (by_stop s.system s.steps c.args.horizon s c.args.most 0 f.0.resource s t.0 f.0.reason t.1 t.2
    (gone_none s.system s.steps c.args.horizon s refl refl c.self.invariant.counted c.self.invariant.belong))

pub returns-then-is_some-clause-system : goal.returns-then-is_some-clause-system
returns-then-is_some-clause-system c = ap (λ (s : CoreState). s.system) c.self.view_is

pub returns-then-is_some-clause-steps : goal.returns-then-is_some-clause-steps
returns-then-is_some-clause-steps c = ap (λ (s : CoreState). s.steps) c.self.view_is

pub returns-then-is_some-clause-pending : goal.returns-then-is_some-clause-pending
returns-then-is_some-clause-pending c =
    let s : CoreState = c.self.inside.state in subst (λ (z : CoreState). All (λ p. All (BelongsTo (system_of z.system)) p.items) s.pending.items) c.self.view_is c.self.invariant.belong

-- ---- Turns

pub take_turns-requires-clause-live : goal.take_turns-requires-clause-live
take_turns-requires-clause-live c =
    let s : CoreState = c.self.inside.state in
    none_found s.resources.items c.first_stop.result
    (subst (λ (ys : List Resource). IfNone c.first_stop.result (AreLive ys)) c.deref.ensures.value c.first_stop.ensures.none) (sym c.is_some.ensures ∙ c.if-is_some.false)

pub take_turns-requires-clause-may : goal.take_turns-requires-clause-may
take_turns-requires-clause-may c =
    let s : CoreState = c.self.inside.state in
    let of = c.requires.system ∙ sym (ap (λ (z : CoreState). z.system) c.self.view_is) in
    let counted = c.self.invariant.way.at.counted in
    record {
      of = of;
      few_steps = c.self.invariant.few_steps;
      counted = counted ∙ ap (λ (i : Inputs). count_of (system_of i)) (sym of);
      pending = c.self.invariant.counted;
      current =
          subst (λ (h : ℕ). AreCurrent h s.resources.items c.in_ok-nexts.nexts.ticks.items) (sym c.in_ok-nexts.ensures.horizon)
          (subst (λ (ys : List Resource). AreCurrent c.args.horizon ys c.in_ok-nexts.nexts.ticks.items) c.deref-2.ensures.value c.in_ok-nexts.ensures.current);
    }

pub take_turns-requires-clause-come : goal.take_turns-requires-clause-come
take_turns-requires-clause-come c =
    let s : CoreState = c.self.inside.state in
    let good : AreGood s.system =
    subst AreGood (c.requires.system ∙ sym (ap (λ (z : CoreState). z.system) c.self.view_is)) (record { accepted = c.facts.ensures.accepted; limits = c.facts.ensures.limits }) in
    let come = come s good c.self.invariant c.args.horizon (subst (λ (z : CoreState). KeepHorizon c.args.horizon z.resources.items) (sym c.self.view_is) c.requires.clocks) in (
      come.0,
      subst (λ (h : ℕ). IsSchedule (machine (system_of s.system) s.steps) h (opening_core (system_of s.system) (stimuli_of s.system) s.steps) come.0) (sym c.in_ok-nexts.ensures.horizon) come.1,
      come.2,
    )

pub take_turns-requires-clause-lines : goal.take_turns-requires-clause-lines
take_turns-requires-clause-lines c = c.self.invariant.belong

pub take_turns-requires-clause-early : goal.take_turns-requires-clause-early
take_turns-requires-clause-early c = let same = c.in_ok-nexts.ensures.horizon in omega (arith, same, c.requires.early)

pub invariant_of-result-2 : goal.invariant_of-result-2
invariant_of-result-2 c =
    let s : CoreState = c.self.inside.state in
    let good : AreGood s.system =
    subst AreGood (c.requires.system ∙ sym (ap (λ (z : CoreState). z.system) c.self.view_is)) (record { accepted = c.facts.ensures.accepted; limits = c.facts.ensures.limits }) in
    let core : c.take_turns.new.self.core.now ≡ c.state-2-1.given.0 = search rules in
    let on = c.in_ok-take_turns.ensures in
    let d : CoreState = c.take_turns.new.self.core.now in
    subst IsReached core
    (is_reached s good c.self.invariant c.args.horizon (subst (λ (z : CoreState). KeepHorizon c.args.horizon z.resources.items) (sym c.self.view_is) c.requires.clocks)
    c.args.most d on.same.inputs on.same.steps on.may.pending
    (subst (λ (i : Inputs). All (λ (p : Vec Line). All (BelongsTo (system_of i)) p.items) d.pending.items) on.same.inputs on.lines)
    (subst (λ (h : ℕ). TakesTurns s.system s.steps h c.args.most s d) c.in_ok-nexts.ensures.horizon on.takes_turns))

pub returns-clause-pending : goal.returns-clause-pending
returns-clause-pending c =
    let core : c.take_turns.new.self.core.now ≡ c.state-2-1.given.0 = search rules in
    let on = c.in_ok-take_turns.ensures in
    subst (λ (d : CoreState). All (λ (p : Vec Line). All (BelongsTo (system_of c.args.self.system)) p.items) d.pending.items) core
    (subst (λ (i : Inputs). All (λ (p : Vec Line). All (BelongsTo (system_of i)) p.items) c.take_turns.new.self.core.now.pending.items)
    (on.same.inputs ∙ ap (λ (z : CoreState). z.system) c.self.view_is) on.lines)

pub returns-clause-takes_turns : goal.returns-clause-takes_turns
returns-clause-takes_turns c =
    let s : CoreState = c.self.inside.state in
    let core : c.take_turns.new.self.core.now ≡ c.state-2-1.given.0 = search rules in
    let on = c.in_ok-take_turns.ensures in
    subst (λ (z : CoreState). TakesTurns z.system z.steps c.args.horizon c.args.most z c.state-2-1.given.0) c.self.view_is
    (subst (λ (d : CoreState). TakesTurns s.system s.steps c.args.horizon c.args.most s d) core
    (subst (λ (h : ℕ). TakesTurns s.system s.steps h c.args.most s c.take_turns.new.self.core.now) c.in_ok-nexts.ensures.horizon on.takes_turns))
