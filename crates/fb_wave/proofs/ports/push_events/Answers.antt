use Rattle.fb_wave.proofs.lemmas.Common.{◌+◌, List, Contains, sym, subst, inl, inr, arith, All, Contains-append_left, Twice, IsPortOf, Port}
use Rattle.fb_types.proofs.Common.{All-push}
use Rattle.fb_wave.proofs.lemmas.Porting.{AddsUpTo, HasUpTo, adds_more, once_more, up_to_more}
use Rattle.fb_wave.proofs.ports.push_events.Goals as goal

pub loop-event-preserved : goal.loop-event-preserved
loop-event-preserved c =
    let before = c.loop-event.invariant in
    let old = c.loop-event.all.items in
    let first = c.args.all.now.items in
    let i = c.args.instance in
    let taken = c.args.taken in
    let n = c.loop-event.event in
    record {
      are = λ sys h k all.
          subst (All (IsPortOf sys)) (sym c.in_ok-push.ensures.items)
          (All-push (IsPortOf sys) old _ (before.are sys h k all) (record { instance = h; small = omega arith; event = omega (arith, k) }));
      kept = λ p there. subst (λ (ps : List Port). Contains ps p) (sym c.in_ok-push.ensures.items) (Contains-append_left old _ p (before.kept p there));
      pushed = subst (λ (ps : List Port). HasUpTo ps i taken (n + 1)) (sym c.in_ok-push.ensures.items) (up_to_more old i taken n before.pushed);
      adds = subst (λ (ps : List Port). AddsUpTo first ps i taken (n + 1)) (sym c.in_ok-push.ensures.items) (adds_more first old i taken n before.adds);
      once = λ once none. subst (λ (ps : List Port). ¬ (Twice ps)) (sym c.in_ok-push.ensures.items) (once_more first old i taken n before.adds none (before.once once none));
    }

pub returns-clause-pushed : goal.returns-clause-pushed
returns-clause-pushed c p one two low small = c.loop-event.invariant.pushed p one two (omega (arith, low, small))

pub returns-clause-added : goal.returns-clause-added
returns-clause-added c p there = elim (c.loop-event.invariant.adds p there) [ inl first ↦ inl first | inr new ↦ inr (new.0, new.1) ]
