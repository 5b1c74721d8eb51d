use Rattle.fb_types.proofs.Common.{◌≡◌, ◌+◌, ◌∙◌, length, sym, true, subst, false, Option, ℕ, take, take_all, List}
use Rattle.fb_expect.specs.Events.{event_of}
use Rattle.fb_expect.specs.Patterns as patterns
use Rattle.fb_session.specs.Hitting.{IsLeastOf}
use Rattle.fb_session.specs.declared.breaks.Break.{Break}
use Rattle.fb_session.proofs.lemmas.HittingIs.{not_both, number_next, number_past}
use Rattle.fb_session.proofs.breaks.number_for.Goals as goal
use Rattle.fb_session.proofs.breaks.number_for.Goals.{else-meets, then-meets}

pub loop-one-preserved : goal.loop-one-preserved
loop-one-preserved c =
    let P : Break → Type 0 = λ b. patterns.meets b.pattern (event_of c.args.entry.now) ≡ true in
    let bs = c.args.set.now in
    let k = c.loop-one.one-index in
    elim c.if-meets.branch [
      | then-meets w ↦
          subst (λ (o : Option ℕ). IsLeastOf P (take (k + 1) bs) o) (sym (w.least-is ∙ w.lesser-least.ensures))
          (number_next P bs k c.one-item.result c.loop-one.least c.loop-one-test.true c.one-item.is (sym c.meets.ensures ∙ w.if-meets.true) c.loop-one.invariant)
      | else-meets w ↦
          subst (λ (o : Option ℕ). IsLeastOf P (take (k + 1) bs) o) (sym w.least-is)
          (number_past P bs k c.one-item.result c.loop-one.least c.loop-one-test.true c.one-item.is
          (λ yes. not_both c.meets.result w.if-meets.false (c.meets.ensures ∙ yes)) c.loop-one.invariant)
    ]

pub returns : goal.returns
returns c =
    let P : Break → Type 0 = λ b. patterns.meets b.pattern (event_of c.args.entry.now) ≡ true in
    subst (λ (xs : List Break). IsLeastOf P xs c.loop-one.least) (take_all c.loop-one.one-index c.args.set.now c.loop-one-test.false) c.loop-one.invariant
