use Rattle.fb_window.proofs.lemmas.Common.{◌≡◌, All, List, Option, Some, None, [], refl, sym, ◌∙◌, subst, arith, Vec, slice_get, slice_get_read, Line, Resource, AwayState}
use Rattle.fb_laws.proofs.lemmas.lists.Indexes.{is_at}
use Rattle.fb_laws.proofs.lemmas.lists.Scans.{holds_more}
use Rattle.fb_window.specs.Texts.{KeepsNothing}
use Rattle.fb_window.proofs.lemmas.phases.JobsGiven.{is_none}
use Rattle.fb_window.proofs.lemmas.phases.Targets.{all_by_index}
use Rattle.fb_window.proofs.cores.Away.keeps_nothing.Goals as goal

pub loop-rested-preserved : goal.loop-rested-preserved
loop-rested-preserved c =
    let resting = c.as_slice-resting.result.now in
    let n = c.loop-rested.rested-index in
    let x = c.rested-item.result in
    let at : slice_get resting n ≡ Some x = slice_get_read resting _ n x refl c.loop-rested-test.true c.rested-item.is in
    holds_more (λ (y : Option Resource). y ≡ None) resting n x at (is_none x (sym c.is_some.ensures ∙ c.if-is_some.false)) c.loop-rested.invariant

pub returns : goal.returns
returns c = λ t.
    let resting = c.as_slice-resting.result.now in
    let left = all_by_index (λ (x : Option Resource). x ≡ None) resting (λ r x e. let b = is_at resting r x e in c.loop-rested.invariant r x (omega (arith, c.loop-rested-test.false, b)) e) in
    subst (λ (a : AwayState). KeepsNothing a) c.self.view_is
    (record {
      pending = subst (λ (ls : List (Vec Line)). All (λ p. p.items ≡ []) ls) c.deref.ensures.value (c.are_empty.ensures c.if-not-are_empty.false);
      resting = subst (λ (xs : List (Option Resource)). All (λ x. x ≡ None) xs) c.as_slice-resting.ensures.value left;
    })
