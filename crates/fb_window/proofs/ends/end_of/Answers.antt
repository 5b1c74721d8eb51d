use Rattle.fb_window.proofs.lemmas.Common.{◌≡◌, ◌<◌, ◌≤◌, Some, None, length, refl, sym, ap, ◌∙◌, arith, is_some, slice_get, slice_get_read, slice_get_within, Resource, IsFirstStop}
use Rattle.fb_types.proofs.Common.{not}
use Rattle.fb_types.proofs.lemmas.lists.Lookups.{none_some}
use Rattle.fb_types.proofs.lemmas.lists.Options.{none_from_is_some, some_from_is_some}
use Rattle.fb_laws.proofs.lemmas.lists.Scans.{holds_more}
use Rattle.fb_window.proofs.lemmas.lines.FoundLines.{stopped_open, after_open}
use Rattle.fb_window.proofs.ends.end_of.Goals as goal
use Rattle.fb_window.proofs.ends.end_of.Goals.{else-is_none-via-then-is_none+else-clock-mark, else-is_none-via-else-is_none}

-- ---- Where one has stopped

pub returns-then-clock-mark : goal.returns-then-clock-mark
returns-then-clock-mark c =
    let xs = c.args.resources.now in
    let m = c.in-Some.mark in
    let n = c.loop-resource.resource-index in
    let x = c.resource-item.result in
    let first : IsFirstStop xs (length xs) m = c.in-Some.ensures.some in
    let at : slice_get xs n ≡ Some x = slice_get_read xs _ n x refl c.loop-resource-test.true c.resource-item.is in
    let live : x.stopped ≡ None = none_from_is_some x.stopped (sym (ap is_some c.stopped.ensures) ∙ c.is_none.ensures ∙ ap not c.if-is_none.true) in
    let low : x.clock ≤ m.tick = omega (arith, c.if-clock-mark.true, c.clock.ensures) in
    (stopped_open xs c.args.horizon m first, after_open xs m first n x at live low)

pub loop-resource-preserved : goal.loop-resource-preserved
loop-resource-preserved c =
    let xs = c.args.resources.now in
    let m = c.in-Some.mark in
    let n = c.loop-resource.resource-index in
    let x = c.resource-item.result in
    let at : slice_get xs n ≡ Some x = slice_get_read xs _ n x refl c.loop-resource-test.true c.resource-item.is in
    holds_more (λ (y : Resource). y.stopped ≡ None → m.tick < y.clock) xs n x at
    (λ live. elim c.else-is_none.branch [
      | else-is_none-via-then-is_none+else-clock-mark w ↦ omega (arith, w.if-clock-mark.false, w.clock.ensures)
      | else-is_none-via-else-is_none w ↦
          let some = some_from_is_some x.stopped (sym (ap is_some c.stopped.ensures) ∙ c.is_none.ensures ∙ ap not w.if-is_none.false) in
          absurd (none_some _ _ live some.1)
    ])
    (λ r y b e. c.loop-resource.invariant r y b e)

pub returns-after-loop-resource : goal.returns-after-loop-resource
returns-after-loop-resource c = (
  c.in-Some.ensures.some,
  λ r x at. let b = slice_get_within c.args.resources.now r x at in c.loop-resource.invariant r x (omega (arith, c.loop-resource-test.false)) at,
)

-- ---- Where none has

pub returns-then-clock-horizon : goal.returns-then-clock-horizon
returns-then-clock-horizon c =
    let xs = c.args.resources.now in
    let n = c.loop-resource-2.resource-index in
    let x = c.resource-item-in-loop-resource-2.result in
    let at : slice_get xs n ≡ Some x = slice_get_read xs _ n x refl c.loop-resource-2-test.true c.resource-item-in-loop-resource-2.is in (
      λ all. let here = all n x at in c.if-clock-horizon.true (c.clock-in-loop-resource-2.ensures ∙ here.1),
      λ m first past. let t = first.there in none_some _ _ (c.in-None.ensures.none m.resource t.0 t.1) t.2,
    )

pub loop-resource-2-preserved : goal.loop-resource-2-preserved
loop-resource-2-preserved c =
    let xs = c.args.resources.now in
    let n = c.loop-resource-2.resource-index in
    let x = c.resource-item-in-loop-resource-2.result in
    let at : slice_get xs n ≡ Some x = slice_get_read xs _ n x refl c.loop-resource-2-test.true c.resource-item-in-loop-resource-2.is in
    holds_more (λ (y : Resource). y.clock ≡ c.args.horizon) xs n x at (sym c.clock-in-loop-resource-2.ensures ∙ c.if-clock-horizon.false) c.loop-resource-2.invariant

pub returns-after-loop-resource-2 : goal.returns-after-loop-resource-2
returns-after-loop-resource-2 c = λ r x at.
    let b = slice_get_within c.args.resources.now r x at in
    (c.in-None.ensures.none r x at, c.loop-resource-2.invariant r x (omega (arith, c.loop-resource-2-test.false)) at)
