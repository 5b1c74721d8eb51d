use Rattle.fb_inspect.proofs.lemmas.Common.{◌≡◌, ◌<◌, All, ◌≤◌, ◌+◌, ℕ, List, Some, length, sym, subst, take, slice_get, slice_get_within, Left, most, TickSteps}
use Rattle.fb_types.proofs.lemmas.lists.ByIndex.{all_at, element_at}
use Rattle.fb_types.proofs.lemmas.lists.LoopSteps.{all_of_taken}
use Rattle.fb_inspect.proofs.lemmas.lines.NearStop.{all_more, not_kept_at}
use Rattle.fb_inspect.proofs.walk.Walk.keep_steps.Goals as goal

pub loop-own-preserved : goal.loop-own-preserved
loop-own-preserved c =
    let kept = λ (s : TickSteps). most ≤ s.least + c.args.steps in
    let i = c.loop-own.own-index in
    let same = c.as_slice-own-items.ensures.value in
    subst (λ (l : List TickSteps). All kept (take (i + 1) l)) same
    (all_more kept c.as_slice-own-items.result.now i _ c.loop-own-test.true (subst (λ (l : List TickSteps). All kept (take i l)) (sym same) c.loop-own.invariant) (c.keeps.ensures.kept c.if-not-keeps.false))

pub returns-then-not-keeps-clause-more : goal.returns-then-not-keeps-clause-more
returns-then-not-keeps-clause-more c = λ sys look is _ keep.
    let all : List TickSteps = c.args.self.now.steps.items in
    let one = not_kept_at c.as_slice-own-items.result.now c.loop-own.own-index _ c.args.steps c.loop-own-test.true (c.keeps.ensures.more c.if-not-keeps.true) in
    let there = subst (λ (l : List TickSteps). slice_get l one.0 ≡ Some one.1.0) c.as_slice-own-items.ensures.value one.1.1 in
    let within : one.0 < length sys.resource_names = subst (λ (n : ℕ). one.0 < n) is.counts (slice_get_within all one.0 one.1.0 there) in
    one.1.2 (subst (λ (l : Left). most ≤ l.least + c.args.steps) (is.lefts one.0 one.1.0 there) (keep one.0 within))

pub returns-clause-kept : goal.returns-clause-kept
returns-clause-kept c = λ sys look is _ r within.
    let kept = λ (s : TickSteps). most ≤ s.least + c.args.steps in
    let all : List TickSteps = c.args.self.now.steps.items in
    let inside : r < length all = subst (λ (n : ℕ). r < n) (sym is.counts) within in
    let own = element_at all r inside in
    let taken = subst (λ (l : List TickSteps). All kept (take c.loop-own.own-index l)) (sym c.as_slice-own-items.ensures.value) c.loop-own.invariant in
    let each = subst (λ (l : List TickSteps). All kept l) c.as_slice-own-items.ensures.value (all_of_taken kept c.as_slice-own-items.result.now c.loop-own.own-index c.loop-own-test.false taken) in
    subst (λ (l : Left). most ≤ l.least + c.args.steps) (sym (is.lefts r own.0 own.1)) (all_at kept all r own.0 each own.1)
