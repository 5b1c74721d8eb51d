use Rattle.std.proofs.Common.{◌<◌, [], map, length, sym, ap, ◌∙◌, subst}
use Rattle.fb_trace.specs.Fronts.{IsLeast, all_late, joint, present}
use Rattle.fb_trace.proofs.lemmas.order.EarlyLines.{IsTaken, begin, further, fewer, none_left, end_merged, end_kept, one_merged, one_kept}
use Rattle.fb_trace.proofs.merging.gathered.Goals as goal

pub returns-in-Some-clause-merged : goal.returns-in-Some-clause-merged
returns-in-Some-clause-merged c =
    let lists = map (λ v. v.items) c.args.lists.items in
    one_merged c.args.lists.items c.in-Some.only.items (subst (IsTaken lists []) (sym c.in_ok-left.ensures ∙ c.in-Some.ensures.one) (begin lists))

pub returns-in-Some-clause-kept : goal.returns-in-Some-clause-kept
returns-in-Some-clause-kept c =
    let lists = map (λ v. v.items) c.args.lists.items in
    one_kept c.args.lists.items c.in-Some.only.items (subst (IsTaken lists []) (sym c.in_ok-left.ensures ∙ c.in-Some.ensures.one) (begin lists))

pub loop-next-init : goal.loop-next-init
loop-next-init c =
    let lists = map (λ v. v.items) c.args.lists.items in
    let left = sym c.in_ok-left.ensures ∙ ap (map (λ q. q.items)) (sym c.in_default.ensures.more) in
    record {
      taken = subst (IsTaken lists c.in_ok-all.all.items) left (subst (λ z. IsTaken lists z (present lists)) (sym c.in_ok-all.ensures.items) (begin lists));
      next = subst (λ z. IsLeast (map (λ q. q.items) z) c.least_tick-next.result) c.deref.ensures.value c.least_tick-next.ensures;
    }

pub loop-next-smaller : goal.loop-next-smaller
loop-next-smaller c =
    let left = map (λ q. q.items) c.loop-next.left.items in
    subst (λ z. length (joint z) < length (joint left)) (sym c.in_ok-left-2.ensures.left)
    (fewer c.in-Some-next.tick left (subst (IsLeast left) c.in-Some-next.is c.loop-next.invariant.next))

-- one tick more
pub loop-next-preserved : goal.loop-next-preserved
loop-next-preserved c =
    let lists = map (λ v. v.items) c.args.lists.items in
    let left = map (λ q. q.items) c.loop-next.left.items in
    let tick = c.in-Some-next.tick in
    let least = subst (IsLeast left) c.in-Some-next.is c.loop-next.invariant.next in
    record {
      taken = subst (IsTaken lists c.take_all_early.new.all.items) (sym c.in_ok-left-2.ensures.left)
          (subst (λ z. IsTaken lists z (all_late tick left)) (sym c.in_ok-left-2.ensures.taken) (further tick lists c.loop-next.all.items left c.loop-next.invariant.taken least.low));
      next = subst (λ z. IsLeast (map (λ q. q.items) z) c.least_tick-next-in-Some-next.result) c.deref-in-Some-next.ensures.value c.least_tick-next-in-Some-next.ensures;
    }

pub returns-clause-merged : goal.returns-clause-merged
returns-clause-merged c =
    let left = map (λ q. q.items) c.loop-next.left.items in
    end_merged c.args.lists.items c.loop-next.all.items left c.loop-next.invariant.taken (none_left left c.loop-next.next c.loop-next.invariant.next c.in_default-next.not-Some)

pub returns-clause-kept : goal.returns-clause-kept
returns-clause-kept c =
    let left = map (λ q. q.items) c.loop-next.left.items in
    end_kept c.args.lists.items c.loop-next.all.items left c.loop-next.invariant.taken (none_left left c.loop-next.next c.loop-next.invariant.next c.in_default-next.not-Some)
