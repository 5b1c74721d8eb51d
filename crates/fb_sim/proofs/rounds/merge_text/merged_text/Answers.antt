use Rattle.fb_sim.proofs.lemmas.Common.{◌≡◌, ◌<◌, ◌++◌, ℕ, Some, [], Bor, List, map, length, sym, ap, ◌∙◌, subst, All, Inputs, system_of, line_of, lines_text, Form, Line, BelongsTo, IsLeast, all_early, all_late, joint}
use Rattle.fb_trace.proofs.lemmas.order.EarlyLines.{fewer, none_left}
use Rattle.fb_sim.proofs.lemmas.text.Putting.{IsPut, all_put, more_taken, none_put, parts_put, put_each}
use Rattle.fb_sim.proofs.rounds.merge_text.merged_text.Goals as goal

abbrev lines_of : List (Bor (List Line)) → List (List Line)
lines_of qs = map (λ q. q.now) qs

-- the lists that are left once the early lines of one tick are taken, which were seen through a slice
module _ (i : Inputs) (form : Form) (lists : List (List Line)) (parts parts' left seen left' : List (Bor (List Line))) (tick : ℕ) (same : seen ≡ left) (gone : lines_of left' ≡ all_late tick (lines_of seen)) where
  left_late : lines_of left' ≡ all_late tick (lines_of left)
  left_late = gone ∙ ap (λ (qs : List (Bor (List Line))). all_late tick (lines_of qs)) same

  are_fewer : IsLeast (lines_of left) (Some tick) → length (joint (lines_of left')) < length (joint (lines_of left))
  are_fewer least = subst (λ z. length (joint z) < length (joint (lines_of left))) (sym left_late) (fewer tick (lines_of left) least)

  module _ (text : List ℕ) (more : joint (lines_of parts') ≡ joint (lines_of parts) ++ all_early tick (lines_of seen)) (least : IsLeast (lines_of left) (Some tick)) where
    are_taken : IsPut i form lists (joint (lines_of parts)) (lines_of left) text → IsPut i form lists (joint (lines_of parts')) (lines_of left') text
    are_taken it =
        let now = more ∙ ap (λ (qs : List (Bor (List Line))). joint (lines_of parts) ++ all_early tick (lines_of qs)) same in
        subst (λ z. IsPut i form lists (joint (lines_of parts')) z text) (sym left_late)
        (subst (λ z. IsPut i form lists z (all_late tick (lines_of left)) text) (sym now) (more_taken i form lists (joint (lines_of parts)) (lines_of left) text it tick least.low))

-- the text is longer by that of parts, which were seen through a slice
module _ (i : Inputs) (form : Form) (lists : List (List Line)) (parts seen : List (Bor (List Line))) (left : List (List Line)) (text text' : List ℕ) (same : seen ≡ parts)
    (longer : text' ≡ text ++ lines_text form (system_of i) (map (line_of (system_of i)) (joint (lines_of seen)))) where
  are_put : IsPut i form lists (joint (lines_of parts)) left text → IsPut i form lists [] left text'
  are_put it =
      let now = longer ∙ ap (λ (qs : List (Bor (List Line))). text ++ lines_text form (system_of i) (map (line_of (system_of i)) (joint (lines_of qs)))) same in
      subst (IsPut i form lists [] left) (sym now) (parts_put i form lists (joint (lines_of parts)) left text it)

pub loop-next-init : goal.loop-next-init
loop-next-init c =
    let i = c.args.system.now in
    let lists = lines_of c.args.lists.now in
    let same : lists ≡ lines_of c.in_ok-left.left.items = sym (ap lines_of c.in_ok-left.ensures.items) in
    record {
      put = subst (IsPut i c.args.form lists (joint (lines_of c.new-parts.result.items)) (lines_of c.in_ok-left.left.items)) (sym c.in_ok-text.ensures.items)
          (subst (λ (ps : List (Bor (List Line))). IsPut i c.args.form lists (joint (lines_of ps)) (lines_of c.in_ok-left.left.items) []) (sym c.new-parts.ensures.items)
          (subst (λ z. IsPut i c.args.form lists [] z []) same (none_put i c.args.form lists)));
      next = subst (λ z. IsLeast (lines_of z) c.least_tick-next.result) c.deref.ensures.value c.least_tick-next.ensures;
    }

pub append_parts-requires : goal.append_parts-requires
append_parts-requires c =
    let i = c.args.system.now in
    let P = BelongsTo (system_of i) in
    let least = subst (IsLeast (lines_of c.loop-next.left.items)) c.in-Some.is c.loop-next.invariant.next in
    let it =
    are_taken i c.args.form (lines_of c.args.lists.now) c.loop-next.parts.items c.take_early.new.parts.items c.loop-next.left.items c.deref-in-Some.result.now c.in_ok-left-2.left.items c.in-Some.tick
    c.deref-in-Some.ensures.value c.in_ok-left-2.ensures.left c.loop-next.text.items c.in_ok-left-2.ensures.parts least c.loop-next.invariant.put in
    subst (λ (qs : List (Bor (List Line))). All (λ q. All P q.now) qs) (sym c.deref-then-saturating_sub-ge-AT_ONCE.ensures.value)
    (put_each P i c.args.form c.args.lists.now c.take_early.new.parts.items (lines_of c.in_ok-left-2.left.items) c.loop-next.text.items it c.requires)

pub loop-next-smaller-then-saturating_sub-ge-AT_ONCE : goal.loop-next-smaller-then-saturating_sub-ge-AT_ONCE
loop-next-smaller-then-saturating_sub-ge-AT_ONCE c =
    are_fewer c.args.system.now c.args.form (lines_of c.args.lists.now) c.loop-next.parts.items c.take_early.new.parts.items c.loop-next.left.items c.deref-in-Some.result.now c.in_ok-left-2.left.items c.in-Some.tick
    c.deref-in-Some.ensures.value c.in_ok-left-2.ensures.left (subst (IsLeast (lines_of c.loop-next.left.items)) c.in-Some.is c.loop-next.invariant.next)

pub loop-next-smaller : goal.loop-next-smaller
loop-next-smaller c =
    are_fewer c.args.system.now c.args.form (lines_of c.args.lists.now) c.loop-next.parts.items c.take_early.new.parts.items c.loop-next.left.items c.deref-in-Some.result.now c.in_ok-left-2.left.items c.in-Some.tick
    c.deref-in-Some.ensures.value c.in_ok-left-2.ensures.left (subst (IsLeast (lines_of c.loop-next.left.items)) c.in-Some.is c.loop-next.invariant.next)

-- one tick more, and the text of all that was taken
pub loop-next-preserved-then-saturating_sub-ge-AT_ONCE : goal.loop-next-preserved-then-saturating_sub-ge-AT_ONCE
loop-next-preserved-then-saturating_sub-ge-AT_ONCE c =
    let i = c.args.system.now in
    let lists = lines_of c.args.lists.now in
    let left = lines_of c.in_ok-left-2.left.items in
    let least = subst (IsLeast (lines_of c.loop-next.left.items)) c.in-Some.is c.loop-next.invariant.next in
    let it =
    are_taken i c.args.form lists c.loop-next.parts.items c.take_early.new.parts.items c.loop-next.left.items c.deref-in-Some.result.now c.in_ok-left-2.left.items c.in-Some.tick
    c.deref-in-Some.ensures.value c.in_ok-left-2.ensures.left c.loop-next.text.items c.in_ok-left-2.ensures.parts least c.loop-next.invariant.put in
    record {
      put = subst (λ (ps : List (Bor (List Line))). IsPut i c.args.form lists (joint (lines_of ps)) left c.append_parts.new.text.items) (sym c.clear.ensures.items)
          (are_put i c.args.form lists c.take_early.new.parts.items c.deref-then-saturating_sub-ge-AT_ONCE.result.now left c.loop-next.text.items c.append_parts.new.text.items
          c.deref-then-saturating_sub-ge-AT_ONCE.ensures.value c.in_ok-append_parts.ensures it);
      next = subst (λ z. IsLeast (lines_of z) c.least_tick-next-in-Some.result) c.deref-in-Some-2.ensures.value c.least_tick-next-in-Some.ensures;
    }

-- one tick more
pub loop-next-preserved : goal.loop-next-preserved
loop-next-preserved c =
    let least = subst (IsLeast (lines_of c.loop-next.left.items)) c.in-Some.is c.loop-next.invariant.next in
    record {
      put = are_taken c.args.system.now c.args.form (lines_of c.args.lists.now) c.loop-next.parts.items c.take_early.new.parts.items c.loop-next.left.items c.deref-in-Some.result.now c.in_ok-left-2.left.items c.in-Some.tick
          c.deref-in-Some.ensures.value c.in_ok-left-2.ensures.left c.loop-next.text.items c.in_ok-left-2.ensures.parts least c.loop-next.invariant.put;
      next = subst (λ z. IsLeast (lines_of z) c.least_tick-next-in-Some.result) c.deref-in-Some-2.ensures.value c.least_tick-next-in-Some.ensures;
    }

pub append_parts-requires-2 : goal.append_parts-requires-2
append_parts-requires-2 c =
    let P = BelongsTo (system_of c.args.system.now) in
    subst (λ (qs : List (Bor (List Line))). All (λ q. All P q.now) qs) (sym c.deref-2.ensures.value)
    (put_each P c.args.system.now c.args.form c.args.lists.now c.loop-next.parts.items (lines_of c.loop-next.left.items) c.loop-next.text.items c.loop-next.invariant.put c.requires)

pub returns : goal.returns
returns c =
    let i = c.args.system.now in
    let lists = lines_of c.args.lists.now in
    let left = lines_of c.loop-next.left.items in
    all_put i c.args.form lists left c.append_parts-2.new.text.items
    (are_put i c.args.form lists c.loop-next.parts.items c.deref-2.result.now left c.loop-next.text.items c.append_parts-2.new.text.items c.deref-2.ensures.value c.in_ok-append_parts-2.ensures c.loop-next.invariant.put)
    (none_left left c.loop-next.next c.loop-next.invariant.next c.in_default.not-Some)
