use Rattle.fb_types.proofs.Common.{◌≡◌, ◌++◌, [], ◌∷◌, map, length, sym, ap, ◌∙◌, append_assoc, deque_len, eqb-true, eqb-false, map_push, nil_from_length}
use Rattle.fb_trace.specs.Fronts.{early, late, all_early, all_late}
use Rattle.fb_trace.proofs.lemmas.order.EarlyLines.{early_more, late_kept, late_passed}
use Rattle.fb_trace.proofs.merging.take_all_early.Goals as goal

pub loop-list-preserved-in-Continue-branch-3 : goal.loop-list-preserved-in-Continue-branch-3
loop-list-preserved-in-Continue-branch-3 c =
    let t = c.args.tick in
    let done = c.loop-list.yielded in
    let list = c.in-Some.list in
    let before = c.args.all.now.items in
    let left = c.loop-list.left.items in
    let rest = c.take_early.new.list in
    let some = λ (e : late t list.items ≡ []). eqb-false (deque_len rest) 0 (sym c.is_empty.ensures ∙ c.if-not-is_empty.true) (rest.ok.0 ∙ ap length (c.in_ok-take_early.ensures.left ∙ e)) in
    record {
      taken = c.in_ok-take_early.ensures.taken ∙ ap (λ z. z ++ early t list.items) c.loop-list.invariant.taken ∙ append_assoc before (all_early t (map (λ q. q.items) done)) (early t list.items)
          ∙ ap (λ z. before ++ z) (sym (early_more t (map (λ q. q.items) done) list.items)) ∙ ap (λ z. before ++ all_early t z) (sym (map_push (λ q. q.items) done list));
      left = ap (map (λ q. q.items)) c.in_ok-push.ensures.items ∙ map_push (λ q. q.items) left rest ∙ ap (λ z. map (λ q. q.items) left ++ z ∷ []) c.in_ok-take_early.ensures.left
          ∙ late_kept t (map (λ q. q.items) done) list.items (map (λ q. q.items) left) c.loop-list.invariant.left some ∙ ap (all_late t) (sym (map_push (λ q. q.items) done list));
    }

pub loop-list-preserved : goal.loop-list-preserved
loop-list-preserved c =
    let t = c.args.tick in
    let done = c.loop-list.yielded in
    let list = c.in-Some.list in
    let before = c.args.all.now.items in
    let rest = c.take_early.new.list in
    let none = sym c.in_ok-take_early.ensures.left ∙ nil_from_length rest.items (sym rest.ok.0 ∙ eqb-true (deque_len rest) 0 (sym c.is_empty.ensures ∙ c.if-not-is_empty.false)) in
    record {
      taken = c.in_ok-take_early.ensures.taken ∙ ap (λ z. z ++ early t list.items) c.loop-list.invariant.taken ∙ append_assoc before (all_early t (map (λ q. q.items) done)) (early t list.items)
          ∙ ap (λ z. before ++ z) (sym (early_more t (map (λ q. q.items) done) list.items)) ∙ ap (λ z. before ++ all_early t z) (sym (map_push (λ q. q.items) done list));
      left = late_passed t (map (λ q. q.items) done) list.items (map (λ q. q.items) c.loop-list.left.items) c.loop-list.invariant.left none ∙ ap (all_late t) (sym (map_push (λ q. q.items) done list));
    }
