use Rattle.fb_types.proofs.Common.{◌≡◌, ◌++◌, [], ◌∷◌, map, length, sym, ap, ◌∙◌, vec_len, eqb-true, eqb-false, map_push, nil_from_length}
use Rattle.fb_trace.specs.Fronts.{present}
use Rattle.fb_trace.proofs.lemmas.order.EarlyLines.{present_kept, present_passed}
use Rattle.fb_trace.proofs.merging.queues.Goals as goal

pub loop-list-preserved-in-Continue-1 : goal.loop-list-preserved-in-Continue-1
loop-list-preserved-in-Continue-1 c =
    let done = c.loop-list.yielded in
    let list = c.in-Some.list in
    let queues = c.loop-list.queues.items in
    let some = λ (e : list.items ≡ []). eqb-false (vec_len list) 0 (sym c.is_empty.ensures ∙ c.if-not-is_empty.true) (list.ok.0 ∙ ap length e) in
    ap (map (λ q. q.items)) c.in_ok-push.ensures.items ∙ map_push (λ q. q.items) queues c.from_vec.result
    ∙ ap (λ z. map (λ q. q.items) queues ++ z ∷ []) c.from_vec.ensures.items
    ∙ present_kept (map (λ v. v.items) done) list.items (map (λ q. q.items) queues) c.loop-list.invariant some
    ∙ ap present (sym (map_push (λ v. v.items) done list))

pub loop-list-preserved : goal.loop-list-preserved
loop-list-preserved c =
    let done = c.loop-list.yielded in
    let list = c.in-Some.list in
    let none = nil_from_length list.items (sym list.ok.0 ∙ eqb-true (vec_len list) 0 (sym c.is_empty.ensures ∙ c.if-not-is_empty.false)) in
    present_passed (map (λ v. v.items) done) list.items (map (λ q. q.items) c.loop-list.queues.items) c.loop-list.invariant none
    ∙ ap present (sym (map_push (λ v. v.items) done list))
