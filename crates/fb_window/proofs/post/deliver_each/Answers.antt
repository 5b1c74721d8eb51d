use Rattle.fb_types.proofs.Common.{◌++◌, ℕ, [], ◌∷◌, length, drop, refl, sym, ap, ◌∙◌, subst, append_assoc, arith, length-drop, into_iter_items}
use Rattle.fb_window.proofs.lemmas.phases.Leaves.{length_join}
use Rattle.fb_laws.proofs.lemmas.lists.Indexes.{drop_first, middle_at, push_counted}
use Rattle.fb_window.proofs.lemmas.lines.FoundLines.{AreDeliveredTo, delivered_all, delivered_more}
use Rattle.fb_window.proofs.post.deliver_each.Goals as goal

pub deliver_next-requires : goal.deliver_next-requires
deliver_next-requires c =
    let inv = c.loop-resource.invariant in
    let done = c.loop-resource.yielded in
    let step = c.in-Some.ensures.steps in
    let whole = ap length inv.rest in
    let joined = length_join done (into_iter_items c.loop-resource.resource-iterator) in
    let more = ap length step.0 in
    let left = ap length inv.left in
    let dropped = length-drop (length done) (into_iter_items c.args.lists.now) in
    omega (arith, whole, joined, more, left, dropped, c.requires.counted)

pub loop-resource-preserved : goal.loop-resource-preserved
loop-resource-preserved c =
    let inv = c.loop-resource.invariant in
    let boxes = into_iter_items c.args.lists.now in
    let done = c.loop-resource.yielded in
    let n = length done in
    let step = c.in-Some.ensures.steps in
    let rest = ap (λ z. done ++ z) (sym step.0) ∙ inv.rest in
    let at = middle_at done (into_iter_items c.next.new.self) c.args.resources.items c.in-Some.resource rest in
    let t = c.in_ok-deliver_next.ensures in
    let messages = t.0 in
    let after = t.1 in
    let first = t.2 in
    let received = t.3 in
    let pushed = t.4 in
    let box = drop_first boxes n messages (into_iter_items c.deliver_next.new.lists) (sym first ∙ inv.left) in
    let more = sym (push_counted done c.in-Some.resource n refl) in
    record {
      delivered = subst (λ (k : ℕ). AreDeliveredTo c.args.resources.items boxes k c.deliver_next.new.delivered.items) more
          (delivered_more c.args.resources.items boxes n c.loop-resource.delivered.items c.deliver_next.new.delivered.items c.in-Some.resource after messages inv.delivered at box.0 received pushed);
      left = box.1 ∙ ap (λ (k : ℕ). drop k boxes) more;
      rest = append_assoc done (c.in-Some.resource ∷ []) (into_iter_items c.next.new.self) ∙ rest;
      len = let same = ap length step.0 in omega (arith, inv.len, step.1, same);
    }

pub returns : goal.returns
returns c =
    let inv = c.loop-resource.invariant in
    let done = c.loop-resource.yielded in
    let end = c.in-None.ensures.steps in
    let whole = ap length inv.rest in
    let joined = length_join done (into_iter_items c.loop-resource.resource-iterator) in
    delivered_all c.args.resources.items (into_iter_items c.args.lists.now) (length done) c.loop-resource.delivered.items inv.delivered (omega (arith, inv.len, end.0, whole, joined))
