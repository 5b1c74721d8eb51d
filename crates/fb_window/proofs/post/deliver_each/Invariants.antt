use Rattle.fb_types.proofs.Common.{◌≡◌, ◌++◌, length, drop, into_iter_items, into_iter_len}
use Rattle.fb_window.proofs.lemmas.lines.FoundLines.{AreDeliveredTo}
use Rattle.fb_window.proofs.post.deliver_each.Given as goal

abbrev pub invariant-loop-resource : goal.invariant-loop-resource
invariant-loop-resource l = record {
  delivered : AreDeliveredTo l.fn.resources.items (into_iter_items l.initial.lists) (length l.yielded) l.delivered.items;
  left : into_iter_items l.lists ≡ drop (length l.yielded) (into_iter_items l.initial.lists);
  rest : l.yielded ++ into_iter_items l.resource-iterator ≡ l.fn.resources.items;
  len : into_iter_len l.resource-iterator ≡ length (into_iter_items l.resource-iterator);
}
