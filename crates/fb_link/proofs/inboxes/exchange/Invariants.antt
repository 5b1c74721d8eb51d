use Rattle.fb_types.proofs.Common.{◌≡◌, ◌++◌, length, into_iter_items, into_iter_len, system_of}
use Rattle.fb_link.specs.Exchanges.{all_of, AreDealt}
use Rattle.fb_link.proofs.lemmas.Dealt.{AreSortedTo}
use Rattle.fb_link.proofs.inboxes.exchange.Given as goal

abbrev pub invariant-loop-outbox : goal.invariant-loop-outbox
invariant-loop-outbox l = record {
  counted : length l.inboxes.items ≡ length (system_of l.system).resource_names;
  dealt : AreDealt (system_of l.system) (all_of l.yielded) l.inboxes.items;
  rest : l.yielded ++ into_iter_items l.outbox-iterator ≡ l.fn.outboxes.items;
  len : into_iter_len l.outbox-iterator ≡ length (into_iter_items l.outbox-iterator);
}

abbrev pub invariant-loop-receiver : goal.invariant-loop-receiver
invariant-loop-receiver l = record {
  counted : length l.inboxes.items ≡ length (system_of l.system).resource_names;
  sorted : AreSortedTo (system_of l.system) (all_of l.fn.outboxes.items) l.receiver l.inboxes.items;
}
