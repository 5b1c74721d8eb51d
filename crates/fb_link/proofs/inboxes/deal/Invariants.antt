use Rattle.fb_types.proofs.Common.{◌≡◌, ◌++◌, List, length, into_iter_items, into_iter_len, system_of}
use Rattle.fb_types.specs.declared.run.Message.{Message}
use Rattle.fb_link.specs.Exchanges.{AreDealt}
use Rattle.fb_link.proofs.inboxes.deal.Given as goal

abbrev pub invariant-loop-message : goal.invariant-loop-message
invariant-loop-message l = record {
  counted : length l.inboxes.items ≡ length l.initial.inboxes.items;
  dealt : (all : List Message) → AreDealt (system_of l.system) all l.initial.inboxes.items → AreDealt (system_of l.system) (all ++ l.yielded) l.inboxes.items;
  rest : l.yielded ++ into_iter_items l.message-iterator ≡ l.fn.outbox.items;
  len : into_iter_len l.message-iterator ≡ length (into_iter_items l.message-iterator);
}
