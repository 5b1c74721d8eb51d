use Rattle.fb_types.proofs.Common.{◌≡◌, ◌++◌, length, lookup, into_iter_items, into_iter_len, found, or_else, same_key}
use Rattle.fb_types.specs.declared.key.Key.{Key}
use Rattle.fb_agenda.specs.Arrivals.{arrivals_at}
use Rattle.fb_agenda.proofs.arrivals.fill_keys.Given as goal

abbrev pub invariant-loop-message : goal.invariant-loop-message
invariant-loop-message l = record {
  filled : (j : Key) → lookup (same_key j) l.later.events ≡ or_else (found j (arrivals_at l.receiver l.yielded)) (lookup (same_key j) l.initial.later.events);
  due : l.later.due ≡ l.initial.later.due;
  rest : l.yielded ++ into_iter_items l.message-iterator ≡ l.fn.messages.items;
  len : into_iter_len l.message-iterator ≡ length (into_iter_items l.message-iterator);
}
