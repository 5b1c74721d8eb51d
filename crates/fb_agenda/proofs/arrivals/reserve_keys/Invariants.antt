use Rattle.fb_agenda.proofs.lemmas.Common.{◌≡◌, take, HasKeys, KeepsOthers, arrivals_at}
use Rattle.fb_agenda.proofs.arrivals.reserve_keys.Given as goal

abbrev pub invariant-loop-message : goal.invariant-loop-message
invariant-loop-message l = record {
  kept : KeepsOthers (arrivals_at l.receiver (take l.message-index l.messages)) l.initial.later.events l.later.events;
  held : HasKeys (arrivals_at l.receiver (take l.message-index l.messages)) l.later.events;
  due : l.later.due ≡ l.initial.later.due;
}
