use Rattle.fb_types.proofs.Common.{◌≡◌, ℕ, [], length, Some, slice_get, Global}
use Rattle.fb_types.specs.declared.run.Message.{Message}
use Rattle.std.proofs.Common.{Vec}
use Rattle.fb_link.proofs.inboxes.empty_lists.Given as goal

abbrev pub invariant-loop : goal.invariant-loop
invariant-loop l = record {
  counted : length l.lists.items ≡ l.counter;
  empty : (r : ℕ) (list : Vec Message Global) → slice_get l.lists.items r ≡ Some list → list.items ≡ [];
}
