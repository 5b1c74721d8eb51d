use Rattle.std.proofs.Common.{◌≡◌, [], length, All}
use Rattle.fb_window.proofs.open.no_lines.Given as goal

abbrev pub invariant-loop : goal.invariant-loop
invariant-loop l = record {
  counted : length l.lists.items ≡ l.counter;
  none : All (λ p. p.items ≡ []) l.lists.items;
}
