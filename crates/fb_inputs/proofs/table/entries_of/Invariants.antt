use Rattle.std.proofs.Common.{◌≡◌, ◌≤◌, length, map, take, vec_len, vec_capacity}
use Rattle.fb_inputs.specs.Deployments.{entry}
use Rattle.fb_inputs.proofs.table.entries_of.Given as goal

abbrev pub invariant-loop-pair : goal.invariant-loop-pair
invariant-loop-pair l = record {
  items : l.entries.items ≡ map entry (take l.pair-index l.table);
  len : vec_len l.entries ≡ l.pair-index;
  room : length l.table ≤ vec_capacity l.entries;
}
