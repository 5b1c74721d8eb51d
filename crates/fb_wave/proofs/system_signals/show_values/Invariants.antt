use Rattle.fb_wave.proofs.lemmas.Common.{◌≡◌, ◌+◌, length, map, take, pairs}
use Rattle.fb_wave.proofs.lemmas.Pairing.{AreShown}
use Rattle.fb_wave.proofs.system_signals.show_values.Given as goal

abbrev pub invariant-loop-index : goal.invariant-loop-index
invariant-loop-index l = record {
  counted : length l.levels.cells.items ≡ length l.initial.levels.cells.items;
  shown : AreShown l.initial.levels l.levels (take l.index (pairs (map (λ k. l.first + k) l.indexes) l.values));
}
