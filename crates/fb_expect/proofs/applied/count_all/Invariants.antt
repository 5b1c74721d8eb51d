use Rattle.std.proofs.Common.{◌≡◌, ℕ, ◌+◌, ◌<◌, ◌≤◌, ◌^◌, length, get_or}
use Rattle.fb_expect.specs.Applied.{applies_at, one_if}
use Rattle.fb_expect.proofs.applied.count_all.Given as goal

abbrev pub invariant-loop-index : goal.invariant-loop-index
invariant-loop-index l = record {
  same : length l.counts ≡ length l.fn.counts;
  done : (k : ℕ) → k < l.index → get_or l.fn.counts k 0 + 1 < 2 ^ 64 → get_or l.counts k 0 ≡ get_or l.fn.counts k 0 + one_if (applies_at l.rules k l.judged);
  rest : (k : ℕ) → l.index ≤ k → get_or l.counts k 0 ≡ get_or l.fn.counts k 0;
}
