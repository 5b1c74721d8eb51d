use Rattle.std.proofs.Common.{◌<◌, ℕ}
use Rattle.fb_stop.specs.Shown.{IsTokenAt}
use Rattle.fb_stop.proofs.shown.token_at.Given as goal

-- none so far begins there
abbrev pub invariant-loop-index : goal.invariant-loop-index
invariant-loop-index l = (k : ℕ) → k < l.index → IsTokenAt l.tokens l.offset k → ⊥
