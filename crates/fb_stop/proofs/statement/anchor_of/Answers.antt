use Rattle.std.proofs.Common.{◌≡◌, ◌≢◌, ℕ, zero, suc, refl, sym, ap}
use Rattle.fb_stop.specs.Statements.{anchor_of}
use Rattle.fb_stop.specs.declared.statement.Anchor.TheVariants.{Elsif}
use Rattle.fb_stop.proofs.statement.anchor_of.Goals as goal

later : (k : ℕ) → k ≢ 0 → Elsif k ≡ anchor_of k
later zero h = absurd (h refl)
later (suc k) h = refl

pub returns-then-index-eq0 : goal.returns-then-index-eq0
returns-then-index-eq0 c = ap anchor_of (sym c.if-index-eq0.true)

pub returns-else-index-eq0 : goal.returns-else-index-eq0
returns-else-index-eq0 c = later c.args.index c.if-index-eq0.false
