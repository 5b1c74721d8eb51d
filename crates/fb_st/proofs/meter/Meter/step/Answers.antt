use Rattle.std.proofs.Common.{◌≡◌, ◌≢◌, ◌-◌, ℕ, suc, arith}
use Rattle.fb_st.proofs.meter.Meter.step.Goals as goal

one_less : (n : ℕ) → n ≢ 0 → n ≡ suc (n - 1)
one_less n some = omega arith

pub returns-clause-ok : goal.returns-clause-ok
returns-clause-ok c = one_less c.args.self.now.left c.if-self-eq0.false
