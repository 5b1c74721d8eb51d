use Rattle.std.proofs.Common.{ℕ, ◌<◌}
use Rattle.fb_net.specs.Opening.{Covers, KeepsCovers}
use Rattle.fb_net.proofs.opening.copies.hold_sources.Given as goal

abbrev pub invariant-loop-variable : goal.invariant-loop-variable
invariant-loop-variable l = record {
  covered : (v : ℕ) → v < l.variable → Covers l.system l.resource l.held (record { instance = l.instance; variable = v; is_output = l.is_output });
  kept : KeepsCovers l.system l.resource l.fn.held l.held;
}
