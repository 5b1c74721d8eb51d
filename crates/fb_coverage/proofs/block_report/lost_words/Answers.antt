use Rattle.std.proofs.Common.{sym, ap}
use Rattle.fb_coverage.specs.Reports as spec
use Rattle.fb_coverage.proofs.block_report.lost_words.Goals as goal

pub returns-then-is_taken : goal.returns-then-is_taken
returns-then-is_taken c = sym (ap spec.lost_words c.if-is_taken.true)

pub returns-else-is_taken : goal.returns-else-is_taken
returns-else-is_taken c = sym (ap spec.lost_words c.if-is_taken.false)
