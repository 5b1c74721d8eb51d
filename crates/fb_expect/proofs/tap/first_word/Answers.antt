use Rattle.std.proofs.Common.{sym, ap}
use Rattle.fb_expect.specs.Reports.{first_word}
use Rattle.fb_expect.proofs.tap.first_word.Goals as goal

pub returns-then-is_well : goal.returns-then-is_well
returns-then-is_well c = ap first_word (sym c.if-is_well.true)

pub returns-else-is_well : goal.returns-else-is_well
returns-else-is_well c = ap first_word (sym c.if-is_well.false)
