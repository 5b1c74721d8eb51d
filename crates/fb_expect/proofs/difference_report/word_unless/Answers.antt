use Rattle.std.proofs.Common.{Bool, sym, ap}
use Rattle.fb_expect.specs.DifferenceReport.{word_unless}
use Rattle.fb_expect.proofs.difference_report.word_unless.Goals as goal

pub returns-then-same : goal.returns-then-same
returns-then-same c = ap (λ (b : Bool). word_unless b c.args.word.now) (sym c.if-same.true)

pub returns-else-same : goal.returns-else-same
returns-else-same c = ap (λ (b : Bool). word_unless b c.args.word.now) (sym c.if-same.false)
