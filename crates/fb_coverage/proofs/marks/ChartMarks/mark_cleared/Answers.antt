use Rattle.fb_coverage.proofs.marks.ChartMarks.mark_cleared.Goals as goal

pub returns : goal.returns
returns c = λ i. record c.args.self.now { states = c.set.ensures i; transitions = c.set-2.ensures i; clearing = c.set-3.ensures i }
