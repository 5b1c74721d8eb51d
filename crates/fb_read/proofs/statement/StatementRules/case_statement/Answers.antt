use Rattle.fb_read.proofs.lemmas.Common.{err_from_is_err_and, nested_statement}
use Rattle.fb_read.proofs.lemmas.rules.Pairs.{case_is}
use Rattle.fb_read.proofs.lemmas.rules.Reading.{goes_on, read_as, stops, stops_as, stops_later}
use Rattle.fb_read.proofs.statement.StatementRules.case_statement.Goals as goal

pub returns-in_err-selector : goal.returns-in_err-selector
returns-in_err-selector g c =
    let p = err_from_is_err_and c.from_residual.result c.from_residual.ensures.1 in
    rw (p.1, p.2) (stops_as _ _ _ _ (case_is (nested_statement c.args.self.now.below) c.args.cursor.now) (stops _ _ _ _ c.in_err-selector.ensures))

pub returns-in_err-expect : goal.returns-in_err-expect
returns-in_err-expect g c =
    let p = err_from_is_err_and c.from_residual-in_err-expect.result c.from_residual-in_err-expect.ensures.1 in
    rw (p.1, p.2) (stops_as _ _ _ _ (case_is (nested_statement c.args.self.now.below) c.args.cursor.now) (stops_later _ _ _ _ _ _ c.in_ok-selector.ensures (stops _ _ _ _ c.in_err-expect.ensures)))

pub returns-in_err-branches : goal.returns-in_err-branches
returns-in_err-branches g c =
    let p = err_from_is_err_and c.from_residual-in_err-branches.result c.from_residual-in_err-branches.ensures.1 in
    rw (p.1, p.2) (stops_as _ _ _ _ (case_is (nested_statement c.args.self.now.below) c.args.cursor.now) (stops_later _ _ _ _ _ _ c.in_ok-selector.ensures (stops_later _ _ _ _ _ _ c.in_ok-expect.ensures (stops _ _ _ _ c.in_err-branches.ensures))))

pub returns-in_err-others : goal.returns-in_err-others
returns-in_err-others g c =
    let p = err_from_is_err_and c.from_residual-in_err-others.result c.from_residual-in_err-others.ensures.1 in
    rw (p.1, p.2) (stops_as _ _ _ _ (case_is (nested_statement c.args.self.now.below) c.args.cursor.now) (stops_later _ _ _ _ _ _ c.in_ok-selector.ensures (stops_later _ _ _ _ _ _ c.in_ok-expect.ensures (stops_later _ _ _ _ _ _ c.in_ok-branches.ensures (stops _ _ _ _ c.in_err-others.ensures)))))

pub returns : goal.returns
returns g c = read_as _ _ _ _ (case_is (nested_statement c.args.self.now.below) c.args.cursor.now) (goes_on _ _ _ _ _ _ c.in_ok-selector.ensures (goes_on _ _ _ _ _ _ c.in_ok-expect.ensures (goes_on _ _ _ _ _ _ c.in_ok-branches.ensures (goes_on _ _ _ _ _ _ c.in_ok-others.ensures c.finished.ensures))))
