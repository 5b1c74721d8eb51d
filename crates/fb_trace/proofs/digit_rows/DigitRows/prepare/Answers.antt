use Rattle.fb_types.proofs.Common.{◌<◌, List, subst, arith, get_or_default}
use Rattle.fb_trace.specs.DigitRows.{IsMade}
use Rattle.fb_trace.specs.declared.digit_rows.DigitRow.{DigitRow}
use Rattle.fb_trace.proofs.digit_rows.DigitRows.prepare.Goals as goal

pub returns-then-row-gt0 : goal.returns-then-row-gt0
returns-then-row-gt0 c =
    let made : IsMade c.self.inside.rows c.args.number =
    λ d. subst (λ (r : DigitRow). 0 < r.width) (get_or_default c.self.inside.rows c.args.number _ d (omega arith)) c.if-row-gt0.true in
    subst (λ (rows : List DigitRow). IsMade rows c.args.number) c.self.view_is made
