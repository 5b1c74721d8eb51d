use Rattle.std.proofs.Common.{List, subst, sym, arith}
use Rattle.fb_trace.specs.DigitRows.{IsMade}
use Rattle.fb_trace.specs.declared.digit_rows.DigitRow.{DigitRow}
use Rattle.fb_trace.proofs.digit_rows.DigitRows.row.Goals as goal

pub returns-clause-width : goal.returns-clause-width
returns-clause-width c = (c.self.invariant c.args.number _ (omega arith)).within

pub returns-clause-text : goal.returns-clause-text
returns-clause-text c =
    let made : IsMade c.self.inside.rows c.args.number = subst (λ (rows : List DigitRow). IsMade rows c.args.number) (sym c.self.view_is) c.requires.made in
    (c.self.invariant c.args.number _ (omega arith)).digits (made _)
