use Rattle.fb_read.proofs.lemmas.Common.{List, length, sym, subst, arith, take_all, Located}
use Rattle.fb_read.specs.Refusals.{IsTooDeep}
use Rattle.fb_read.proofs.lemmas.texts.RefusalLaws.{same-refused}
use Rattle.fb_read.proofs.read.read_located.Goals as goal

pub refused_nesting-requires-clause-deep : goal.refused_nesting-requires-clause-deep
refused_nesting-requires-clause-deep c =
    let unread = rw c.in-Err-Nesting.field-0-is at c.in-Err-Nesting.ensures.refused in
    subst (λ (qs : List Located). IsTooDeep qs) (sym (take_all (length c.as_slice-all.result.now) c.as_slice-all.result.now (omega arith))) unread.refused

pub returns-in-Err-Fault-Refused-clause-refused : goal.returns-in-Err-Fault-Refused-clause-refused
returns-in-Err-Fault-Refused-clause-refused c =
    same-refused c.args.text.now c.in-Err-Fault-Refused.refusal c.with_expected.result (rw (c.in-Err-Fault-Refused.field-0-is, c.in-Err-Fault-Refused.field-0-0-is) at c.in-Err-Fault-Refused.ensures.refused) (rw c.in-Err-Fault-Refused.field-0-0-is at c.with_expected.ensures)
