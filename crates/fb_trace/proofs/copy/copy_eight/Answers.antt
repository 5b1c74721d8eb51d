use Rattle.std.proofs.Common.{◌-◌, length, arith}
use Rattle.fb_trace.proofs.lemmas.digits.CopiedBytes.{eight}
use Rattle.fb_trace.proofs.copy.copy_eight.Goals as goal

pub returns : goal.returns
returns c =
    let from = c.args.from.now in
    eight from c.args.to.now c.copy_four.new.to c.copy_four-2.new.to (length from - 4) c.requires.same (omega arith) (omega arith) c.copy_four.ensures c.copy_four-2.ensures
