use Rattle.std.proofs.Common.{◌++◌, codes, decimal, take}
use Rattle.fb_trace.specs.Starts.{first_value}
use Rattle.fb_trace.proofs.lemmas.lines.PutPieces.{appended-more}
use Rattle.fb_trace.proofs.start.append_start.Goals as goal

pub returns-clause-text : goal.returns-clause-text
returns-clause-text c =
    let head = take c.args.head.now.width c.args.head.now.text in
    appended-more c.args.page.now c.append_both.new.self c.append_first.new.page (decimal c.args.tick.now ++ codes " " ++ head) (first_value c.args.values.now)
    (rw c.text-width.ensures.text at c.append_both.ensures.text) c.append_first.ensures.text
