use Rattle.std.proofs.Common.{arith}
use Rattle.fb_trace.proofs.lemmas.lines.PutPieces.{Fails-direct}
use Rattle.fb_trace.proofs.page.write_all.Goals as goal

pub returns-then-taken-bytes-clause-part : goal.returns-then-taken-bytes-clause-part
returns-then-taken-bytes-clause-part g c =
    Fails-direct c.args.bytes.now c.write_front-taken.result c.args.written _ (omega arith) c.write_front-taken.ensures.got c.saturating_add-written.ensures
