use Rattle.std.proofs.Common.{arith}
use Rattle.fb_agenda.proofs.lemmas.Queueing.{empty_if}
use Rattle.fb_agenda.proofs.queue.Queue.is_empty.Goals as goal

pub returns : goal.returns
returns c =
    let q = c.self.inside in
    empty_if c.is_empty.result _ q.tick q.resource q.waiting.items c.args.self.now c.self.view_is c.is_empty.ensures (omega arith)
