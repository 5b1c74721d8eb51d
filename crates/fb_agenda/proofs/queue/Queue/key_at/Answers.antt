use Rattle.std.proofs.Common.{◌<◌, ◌∙◌, length, sym, arith}
use Rattle.fb_agenda.proofs.lemmas.Queueing.{key_of, numbers_length}
use Rattle.fb_agenda.proofs.queue.Queue.key_at.Goals as goal

pub returns : goal.returns
returns c d =
    let q = c.self.inside in
    let count = numbers_length q.tick q.resource q.waiting.items c.args.self.now c.self.view_is in
    let within : c.args.index < length q.waiting.items = omega (arith, count, c.requires) in
    key_of q.tick q.resource q.waiting.items c.args.index _ c.args.self.now c.self.view_is within c.index.ensures d ∙ sym c.local.ensures
