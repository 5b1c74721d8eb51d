use Rattle.fb_expect.proofs.lemmas.rules.Following.{concluded}
use Rattle.fb_expect.proofs.judging.conclude_one.Goals as goal

pub returns : goal.returns
returns c =
    concluded c.args.number c.args.end c.args.watcher.now c.verdict_at.result c.decided_by-decided.result c.has_applied.result c.verdict_at.ensures c.decided_by-decided.ensures
    c.has_applied.ensures
