use Rattle.fb_expect.proofs.lemmas.Common.{refl, event_of}
use Rattle.fb_expect.proofs.lemmas.rules.Following.{moves}
use Rattle.fb_expect.proofs.judging.take_line_for_rule.Goals as goal

pub returns : goal.returns
returns c =
    moves c.args.number (event_of c.args.entry.now) c.args.watcher.now _ c.hit_of-hit.result refl refl c.hit_of-hit.ensures c.in_ok-state_on.ensures
    (c.count_line-watcher.ensures c.args.watcher.now.rule.now.need) c.first_after-watcher.ensures c.see_line-watcher.ensures
