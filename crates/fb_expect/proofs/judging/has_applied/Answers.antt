use Rattle.fb_expect.proofs.lemmas.rules.Following.{applies-alone, applies-paired}
use Rattle.fb_expect.proofs.judging.has_applied.Goals as goal

pub returns-in-Alone : goal.returns-in-Alone
returns-in-Alone c =
    applies-alone c.args.watcher.now c.in-Alone.watch c.args.often c.args.end c.is_applied.result c.in-Alone.is c.is_applied.ensures

pub returns-in-Paired : goal.returns-in-Paired
returns-in-Paired c =
    applies-paired c.args.watcher.now c.in-Paired.pairs c.args.often c.args.end c.is_applied-in-Paired.result c.in-Paired.is c.is_applied-in-Paired.ensures
