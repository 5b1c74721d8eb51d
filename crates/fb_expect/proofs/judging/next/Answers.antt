use Rattle.fb_expect.proofs.lemmas.Common.{false, sym, ◌∙◌, event_of}
use Rattle.fb_expect.proofs.lemmas.rules.Idle.{passed}
use Rattle.fb_expect.proofs.judging.next.Goals as goal

pub returns-else-may_have : goal.returns-else-may_have
returns-else-may_have c = passed c.args.number (event_of c.args.entry.now) c.args.watcher.now (sym c.may_have.ensures ∙ c.if-may_have.false)
